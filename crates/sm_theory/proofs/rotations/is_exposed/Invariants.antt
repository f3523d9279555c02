use Rattle.std.proofs.Common.{◌≢◌, ℕ, ◌<◌}
use Rattle.sm_market.specs.Lists.{IsMarket}
use Rattle.sm_theory.specs.Rotations.{IsLink, proposer_at, reviewer_at, target_at}
use Rattle.sm_theory.proofs.rotations.is_exposed.Given as goal

abbrev pub invariant-loop-i : goal.invariant-loop-i
invariant-loop-i l =
    ((j : ℕ) → j < l.i → IsLink l.market l.m.places (proposer_at l.pairs j) (reviewer_at l.pairs j) (target_at l.pairs j))
    × ((j : ℕ) → 0 < j → j < l.i → proposer_at l.pairs j ≢ proposer_at l.pairs 0)
    × (0 < l.i → IsMarket l.market)
