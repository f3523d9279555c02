use Rattle.std.proofs.Common.{ℕ, ◌<◌}
use Rattle.sm_market.specs.Stable.{Blocks}
use Rattle.sm_market.proofs.market.Market.first_blocking.Given as goal

abbrev pub invariant-loop-p : goal.invariant-loop-p
invariant-loop-p l = (q j : ℕ) → q < l.p → ¬ Blocks l.self l.m.places q j

abbrev pub invariant-loop-place : goal.invariant-loop-place
invariant-loop-place l = (j : ℕ) → j < l.place → ¬ Blocks l.self l.m.places l.p j
