use Rattle.std.proofs.Common.{◌≡◌, ℕ, ◌<◌, length, slice_index}
use Rattle.sm_market.specs.Lists.{place_of}
use Rattle.sm_theory.specs.Rotations.{proposer_at, target_at}
use Rattle.sm_rotations.proofs.predecessors.find_places.Given as goal

abbrev pub invariant-loop-i : goal.invariant-loop-i
invariant-loop-i l = record {
  one_each : length l.places ≡ length l.market.proposers;
  each : (j : ℕ) → j < l.i → slice_index l.places (proposer_at l.pairs j) ≡ place_of l.market.proposers (proposer_at l.pairs j) (target_at l.pairs j);
}
