use Rattle.std.proofs.Common.{ℕ, ◌<◌, ◌≤◌, length}
use Rattle.sm_theory.specs.Rotations.{proposer_at}
use Rattle.sm_rotations.proofs.order.lowest.Given as goal

abbrev pub invariant-loop-i : goal.invariant-loop-i
invariant-loop-i l = record {
  inside : l.best < length l.pairs;
  least : (j : ℕ) → j < l.i → proposer_at l.pairs l.best ≤ proposer_at l.pairs j;
}
