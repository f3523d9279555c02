use Rattle.std.proofs.Common.{◌≡◌, ℕ}
use Rattle.std.specs.List.{Contains}
use Rattle.sm_check_decide.specs.ExposureKept.{AreStartsAdded}
use Rattle.sm_check_decide.proofs.exposure.add_starts.Given as goal

abbrev pub invariant-loop-p : goal.invariant-loop-p
invariant-loop-p l = record {
  proposers : l.starts.bound ≡ l.initial.starts.bound;
  kept : (q : ℕ) → Contains l.initial.starts.items q → Contains l.starts.items q;
  added : AreStartsAdded l.passed l.first l.p l.starts.items;
}
