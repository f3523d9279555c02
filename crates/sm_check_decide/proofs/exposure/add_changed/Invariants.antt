use Rattle.std.proofs.Common.{◌≡◌, ℕ}
use Rattle.std.specs.List.{Contains}
use Rattle.sm_check_decide.specs.ExposureKept.{AreChanged}
use Rattle.sm_check_decide.proofs.exposure.add_changed.Given as goal

abbrev pub invariant-loop-i : goal.invariant-loop-i
invariant-loop-i l = record {
  proposers : l.changed.bound ≡ l.initial.changed.bound;
  kept : (q : ℕ) → Contains l.initial.changed.items q → Contains l.changed.items q;
  added : AreChanged l.market l.pairs l.i l.changed.items;
}
