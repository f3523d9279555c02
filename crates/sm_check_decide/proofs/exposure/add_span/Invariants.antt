use Rattle.std.proofs.Common.{◌≡◌, ℕ}
use Rattle.std.specs.List.{Contains}
use Rattle.sm_check_decide.specs.ExposureKept.{IsSpanAdded}
use Rattle.sm_check_decide.proofs.exposure.add_span.Given as goal

abbrev pub invariant-loop-place : goal.invariant-loop-place
invariant-loop-place l = record {
  proposers : l.changed.bound ≡ l.initial.changed.bound;
  kept : (q : ℕ) → Contains l.initial.changed.items q → Contains l.changed.items q;
  added : IsSpanAdded l.market l.r l.better l.place l.changed.items;
}
