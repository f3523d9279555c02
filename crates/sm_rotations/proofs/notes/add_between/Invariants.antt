use Rattle.std.proofs.Common.{◌≤◌}
use Rattle.sm_rotations.specs.Marking.{IsBetween, Adds}
use Rattle.sm_rotations.proofs.notes.add_between.Given as goal

abbrev pub invariant-loop-place : goal.invariant-loop-place
invariant-loop-place l = record {
  within : l.place ≤ l.to;
  added : Adds (λ i. IsBetween l.marks l.from l.place i) l.fn.found.items l.found.items;
}
