use Rattle.std.proofs.Common.{◌≡◌, length}
use Rattle.sm_lister.specs.Walking.{IsMarkedAlong}
use Rattle.sm_lister.proofs.vector_walk.follow.Given as goal

abbrev pub invariant-loop-i : goal.invariant-loop-i
invariant-loop-i l = record {
  along : IsMarkedAlong l.course l.gates l.held l.vector l.marks l.i;
  mark_each : length l.marks ≡ length l.initial.marks;
}
