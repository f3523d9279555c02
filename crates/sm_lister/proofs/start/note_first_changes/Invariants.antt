use Rattle.std.proofs.Common.{◌≡◌, length}
use Rattle.sm_lister.specs.Walking.{AreFirstChanges}
use Rattle.sm_lister.proofs.start.note_first_changes.Given as goal

abbrev pub invariant-loop-position : goal.invariant-loop-position
invariant-loop-position l = record {
  change_each : length l.changes ≡ length l.initial.changes;
  changes : AreFirstChanges l.course l.position-index l.changes;
}
