use Rattle.std.proofs.Common.{[]}
use Rattle.sm_rotations.specs.Marking.{Adds}
use Rattle.sm_rotations.specs.Footings.{IsFoundAlong}
use Rattle.sm_rotations.proofs.notes.find.Given as goal

abbrev pub invariant-loop-i : goal.invariant-loop-i
invariant-loop-i l = Adds (λ i. IsFoundAlong l.pairs l.before l.after l.i l.last l.marks i) [] l.found.items
