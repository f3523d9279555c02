use Rattle.std.proofs.Common.{◌≡◌, [], replicate}
use Rattle.sm_theory.specs.Marks.{marks_in}
use Rattle.sm_theory.proofs.marks.Marks.new.Given as goal

abbrev pub invariant-loop-p : goal.invariant-loop-p
invariant-loop-p l = marks_in l.rows.items ≡ replicate l.p []
