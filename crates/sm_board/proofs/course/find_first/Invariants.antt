use Rattle.std.proofs.Common.{◌≤◌, length}
use Rattle.sm_board.specs.Courses.{AreFirstFrom}
use Rattle.sm_board.proofs.course.find_first.Given as goal

abbrev pub invariant-loop-j : goal.invariant-loop-j
invariant-loop-j l = record {
  within : l.j ≤ length l.order;
  are : AreFirstFrom l.board l.order l.j l.first;
}

abbrev pub decreases-loop-j : goal.decreases-loop-j
decreases-loop-j l = l.j
