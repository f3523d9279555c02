use Rattle.std.proofs.Common.{◌-◌, ◌≤◌, length}
use Rattle.sm_board.specs.Board.{IsClosedIn, Fits}
use Rattle.sm_board.specs.Courses.{HoldsMore}
use Rattle.sm_least.specs.Steps.{IsInAll, AreSettled}
use Rattle.sm_least.proofs.grow.settle.Given as goal

abbrev pub invariant-loop-place : goal.invariant-loop-place
invariant-loop-place l = record {
  grows : HoldsMore l.course l.bar l.initial.held l.held;
  closed : IsClosedIn l.course.board l.held.set;
  in_all : IsInAll (Fits l.course.board l.gates) l.initial.held.set l.held.set;
  few : l.place ≤ length l.held.log;
  settled : AreSettled l.course.board l.gates l.held l.place (length l.course.board.leaves);
}

abbrev pub decreases-loop-place : goal.decreases-loop-place
decreases-loop-place l = length l.course.board.needs - l.place
