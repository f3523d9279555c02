use Rattle.std.proofs.Common.{◌≤◌, ◌-◌, length}
use Rattle.sm_board.specs.Board.{IsClosedIn}
use Rattle.sm_board.specs.Growing.{AreNeedsIn}
use Rattle.sm_board.specs.Courses.{HoldsMore}
use Rattle.sm_least.specs.Steps.{IsInAll}
use Rattle.sm_least.proofs.grow.close.Given as goal

abbrev pub invariant-loop-place : goal.invariant-loop-place
invariant-loop-place l = record {
  grows : HoldsMore l.course l.bar l.initial.held l.held;
  in_all : IsInAll (IsClosedIn l.course.board) l.initial.held.set l.held.set;
  few : l.place ≤ length l.held.log;
  done : AreNeedsIn l.course.board l.held.set l.held.log l.place;
}

abbrev pub decreases-loop-place : goal.decreases-loop-place
decreases-loop-place l = length l.course.board.needs - l.place
