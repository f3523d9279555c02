use Rattle.std.proofs.Common.{◌-◌, length}
use Rattle.sm_board.specs.Board.{IsClosedIn, Fits}
use Rattle.sm_board.specs.Courses.{HoldsMore}
use Rattle.sm_least.specs.Steps.{IsInAll}
use Rattle.sm_least.proofs.grow.open.Given as goal

abbrev pub invariant-stays : goal.invariant-stays
invariant-stays l = record {
  grows : HoldsMore l.course l.bar l.initial.held l.held;
  closed : IsClosedIn l.course.board l.held.set;
  in_all : IsInAll (Fits l.course.board l.gates) l.initial.held.set l.held.set;
}

abbrev pub decreases-stays : goal.decreases-stays
decreases-stays l = length l.course.board.needs - length l.held.log
