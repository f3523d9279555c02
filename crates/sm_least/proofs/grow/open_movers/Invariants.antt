use Rattle.std.proofs.Common.{length}
use Rattle.sm_market.specs.Lists.{row}
use Rattle.sm_board.specs.Board.{IsClosedIn, Fits}
use Rattle.sm_board.specs.Courses.{HoldsMore}
use Rattle.sm_least.specs.Steps.{IsInAll, AreOpened}
use Rattle.sm_least.proofs.grow.open_movers.Given as goal

abbrev pub invariant-loop-p : goal.invariant-loop-p
invariant-loop-p l = record {
  grows : HoldsMore l.course l.bar l.initial.held l.held;
  closed : IsClosedIn l.course.board l.held.set;
  in_all : IsInAll (Fits l.course.board l.gates) l.initial.held.set l.held.set;
  opened : AreOpened l.course.board l.gates l.held (length l.initial.held.log) (row l.course.board.movers l.x) l.p-index;
}
