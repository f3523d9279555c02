use Rattle.sm_board.specs.Board.{IsClosedIn, Fits}
use Rattle.sm_board.specs.Courses.{HoldsMore}
use Rattle.sm_least.specs.Steps.{IsInAll, AreSettled}
use Rattle.sm_least.proofs.grow.grow_all.Given as goal

abbrev pub invariant-loop-p : goal.invariant-loop-p
invariant-loop-p l = record {
  grows : HoldsMore l.course 0 l.initial.held l.held;
  closed : IsClosedIn l.course.board l.held.set;
  in_all : IsInAll (Fits l.course.board l.gates) l.initial.held.set l.held.set;
  settled : AreSettled l.course.board l.gates l.held 0 l.p;
}
