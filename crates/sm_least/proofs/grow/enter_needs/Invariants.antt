use Rattle.std.proofs.Common.{ℕ, ◌<◌, slice_index}
use Rattle.sm_market.specs.Lists.{row}
use Rattle.sm_theory.specs.ClosedSets.{IsMember}
use Rattle.sm_board.specs.Board.{IsClosedIn}
use Rattle.sm_board.specs.Courses.{HoldsMore}
use Rattle.sm_least.specs.Steps.{IsInAll}
use Rattle.sm_least.proofs.grow.enter_needs.Given as goal

abbrev pub invariant-loop-y : goal.invariant-loop-y
invariant-loop-y l = record {
  grows : HoldsMore l.course l.bar l.initial.held l.held;
  in_all : IsInAll (IsClosedIn l.course.board) l.initial.held.set l.held.set;
  entered : (a : ℕ) → a < l.y-index → IsMember l.held.set (slice_index (row l.course.board.needs l.x) a);
}
