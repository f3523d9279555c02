use Rattle.sm_market.specs.Lists.{row}
use Rattle.sm_board.specs.Courses.{IsMovedBack}
use Rattle.sm_board.proofs.held.move_back.Given as goal

abbrev pub invariant-loop-p : goal.invariant-loop-p
invariant-loop-p l = IsMovedBack l.board (row l.board.movers l.x) l.p-index l.initial.at l.initial.now l.at l.now
