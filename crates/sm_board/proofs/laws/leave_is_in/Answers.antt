use Rattle.sm_board.proofs.BoardLemmas.{leave_is_in}
use Rattle.sm_board.proofs.laws.leave_is_in.Goals as goal

pub returns : goal.returns
returns c = leave_is_in
