use Rattle.sm_board.proofs.GrowLemmas.{shut_leave_is_in}
use Rattle.sm_board.proofs.laws.shut_leave_is_in.Goals as goal

pub returns : goal.returns
returns c = shut_leave_is_in
