use Rattle.sm_board.proofs.GrowLemmas.{low_leave_is_in}
use Rattle.sm_board.proofs.laws.low_leave_is_in.Goals as goal

pub returns : goal.returns
returns c = low_leave_is_in
