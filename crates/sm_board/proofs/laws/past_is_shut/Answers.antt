use Rattle.sm_board.proofs.BoardLemmas.{past_is_shut}
use Rattle.sm_board.proofs.laws.past_is_shut.Goals as goal

pub returns : goal.returns
returns c = past_is_shut
