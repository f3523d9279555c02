use Rattle.sm_board.proofs.BoardSets.{least_is_best}
use Rattle.sm_board.proofs.laws.least_is_best.Goals as goal

pub returns : goal.returns
returns c = least_is_best
