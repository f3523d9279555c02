use Rattle.sm_board.proofs.BoardLemmas.{level_stays}
use Rattle.sm_board.proofs.laws.level_stays.Goals as goal

pub returns : goal.returns
returns c = level_stays
