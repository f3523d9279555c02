use Rattle.sm_board.proofs.BoardLemmas.{level_rises}
use Rattle.sm_board.proofs.laws.level_rises.Goals as goal

pub returns : goal.returns
returns c = level_rises
