use Rattle.sm_board.proofs.GrowLemmas.{free_keeps_levels}
use Rattle.sm_board.proofs.laws.free_keeps_levels.Goals as goal

pub returns : goal.returns
returns c = free_keeps_levels
