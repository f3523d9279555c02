use Rattle.sm_board.proofs.GrowLemmas.{idle_stays}
use Rattle.sm_board.proofs.laws.idle_stays.Goals as goal

pub returns : goal.returns
returns c = idle_stays
