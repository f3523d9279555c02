use Rattle.sm_board.proofs.GrowLemmas.{closed_when_done}
use Rattle.sm_board.proofs.laws.closed_when_done.Goals as goal

pub returns : goal.returns
returns c = closed_when_done
