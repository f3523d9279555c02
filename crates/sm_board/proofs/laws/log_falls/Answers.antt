use Rattle.sm_board.proofs.GrowLemmas.{log_falls}
use Rattle.sm_board.proofs.laws.log_falls.Goals as goal

pub returns : goal.returns
returns c = log_falls
