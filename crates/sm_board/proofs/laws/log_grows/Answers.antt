use Rattle.sm_board.proofs.GrowLemmas.{log_grows}
use Rattle.sm_board.proofs.laws.log_grows.Goals as goal

pub returns : goal.returns
returns c = log_grows
