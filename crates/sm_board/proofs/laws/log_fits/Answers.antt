use Rattle.sm_board.proofs.GrowLemmas.{log_fits}
use Rattle.sm_board.proofs.laws.log_fits.Goals as goal

pub returns : goal.returns
returns c = log_fits
