use Rattle.sm_board.proofs.GrowLemmas.{raise_is_barred}
use Rattle.sm_board.proofs.laws.raise_is_barred.Goals as goal

pub returns : goal.returns
returns c = raise_is_barred
