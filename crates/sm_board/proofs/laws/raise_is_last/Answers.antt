use Rattle.sm_board.proofs.GrowLemmas.{raise_is_last}
use Rattle.sm_board.proofs.laws.raise_is_last.Goals as goal

pub returns : goal.returns
returns c = raise_is_last
