use Rattle.sm_board.proofs.GrowLemmas.{raise_is_past}
use Rattle.sm_board.proofs.laws.raise_is_past.Goals as goal

pub returns : goal.returns
returns c = raise_is_past
