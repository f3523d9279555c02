use Rattle.sm_board.proofs.GrowLemmas.{raise_finds}
use Rattle.sm_board.proofs.laws.raise_finds.Goals as goal

pub returns : goal.returns
returns c = raise_finds
