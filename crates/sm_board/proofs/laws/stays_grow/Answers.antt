use Rattle.sm_board.proofs.BoardLemmas.{stays_grow}
use Rattle.sm_board.proofs.laws.stays_grow.Goals as goal

pub returns : goal.returns
returns c = stays_grow
