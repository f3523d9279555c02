use Rattle.sm_board.proofs.BoardLemmas.{enter_ends_stays}
use Rattle.sm_board.proofs.laws.enter_ends_stays.Goals as goal

pub returns : goal.returns
returns c = enter_ends_stays
