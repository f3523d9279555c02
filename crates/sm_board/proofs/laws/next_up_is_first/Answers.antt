use Rattle.sm_board.proofs.WalkLemmas.{next_up_is_first}
use Rattle.sm_board.proofs.laws.next_up_is_first.Goals as goal

pub returns : goal.returns
returns c = next_up_is_first
