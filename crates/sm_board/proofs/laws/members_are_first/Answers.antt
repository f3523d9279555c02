use Rattle.sm_board.proofs.BoardLemmas.{members_are_first}
use Rattle.sm_board.proofs.laws.members_are_first.Goals as goal

pub returns : goal.returns
returns c = members_are_first
