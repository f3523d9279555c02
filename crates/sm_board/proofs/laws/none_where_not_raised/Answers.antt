use Rattle.sm_board.proofs.WalkLemmas.{none_where_not_raised}
use Rattle.sm_board.proofs.laws.none_where_not_raised.Goals as goal

pub returns : goal.returns
returns c = none_where_not_raised
