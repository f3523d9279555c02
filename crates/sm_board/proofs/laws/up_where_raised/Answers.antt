use Rattle.sm_board.proofs.WalkLemmas.{up_where_raised}
use Rattle.sm_board.proofs.laws.up_where_raised.Goals as goal

pub returns : goal.returns
returns c = up_where_raised
