use Rattle.sm_board.proofs.WalkLemmas.{follow_on}
use Rattle.sm_board.proofs.laws.follow_on.Goals as goal

pub returns : goal.returns
returns c = follow_on
