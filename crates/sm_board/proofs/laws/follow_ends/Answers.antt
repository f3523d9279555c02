use Rattle.sm_board.proofs.WalkLemmas.{follow_ends}
use Rattle.sm_board.proofs.laws.follow_ends.Goals as goal

pub returns : goal.returns
returns c = follow_ends
