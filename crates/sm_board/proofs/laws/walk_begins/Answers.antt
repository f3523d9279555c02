use Rattle.sm_board.proofs.WalkLemmas.{walk_begins}
use Rattle.sm_board.proofs.laws.walk_begins.Goals as goal

pub returns : goal.returns
returns c = walk_begins
