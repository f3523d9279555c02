use Rattle.sm_board.proofs.WalkLemmas.{walk_goes_on}
use Rattle.sm_board.proofs.laws.walk_goes_on.Goals as goal

pub returns : goal.returns
returns c = walk_goes_on
