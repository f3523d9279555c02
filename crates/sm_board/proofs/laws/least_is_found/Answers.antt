use Rattle.sm_board.proofs.GrowLemmas.{least_is_found}
use Rattle.sm_board.proofs.laws.least_is_found.Goals as goal

pub returns : goal.returns
returns c = least_is_found
