use Rattle.sm_board.proofs.GrowLemmas.{asked_is_in}
use Rattle.sm_board.proofs.laws.asked_is_in.Goals as goal

pub returns : goal.returns
returns c = asked_is_in
