use Rattle.sm_board.proofs.GrowLemmas.{need_may_enter}
use Rattle.sm_board.proofs.laws.need_may_enter.Goals as goal

pub returns : goal.returns
returns c = need_may_enter
