use Rattle.sm_law_yes.proofs.ExactlyRight.{room_exactly}
use Rattle.sm_law_yes.proofs.laws.room_exactly.Goals as goal

pub returns : goal.returns
returns c = room_exactly c.couples_yes.ensures c.none_yes.ensures c.couples_agree.ensures c.parties_agree.ensures
