use Rattle.sm_room_list.proofs.NextLemmas.{room_goes_on}
use Rattle.sm_room_list.proofs.laws.room_goes_on.Goals as goal

pub returns : goal.returns
returns c = room_goes_on
