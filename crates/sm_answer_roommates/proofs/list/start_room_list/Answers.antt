use Rattle.sm_answer_vectors.proofs.CursorLemmas.{cursor_long}
use Rattle.sm_answer_roommates.proofs.RoomListLemmas.{one_list_each}
use Rattle.sm_answer_roommates.proofs.list.start_room_list.Goals as goal

pub start-requires : goal.start-requires
start-requires c = cursor_long c.in_ok-after.after c.args.after.now c.in_ok-after.ensures.copied (one_list_each c.args.persons.now c.in_ok-market.ensures) c.requires

pub returns : goal.returns
returns c = rw (← c.in_ok-market.ensures, ← c.in_ok-after.ensures.copied) c.start.ensures
