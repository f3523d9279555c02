use Rattle.sm_room_list.proofs.NextLemmas.{room_goes_on}
use Rattle.sm_lists.proofs.ResultLemmas.{IfOk-more}
use Rattle.sm_answer_roommates.proofs.RoomListLemmas.{lister_small, room_list_shown}
use Rattle.sm_answer_roommates.proofs.list.room_list_lines.Goals as goal

pub list_vectors-requires-clause-cursor : goal.list_vectors-requires-clause-cursor
list_vectors-requires-clause-cursor c = c.in_ok-lister.ensures.cursor_is

pub list_vectors-requires-clause-next : goal.list_vectors-requires-clause-next
list_vectors-requires-clause-next c = room_goes_on c.in_ok-lister.lister.rows

pub list_vectors-requires-clause-small : goal.list_vectors-requires-clause-small
list_vectors-requires-clause-small c = lister_small c.persons-persons.ensures.sound c.in_ok-lister.ensures

pub returns-clause-right : goal.returns-clause-right
returns-clause-right c =
    IfOk-more c.list_vectors.result _ _ (λ made right lines given. room_list_shown c.args.input.now c.args.limit c.requires.after c.in_ok-lister.ensures lines (right lines given)) c.list_vectors.ensures.right
