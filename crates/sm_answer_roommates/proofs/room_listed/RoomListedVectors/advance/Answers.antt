use Rattle.sm_lists.proofs.ResultLemmas.{IfOk-more}
use Rattle.sm_answer_roommates.proofs.RoomListLemmas.{same_vectors}
use Rattle.sm_answer_roommates.proofs.room_listed.RoomListedVectors.advance.Goals as goal

pub returns-clause-same : goal.returns-clause-same
returns-clause-same c = same_vectors c.advance.ensures.rows

pub returns-clause-next : goal.returns-clause-next
returns-clause-next c =
    IfOk-more c.advance.result _ _ (λ found next yes. let x = next yes in record { vector = x.0; at = x.1; next = x.2 }) c.advance.ensures.next
