use Rattle.std.proofs.Common.{◌≡◌, true, false, refl}
use Rattle.sm_room.proofs.PairLemmas.{left_out_is}
use Rattle.sm_answer_roommates.proofs.RestLemmas.{noted_same, noted_more}
use Rattle.sm_answer_roommates.proofs.rest.left_out.Goals.{then-is_left_out+in_ok-push, else-is_left_out}
use Rattle.sm_answer_roommates.proofs.rest.left_out.Goals as goal

pub loop-x-preserved : goal.loop-x-preserved
loop-x-preserved c =
    let both = left_out_is c.requires.persons c.requires.pairs.alternately c.loop-x.x in
    elim c.if-is_left_out.branch [
      | then-is_left_out+in_ok-push w ↦ rw (w.out-is, w.in_ok-push.ensures.items) (noted_more c.loop-x.invariant (both.0 (w.if-is_left_out.ensures.0 refl)))
      | else-is_left_out w ↦ rw w.out-is (noted_same c.loop-x.invariant (λ l. let e : false ≡ true = w.if-is_left_out.ensures.1 (both.1 l) in absurd cc))
    ]
