use Rattle.sm_answer_weight.proofs.MemberLemmas.{number_pushed, number_passed}
use Rattle.sm_answer_weight.proofs.figures.member_numbers.Goals.{then-members-k+in_ok-push, else-members-k}
use Rattle.sm_answer_weight.proofs.figures.member_numbers.Goals as goal

pub loop-k-preserved : goal.loop-k-preserved
loop-k-preserved c =
    let members = c.args.members.now in
    let k = c.loop-k.k in
    elim c.if-members-k.branch [
      | then-members-k+in_ok-push w ↦ rw (w.numbers-is, w.in_ok-push.ensures.items) (number_pushed members k c.loop-k.numbers.items c.loop-k.invariant w.if-members-k.true)
      | else-members-k w ↦ rw w.numbers-is (number_passed members k c.loop-k.numbers.items c.loop-k.invariant w.if-members-k.false)
    ]
