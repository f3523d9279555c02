use Rattle.std.proofs.Common.{◌<◌, ◌∙◌, arith, length}
use Rattle.sm_agents.specs.Written.{row, entry}
use Rattle.sm_seats.proofs.CrossLemmas.{lists_back-told, cross_read}
use Rattle.sm_seats.proofs.TableLemmas.{count_more, count_same}
use Rattle.sm_seats.proofs.plain.acceptable_count.Goals as goal
use Rattle.sm_seats.proofs.plain.acceptable_count.Goals.{then-is_some, else-is_some}

pub loop-place-preserved : goal.loop-place-preserved
loop-place-preserved c =
    let w = c.args.instance.now in
    let p = c.args.p in
    let i = c.loop-place.place in
    let on : i < length (row w.proposers p) = omega (arith, c.loop-place-test.true) in
    let cross = cross_read c.proposer_crosses-crosses.ensures on c.index-crosses-place.is c.place.ensures in
    let tells = lists_back-told w.reviewers p (entry w.proposers p i) cross c.is_some.ensures in
    elim c.if-is_some.branch [
      | then-is_some b ↦ rw b.count-is (count_more on (tells ∙ b.if-is_some.true) c.loop-place.invariant)
      | else-is_some b ↦ rw b.count-is (count_same on (tells ∙ b.if-is_some.false) c.loop-place.invariant)
    ]
