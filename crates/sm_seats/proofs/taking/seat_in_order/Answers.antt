use Rattle.std.proofs.Common.{◌+◌, sym, ◌∙◌, arith}
use Rattle.sm_seats.proofs.CorrespondenceLaws.{sound_entries}
use Rattle.sm_seats.proofs.FullLemmas.{full_seated}
use Rattle.sm_seats.proofs.TakingLemmas.{first_there, proposer_there, step_yes, step_no, row_seated}
use Rattle.sm_seats.proofs.taking.seat_in_order.Goals as goal
use Rattle.sm_seats.proofs.taking.seat_in_order.Goals.{then-is_at+else-not-is_seat_of, else-is_at}

pub reviewer_len-place-end-requires : goal.reviewer_len-place-end-requires
reviewer_len-place-end-requires g c = first_there g.written c.args.market.now c.requires.1.1.0 c.args.first.0 c.args.first.1 c.requires.1.1.1.1.1.0 c.requires.1.1.1.1.1.1.0

pub is_at-requires : goal.is_at-requires
is_at-requires g c = (c.requires.1.0, (c.requires.1.1.1.1.1.1.1.0.assigned, proposer_there g.written c.args.market.now c.requires.1.1.0 c.proposer_at-q.result c.proposer_at-q.ensures.in_range))

pub loop-place-preserved : goal.loop-place-preserved
loop-place-preserved g c =
    let on = c.loop-place-test.true in
    let end = c.reviewer_len-place-end.ensures in
    elim c.if-is_at.branch [
      | then-is_at+else-not-is_seat_of w ↦ rw (w.places-is, w.before-is)
          (step_yes g.written c.args.market.now c.requires.1.1.0 (sound_entries c.requires.0) c.requires.1.1.1.1.1.1.1.0 c.args.first.0 c.args.first.1 c.loop-place.place c.loop-place.before c.proposer_at-q.result w.reviewer_cross.result
          c.args.places.now c.loop-place.places c.requires.1.1.1.1.1.0 c.requires.1.1.1.1.1.1.0 c.requires.1.1.1.1.1.1.1.1 c.loop-place.invariant (omega arith) c.proposer_at-q.ensures.named (sym c.is_at.ensures ∙ w.if-is_at.true) w.reviewer_cross.ensures.place)
      | else-is_at w ↦ rw (w.places-is, w.before-is)
          (step_no g.written c.args.market.now c.requires.1.1.0 (sound_entries c.requires.0) c.requires.1.1.1.1.1.1.1.0 c.args.first.0 c.args.first.1 c.loop-place.place c.loop-place.before c.proposer_at-q.result
          c.args.places.now c.loop-place.places c.requires.1.1.1.1.1.0 c.requires.1.1.1.1.1.1.0 c.loop-place.invariant (omega arith) c.proposer_at-q.ensures.named (sym c.is_at.ensures ∙ w.if-is_at.false))
    ]

pub returns : goal.returns
returns g c =
    let past = c.loop-place-test.false in
    let end = c.reviewer_len-place-end.ensures in
    row_seated g.written c.args.market.now c.requires.1.1.0 (sound_entries c.requires.0) c.requires.1.1.1.1.1.1.1.0 c.args.first.0 c.args.first.1 c.loop-place.place c.loop-place.before c.args.places.now c.loop-place.places
    c.requires.1.1.1.1.1.0 c.requires.1.1.1.1.1.1.0 c.loop-place.invariant (omega arith)

pub returns-then-not-is_seat_of : goal.returns-then-not-is_seat_of
returns-then-not-is_seat_of g c =
    let on = c.loop-place-test.true in
    let end = c.reviewer_len-place-end.ensures in
    full_seated (sound_entries c.requires.0) c.requires.1.1.1.1.1.1.1.0
    (step_yes g.written c.args.market.now c.requires.1.1.0 (sound_entries c.requires.0) c.requires.1.1.1.1.1.1.1.0 c.args.first.0 c.args.first.1 c.loop-place.place c.loop-place.before c.proposer_at-q.result c.reviewer_cross.result
    c.args.places.now c.loop-place.places c.requires.1.1.1.1.1.0 c.requires.1.1.1.1.1.1.0 c.requires.1.1.1.1.1.1.1.1 c.loop-place.invariant (omega arith) c.proposer_at-q.ensures.named (sym c.is_at.ensures ∙ c.if-is_at.true) c.reviewer_cross.ensures.place)
    (c.is_seat_of.ensures c.if-not-is_seat_of.true (c.loop-place.before + 1) (omega (arith, c.requires.1.1.1.1.1.0)))
