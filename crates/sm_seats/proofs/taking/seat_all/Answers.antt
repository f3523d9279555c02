use Rattle.std.proofs.Common.{ap, arith, length}
use Rattle.sm_market.specs.Lists.{Lists}
use Rattle.sm_seats.proofs.CorrespondenceLaws.{sound_entries}
use Rattle.sm_seats.proofs.TakingLemmas.{begin, everybody_seated, seat_below, first_named, later_named, more_seated, same_seated}
use Rattle.sm_seats.proofs.taking.seat_all.Goals as goal
use Rattle.sm_seats.proofs.taking.seat_all.Goals.{then-number-eq1, else-number-eq1}

pub loop-seat-init : goal.loop-seat-init
loop-seat-init g c = begin g.written c.args.market.now c.requires.1.1.0 (sound_entries c.requires.0) c.requires.1.1.1.1.0 c.args.places.now c.requires.1.1.1.1.1.1

pub seat_in_order-requires : goal.seat_in_order-requires
seat_in_order-requires g c =
    let on = c.loop-seat-test.true in
    let end = c.reviewers-seat-end.ensures.count in
    let there = seat_below g.written c.args.market.now c.requires.1.1.0 c.loop-seat.seat (omega arith) in
    let s = first_named g.written c.args.seats.now c.loop-seat.seat c.requires.1.1.1.0 there c.if-number-eq1.true in
    let is = s.is in
    (c.requires.0, (c.requires.1.0, (c.requires.1.1.0, (c.requires.1.1.1.0, (c.requires.1.1.1.1.1.0, (omega arith, (s.below, (c.requires.1.1.1.1.0, c.loop-seat.invariant.long))))))))

pub loop-seat-preserved : goal.loop-seat-preserved
loop-seat-preserved g c =
    let on = c.loop-seat-test.true in
    let end = c.reviewers-seat-end.ensures.count in
    let there = seat_below g.written c.args.market.now c.requires.1.1.0 c.loop-seat.seat (omega arith) in
    elim c.if-number-eq1.branch [
      | then-number-eq1 w ↦ rw (w.places-is)
          (more_seated (sound_entries c.requires.0) c.requires.1.1.1.1.0 (first_named g.written c.args.seats.now c.loop-seat.seat c.requires.1.1.1.0 there w.if-number-eq1.true) c.loop-seat.invariant w.seat_in_order.ensures)
      | else-number-eq1 w ↦
          let s = later_named g.written c.args.seats.now c.loop-seat.seat c.requires.1.1.1.0 there w.if-number-eq1.false in
          rw (w.places-is) (same_seated (sound_entries c.requires.0) c.requires.1.1.1.1.0 s.of s.later c.loop-seat.invariant)
    ]

pub returns : goal.returns
returns g c =
    let past = c.loop-seat-test.false in
    let end = c.reviewers-seat-end.ensures.count in
    let same = ap (λ (l : Lists). length l.reviewers) c.requires.1.1.0 in
    everybody_seated (sound_entries c.requires.0) c.requires.1.1.1.1.0 c.loop-seat.invariant (omega arith)
