use Rattle.std.proofs.Common.{arith}
use Rattle.sm_market.proofs.SeatLemmas.{on_list_at, seat_none, seat_one, seat_free, seat_end}
use Rattle.sm_market.proofs.pairing.seat_all.Goals as goal
use Rattle.sm_market.proofs.pairing.seat_all.Goals.{in-Some, in_default}

pub reviewer_at-r-requires-clause-on_list : goal.reviewer_at-r-requires-clause-on_list
reviewer_at-r-requires-clause-on_list c = on_list_at c.args.market.now c.args.places.now c.loop-p.p c.in-Some.place (c.requires.held.on_lists c.loop-p.p) c.in-Some.is

pub cross-requires-clause-on_list : goal.cross-requires-clause-on_list
cross-requires-clause-on_list c = on_list_at c.args.market.now c.args.places.now c.loop-p.p c.in-Some.place (c.requires.held.on_lists c.loop-p.p) c.in-Some.is

pub loop-p-preserved : goal.loop-p-preserved
loop-p-preserved c =
    elim c.match-places-p.branch [
      | in-Some w ↦ rw (w.reviewer_places-is, w.holders-is)
          (seat_one c.loop-p.invariant w.in-Some.place w.reviewer_at-r.result w.cross.result w.in-Some.is w.reviewer_at-r.ensures.named w.reviewer_at-r.ensures.in_range
          (seat_free c.loop-p.invariant w.in-Some.place w.reviewer_at-r.result w.in-Some.is w.reviewer_at-r.ensures.named (c.requires.held.untaken c.loop-p.p)) w.cross.ensures.place)
      | in_default w ↦ rw (w.reviewer_places-is, w.holders-is) (seat_none c.loop-p.invariant w.in_default.is)
    ]

pub returns : goal.returns
returns c = seat_end c.loop-p.invariant (let n = c.proposers-p-end.ensures.count in omega arith) c.proposers-p-end.ensures.market c.requires.held.one_each c.requires.held.on_lists
