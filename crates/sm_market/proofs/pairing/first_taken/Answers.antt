use Rattle.std.proofs.Common.{sym, ◌∙◌, arith}
use Rattle.sm_market.proofs.SeatLemmas.{on_list_at, seat_none, seat_one, seat_taken, seat_end}
use Rattle.sm_market.proofs.pairing.first_taken.Goals as goal
use Rattle.sm_market.proofs.pairing.first_taken.Goals.{in-Some+else-is_some, in_default}

pub reviewer_at-r-requires-clause-on_list : goal.reviewer_at-r-requires-clause-on_list
reviewer_at-r-requires-clause-on_list c = on_list_at c.args.market.now c.args.places.now c.loop-p.p c.in-Some.place (c.requires.on_lists c.loop-p.p) c.in-Some.is

pub cross-requires-clause-on_list : goal.cross-requires-clause-on_list
cross-requires-clause-on_list c = on_list_at c.args.market.now c.args.places.now c.loop-p.p c.in-Some.place (c.requires.on_lists c.loop-p.p) c.in-Some.is

pub returns-then-is_some : goal.returns-then-is_some
returns-then-is_some c =
    record {
      one_each = c.requires.one_each;
      on_lists = c.requires.on_lists;
      taken = seat_taken c.loop-p.invariant c.in-Some.place c.reviewer_at-r.result c.in-Some.is c.reviewer_at-r.ensures.named (sym c.if-is_some.ensures);
      earlier_proposers = c.loop-p.invariant.untaken;
    }

pub loop-p-preserved : goal.loop-p-preserved
loop-p-preserved c =
    elim c.match-places-p.branch [
      | in-Some+else-is_some w ↦ rw (w.reviewer_places-is, w.holders-is)
          (seat_one c.loop-p.invariant w.in-Some.place w.reviewer_at-r.result w.cross.result w.in-Some.is w.reviewer_at-r.ensures.named w.reviewer_at-r.ensures.in_range
          (sym w.is_some.ensures ∙ w.if-is_some.false) w.cross.ensures.place)
      | in_default w ↦ rw (w.reviewer_places-is, w.holders-is) (seat_none c.loop-p.invariant w.in_default.is)
    ]

pub returns : goal.returns
returns c = seat_end c.loop-p.invariant (let n = c.proposers-p-end.ensures.count in omega arith) c.proposers-p-end.ensures.market c.requires.one_each c.requires.on_lists
