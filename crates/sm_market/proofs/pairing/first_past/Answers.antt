use Rattle.std.proofs.Common.{below_more, arith}
use Rattle.sm_market.proofs.SeatLemmas.{not_past_at, not_past_none, not_past_all}
use Rattle.sm_market.proofs.pairing.first_past.Goals as goal
use Rattle.sm_market.proofs.pairing.first_past.Goals.{in-Some+else-place-proposer_len, in_default}

pub loop-p-preserved : goal.loop-p-preserved
loop-p-preserved c =
    elim c.match-places-p.branch [
      | in-Some+else-place-proposer_len w ↦ below_more _ _ c.loop-p.invariant
          (not_past_at c.args.market.now c.args.places.now c.loop-p.p w.in-Some.place w.in-Some.is (let length_is = w.proposer_len.ensures in omega arith))
      | in_default w ↦ below_more _ _ c.loop-p.invariant (not_past_none c.args.market.now c.args.places.now c.loop-p.p w.in_default.is)
    ]

pub returns : goal.returns
returns c = not_past_all c.args.market.now c.args.places.now c.loop-p.p (omega arith) c.loop-p.invariant
