use Rattle.std.proofs.Common.{arith, length, sym, ◌∙◌}
use Rattle.sm_room_list.proofs.SearchLemmas.{none_further}
use Rattle.sm_room_list.proofs.search.find_above.Goals as goal

pub find_at-requires-clause-riser : goal.find_at-requires-clause-riser
find_at-requires-clause-riser c = let count = c.persons-persons.ensures.count in λ e. c.in_ok-risers.ensures.shut _ (omega arith) (sym (rw c.deref.ensures.value at c.is_riser-riser.ensures) ∙ e)

pub loop-back-preserved : goal.loop-back-preserved
loop-back-preserved c =
    let count = c.persons-persons.ensures.count in
    none_further (length c.args.market.now) c.loop-back.back _ (omega arith) c.loop-back.invariant (rw c.in_default.is at c.in_ok-found.ensures)

pub returns-in-loop-back : goal.returns-in-loop-back
returns-in-loop-back c =
    let count = c.persons-persons.ensures.count in
    let e = rw c.in-Some.is at c.in_ok-found.ensures in let f = e.0 in
    (omega arith, e.1, e.2, λ j less h. c.loop-back.invariant j (omega arith) h)

pub returns : goal.returns
returns c = let count = c.persons-persons.ensures.count in λ j h. c.loop-back.invariant j (omega arith) h
