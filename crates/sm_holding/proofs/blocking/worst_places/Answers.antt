use Rattle.std.proofs.Common.{◌<◌, ◌∙◌, length, sym, arith}
use Rattle.sm_holding.proofs.HoldingLemmas.{read_place}
use Rattle.sm_holding.proofs.blocking.worst_places.Goals as goal

pub cross-requires-clause-on_list : goal.cross-requires-clause-on_list
cross-requires-clause-on_list c =
    let places = c.args.a.now.places.items in
    let p = c.loop-p.p in
    let inside : p < length places = (let one = c.requires.assigned.one_each in omega (arith, one, c.loop-p-test.true, c.proposer_count-p-end.ensures.count)) in
    c.requires.assigned.on_lists p c.in-Some.place (sym (read_place places p c.index.result.now inside c.index.ensures) ∙ c.in-Some.is)
