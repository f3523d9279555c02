use Rattle.sm_check_answers.proofs.TriedLemmas.{read_held, acceptable_by}
use Rattle.sm_check_answers.proofs.tried.is_acceptable.Goals as goal

pub cross-requires-clause-on_list : goal.cross-requires-clause-on_list
cross-requires-clause-on_list c =
    c.requires.assignment.on_lists c.args.p c.in-Some.place (read_held c.requires.assignment c.args.p c.in-Some.place c.index.result.now c.requires.in_range c.index.ensures c.in-Some.is)

pub returns-in-Some : goal.returns-in-Some
returns-in-Some c =
    let here = read_held c.requires.assignment c.args.p c.in-Some.place c.index.result.now c.requires.in_range c.index.ensures c.in-Some.is in
    acceptable_by c.requires.instance c.args.a.now.places.items c.args.p c.in-Some.place here (c.requires.assignment.on_lists c.args.p c.in-Some.place here) c.cross.result c.cross.ensures.cross c.is_some.result c.is_some.ensures
