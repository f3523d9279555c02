use Rattle.std.proofs.Common.{◌∙◌, sym, arith, None}
use Rattle.std.proofs.lemmas.List.{get_or_default}
use Rattle.sm_answer.proofs.matching_lines.MatchingLinesNumbered.line.Goals as goal

pub reviewer_at-r-requires-clause-on_list : goal.reviewer_at-r-requires-clause-on_list
reviewer_at-r-requires-clause-on_list c =
    let assigned = c.args.self.now.assigned in
    let places = c.args.self.now.matching.now.places.items in
    let one = assigned.one_each in
    assigned.on_lists c.args.p c.in-Some.place (sym (get_or_default places c.args.p c.index.result.now None (omega (arith, one, c.requires))) ∙ sym c.index.ensures ∙ c.in-Some.is)
