use Rattle.std.proofs.Common.{get_or, sym, ap, ◌∙◌}
use Rattle.sm_agents.specs.Written.{Written, entry}
use Rattle.sm_instance.specs.Crosses.{cross_place}
use Rattle.sm_answer_solve.proofs.OfferLemmas.{answered, inert}
use Rattle.sm_answer_solve.proofs.offering.offer.Goals as goal

pub returns-in-None-clause-way : goal.returns-in-None-clause-way
returns-in-None-clause-way c begun given =
    let w = c.args.instance.now in
    let r = c.args.r in
    let cross = c.in_ok-offered.ensures.cross ∙ ap (λ (v : Written). cross_place v.proposers (entry v.reviewers r (get_or c.args.nexts.now r 0)) r) c.requires.search in
    inert c.requires.instance given c.requires.on_list (sym cross ∙ c.in-None.is)

pub returns-clause-way : goal.returns-clause-way
returns-clause-way c begun given =
    let w = c.args.instance.now in
    let r = c.args.r in
    let cross = c.in_ok-offered.ensures.cross ∙ ap (λ (v : Written). cross_place v.proposers (entry v.reviewers r (get_or c.args.nexts.now r 0)) r) c.requires.search in
    let answer = rw c.reviewer_list.ensures at c.answer.ensures in
    answered c.requires.instance given c.requires.on_list (sym c.in-Some.is ∙ cross) answer
