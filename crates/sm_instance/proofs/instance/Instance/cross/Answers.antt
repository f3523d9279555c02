use Rattle.std.proofs.Common.{ap, subst, ◌∙◌, arith}
use Rattle.std.proofs.lemmas.Grind.{common_steps}
use Rattle.sm_lists.specs.Crosses.{found_on}
use Rattle.sm_agents.specs.Written.{Written, row, entry}
use Rattle.sm_agents.specs.Sound.{IsInstance}
use Rattle.sm_instance.proofs.AcceptLemmas.{cross_fits, proposer_row_fits}
use Rattle.sm_instance.proofs.instance.Instance.cross.Goals as goal

pub returns-in-Some-clause-fits : goal.returns-in-Some-clause-fits
returns-in-Some-clause-fits c =
    let Q : Written → Type 0 = λ w. IsInstance w in
    cross_fits (subst Q c.self.view_is c.self.invariant.instance) (entry c.args.self.now.proposers c.args.p c.args.place) c.args.p c.place.result (grind (arith, common_steps))

pub returns-in-Some-clause-place_fits : goal.returns-in-Some-clause-place_fits
returns-in-Some-clause-place_fits c =
    let Q : Written → Type 0 = λ w. IsInstance w in
    let fits = proposer_row_fits (subst Q c.self.view_is c.self.invariant.instance) c.args.p in omega arith

pub returns-in-None-clause-fits : goal.returns-in-None-clause-fits
returns-in-None-clause-fits c =
    let Q : Written → Type 0 = λ w. IsInstance w in
    let list = c.reviewer_list.ensures ∙ ap (row c.args.self.now.reviewers) c.reviewer_at.ensures.named in
    cross_fits (subst Q c.self.view_is c.self.invariant.instance) (entry c.args.self.now.proposers c.args.p c.args.place) c.args.p c.first_place.result
    (c.first_place.ensures.found ∙ ap (λ list. found_on list c.args.p) list)

pub returns-in-None-clause-place_fits : goal.returns-in-None-clause-place_fits
returns-in-None-clause-place_fits c =
    let Q : Written → Type 0 = λ w. IsInstance w in
    let fits = proposer_row_fits (subst Q c.self.view_is c.self.invariant.instance) c.args.p in omega arith
