use Rattle.std.proofs.Common.{List, ap, ◌∙◌, sym, map}
use Rattle.std.proofs.lemmas.Bool.{not-true}
use Rattle.sm_lists.specs.Earlier.{earlier_of}
use Rattle.sm_reader.specs.InstanceText.{lines_with_unknown, least}
use Rattle.sm_reader.specs.Draft.{agent_in, listed_table}
use Rattle.sm_reader.specs.declared.draft.Declared.{Declared}
use Rattle.sm_reader.proofs.KnownLemmas.{none_unknown}
use Rattle.sm_reader.proofs.NumberLemmas.{least-append}
use Rattle.sm_reader.proofs.numbering.first_in_agents.Goals as goal

pub returns-then-are_declared-2 : goal.returns-then-are_declared-2
returns-then-are_declared-2 c =
    ap least (sym (none_unknown c.args.kind c.requires.line c.args.draft.now c.requires.draft
    (not-true _ (sym c.are_declared.ensures ∙ c.if-are_declared.true)) (not-true _ (sym c.are_declared-then-are_declared.ensures ∙ c.if-are_declared-2.true))))

pub returns : goal.returns
returns c =
    let d = c.args.draft.now in
    let t = listed_table c.args.kind d.proposer_names d.reviewer_names in
    let p = d.proposer_names in
    let proposers = lines_with_unknown t.declared (map (agent_in t.texts) d.proposers.items) in
    let reviewers = λ (agents : List Declared). lines_with_unknown p.declared (map (agent_in p.texts) agents) in
    c.earlier.ensures
    ∙ ap (λ o. earlier_of o c.first_in_lists.result) c.first_in_proposers-in_proposers.ensures
    ∙ ap (earlier_of (least proposers)) (c.first_in_lists.ensures ∙ ap (λ agents. least (reviewers agents)) c.deref.ensures.value)
    ∙ sym (least-append proposers (reviewers d.reviewers.items))
