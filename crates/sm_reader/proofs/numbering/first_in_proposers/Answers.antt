use Rattle.std.proofs.Common.{ap, ◌∙◌, sym, map}
use Rattle.sm_reader.specs.InstanceText.{lines_with_unknown, least}
use Rattle.sm_keys.specs.Tables.{Table}
use Rattle.sm_reader.specs.Draft.{agent_in}
use Rattle.sm_reader.proofs.NumberLemmas.{other_table}
use Rattle.sm_reader.proofs.numbering.first_in_proposers.Goals as goal

pub returns-in_default : goal.returns-in_default
returns-in_default c =
    let d = c.args.draft.now in
    let r = d.reviewer_names in
    c.first_in_lists-in_default.ensures
    ∙ ap (λ xs. least (lines_with_unknown r.declared (map (agent_in r.texts) xs))) c.deref-in_default.ensures.value
    ∙ ap (λ (t : Table). least (lines_with_unknown t.declared (map (agent_in t.texts) d.proposers.items))) (sym (other_table c.args.kind d.proposer_names d.reviewer_names c.in_default.not-Roommates))
