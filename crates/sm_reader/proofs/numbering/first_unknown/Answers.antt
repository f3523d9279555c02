use Rattle.std.proofs.Common.{List, ap, ◌∙◌, sym, map}
use Rattle.sm_reader.specs.InstanceText.{pairs_with_unknown, least}
use Rattle.sm_reader.specs.Draft.{pair_in}
use Rattle.sm_reader.specs.declared.draft.Pair.{Pair}
use Rattle.sm_reader.proofs.NumberLemmas.{unknown_is, earlier_chain}
use Rattle.sm_reader.proofs.numbering.first_unknown.Goals as goal

pub returns : goal.returns
returns c =
    let d = c.args.draft.now in
    let first = λ (pairs : List Pair). least (pairs_with_unknown d.proposer_names.declared d.reviewer_names.declared (map pair_in pairs)) in
    earlier_chain c.earlier-of_weights.ensures c.earlier-of_forced.ensures c.earlier-of_pairs.ensures c.earlier.ensures
    c.first_in_agents-in_agents.ensures
    c.first_in_weights-in_weights.ensures
    (c.first_in_pairs-in_forced.ensures ∙ ap first c.deref.ensures.value)
    (c.first_in_pairs-in_forbidden.ensures ∙ ap first c.deref-2.ensures.value)
    c.first_in_order.ensures
    ∙ sym (unknown_is c.args.kind c.requires.line d c.requires.draft)
