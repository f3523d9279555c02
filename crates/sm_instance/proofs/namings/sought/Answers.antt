use Rattle.std.proofs.Common.{ℕ, ap, ◌∙◌}
use Rattle.sm_lists.specs.Crosses.{found_on}
use Rattle.sm_lists.specs.declared.compact_naming.CompactNaming.{CompactNaming}
use Rattle.sm_instance.proofs.NamingLemmas.{place_or_past}
use Rattle.sm_instance.proofs.namings.sought.Goals as goal

pub returns : goal.returns
returns c =
    let agents = c.args.instance.now.proposers in
    let made : ℕ → CompactNaming = λ place. record { by = c.args.e; place = place } in
    let found = c.first_place.ensures.found ∙ ap (λ list. found_on list c.args.r) c.proposer_list.ensures in
    ap made (c.unwrap_or-place.ensures ∙ place_or_past agents c.args.e c.args.r c.proposer_len-past.result c.first_place.result found c.proposer_len-past.ensures.length)
