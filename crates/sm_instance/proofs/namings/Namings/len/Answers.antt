use Rattle.std.proofs.Common.{◌≡◌, length, sym, subst, ◌∙◌}
use Rattle.std.proofs.lemmas.List.FromFn.{length-map-range_with_len}
use Rattle.sm_instance.specs.Namings.{asked, asked_at}
use Rattle.sm_instance.specs.declared.namings.Namings.{Namings}
use Rattle.sm_instance.proofs.namings.Namings.len.Goals as goal

pub returns-in-Sought : goal.returns-in-Sought
returns-in-Sought c =
    let agents = c.in-Sought.instance.now.proposers in
    let P : Namings → Type 0 = λ n. c.proposer_count.result ≡ length (asked n) in
    subst P (sym c.in-Sought.is) (c.proposer_count.ensures.count ∙ sym (length-map-range_with_len (asked_at agents c.in-Sought.field-1) 0 (length agents)))
