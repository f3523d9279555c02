use Rattle.std.proofs.Common.{◌∙◌, ap, sym, length}
use Rattle.sm_poset.specs.Posets.{RotationPoset}
use Rattle.sm_lister.proofs.StartLemmas.{is_started}
use Rattle.sm_lister.proofs.lister.Lister.start.Goals as goal

pub invariant_of-result : goal.invariant_of-result
invariant_of-result c =
    let n = ap (λ (poset : RotationPoset). length poset.lists.proposers) (sym c.begin-any.ensures.same.poset) in
    is_started c.in_ok-walk.walk c.into_parts-parts.ensures.parts c.into_parts-parts.ensures.search n c.requires.forced c.begin-any.ensures.gates c.requires.order (c.begin-any.ensures.same.order ∙ c.deref.ensures.value) c.begin-any.ensures.least c.begin-any.ensures.none c.in_ok-walk.ensures.walking
