use Rattle.std.proofs.Common.{◌≡◌, ◌<◌, ◌∙◌, nat_eq, ap, sym, subst, position, length, get_or, true}
use Rattle.std.specs.List.{IsDistinct}
use Rattle.std.specs.Str.{bytes_eq}
use Rattle.std.specs.Cmp.Lexicographic.{pointwise}
use Rattle.sm_agents.specs.NameKeys.{text_of, texts_of}
use Rattle.sm_agents.specs.declared.name_key.NameKey.{NameKey}
use Rattle.sm_agents.proofs.NameLemmas.{position-texts, at_its_place}
use Rattle.sm_agents.proofs.names.Names.stands_at.Goals as goal

pub returns-in-Some-clause-position : goal.returns-in-Some-clause-position
returns-in-Some-clause-position c = λ same.
    let name = c.args.name.now in
    let all = c.as_slice.result.now in
    let found = c.in-Some.ensures.lookup in
    let here : c.args.number < length all = found.3.0 in
    let at : bytes_eq name (text_of (get_or all c.args.number c.in-Some.key.now)) ≡ true = ap (λ k. bytes_eq name (text_of k)) (sym found.1) ∙ sym c.is.ensures ∙ same in
    let distinct = subst (IsDistinct (λ (a b : NameKey). pointwise nat_eq (text_of a) (text_of b))) (sym c.as_slice.ensures.keys) c.as_slice.ensures.unique in
    let place = at_its_place name all c.in-Some.key.now distinct c.args.number here at in
    ap (position (bytes_eq name)) (sym c.self.view_is ∙ ap texts_of (sym c.as_slice.ensures.keys)) ∙ sym (position-texts name all) ∙ place
