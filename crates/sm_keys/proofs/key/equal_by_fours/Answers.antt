use Rattle.std.proofs.Common.{◌≡◌, ◌∙◌, sym, ap, ◌-◌, length, take, drop}
use Rattle.std.specs.Str.{bytes_eq}
use Rattle.sm_keys.proofs.TextLemmas.{equal_text, by_first}
use Rattle.sm_keys.proofs.key.equal_by_fours.Goals as goal

pub returns-then-are_same : goal.returns-then-are_same
returns-then-are_same c =
    let a = c.args.a.now in
    let b = c.args.b.now in
    let same : drop (length a - 4) a ≡ drop (length b - 4) b = sym c.last_four.ensures ∙ equal_text _ _ (sym c.are_same.ensures ∙ c.if-are_same.true) ∙ c.last_four-2.ensures in
    by_first 4 a b c.requires.same_len c.requires.enough c.requires.few same c.are_same-then-are_same.result
    (c.are_same-then-are_same.ensures ∙ ap (λ x. bytes_eq x c.first_four-then-are_same.result.now) c.first_four.ensures ∙ ap (bytes_eq (take 4 a)) c.first_four-then-are_same.ensures)
