use Rattle.std.proofs.Common.{◌≡◌, ◌∙◌, sym, ap, ℕ, ◌-◌, List, length, take, drop, length-drop, arith}
use Rattle.std.proofs.lemmas.List.{take_all}
use Rattle.std.specs.Str.{bytes_eq}
use Rattle.sm_keys.proofs.TextLemmas.{equal_text, by_last}
use Rattle.sm_keys.proofs.key.equal_by_eights.Goals as goal

-- what stands behind a place, up to the end
behind : (m : ℕ) (x : List ℕ) → take (length x - m) (drop m x) ≡ drop m x
behind m x = take_all (length x - m) (drop m x) (omega (arith, length-drop m x))

pub returns-then-equal_by_fours : goal.returns-then-equal_by_fours
returns-then-equal_by_fours c =
    let a = c.args.a.now in
    let b = c.args.b.now in
    let same : take 8 a ≡ take 8 b = equal_text _ _ (sym c.equal_by_fours.ensures ∙ c.if-equal_by_fours.true) in
    let m = length a - 8 in
    by_last 8 a b c.requires.same_len c.requires.enough c.requires.few same c.equal_by_fours-then-equal_by_fours.result
    (c.equal_by_fours-then-equal_by_fours.ensures
    ∙ ap (λ x. bytes_eq x (take (length b - m) (drop m b))) (behind m a)
    ∙ ap (bytes_eq (drop m a)) (behind m b)
    ∙ ap (λ n. bytes_eq (drop m a) (drop (n - 8) b)) c.requires.same_len)
