use Rattle.std.proofs.Common.{◌≡◌, ℕ, ◌++◌, ◌∷◌, [], arith, sym, ap, ◌∙◌, List, Option, None, map}
use Rattle.std.specs.List.{range_with_len}
use Rattle.std.proofs.lemmas.List.{get_or_default}
use Rattle.std.proofs.lemmas.List.FromFn.{map-range_with_len_more}
use Rattle.sm_instance.specs.Matching.{held}
use Rattle.sm_theory.specs.Choices.{chosen}
use Rattle.sm_holding.proofs.choosing.choose_places.Goals as goal

pub loop-p-preserved : goal.loop-p-preserved
loop-p-preserved c =
    let p : ℕ = c.loop-p.p in
    let m = c.args.left.now.places.items in
    let n = c.args.right.now.places.items in
    let f : ℕ → Option ℕ = λ p. chosen c.args.choice (held m p) (held n p) in
    let one_m = c.requires.left.one_each in
    let one_n = c.requires.right.one_each in
    let count = c.proposer_count-proposers.ensures.count in
    let first = c.index.ensures ∙ get_or_default m p c.index.result.now None (omega (arith, one_m, count, c.loop-p-test.true)) in
    let second = c.index-in-loop-p.ensures ∙ get_or_default n p c.index-in-loop-p.result.now None (omega (arith, one_n, count, c.loop-p-test.true)) in
    let own : c.chosen_place.result ≡ f p =
    c.chosen_place.ensures ∙ ap (λ (o : Option ℕ). chosen c.args.choice o c.index-in-loop-p.result.now) first ∙ ap (λ (o : Option ℕ). chosen c.args.choice (held m p) o) second in
    c.in_ok-push.ensures.items ∙ ap (λ (xs : List (Option ℕ)). xs ++ c.chosen_place.result ∷ []) c.loop-p.invariant
    ∙ ap (λ (x : Option ℕ). map f (range_with_len 0 p) ++ x ∷ []) own ∙ sym (map-range_with_len_more f 0 p p (omega arith))
