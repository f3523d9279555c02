use Rattle.std.proofs.Common.{◌≡◌, ◌<◌, ◌++◌, ◌∷◌, [], ℕ, false, length, filter, not, cond, eqb, sym, ap, ◌∙◌, append_assoc, arith}
use Rattle.std.specs.List.{list_any, range_with_len}
use Rattle.std.proofs.lemmas.List.{get_or_default}
use Rattle.sm_agents.proofs.OrderLemmas.{filter_next, unless}
use Rattle.sm_agents.proofs.order.full_order.Goals as goal

pub numbers-preserved : goal.numbers-preserved
numbers-preserved c =
    let first = c.args.first.items in
    let n = c.numbers.number in
    let test = list_any (λ (m : ℕ). eqb m n) first in
    let others = filter (λ (k : ℕ). not (list_any (λ (m : ℕ). eqb m k) first)) (range_with_len 0 n) in
    let marks = c.in_ok-is_first.is_first.items in
    let inside : n < length marks = omega (arith, c.numbers-test.true, c.in_ok-is_first.ensures.each) in
    let marked : c.index.result.now ≡ test =
    c.index.ensures ∙ get_or_default marks n c.index.result.now false inside ∙ c.in_ok-is_first.ensures.marked n c.numbers-test.true
    ∙ ap (list_any (λ (m : ℕ). eqb m n)) c.deref.ensures.value in
    c.in_ok-push_other.ensures
    ∙ ap (λ xs. xs ++ cond c.index.result.now [] (n ∷ [])) c.numbers.invariant
    ∙ ap (λ t. (first ++ others) ++ cond t [] (n ∷ [])) marked
    ∙ append_assoc first others (cond test [] (n ∷ []))
    ∙ ap (λ xs. first ++ (others ++ xs)) (unless test n)
    ∙ ap (λ xs. first ++ xs) (sym (filter_next (λ (k : ℕ). not (list_any (λ (m : ℕ). eqb m k) first)) n))
