-- The order of an instance is read back.
use Rattle.std.proofs.Common.{◌≡◌, ℕ, suc, ◌+◌, ◌<◌, eqb, Bool, true, false, not, cond, List, [], ◌∷◌, ◌++◌, length, filter, get_or, append-nil, refl, ap, ◌∙◌, arith}
use Rattle.std.specs.List.{list_any, range_with_len}
use Rattle.std.proofs.lemmas.Bool.Decides.{nat_tests}
use Rattle.std.proofs.lemmas.List.Folds.{list_any_at}
use Rattle.std.proofs.lemmas.List.FromFn.{length-range_with_len, get_or-range_with_len}
use Rattle.sm_lists.specs.EachOnce.{IsEachOnce}
use Rattle.sm_agents.specs.Order.{full_order}

-- a filter that each passes keeps all, and one that none passes keeps nothing
filter_all : (p : ℕ → Bool) (xs : List ℕ) → ((k : ℕ) → k < length xs → p (get_or xs k 0) ≡ true) → filter p xs ≡ xs
filter_all p [] each = refl
filter_all p (x ∷ xs) each = ap (λ t. cond t (x ∷ filter p xs) (filter p xs)) (each 0 (omega arith)) ∙ ap (λ ys. x ∷ ys) (filter_all p xs (λ k below. each (suc k) (omega (arith, below))))

filter_none : (p : ℕ → Bool) (xs : List ℕ) → ((k : ℕ) → k < length xs → p (get_or xs k 0) ≡ false) → filter p xs ≡ []
filter_none p [] each = refl
filter_none p (x ∷ xs) each = ap (λ t. cond t (x ∷ filter p xs) (filter p xs)) (each 0 (omega arith)) ∙ filter_none p xs (λ k below. each (suc k) (omega (arith, below)))

-- where nobody comes first the order is that of the numbers
pub full_order-none : (count : ℕ) → full_order count [] ≡ range_with_len 0 count
full_order-none count = filter_all (λ (n : ℕ). not (list_any (λ (m : ℕ). eqb m n) [])) (range_with_len 0 count) (λ k below. refl)

-- where all come first it is theirs
pub full_order-all : (count : ℕ) (order : List ℕ) → IsEachOnce count order → full_order count order ≡ order
full_order-all count order once = ap (λ xs. order ++ xs) (filter_none (λ (n : ℕ). not (list_any (λ (m : ℕ). eqb m n) order)) (range_with_len 0 count) met) ∙ append-nil order
  where
    met : (k : ℕ) → k < length (range_with_len 0 count) → not (list_any (λ (m : ℕ). eqb m (get_or (range_with_len 0 count) k 0)) order) ≡ false
    met k below =
        let inside : k < count = omega (arith, below, length-range_with_len 0 count) in
        let n = get_or (range_with_len 0 count) k 0 in
        let is : n ≡ k = get_or-range_with_len 0 count k 0 inside ∙ (let z : 0 + k ≡ k = omega arith in z) in
        let w = once.each k inside in
        let found : list_any (λ (m : ℕ). eqb m n) order ≡ true = list_any_at (λ (m : ℕ). eqb m n) order w.0 0 w.1 (let here = w.2 in let e : eqb (get_or order w.0 0) n ≡ true = grind (arith, nat_tests) in e) in
        ap not found
