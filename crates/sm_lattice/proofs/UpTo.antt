-- How many numbers are up to a number.
use Rattle.std.proofs.Common.{◌≡◌, ℕ, ◌+◌, ◌<◌, ◌≤◌, ◌==◌, inl, inr, arith, refl, sym, ap, ◌∙◌, subst, cond, nat_lt, nat_le, nat_eq, List, [], ◌∷◌, length, slice_index_or, set, All, count_by, lt-ltb, le-ltb}
use Rattle.std.proofs.lemmas.Bool.{ltb-true, leb-true, le-leb, lt-leb, eq-eqb, ne_eqb}
use Rattle.std.proofs.lemmas.List.{length-set, get_or-set_same, get_or-set_other}
use Rattle.std.proofs.lemmas.List.Elements.{All-cons}
use Rattle.sm_lists.proofs.Counting.{less_same_more, eq_or_ne}
use Rattle.sm_theory.specs.Medians.{IsAtPlace}
use Rattle.sm_theory.proofs.Medians.Counts.{one_if, count_cons, count_more, count_all}
use Rattle.sm_lattice.specs.Counts.{AreCountsOf}

-- those below the next number are those below this one and those that are this one
pub below_next : (numbers : List ℕ) (x : ℕ) → count_by (λ y. nat_lt y (x + 1)) numbers ≡ count_by (λ y. nat_lt y x) numbers + count_by (λ y. y == x) numbers
below_next [] x = refl
below_next (y ∷ numbers) x =
    let here : one_if (nat_lt y (x + 1)) ≡ one_if (nat_lt y x) + one_if (y == x) = elim (less_same_more y x) [
      | inl less ↦ rw (lt-ltb y (x + 1) (omega arith), lt-ltb y x less, ne_eqb y x (λ e. omega arith)) refl
      | inr d ↦ elim d [
        | inl same ↦ rw (same, lt-ltb x (x + 1) (omega arith), le-ltb x x (omega arith), eq-eqb x x refl) refl
        | inr more ↦ rw (le-ltb y (x + 1) (omega arith), le-ltb y x (omega arith), ne_eqb y x (λ e. omega arith)) refl
      ]
    ] in
    omega (arith, here, below_next numbers x, count_cons (λ y. nat_lt y (x + 1)) y numbers, count_cons (λ y. nat_lt y x) y numbers, count_cons (λ y. y == x) y numbers)

-- none is below 0
pub below_none : (numbers : List ℕ) → count_by (λ y. nat_lt y 0) numbers ≡ 0
below_none [] = refl
below_none (y ∷ numbers) = omega (arith, below_none numbers, count_cons (λ y. nat_lt y 0) y numbers, ap one_if (le-ltb y 0 (omega arith)))

-- x is at the place where fewer are below it, and enough below the next number
pub at_place : (numbers : List ℕ) (place x : ℕ) → count_by (λ y. nat_lt y x) numbers < place → place ≤ count_by (λ y. nat_lt y (x + 1)) numbers → IsAtPlace numbers place x
at_place numbers place x fewer enough = record {
  fewer = fewer;
  enough = omega (arith, enough, count_more (λ _. Unit {0}) (λ y. nat_lt y (x + 1)) (λ y. nat_le y x) numbers (λ _ _ _. tt) (λ y _ e. le-leb y x (omega (arith, ltb-true y (x + 1) e))));
}

-- all are below the number of the counts
pub below_all : (numbers counts : List ℕ) → AreCountsOf numbers counts → length numbers ≤ count_by (λ y. nat_lt y (length counts)) numbers
below_all numbers counts are = count_all (λ x. x < length counts) (λ y. nat_lt y (length counts)) numbers are.in_range (λ x less. lt-ltb x (length counts) less)

-- one number more
pub counts_more : (numbers counts : List ℕ) (x n : ℕ) → x < length counts → n ≡ slice_index_or counts x 0 + 1 → AreCountsOf numbers counts → AreCountsOf (x ∷ numbers) (set counts x n)
counts_more numbers counts x n inside is are = record {
  in_range = All-cons (λ y. y < length (set counts x n)) x numbers (omega (arith, inside, length-set counts x n)) (λ k d g. omega (arith, are.in_range k d g, length-set counts x n));
  counted = λ y g. elim (eq_or_ne y x) [
    | inl same ↦ subst (λ y. slice_index_or (set counts x n) y 0 ≡ count_by (λ z. z == y) (x ∷ numbers)) (sym same) here
    | inr other ↦ get_or-set_other counts x y n 0 other ∙ omega (arith, are.counted y (omega (arith, g, length-set counts x n)), count_cons (λ z. z == y) x numbers, ap one_if (ne_eqb x y (λ e. other (sym e))))
  ];
}
  where
    here : slice_index_or (set counts x n) x 0 ≡ count_by (λ z. z == x) (x ∷ numbers)
    here = get_or-set_same counts x n 0 inside ∙ is ∙ omega (arith, are.counted x inside, count_cons (λ z. z == x) x numbers, ap one_if (eq-eqb x x refl))
