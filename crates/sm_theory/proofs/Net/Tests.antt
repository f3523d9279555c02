-- Tests that come out true: conjunctions, disjunctions, and tests of some element of a list.
use Rattle.std.proofs.Common.{◌≡◌, ◌≢◌, ℕ, suc, ◌<◌, ◌≤◌, ◌⊎◌, inl, inr, arith, refl, sym, ◌∙◌, Bool, true, false, not, ◌&&◌, ◌||◌, List, [], ◌∷◌, length, get_or, eqb, ne_eqb}
use Rattle.std.specs.List.{list_any, position_or_len}
use Rattle.std.proofs.lemmas.Bool.{false≢true, not_from_false}
use Rattle.std.proofs.lemmas.List.Sums.{passes_at_first, fails_before_first}
use Rattle.sm_lists.proofs.Counting.{Decided, lt_or_le, First, search_below}

-- where two tests pass together, each passes
pub and_parts : (a b : Bool) → (a && b) ≡ true → (a ≡ true) × (b ≡ true)
and_parts true b e = (refl, e)
and_parts false b e = absurd (false≢true e)

-- where one of two passes, it is the first or the second
pub or_parts : (a b : Bool) → (a || b) ≡ true → (a ≡ true) ⊎ (b ≡ true)
or_parts true b e = inl refl
or_parts false b e = inr e

-- where a test's opposite passes, it fails
pub not_parts : (a : Bool) → not a ≡ true → a ≡ false
not_parts true e = absurd (false≢true e)
not_parts false e = refl

-- different numbers pass the test of being different
pub not_same : (i j : ℕ) → i ≢ j → not (eqb i j) ≡ true
not_same i j h = not_from_false (eqb i j) (ne_eqb i j h)

-- an element that passes
pub record Passes {X : Type 0} (test : X → Bool) (xs : List X) (d : X) : Type 0 where
  pub at : ℕ
  pub below : at < length xs
  pub holds : test (get_or xs at d) ≡ true

-- where some item of a list passes, there is the place of one
pub some_passes : {X : Type 0} (test : X → Bool) (xs : List X) (d : X) → list_any test xs ≡ true → Passes test xs d
some_passes test [] d e = absurd (false≢true e)
some_passes test (x ∷ xs) d e = go (or_parts (test x) (list_any test xs) e) (some_passes test xs d)
  where
    go : (test x ≡ true) ⊎ (list_any test xs ≡ true) → (list_any test xs ≡ true → Passes test xs d) → Passes test (x ∷ xs) d
    go (inl y) _ = record { at = 0; below = omega arith; holds = y }
    go (inr y) rest = let w = rest y in record { at = suc w.at; below = omega (arith, w.below); holds = w.holds }

-- what passes stands at the first place that does, or behind it
pub first_before : {X : Type 0} (test : X → Bool) (xs : List X) (k : ℕ) (d : X) → test (get_or xs k d) ≡ true → position_or_len test xs ≤ k
first_before test xs k d e = elim (lt_or_le k (position_or_len test xs)) [
  | inl h ↦ absurd (false≢true (sym (fails_before_first test xs k d h) ∙ e))
  | inr h ↦ h
]

-- the item at the first place that passes passes
pub first_passes : {X : Type 0} (test : X → Bool) (xs : List X) (d : X) → position_or_len test xs < length xs → test (get_or xs (position_or_len test xs) d) ≡ true
first_passes test xs d h = passes_at_first test xs d h

-- where some number below n is one, there is a first
pub some_first : (n : ℕ) (P : ℕ → Type 0) → ((i : ℕ) → i < n → Decided (P i)) → (i : ℕ) → i < n → P i → First n P
some_first n P d i h p = elim (search_below n P d) [ inl w ↦ w | inr none ↦ absurd (none i h p) ]
