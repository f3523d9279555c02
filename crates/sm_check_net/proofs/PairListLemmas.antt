-- Which pairs lists have that are put together.
use Rattle.std.proofs.Common.{◌≡◌, ℕ, zero, suc, ◌<◌, ◌⊎◌, inl, inr, arith, refl, sym, ◌∙◌, subst, Bool, true, false, List, [], ◌∷◌, ◌++◌, length, get_or, eqb-true, eq-eqb}
use Rattle.std.specs.Prelude.{◌==◌, ◌&&◌}
use Rattle.std.specs.List.{flat_map}
use Rattle.std.proofs.lemmas.Bool.{false≢true, and_from, or_left, or_right}
use Rattle.std.proofs.lemmas.List.Folds.{list_any-append}
use Rattle.sm_lists.proofs.Counting.{eq_or_ne}
use Rattle.sm_theory.proofs.Net.Tests.{and_parts, or_parts}
use Rattle.sm_check_net.specs.Pairs.{has_pair}
use Rattle.sm_check_net.specs.Residual.{pair_if, joined}

-- one pair, where a test holds
pub has_pair-pair_if : (b : Bool) (x y i j : ℕ) → b ≡ true → x ≡ i → y ≡ j → has_pair (pair_if b x y) i j ≡ true
has_pair-pair_if true x y i j h a b = or_left _ false (and_from _ _ (eq-eqb x i a) (eq-eqb y j b))
has_pair-pair_if false x y i j h a b = absurd (false≢true h)

-- such a list has no other pair, and this one only where the test holds
pub in_pair_if : (b : Bool) (x y i j : ℕ) → has_pair (pair_if b x y) i j ≡ true → (b ≡ true) × (x ≡ i) × (y ≡ j)
in_pair_if true x y i j h = go (or_parts (x == i && y == j) false h)
  where
    go : ((x == i && y == j) ≡ true) ⊎ (false ≡ true) → (true ≡ true) × (x ≡ i) × (y ≡ j)
    go (inl both) = (refl, eqb-true x i (and_parts _ _ both).0, eqb-true y j (and_parts _ _ both).1)
    go (inr bad) = absurd (false≢true bad)
in_pair_if false x y i j h = absurd (false≢true h)

-- two lists
pub in_either : (xs ys : List (ℕ × ℕ)) (i j : ℕ) → has_pair (xs ++ ys) i j ≡ true → (has_pair xs i j ≡ true) ⊎ (has_pair ys i j ≡ true)
in_either xs ys i j h = or_parts _ _ (sym (list_any-append (λ (x : ℕ × ℕ). x.0 == i && x.1 == j) xs ys) ∙ h)

-- the first list's pairs are among those of both
pub has_pair-append_left : (xs ys : List (ℕ × ℕ)) (i j : ℕ) → has_pair xs i j ≡ true → has_pair (xs ++ ys) i j ≡ true
has_pair-append_left xs ys i j h = list_any-append (λ (x : ℕ × ℕ). x.0 == i && x.1 == j) xs ys ∙ or_left _ _ h

-- the second list's pairs are so too
pub has_pair-append_right : (xs ys : List (ℕ × ℕ)) (i j : ℕ) → has_pair ys i j ≡ true → has_pair (xs ++ ys) i j ≡ true
has_pair-append_right xs ys i j h = list_any-append (λ (x : ℕ × ℕ). x.0 == i && x.1 == j) xs ys ∙ or_right _ _ h

-- the lists of the first n things
pub record IsInJoined (f : ℕ → List (ℕ × ℕ)) (n i j : ℕ) : Type 0 where
  pub at : ℕ
  pub below : at < n
  pub has : has_pair (f at) i j ≡ true

-- a pair of these is one of some list among them
pub in_joined : (f : ℕ → List (ℕ × ℕ)) (n i j : ℕ) → has_pair (joined f n) i j ≡ true → IsInJoined f n i j
in_joined f zero i j h = absurd (false≢true h)
in_joined f (suc n) i j h = elim (in_either (joined f n) (f n) i j h) [
  | inl before ↦ let w = in_joined f n i j before in record { at = w.at; below = omega (arith, w.below); has = w.has }
  | inr here ↦ record { at = n; below = omega arith; has = here }
]

-- the pairs of each of them are there
pub has_pair-joined : (f : ℕ → List (ℕ × ℕ)) (n k i j : ℕ) → k < n → has_pair (f k) i j ≡ true → has_pair (joined f n) i j ≡ true
has_pair-joined f zero k i j less h = absurd (omega arith)
has_pair-joined f (suc n) k i j less h = elim (eq_or_ne k n) [
  | inl e ↦ has_pair-append_right (joined f n) (f n) i j (subst (λ m. has_pair (f m) i j ≡ true) e h)
  | inr ne ↦ has_pair-append_left (joined f n) (f n) i j (has_pair-joined f n k i j (omega arith) h)
]

-- the lists of the things of a list
pub record IsInFlat {X : Type 0} (f : X → List (ℕ × ℕ)) (xs : List X) (d : X) (i j : ℕ) : Type 0 where
  pub at : ℕ
  pub below : at < length xs
  pub has : has_pair (f (get_or xs at d)) i j ≡ true

-- a pair of these is one of some thing's list
pub in_flat : {X : Type 0} (f : X → List (ℕ × ℕ)) (xs : List X) (d : X) (i j : ℕ) → has_pair (flat_map f xs) i j ≡ true → IsInFlat f xs d i j
in_flat f [] d i j h = absurd (false≢true h)
in_flat f (x ∷ xs) d i j h = elim (in_either (f x) (flat_map f xs) i j h) [
  | inl here ↦ record { at = 0; below = omega arith; has = here }
  | inr behind ↦ let w = in_flat f xs d i j behind in record { at = suc w.at; below = omega (arith, w.below); has = w.has }
]

-- the pairs of each thing's list are there
pub has_pair-flat_map : {X : Type 0} (f : X → List (ℕ × ℕ)) (xs : List X) (d : X) (k i j : ℕ) → k < length xs → has_pair (f (get_or xs k d)) i j ≡ true → has_pair (flat_map f xs) i j ≡ true
has_pair-flat_map f [] d k i j less h = absurd (omega arith)
has_pair-flat_map f (x ∷ xs) d zero i j less h = has_pair-append_left (f x) (flat_map f xs) i j h
has_pair-flat_map f (x ∷ xs) d (suc k) i j less h = has_pair-append_right (f x) (flat_map f xs) i j (has_pair-flat_map f xs d k i j (omega arith) h)
