-- What stands at a place among numbers.
use Rattle.std.proofs.Common.{◌≡◌, ℕ, ◌+◌, ◌-◌, ◌<◌, ◌≤◌, inl, inr, arith, cond, nat_lt, nat_le, List, length, take, drop, slice_index, slice_index_or, count_by}
use Rattle.std.proofs.lemmas.Bool.{ltb-true, leb-true, lt-ltb, le-leb}
use Rattle.std.proofs.lemmas.List.{length-take, length-drop, get_or-take, get_or-drop, get_or_default}
use Rattle.std.proofs.lemmas.List.Sums.{sum_by-take-drop, count_by-le-length}
use Rattle.std.proofs.lemmas.List.Sorted.{sum_by-IsPermutation, length_permutation}
use Rattle.std.specs.List.Sorted.{IsNonDecreasing}
use Rattle.sm_lists.proofs.Counting.{less_same_more}
use Rattle.sm_theory.specs.Medians.{middle, IsAtPlace}
use Rattle.sm_theory.specs.LawsMedians.{OneAtPlace, PlacedInOrder}
use Rattle.sm_theory.proofs.Medians.Counts.{count_more, count_none, count_all}

-- the middle of some things is a place among them
pub middle_within : (n : ℕ) → 0 < n → (0 < middle n) × (middle n ≤ n)
middle_within n h = (omega arith, omega arith)

-- of two numbers at one place none is less
not_less : (numbers : List ℕ) (place x y : ℕ) → IsAtPlace numbers place x → IsAtPlace numbers place y → x < y → ⊥
not_less numbers place x y a b less = omega (
  arith,
  a.enough,
  b.fewer,
  count_more (λ _. Unit {0}) (λ z. nat_le z x) (λ z. nat_lt z y) numbers (λ _ _ _. tt) (λ z _ e. lt-ltb z y (omega (arith, leb-true z x e))),
)

-- there is one number at a place
pub one_at_place : OneAtPlace
one_at_place numbers place x y a b = elim (less_same_more x y) [
  | inl h ↦ absurd (not_less numbers place x y a b h)
  | inr d ↦ elim d [ inl h ↦ h | inr h ↦ absurd (not_less numbers place y x b a h) ]
]

-- in a rising list the item at a place is at this place
pub placed_there : (xs : List ℕ) (place : ℕ) → IsNonDecreasing xs → 0 < place → place ≤ length xs → IsAtPlace xs place (slice_index xs (place - 1))
placed_there xs place rises some within = record { fewer = fewer; enough = enough }
  where
    y : ℕ
    y = slice_index xs (place - 1)

    at_least : (k d : ℕ) → k < length (drop (place - 1) xs) → y ≤ slice_index_or (drop (place - 1) xs) k d
    at_least k d h =
        let long = length-drop (place - 1) xs in
        let up : slice_index_or xs (place - 1) 0 ≤ slice_index_or xs (place - 1 + k) 0 = rises (place - 1) (place - 1 + k) 0 (omega arith) (omega arith) in
        omega (arith, up, get_or-drop (place - 1) xs k d, get_or_default xs (place - 1 + k) 0 d (omega arith))

    fewer : count_by (λ z. nat_lt z y) xs < place
    fewer = omega (
      arith,
      sum_by-take-drop (λ z. cond (nat_lt z y) 1 0) xs (place - 1),
      count_none (λ z. y ≤ z) (λ z. nat_lt z y) (drop (place - 1) xs) at_least (λ z le e. omega (arith, ltb-true z y e)),
      count_by-le-length (λ z. nat_lt z y) (take (place - 1) xs),
      length-take (place - 1) xs,
    )

    at_most : (k d : ℕ) → k < length (take place xs) → slice_index_or (take place xs) k d ≤ y
    at_most k d h =
        let long = length-take place xs in
        let up : slice_index_or xs k 0 ≤ slice_index_or xs (place - 1) 0 = rises k (place - 1) 0 (omega arith) (omega arith) in
        omega (arith, up, get_or-take place xs k d (omega arith), get_or_default xs k 0 d (omega arith))

    enough : place ≤ count_by (λ z. nat_le z y) xs
    enough = omega (
      arith,
      sum_by-take-drop (λ z. cond (nat_le z y) 1 0) xs place,
      count_all (λ z. z ≤ y) (λ z. nat_le z y) (take place xs) at_most (λ z le. le-leb z y le),
      length-take place xs,
    )

-- what stands at a place is what a rising arrangement of the numbers has there
pub placed_in_order : PlacedInOrder
placed_in_order numbers xs place x same rises some within = (
  (λ a. one_at_place numbers place (slice_index xs (place - 1)) x here a),
  (λ e. rw e at here),
)
  where
    long : length xs ≡ length numbers
    long = length_permutation numbers xs same

    there : IsAtPlace xs place (slice_index xs (place - 1))
    there = placed_there xs place rises some (omega (arith, long))

    here : IsAtPlace numbers place (slice_index xs (place - 1))
    here = record {
      fewer = omega (arith, there.fewer, sum_by-IsPermutation (λ z. cond (nat_lt z (slice_index xs (place - 1))) 1 0) numbers xs same);
      enough = omega (arith, there.enough, sum_by-IsPermutation (λ z. cond (nat_le z (slice_index xs (place - 1))) 1 0) numbers xs same);
    }
