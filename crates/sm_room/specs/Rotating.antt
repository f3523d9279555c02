-- One step of phase two: a walk from person to next person, and the cuts round the cycle that it closes.
use Rattle.std.specs.Prelude.{◌≡◌, ◌≢◌, ℕ, suc, ◌+◌, ◌-◌, ◌<◌, ◌≤◌, ◌⊎◌, ◌++◌, ◌∷◌, [], List, length, slice_index}
use Rattle.std.specs.List.{sum_by}
use Rattle.sm_lists.specs.Rows.{row, entry, place_of}
use Rattle.sm_theory.specs.Partitions.{successor_in}
use Rattle.sm_room.specs.Bounds.{IsLeft, IsFirst, IsLast, IsSecond, IsNextPerson, IsGoodAt, bound_in}

-- the first place from some place on whose entry is left
pub record IsLeftFrom (rows : List (List ℕ)) (bounds : List ℕ) (x from i : ℕ) : Type 0 where
  pub behind : from ≤ i
  pub on_list : i < length (row rows x)
  pub left : IsLeft rows (bound_in bounds) x (entry rows x i)
  pub least : (y : ℕ) → IsLeft rows (bound_in bounds) x y → from ≤ place_of rows x y → i ≤ place_of rows x y

-- the place of the second that is left
pub record IsSecondPlace (rows : List (List ℕ)) (bounds : List ℕ) (x i : ℕ) : Type 0 where
  pub on_list : i < length (row rows x)
  pub at : place_of rows x (entry rows x i) ≡ i
  pub second : IsSecond rows (bound_in bounds) x (entry rows x i)

-- two or more are left
pub record HasTwoLeft (rows : List (List ℕ)) (bounds : List ℕ) (x : ℕ) : Type 0 where
  pub next : ℕ
  pub second : IsSecond rows (bound_in bounds) x next

-- three or more are left
pub record HasThreeLeft (rows : List (List ℕ)) (bounds : List ℕ) (x : ℕ) : Type 0 where
  pub next : ℕ
  pub second : IsSecond rows (bound_in bounds) x next
  pub more : place_of rows x next < slice_index bounds x

-- each that is left is the first or the last
pub record IsShort (rows : List (List ℕ)) (bounds : List ℕ) (x : ℕ) : Type 0 where
  pub each : (y : ℕ) → IsLeft rows (bound_in bounds) x y → IsFirst rows (bound_in bounds) x y ⊎ IsLast rows (bound_in bounds) x y

-- the walk so far, with the person that comes next
abbrev pub met : List ℕ → ℕ → ℕ → ℕ
met path x i = slice_index (path ++ x ∷ []) i

-- what is kept of a walk: the persons on its path, a place for each, and a mark for each person, which is one more than its
-- index on the path, or 0
pub record IsPathKept (rows : List (List ℕ)) (path places marks : List ℕ) : Type 0 where
  pub place_each : length places ≡ length path
  pub inside : (i : ℕ) → i < length path → slice_index path i < length rows
  pub mark_each : length marks ≡ length rows
  pub index : (i : ℕ) → i < length path → slice_index marks (slice_index path i) ≡ i + 1
  pub marked : (z : ℕ) → slice_index marks z ≢ 0 → (slice_index marks z ≤ length path) × (slice_index path (slice_index marks z - 1) ≡ z)

-- a walk over the path to x: whoever of it has two left has the one behind it next, and stands with the place of its second
pub record IsCycleWalk (rows : List (List ℕ)) (bounds path places : List ℕ) (x : ℕ) : Type 0 where
  pub steps : (i : ℕ) → i < length path → HasTwoLeft rows bounds (met path x i) → IsNextPerson rows (bound_in bounds) (met path x i) (met path x (suc i))
  pub seconds : (i : ℕ) → i < length path → HasTwoLeft rows bounds (met path x i) → IsSecondPlace rows bounds (slice_index path i) (slice_index places i)
  pub here : x < length rows

-- z stands on the path, from one index on and before another
pub record IsOnPath (path : List ℕ) (from upto z : ℕ) : Type 0 where
  pub at : ℕ
  pub late : from ≤ at
  pub early : at < upto
  pub is : slice_index path at ≡ z

-- the marks of those on the path from one index on and before another are 0, and all others are as before
pub record AreUnmarked (path : List ℕ) (from upto : ℕ) (before now : List ℕ) : Type 0 where
  pub one_each : length now ≡ length before
  pub gone : (i : ℕ) → from ≤ i → i < upto → slice_index now (slice_index path i) ≡ 0
  pub other : (z : ℕ) → (slice_index now z ≡ slice_index before z) ⊎ (IsOnPath path from upto z × (slice_index now z ≡ 0))

-- nobody before the first of these places is left on a list, and the second that is left isn't before the second of them
pub record AreHints (rows : List (List ℕ)) (bounds firsts seconds : List ℕ) : Type 0 where
  pub first_each : length firsts ≡ length rows
  pub second_each : length seconds ≡ length rows
  pub first : (x y : ℕ) → IsLeft rows (bound_in bounds) x y → slice_index firsts x ≤ place_of rows x y
  pub second : (x y : ℕ) → IsSecond rows (bound_in bounds) x y → slice_index seconds x ≤ place_of rows x y

-- the walk has come back to its index `one`, and whoever is on the cycle has two left
pub record IsClosedWalk (rows : List (List ℕ)) (bounds path places : List ℕ) (one : ℕ) : Type 0 where
  pub order : one < length path
  pub goes : (i : ℕ) → one ≤ i → i < length path → HasTwoLeft rows bounds (slice_index path i)
  pub steps : (i : ℕ) → suc i < length path → HasTwoLeft rows bounds (slice_index path i) → IsNextPerson rows (bound_in bounds) (slice_index path i) (slice_index path (suc i))
  pub closes : IsNextPerson rows (bound_in bounds) (slice_index path (length path - 1)) (slice_index path one)
  pub place_each : length places ≡ length path
  pub seconds : (i : ℕ) → i < length path → HasTwoLeft rows bounds (slice_index path i) → IsSecondPlace rows bounds (slice_index path i) (slice_index places i)
  pub inside : (i : ℕ) → i < length path → slice_index path i < length rows
  pub distinct : (i j : ℕ) → i < j → j < length path → slice_index path i ≢ slice_index path j

-- the person at index `one` of the path has two left, and the last of them is on the path from there on: where that is a
-- cycle, it is a party by itself, and nobody else is left on its lists
pub record IsOwnParty (rows : List (List ℕ)) (bounds path : List ℕ) (one : ℕ) : Type 0 where
  pub next : ℕ
  pub second : IsSecond rows (bound_in bounds) (slice_index path one) next
  pub at : place_of rows (slice_index path one) next ≡ slice_index bounds (slice_index path one)
  pub here : IsOnPath path one (length path) next

-- the bound of y was set at the person at some index of the path
pub record IsCutBy (rows : List (List ℕ)) (bounds path : List ℕ) (one upto : ℕ) (now : List ℕ) (y : ℕ) : Type 0 where
  pub at : ℕ
  pub late : one ≤ at
  pub early : at < upto
  pub second : IsSecond rows (bound_in bounds) (slice_index path at) y
  pub bound : slice_index now y ≡ place_of rows y (slice_index path at)

-- the bounds of the seconds of the persons from `one` on are set at these
pub record AreSecondsCut (rows : List (List ℕ)) (bounds path : List ℕ) (one upto : ℕ) (now : List ℕ) : Type 0 where
  pub one_each : length now ≡ length bounds
  pub cut : (i y : ℕ) → one ≤ i → i < upto → IsSecond rows (bound_in bounds) (slice_index path i) y → slice_index now y ≡ place_of rows y (slice_index path i)
  pub other : (y : ℕ) → IsCutBy rows bounds path one upto now y ⊎ (slice_index now y ≡ slice_index bounds y)

-- a good table is good again, and has lost pairs
pub record IsRotated (rows : List (List ℕ)) (before after : List ℕ) : Type 0 where
  pub one_each : length after ≡ length before
  pub good : IsGoodAt rows (bound_in after)
  pub lower : (x : ℕ) → slice_index after x ≤ slice_index before x
  pub falls : sum_by (λ i. i) after < sum_by (λ i. i) before

-- each goes to the first that is left on its list, or to itself
abbrev pub GoesTo : List (List ℕ) → (ℕ → ℕ) → List ℕ → ℕ → Type 0
GoesTo rows b next x = IsFirst rows b x (successor_in next x) ⊎ ((successor_in next x ≡ x) × ((y : ℕ) → ¬ IsLeft rows b x y))
