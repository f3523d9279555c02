-- Stable partitions of roommates: permutations of the persons, whose cycles are the parties.
use Rattle.std.specs.Prelude.{◌≡◌, ◌≢◌, ℕ, zero, suc, ◌+◌, ◌*◌, ◌<◌, ◌≤◌, ◌⊎◌, ◌==◌, if◌then◌else◌, List, Option, None, Some, length, slice_index}
use Rattle.std.specs.List.{position_or_len}
use Rattle.sm_market.specs.Lists.{row, place_of}
use Rattle.sm_theory.specs.Rooms.{IsAcceptable, mate_of}

-- whom a permutation gives x, and to whom it gives x
abbrev pub successor_in : List ℕ → ℕ → ℕ
successor_in next x = slice_index next x

-- whose successor x is
abbrev pub predecessor_in : List ℕ → ℕ → ℕ
predecessor_in next x = position_or_len (λ y. y == x) next

-- the person that stands a number of steps behind x in its party
abbrev pub after : List ℕ → ℕ → ℕ → ℕ
after next x zero = x
after next x (suc k) = successor_in next (after next x k)

-- the place of x's predecessor on its list; who is alone ranks itself last
abbrev pub party_place : List (List ℕ) → List ℕ → ℕ → ℕ
party_place rows next x = let y = predecessor_in next x in if y == x then length (row rows x) else place_of rows x y

-- a stable partition (Tan 1991)
pub record IsStablePartition (rows : List (List ℕ)) (next : List ℕ) : Type 0 where
  pub one_each : length next ≡ length rows
  pub in_range : (x : ℕ) → x < length rows → successor_in next x < length rows
  pub distinct : (x y : ℕ) → x < y → y < length rows → successor_in next x ≢ successor_in next y
  -- who isn't alone finds its successor acceptable, and prefers it where it isn't its predecessor too
  pub acceptable : (x : ℕ) → x < length rows → successor_in next x ≢ x → IsAcceptable rows x (successor_in next x)
  pub prefers : (x : ℕ) → x < length rows → successor_in next x ≢ predecessor_in next x → place_of rows x (successor_in next x) < place_of rows x (predecessor_in next x)
  -- no two acceptable persons prefer each other to their predecessors
  pub unblocked : (x y : ℕ) → IsAcceptable rows x y → place_of rows x y < party_place rows next x → ¬ (place_of rows y x < party_place rows next y)

-- x stands in an odd party of three or more (Tan 1991)
pub record IsInOddParty (rows : List (List ℕ)) (next : List ℕ) (x : ℕ) : Type 0 where
  pub in_range : x < length rows
  pub half : ℕ
  pub three : 0 < half
  pub returns : after next x (2 * half + 1) ≡ x
  pub first : (k : ℕ) → 0 < k → k < 2 * half + 1 → after next x k ≢ x

-- x is the lowest of its odd party
pub record IsLowestOfOdd (rows : List (List ℕ)) (next : List ℕ) (x : ℕ) : Type 0 where
  pub odd : IsInOddParty rows next x
  pub lowest : (k : ℕ) → x ≤ after next x k

-- the persons of each party are paired alternately: each with the next or the one before; who is alone stays so, and the
-- lowest of each odd party is left out
pub record PairsAlternately (rows : List (List ℕ)) (next : List ℕ) (mates : List (Option ℕ)) : Type 0 where
  pub one_each : length mates ≡ length rows
  pub neighbours : (x y : ℕ) → mate_of mates x ≡ Some y → y ≢ x × ((y ≡ successor_in next x) ⊎ (y ≡ predecessor_in next x))
  pub in_turn : (x y : ℕ) → mate_of mates x ≡ Some y → mate_of mates y ≡ Some x
  pub left_out : (x : ℕ) → IsLowestOfOdd rows next x → mate_of mates x ≡ None
  pub others : (x : ℕ) → x < length rows → mate_of mates x ≡ None → (successor_in next x ≡ x) ⊎ IsLowestOfOdd rows next x

-- and each party from its lowest person on: where that one is paired, it is with its successor
pub record PairsFromLowest (rows : List (List ℕ)) (next : List ℕ) (mates : List (Option ℕ)) : Type 0 where
  pub alternately : PairsAlternately rows next mates
  pub lowest_first : (x y : ℕ) → ((k : ℕ) → x ≤ after next x k) → mate_of mates x ≡ Some y → y ≡ successor_in next x
