-- Listings: what is in question in a rising order, from a cursor on and cut at a limit. What is compared is a vector of
-- numbers; `Before` compares two, and `IsOne` says which are in question.
use Rattle.std.specs.Prelude.{◌≡◌, ℕ, ◌+◌, ◌<◌, ◌≤◌, ◌⊎◌, ◌↔◌, Bool, true, false, List, [], ◌∷◌, Option, None, Some, length, slice_index_or}

-- behind a vector, if there is one
abbrev pub IsBehind : (List ℕ → List ℕ → Type 0) → Option (List ℕ) → List ℕ → Type 0
IsBehind Before None v = Unit {0}
IsBehind Before (Some c) v = Before c v

-- the least of those in question that are behind a cursor
pub record IsNextListed (Before : List ℕ → List ℕ → Type 0) (IsOne : List ℕ → Type 0) (cursor : Option (List ℕ)) (v : List ℕ) : Type 0 where
  pub one : IsOne v
  pub behind : IsBehind Before cursor v
  pub least : (w : List ℕ) → IsOne w → IsBehind Before cursor w → (v ≡ w) ⊎ Before v w

-- none of those in question is behind a cursor
abbrev pub IsNoneBehind : (List ℕ → List ℕ → Type 0) → (List ℕ → Type 0) → Option (List ℕ) → Type 0
IsNoneBehind Before IsOne cursor = (v : List ℕ) → IsOne v → IsBehind Before cursor v → ⊥

-- the last vector listed, or else the cursor
abbrev pub end_of : Option (List ℕ) → List (List ℕ) → Option (List ℕ)
end_of cursor [] = cursor
end_of cursor (v ∷ vs) = end_of (Some v) vs

-- a listing of what is in question: the vectors behind the cursor, rising in the given order, as `IsBefore` in an order of
-- the proposers, the first ones of all, at most as many as the limit; and more is said to follow exactly where more follow
pub record IsListing (Before : List ℕ → List ℕ → Type 0) (IsOne : List ℕ → Type 0)
    (cursor : Option (List ℕ)) (limit : ℕ) (out : List (List ℕ)) (more : Bool) : Type 0 where
  pub begins : 0 < length out → IsBehind Before cursor (slice_index_or out 0 [])
  pub rises : (k : ℕ) → k + 1 < length out → Before (slice_index_or out k []) (slice_index_or out (k + 1) [])
  pub sound : (k : ℕ) → k < length out → IsOne (slice_index_or out k [])
  pub whole : (v : List ℕ) → IsOne v → IsBehind Before cursor v
      → ((k : ℕ) × (k < length out) × (slice_index_or out k [] ≡ v)) ⊎ IsBehind Before (end_of cursor out) v
  pub limited : length out ≤ limit
  pub ended : more ≡ false ↔ IsNoneBehind Before IsOne (end_of cursor out)
  pub cut : more ≡ true → length out ≡ limit
