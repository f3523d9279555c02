-- Vectors that come one after another: which ones, in which order, and the cursor behind which they come.
use Rattle.std.specs.Prelude.{◌≡◌, ◌⊎◌, ◌↔◌, ℕ, List, Option, Some}
use Rattle.sm_lists.specs.Orders.{IsBefore}
use Rattle.sm_theory.specs.Listings.{IsNextListed, IsNoneBehind}

-- the same vectors are in question, in the same order
pub record AreSameVectors (order then : List ℕ) (IsOne IsThen : List ℕ → Type 0) : Type 0 where
  pub same_order : then ≡ order
  pub vectors : (v : List ℕ) → IsThen v ↔ IsOne v

-- the next vector behind a cursor was reached
pub record HasStepped (order : List ℕ) (IsOne : List ℕ → Type 0) (cursor reached : Option (List ℕ)) : Type 0 where
  pub vector : List ℕ
  pub at : reached ≡ Some vector
  pub next : IsNextListed (IsBefore order) IsOne cursor vector

-- no vector is behind a cursor
abbrev pub IsLast : List ℕ → (List ℕ → Type 0) → Option (List ℕ) → Type 0
IsLast order IsOne cursor = IsNoneBehind (IsBefore order) IsOne cursor

-- behind each cursor there is a next vector, or there is none
abbrev pub HaveNext : List ℕ → (List ℕ → Type 0) → Type 0
HaveNext order IsOne = (cursor : Option (List ℕ)) → ((v : List ℕ) × IsNextListed (IsBefore order) IsOne cursor v) ⊎ IsNoneBehind (IsBefore order) IsOne cursor
