-- How it is decided that no exposed rotation has a proposer below a bound.
use Rattle.std.specs.Prelude.{◌≡◌, ℕ, ◌<◌, ◌≤◌, Bool, true, false, List, length, slice_index_or, Contains}
use Rattle.sm_market.specs.Lists.{Lists}
use Rattle.sm_market.specs.Matching.{Places}
use Rattle.sm_theory.specs.Rotations.{IsExposed, proposer_at}
use Rattle.sm_successors.specs.Search.{IsSearchAt}

-- no exposed rotation that has p has a proposer below the bound
pub record IsSafe (l : Lists) (m : Places) (bound p : ℕ) : Type 0 where
  pub none : (other : List (ℕ × ℕ)) → IsExposed l m other → (i : ℕ) → i < length other → proposer_at other i ≡ p
      → (j : ℕ) → j < length other → bound ≤ proposer_at other j

-- how far the successor of each proposer was looked for; from whom the search begins, who changed since one was looked for; whom it
-- passes over; and a number below which it passes over all
pub record Searched : Type 0 where
  pub from : List ℕ
  pub starts : List ℕ
  pub passed : List Bool
  pub quiet : ℕ

-- p is passed over
abbrev pub IsPassed : List Bool → ℕ → Type 0
IsPassed passed p = slice_index_or passed p false ≡ true

-- a rotation has one of these proposers
pub record HasOneOf (rotation : List (ℕ × ℕ)) (items : List ℕ) : Type 0 where
  pub pair : ℕ
  pub pair_in : pair < length rotation
  pub among : Contains items (proposer_at rotation pair)

-- what was searched serves at a matching: an exposed rotation with a proposer that is passed over has one from whom the search begins
pub record IsSearchOf (l : Lists) (m : Places) (s : Searched) : Type 0 where
  pub places : IsSearchAt l m s.from
  pub quiet : (other : List (ℕ × ℕ)) → IsExposed l m other → (i : ℕ) → i < length other → proposer_at other i < s.quiet → HasOneOf other s.starts
  pub passed : (other : List (ℕ × ℕ)) → IsExposed l m other → (i : ℕ) → i < length other → IsPassed s.passed (proposer_at other i) → HasOneOf other s.starts
