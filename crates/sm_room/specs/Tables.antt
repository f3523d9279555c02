-- Tables of roommates: for each person some of those whom it finds acceptable, in the order of its list (Irving 1985).
use Rattle.std.specs.Prelude.{◌≡◌, ℕ, ◌-◌, ◌<◌, ◌≤◌, ◌⊎◌, List, length}
use Rattle.sm_lists.specs.Rows.{row, entry, place_of}
use Rattle.sm_theory.specs.Rooms.{IsAcceptable}
use Rattle.sm_theory.specs.Partitions.{successor_in, IsStablePartition}
use Rattle.sm_room.specs.Bounds.{IsLeft}

-- y is on x's list in the table
abbrev pub IsIn : List (List ℕ) → ℕ → ℕ → Type 0
IsIn table x y = place_of table x y < length (row table x)

-- y is the first on x's list in the table
pub record StandsFirst (table : List (List ℕ)) (x y : ℕ) : Type 0 where
  pub some : 0 < length (row table x)
  pub is : entry table x 0 ≡ y

-- y is the last on x's list in the table
pub record StandsLast (table : List (List ℕ)) (x y : ℕ) : Type 0 where
  pub some : 0 < length (row table x)
  pub is : entry table x (length (row table x) - 1) ≡ y

-- x's list in the table isn't empty, and x prefers the last on it to y
pub record PrefersLast (rows table : List (List ℕ)) (x y : ℕ) : Type 0 where
  pub some : 0 < length (row table x)
  pub better : place_of rows x (entry table x (length (row table x) - 1)) < place_of rows x y

-- acceptable pairs alone, each list in the order of the instance, and of each pair both persons list the other
pub record IsTable (rows table : List (List ℕ)) : Type 0 where
  pub one_each : length table ≡ length rows
  pub acceptable : (x i : ℕ) → i < length (row table x) → IsAcceptable rows x (entry table x i)
  pub ordered : (x i j : ℕ) → i < j → j < length (row table x) → place_of rows x (entry table x i) < place_of rows x (entry table x j)
  pub symmetric : (x y : ℕ) → IsIn table x y → IsIn table y x

-- y is first on x's list exactly when x is last on y's, and of each missing acceptable pair one of the two prefers its last
-- to the other
pub record IsGood (rows table : List (List ℕ)) : Type 0 where
  pub whole : IsTable rows table
  pub first_last : (x y : ℕ) → StandsFirst table x y → StandsLast table y x
  pub last_first : (x y : ℕ) → StandsLast table x y → StandsFirst table y x
  pub missing : (x y : ℕ) → IsAcceptable rows x y → ¬ IsIn table x y → PrefersLast rows table x y ⊎ PrefersLast rows table y x

-- the table lists, in order, who is left behind bounds
pub record ListsLeft (rows : List (List ℕ)) (b : ℕ → ℕ) (table : List (List ℕ)) : Type 0 where
  pub one_each : length table ≡ length rows
  pub left : (x i : ℕ) → i < length (row table x) → IsLeft rows b x (entry table x i)
  pub all : (x y : ℕ) → IsLeft rows b x y → IsIn table x y
  pub ordered : (x i j : ℕ) → i < j → j < length (row table x) → place_of rows x (entry table x i) < place_of rows x (entry table x j)

-- the bound of x is the place of the last on its list in the table, or its own length where that is empty
pub record IsBound (rows table : List (List ℕ)) (x bound : ℕ) : Type 0 where
  pub empty : length (row table x) ≡ 0 → bound ≡ length (row rows x)
  pub last : 0 < length (row table x) → bound ≡ place_of rows x (entry table x (length (row table x) - 1))

-- the bounds of a table
pub record AreBoundsOf (rows table : List (List ℕ)) (b : ℕ → ℕ) : Type 0 where
  pub empty : (x : ℕ) → length (row table x) ≡ 0 → b x ≡ length (row rows x)
  pub last : (x : ℕ) → 0 < length (row table x) → b x ≡ place_of rows x (entry table x (length (row table x) - 1))

-- each person goes to the first on its list in the table, and to itself where that is empty
abbrev pub GoesFirst : List (List ℕ) → List ℕ → ℕ → Type 0
GoesFirst table next x = StandsFirst table x (successor_in next x) ⊎ ((length (row table x) ≡ 0) × (successor_in next x ≡ x))

-- a good table with no list of three or more is a stable partition (Irving 1985; Tan 1991)
abbrev pub EndIsStable : Type 0
EndIsStable = (rows table : List (List ℕ)) (next : List ℕ) → IsGood rows table → ((x : ℕ) → length (row table x) ≤ 2)
    → length next ≡ length rows → ((x : ℕ) → x < length rows → GoesFirst table next x) → IsStablePartition rows next
