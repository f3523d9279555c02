-- The steps by which the least set grows. What a step brings in is in all sets that are looked for, and it tells of a rotation
-- that would change a level before a bar.
use Rattle.std.specs.Prelude.{◌≡◌, ◌↔◌, ◌≢◌, ℕ, ◌<◌, ◌≤◌, Bool, true, false, List, [], length, slice_index, slice_index_or, Contains, Vec, map}
use Rattle.std.specs.declared.alloc.Global.{Global}
use Rattle.sm_market.specs.Lists.{row}
use Rattle.sm_theory.specs.ClosedSets.{IsMember}
use Rattle.sm_board.specs.Board.{Board, stay, level, IsClosedIn, IsInside, Gates, IsOpen, Fits}
use Rattle.sm_board.specs.Courses.{Held}

-- what is new is in each set that is looked for and has all that was held
abbrev pub IsInAll : (List Bool → Type 0) → (before after : List Bool) → Type 0
IsInAll IsOne before after = (D : List Bool) → IsOne D → IsInside before D → IsInside after D

-- a closed set that has this rotation
pub record HasRotation (b : Board) (x : ℕ) (D : List Bool) : Type 0 where
  pub closed : IsClosedIn b D
  pub has : IsMember D x

-- a set that fits and gives p at least this level
pub record IsHigh (b : Board) (g : Gates) (p wanted : ℕ) (D : List Bool) : Type 0 where
  pub fits : Fits b g D
  pub reaches : wanted ≤ level b D p

-- no rotation of the log from a place on moves p
abbrev pub IsIdle : Board → List ℕ → (from p : ℕ) → Type 0
IsIdle b log from p = (c : ℕ) → from ≤ c → c < length log → ¬ Contains (row b.movers (slice_index log c)) p

-- those of the first i proposers of a list that are idle have open stays
abbrev pub AreOpened : Board → Gates → Held → (from : ℕ) → List ℕ → ℕ → Type 0
AreOpened b g h from proposers i = (a : ℕ) → a < i → IsIdle b h.log from (slice_index proposers a)
    → IsOpen g (slice_index proposers a) (stay b h.set (slice_index proposers a))

-- all of the first n proposers that are idle have open stays
abbrev pub AreSettled : Board → Gates → Held → (from n : ℕ) → Type 0
AreSettled b g h from n = (p : ℕ) → p < n → IsIdle b h.log from p → IsOpen g p (stay b h.set p)

-- a level is within the bounds as narrowed by the first i forced pairs exactly where it is within the bounds and forced
pub record IsNarrowed (matched : List Bool) (forced : List (ℕ × ℕ)) (i : ℕ) (low high lower upper : List ℕ) : Type 0 where
  pub low_each : length lower ≡ length low
  pub high_each : length upper ≡ length high
  pub within : (p v : ℕ) → p < length matched
      → (slice_index lower p ≤ v) × (v ≤ slice_index upper p) ↔ (slice_index low p ≤ v) × (v ≤ slice_index high p)
      × ((c : ℕ) → c < i → (slice_index_or forced c (0, 0)).0 ≡ p
      → (slice_index_or matched p false ≡ true) × (v ≡ (slice_index_or forced c (0, 0)).1))

-- levels that never fall
abbrev pub NeverFall : List ℕ → Type 0
NeverFall levels = (i j : ℕ) → i < j → j < length levels → slice_index levels i ≤ slice_index levels j

-- the first n of these are lower than this one, and all others aren't
pub record IsDivided (levels : List ℕ) (level n : ℕ) : Type 0 where
  pub few : n ≤ length levels
  pub lower : (a : ℕ) → a < n → slice_index levels a < level
  pub higher : (a : ℕ) → n ≤ a → a < length levels → level ≤ slice_index levels a

-- exactly the stays are open whose levels pass
pub record AreShut (levels : List ℕ) (Passes : ℕ → Type 0) (shut : List Bool) : Type 0 where
  pub one_each : length shut ≡ length levels
  pub opens : (a : ℕ) → a < length levels → (slice_index_or shut a false ≡ false) ↔ Passes (slice_index levels a)

-- rows that are held in vectors
abbrev pub rows_in : List (Vec Bool Global) → List (List Bool)
rows_in vectors = map (λ v. v.items) vectors

-- for each level of each row whether it is shut
pub record AreRowsFor (levels : List (List ℕ)) (shut : List (List Bool)) : Type 0 where
  pub one_each : length shut ≡ length levels
  pub row_each : (p : ℕ) → p < length levels → length (slice_index_or shut p []) ≡ length (row levels p)

-- those stays are open that were, but for those at one of the first i forbidden levels of a matched proposer
pub record AreAvoided (matched : List Bool) (levels : List (List ℕ)) (forbidden : List (ℕ × ℕ)) (i : ℕ) (before after : List (List Bool)) : Type 0 where
  pub rows : AreRowsFor levels after
  pub opens : (p a : ℕ) → p < length levels → a < length (row levels p)
      → (slice_index_or (slice_index_or after p []) a false ≡ false)
      ↔ (slice_index_or (slice_index_or before p []) a false ≡ false)
      × ((c : ℕ) → c < i → (slice_index_or forbidden c (0, 0)).0 ≡ p → slice_index_or matched p false ≡ true
      → slice_index (row levels p) a ≢ (slice_index_or forbidden c (0, 0)).1)
