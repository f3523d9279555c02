-- The entry and the exit of a level along the moves of a proposer, whose levels never fall.
use Rattle.std.specs.Prelude.{◌≡◌, ◌≢◌, ℕ, zero, suc, ◌+◌, ◌<◌, ◌≤◌, List, Option, None, Some, length, slice_index}
use Rattle.sm_poset.specs.Moves.{rotation_of, place_to}

-- the level to which a move leads
abbrev pub level_to : List ℕ → List (ℕ × ℕ) → ℕ → ℕ
level_to levels moves a = slice_index levels (place_to moves a)

-- moves to places with levels that never fall
pub record AreAlong (levels : List ℕ) (moves : List (ℕ × ℕ)) : Type 0 where
  pub on_list : (a : ℕ) → a < length moves → place_to moves a < length levels
  pub rising : (a b : ℕ) → a < b → b < length moves → level_to levels moves a ≤ level_to levels moves b

-- the rotations of the moves come before the sink, so that their nodes have numbers
abbrev pub HaveNodes : List (ℕ × ℕ) → ℕ → Type 0
HaveNodes moves sink = (a : ℕ) → a < length moves → rotation_of moves a + 1 < sink

-- the first n moves lead to levels below this one, and all others don't
pub record IsDivided (levels : List ℕ) (moves : List (ℕ × ℕ)) (level n : ℕ) : Type 0 where
  pub few : n ≤ length moves
  pub lower : (a : ℕ) → a < n → level_to levels moves a < level
  pub higher : (a : ℕ) → n ≤ a → a < length moves → level ≤ level_to levels moves a

-- whether a first place has the level
abbrev pub BeginsAt : List ℕ → Option ℕ → ℕ → Type 0
BeginsAt levels None level = ⊥
BeginsAt levels (Some i) level = slice_index levels i ≡ level

-- the place at which a proposer stands before a move
abbrev pub place_before : ℕ → List (ℕ × ℕ) → ℕ → ℕ
place_before stands moves zero = stands
place_before stands moves (suc a) = place_to moves a

-- the first move that leads to a level
pub record IsFirstTo (levels : List ℕ) (moves : List (ℕ × ℕ)) (level a : ℕ) : Type 0 where
  pub there : a < length moves
  pub leads : level_to levels moves a ≡ level
  pub earlier : (b : ℕ) → b < a → level_to levels moves b ≢ level

-- the node at which the level is entered
pub record IsEntryNode (levels : List ℕ) (first : Option ℕ) (moves : List (ℕ × ℕ)) (level sink node : ℕ) : Type 0 where
  pub begins : BeginsAt levels first level → node ≡ 0
  pub comes : (¬ BeginsAt levels first level) → (a : ℕ) → IsFirstTo levels moves level a → node ≡ suc (rotation_of moves a)
  pub never : (¬ BeginsAt levels first level) → ((a : ℕ) → a < length moves → level_to levels moves a ≢ level) → node ≡ sink

-- a move leads from a place of the level to one of another
abbrev pub LeadsOff : List ℕ → ℕ → List (ℕ × ℕ) → (level a : ℕ) → Type 0
LeadsOff levels stands moves level a = (slice_index levels (place_before stands moves a) ≡ level) × (level_to levels moves a ≢ level)

-- the node at which the level is left
pub record IsExit (levels : List ℕ) (stands : ℕ) (moves : List (ℕ × ℕ)) (level sink node : ℕ) : Type 0 where
  pub leaves : (a : ℕ) → a < length moves → LeadsOff levels stands moves level a → node ≡ suc (rotation_of moves a)
  pub never : ((a : ℕ) → a < length moves → ¬ LeadsOff levels stands moves level a) → node ≡ sink
