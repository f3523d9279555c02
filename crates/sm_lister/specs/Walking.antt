-- Where a walk stands: the level vector that it came to last, or the one that it goes on behind, and for each position how much
-- of the log of what is held the positions up to it ask for.
use Rattle.std.specs.Prelude.{◌≡◌, if◌then◌else◌, ℕ, ◌+◌, ◌<◌, ◌≤◌, true, false, List, Bool, Option, None, Some, length, take, slice_index, slice_index_or}
use Rattle.sm_theory.specs.Vectors.{IsOrder}
use Rattle.sm_board.specs.Board.{Board, Gates, Fits, IsLeast, IsClosedIn, IsFirstChange}
use Rattle.sm_board.specs.Growing.{IsLogOf}
use Rattle.sm_board.specs.Courses.{Course, Held, IsHeld}
use Rattle.sm_least.specs.Gates.{AreGatesOf}
use Rattle.sm_board.specs.Walks.{vector, AgreesUpTo, IsMark, IsNextUp, NoneFrom, HasFirstVector, IsFirstAbove}
use Rattle.sm_lister.specs.Barred.{HasRoom}
use Rattle.sm_lister.specs.Listers.{IsChangedFrom}
use Rattle.sm_lister.specs.declared.vector_walk.VectorWalk.{VectorWalk}

-- the front of the log up to the mark of each of the first d positions is the least set that fits and is no lower than v up to
-- this position
pub record AreLogMarks (t : Course) (g : Gates) (v log marks : List ℕ) (d : ℕ) : Type 0 where
  pub few : (i : ℕ) → i < d → slice_index marks i ≤ length log
  pub rising : (i j : ℕ) → i ≤ j → j < d → slice_index marks i ≤ slice_index marks j
  pub are : (i : ℕ) (C : List Bool) → i < d → IsLogOf t.board (take (slice_index marks i) log) C
      → IsMark t.board g t.order v (i + 1) C

-- the gates, what is held, a vector and marks are made for the course, whose order has each proposer once
pub record IsMadeFor (t : Course) (g : Gates) (h : Held) (v marks : List ℕ) : Type 0 where
  pub order : IsOrder (length t.board.leaves) t.order
  pub held : IsHeld t.board h
  pub gates : AreGatesOf t.board g
  pub level_each : length v ≡ length t.board.leaves
  pub mark_each : length marks ≡ length t.board.leaves

-- there are marks for the first d positions, what is held agrees with the vector at these, and no set is above the vector from there on
pub record IsUnderWay (t : Course) (g : Gates) (h : Held) (v marks : List ℕ) (d : ℕ) : Type 0 where
  pub made : IsMadeFor t g h v marks
  pub within : d ≤ length t.board.leaves
  pub are : AreLogMarks t g v h.log marks d
  pub closed : IsClosedIn t.board h.set
  pub agrees : AgreesUpTo t.board t.order v d h.set
  pub none : NoneFrom t.board g t.order v d

-- a depth from which on, up to depth d, no rotation changes the level at a position and none before it
pub record IsSkip (b : Board) (order : List ℕ) (d s : ℕ) : Type 0 where
  pub low : s ≤ d
  pub none : (j x : ℕ) → s ≤ j → j < d → ¬ IsFirstChange b order x j

-- such a depth for each one
abbrev pub AreSkips : Board → (order skip : List ℕ) → Type 0
AreSkips b order skip = (d : ℕ) → d < length skip → IsSkip b order d (slice_index skip d)

-- the positions are marked that are the first whose level one of the first i rotations changes
abbrev pub AreFirstChanges : Course → ℕ → List Bool → Type 0
AreFirstChanges t i changes = (x j : ℕ) → x < i → j < length changes → slice_index t.first x ≡ j → slice_index_or changes j false ≡ true

-- from each of these depths on, up to the one that it is for, no position is marked
abbrev pub SkipsNoFirstChange : (changes : List Bool) → (skip : List ℕ) → Type 0
SkipsNoFirstChange changes skip = (d : ℕ) → d < length skip → (slice_index skip d ≤ d)
    × ((j : ℕ) → slice_index skip d ≤ j → j < d → slice_index_or changes j false ≡ false)

-- no proposer at a position or behind it is less than the one noted there
abbrev pub AreLeast : (order least : List ℕ) → Type 0
AreLeast order least = (i j : ℕ) → i ≤ j → j < length order → slice_index least i ≤ slice_index order j

-- none of the sets that fit is behind a cursor
abbrev pub NoneLeft : Course → Gates → Option (List ℕ) → Type 0
NoneLeft t g None = (D : List Bool) → ¬ Fits t.board g D
NoneLeft t g (Some v) = NoneFrom t.board g t.order v 0

-- of the sets that fit this one is the first behind a cursor
abbrev pub IsFirstSetBehind : Course → Gates → Option (List ℕ) → List Bool → Type 0
IsFirstSetBehind t g None C = HasFirstVector t.board g t.order C
IsFirstSetBehind t g (Some v) C = IsFirstAbove t.board g t.order v C

-- the next set up at position i of a vector is held, none is above the vector behind it, and the positions before it have marks
pub record IsHeldUp (t : Course) (g : Gates) (h : Held) (v marks : List ℕ) (i : ℕ) : Type 0 where
  pub made : IsMadeFor t g h v marks
  pub within : i < length t.board.leaves
  pub are : AreLogMarks t g v h.log marks i
  pub up : IsNextUp t.board g t.order v i h.set
  pub none : NoneFrom t.board g t.order v (i + 1)

-- a walk comes to what is held, whose mark is then that of each position from i on, and said to be the same below a proposer
pub record IsBroughtTo (t : Course) (h : Held) (i from : ℕ) (before after : VectorWalk) : Type 0 where
  pub vector_is : after.vector.items ≡ h.levels
  pub mark_each : length after.marks.items ≡ length before.marks.items
  pub kept : (j : ℕ) → j < i → slice_index after.marks.items j ≡ slice_index before.marks.items j
  pub new : (j : ℕ) → i ≤ j → j < length before.marks.items → slice_index after.marks.items j ≡ length h.log
  pub from_is : after.changed_from ≡ from
  pub everywhere : after.depth ≡ length t.board.leaves
  pub given : after.given ≡ before.given
  pub fresh : after.fresh ≡ before.fresh
  pub skip : after.skip ≡ before.skip
  pub least : after.least ≡ before.least
  pub bars : after.bars ≡ before.bars

-- the first set behind a cursor is held, with its vector, and the walk is under way from there
pub record IsVectorReached (t : Course) (g : Gates) (cursor : Option (List ℕ)) (h : Held) (w : VectorWalk) : Type 0 where
  pub fits : Fits t.board g h.set
  pub first : IsFirstSetBehind t g cursor h.set
  pub vector_is : w.vector.items ≡ vector t.board h.set
  pub under_way : IsUnderWay t g h w.vector.items w.marks.items (length t.board.leaves)
  pub changed : IsChangedFrom w.changed_from cursor w.vector.items

-- along a vector the first i positions have marks, and what is held is the mark behind them
pub record IsMarkedAlong (t : Course) (g : Gates) (h : Held) (v marks : List ℕ) (i : ℕ) : Type 0 where
  pub made : IsMadeFor t g h v marks
  pub are : AreLogMarks t g v h.log marks i
  pub mark : IsMark t.board g t.order v i h.set

-- the vector, if one was given or reached
abbrev pub cursor_of : VectorWalk → Option (List ℕ)
cursor_of w = if w.given then Some w.vector.items else None

-- a walk that made no step yet holds the least set that fits; another one is under way, or nothing fits
pub record IsKeptWalk (t : Course) (g : Gates) (h : Held) (w : VectorWalk) : Type 0 where
  pub made : IsMadeFor t g h w.vector.items w.marks.items
  pub skip_each : length w.skip.items ≡ length t.board.leaves + 1
  pub skips : AreSkips t.board t.order w.skip.items
  pub least_each : length w.least.items ≡ length t.board.leaves
  pub least_are : AreLeast t.order w.least.items
  pub room : HasRoom t w.bars
  pub least : w.fresh ≡ true → IsLeast (Fits t.board g) h.set
  pub under_way : w.fresh ≡ false → IsUnderWay t g h w.vector.items w.marks.items w.depth
  pub nothing : w.fresh ≡ false → w.given ≡ false → NoneLeft t g None
