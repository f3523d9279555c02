-- What is found by notes and marks, as a list.
use Rattle.std.specs.Prelude.{ℕ, ◌<◌, List, length, slice_index, Contains}
-- what is noted and marked, passed on
pub use Rattle.sm_theory.specs.Marks.{note_of, marks_of, mark_at, Moves, MovesOver, AreLastMoves, AreMarksFor, AreMarks, AreMoved, AreMarked, IsLastOf, IsBetween, IsPassedBy, IsFoundNeed, IsSpan, IsSpanMarked, Adds}

-- a rising list of the numbers that are P
pub record IsRisingListOf (P : ℕ → Type 0) (list : List ℕ) : Type 0 where
  pub rising : (a b : ℕ) → a < b → b < length list → slice_index list a < slice_index list b
  pub sound : (a : ℕ) → a < length list → P (slice_index list a)
  pub all : (i : ℕ) → P i → Contains list i
