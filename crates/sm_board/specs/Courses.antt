-- What is held of a board: a set of rotations in the order of their entering, and the stays and levels that it gives. What enters
-- is told with regard to an order of the proposers and a bar in it.
use Rattle.std.specs.Prelude.{◌≡◌, ◌≢◌, ℕ, ◌+◌, ◌<◌, ◌≤◌, ◌^◌, Bool, List, length, take, slice_index}
use Rattle.sm_theory.specs.ClosedSets.{IsMember}
use Rattle.sm_board.specs.Board.{Board, IsBoard, stay, stay_level, level, IsInside, Changes, IsFirstChange}
use Rattle.sm_board.specs.Growing.{IsLogOf}

-- a board and the order of its proposers in which a walk goes, which is empty before there is one; for each rotation the
-- first position in this order whose level it changes
pub record Course : Type 0 where
  pub board : Board
  pub order : List ℕ
  pub first : List ℕ

-- a sound course: a board, and for each rotation the first position whose level it changes
pub record IsCourse (t : Course) : Type 0 where
  pub board : IsBoard t.board
  pub few : length t.board.leaves < 2 ^ 32
  pub first_each : length t.first ≡ length t.board.needs
  pub first_are : (x : ℕ) → x < length t.board.needs → IsFirstChange t.board t.order x (slice_index t.first x)

-- for each rotation the first position from position j on whose level it changes, or the end of the order
pub record AreFirstFrom (b : Board) (order : List ℕ) (j : ℕ) (first : List ℕ) : Type 0 where
  pub first_each : length first ≡ length b.needs
  pub from : (x : ℕ) → x < length b.needs → j ≤ slice_index first x
  pub within : (x : ℕ) → x < length b.needs → slice_index first x ≤ length order
  pub changes : (x : ℕ) → x < length b.needs → slice_index first x < length order → Changes b x (slice_index order (slice_index first x))
  pub none_before : (x k : ℕ) → x < length b.needs → j ≤ k → k < slice_index first x → ¬ Changes b x (slice_index order k)

-- what is held: a set, its log and the room for it, and the stay and the level of each proposer in its matching
pub record Held : Type 0 where
  pub set : List Bool
  pub log : List ℕ
  pub room : ℕ
  pub stays : List ℕ
  pub levels : List ℕ

-- the log is that of the set, and the stays and levels are those of its matching
pub record IsHeld (b : Board) (h : Held) : Type 0 where
  pub logged : IsLogOf b h.log h.set
  pub room : h.room ≡ length b.needs
  pub at_each : length h.stays ≡ length b.leaves
  pub now_each : length h.levels ≡ length b.leaves
  pub at_is : (p : ℕ) → p < length b.leaves → slice_index h.stays p ≡ stay b h.set p
  pub now_is : (p : ℕ) → p < length b.leaves → slice_index h.levels p ≡ level b h.set p

-- more is held, behind what was held before, and nothing new changes a level before `bar`
pub record HoldsMore (t : Course) (bar : ℕ) (before after : Held) : Type 0 where
  pub held : IsHeld t.board after
  pub front : take (length before.log) after.log ≡ before.log
  pub longer : length before.log ≤ length after.log
  pub more : IsInside before.set after.set
  pub free : (x j : ℕ) → IsMember after.set x → ¬ IsMember before.set x → j < bar
      → ¬ Changes t.board x (slice_index t.order j)

-- a new member changes a level before `bar`
pub record IsBroken (t : Course) (bar : ℕ) (before D : List Bool) : Type 0 where
  pub rotation : ℕ
  pub member : IsMember D rotation
  pub new : ¬ IsMember before rotation
  pub position : ℕ
  pub early : position < bar
  pub changes : Changes t.board rotation (slice_index t.order position)

-- each set that is looked for and has all that was held changes a level before `bar`
abbrev pub Breaks : (List Bool → Type 0) → Course → (bar : ℕ) → List Bool → Type 0
Breaks IsOne t bar before = (D : List Bool) → IsOne D → IsInside before D → IsBroken t bar before D

-- the first i proposers of a list have gone on to their next stay, or back to the one before, and all others stay
pub record IsMovedOn (b : Board) (movers : List ℕ) (i : ℕ) (at now later then : List ℕ) : Type 0 where
  pub at_each : length later ≡ length at
  pub now_each : length then ≡ length now
  pub gone : (a : ℕ) → a < i → let p = slice_index movers a in
      (slice_index later p ≡ slice_index at p + 1) × (slice_index then p ≡ stay_level b p (slice_index at p + 1))
  pub stays : (p : ℕ) → ((a : ℕ) → a < i → slice_index movers a ≢ p)
      → (slice_index later p ≡ slice_index at p) × (slice_index then p ≡ slice_index now p)

-- the first i proposers of a list have gone back to the stay before, and all others stay
pub record IsMovedBack (b : Board) (movers : List ℕ) (i : ℕ) (at now later then : List ℕ) : Type 0 where
  pub at_each : length later ≡ length at
  pub now_each : length then ≡ length now
  pub gone : (a : ℕ) → a < i → let p = slice_index movers a in
      (slice_index later p + 1 ≡ slice_index at p) × (slice_index then p ≡ stay_level b p (slice_index later p))
  pub stays : (p : ℕ) → ((a : ℕ) → a < i → slice_index movers a ≢ p)
      → (slice_index later p ≡ slice_index at p) × (slice_index then p ≡ slice_index now p)
