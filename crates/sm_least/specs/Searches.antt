-- What a `Least` tells: the poset and the levels for which it was made, the board of these with an order of the proposers, the
-- gates of its last search, and what is held.
use Rattle.std.specs.Prelude.{◌≡◌, ℕ, List}
use Rattle.sm_market.specs.Vectors.{rows_of}
use Rattle.sm_theory.specs.Values.{rotations_of}
use Rattle.sm_poset.specs.Posets.{RotationPoset, poset_of, IsPoset}
use Rattle.sm_board.specs.Board.{IsClosedIn, Gates}
use Rattle.sm_board.specs.BoardOf.{IsBoardFor}
use Rattle.sm_board.specs.Courses.{Course, IsCourse, Held, IsHeld}
use Rattle.sm_least.specs.Gates.{AreGatesOf}
use Rattle.sm_least.specs.declared.least.SearchParts.{SearchParts}

-- a poset with levels, its board with an order, gates, and what is held
pub record Search : Type 0 where
  pub poset : RotationPoset
  pub levels : List (List ℕ)
  pub course : Course
  pub gates : Gates
  pub held : Held

-- the search that is made of these parts
abbrev pub search_of : SearchParts → Search
search_of parts = record {
  poset = poset_of parts.market.value parts.chain.value.first (rotations_of parts.chain.value.rotations.items);
  levels = rows_of parts.levels.items;
  course = parts.course;
  gates = parts.gates;
  held = parts.held;
}

-- these are made for each other, and the set that is held is closed
pub record IsSearch (s : Search) : Type 0 where
  pub poset : IsPoset s.poset
  pub board : IsBoardFor s.poset s.levels s.course.board
  pub course : IsCourse s.course
  pub gates : AreGatesOf s.course.board s.gates
  pub held : IsHeld s.course.board s.held
  pub closed : IsClosedIn s.course.board s.held.set

-- the same poset, levels, board and order of the proposers
pub record IsSame (s t : Search) : Type 0 where
  pub poset : t.poset ≡ s.poset
  pub levels : t.levels ≡ s.levels
  pub course : t.course ≡ s.course

-- the same poset, levels and board, and this order of the proposers
pub record IsInOrder (given : List ℕ) (s t : Search) : Type 0 where
  pub poset : t.poset ≡ s.poset
  pub levels : t.levels ≡ s.levels
  pub board : t.course.board ≡ s.course.board
  pub order : t.course.order ≡ given
