-- What a `Lister` keeps.
use Rattle.std.specs.Prelude.{◌≡◌, ℕ, Bool, true, List, Some, length}
use Rattle.sm_theory.specs.Vectors.{IsOrder, AreInRange}
use Rattle.sm_poset.specs.Posets.{RotationPoset}
use Rattle.sm_board.specs.Board.{Gates, Fits}
use Rattle.sm_board.specs.BoardOf.{AreGates, IsBoardFor}
use Rattle.sm_board.specs.Courses.{Course, Held}
use Rattle.sm_board.specs.Walks.{vector, ExcludeNothing}
use Rattle.sm_lister.specs.declared.vector_walk.VectorWalk.{VectorWalk}
use Rattle.sm_lister.specs.Walking.{cursor_of, IsKeptWalk}

-- the walk goes over the board of the poset with its levels, with gates for the conditions alone
pub record IsGoing (poset : RotationPoset) (levels : List (List ℕ)) (forced forbidden : List (ℕ × ℕ)) (t : Course) (g : Gates) : Type 0 where
  pub board : IsBoardFor poset levels t.board
  pub in_range : AreInRange (length poset.lists.proposers) forced
  pub low : List ℕ
  pub high : List ℕ
  pub gates : AreGates t.board low high forced forbidden g
  pub bounds : ExcludeNothing poset.lists levels low high
  pub order : IsOrder (length poset.lists.proposers) t.order

-- and what is held is where it came, if its last step found something
pub record IsLister (poset : RotationPoset) (levels : List (List ℕ)) (forced forbidden : List (ℕ × ℕ)) (t : Course) (g : Gates)
    (h : Held) (w : VectorWalk) (here : Bool) : Type 0 where
  pub going : IsGoing poset levels forced forbidden t g
  pub walking : IsKeptWalk t g h w
  pub fits : here ≡ true → Fits t.board g h.set
  pub reached : here ≡ true → cursor_of w ≡ Some (vector t.board h.set)
