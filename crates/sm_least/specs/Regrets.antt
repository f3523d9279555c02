-- Ranks of levels and stays, and gates that leave those open whose ranks are within a bound.
use Rattle.std.specs.Prelude.{◌≡◌, ℕ, ◌<◌, ◌≤◌, ◌↔◌, if◌then◌else◌, Bool, true, false, List, [], length, map, fold, max, slice_index, slice_index_or}
use Rattle.std.specs.List.{range_with_len}
use Rattle.sm_lists.specs.Rows.{place_on, entry}
use Rattle.sm_market.specs.Lists.{row}
use Rattle.sm_board.specs.Board.{Board, stay_level, Gates, IsOpen}
use Rattle.sm_least.specs.Steps.{NeverFall, AreRowsFor}

-- the rank of the first place of a level
abbrev pub rank_of_level : (levels ranks : List ℕ) → ℕ → ℕ
rank_of_level levels ranks level = slice_index ranks (place_on levels level)

-- levels and ranks of places for the proposers of a board: each stay of a matched one has the level of some place
pub record IsRanked (b : Board) (levels ranks : List (List ℕ)) : Type 0 where
  pub levels_each : length levels ≡ length b.leaves
  pub ranks_each : length ranks ≡ length b.leaves
  pub rising : (p : ℕ) → p < length b.leaves → NeverFall (row levels p)
  pub few : (p : ℕ) → p < length b.leaves → length (row ranks p) ≤ length (row levels p)
  pub some : (p a : ℕ) → p < length b.leaves → slice_index_or b.matched p false ≡ true → a < length (row b.levels p)
      → place_on (row levels p) (stay_level b p a) < length (row ranks p)

-- the ranks of p's stays, by their levels; none where p is unmatched
abbrev pub ranks_of_stays : Board → (levels ranks : List (List ℕ)) → ℕ → List ℕ
ranks_of_stays b levels ranks p = if slice_index_or b.matched p false then map (rank_of_level (row levels p) (row ranks p)) (row b.levels p) else []

-- the ranks of the stays of each proposer
abbrev pub ranks_along : Board → (levels ranks : List (List ℕ)) → List (List ℕ)
ranks_along b levels ranks = map (ranks_of_stays b levels ranks) (range_with_len 0 (length b.leaves))

-- for each proposer ranks of its stays, or of some first ones; a stay past these counts as one of rank 0
pub record AreForStays (b : Board) (ranks : List (List ℕ)) : Type 0 where
  pub one_each : length ranks ≡ length b.leaves
  pub few : (p : ℕ) → p < length b.leaves → length (row ranks p) ≤ length (row b.levels p)

-- those stays are open that were and have a rank of at most a bound
abbrev pub AreOpenUpTo : Board → (ranks : List (List ℕ)) → ℕ → (before after : Gates) → Type 0
AreOpenUpTo b ranks bound before after = (p a : ℕ) → p < length b.leaves → a < length (row b.levels p)
    → IsOpen after p a ↔ IsOpen before p a × (entry ranks p a ≤ bound)

-- of the stays of the first n proposers those are shut that were or have a rank above a bound, and all others are as they were
pub record AreShutAbove (b : Board) (ranks : List (List ℕ)) (bound n : ℕ) (before after : List (List Bool)) : Type 0 where
  pub rows : AreRowsFor b.levels after
  pub opens : (p a : ℕ) → p < n → a < length (row b.levels p)
      → (slice_index_or (slice_index_or after p []) a false ≡ false)
      ↔ (slice_index_or (slice_index_or before p []) a false ≡ false) × (entry ranks p a ≤ bound)
  pub left : (p : ℕ) → n ≤ p → slice_index_or after p [] ≡ slice_index_or before p []

-- each proposer's level is that of one of its stays
pub record AreAtStays (b : Board) (now : List ℕ) : Type 0 where
  pub one_each : length now ≡ length b.leaves
  pub stays : (p : ℕ) → p < length b.leaves → (a : ℕ) × (a < length (row b.levels p)) × (slice_index now p ≡ stay_level b p a)

-- the rank at which a proposer stands, and 0 where it is unmatched
abbrev pub rank_now : Board → (levels ranks : List (List ℕ)) → List ℕ → ℕ → ℕ
rank_now b levels ranks now p = if slice_index_or b.matched p false then rank_of_level (row levels p) (row ranks p) (slice_index now p) else 0

-- the greatest of the first n numbers, and 0 where there is none
abbrev pub greatest_of : (ℕ → ℕ) → ℕ → ℕ
greatest_of f n = fold max 0 (map f (range_with_len 0 n))
