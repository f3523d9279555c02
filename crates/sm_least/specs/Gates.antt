-- Gates for the stays of a board.
use Rattle.std.specs.Prelude.{◌≡◌, ◌<◌, ◌≤◌, ℕ, true, List, [], length, slice_index, slice_index_or}
use Rattle.sm_market.specs.Lists.{row}
use Rattle.sm_board.specs.Board.{Board, stay_level, Gates, is_shut}
use Rattle.sm_board.specs.BoardOf.{AreGates}

-- gates for the stays of a board; the last open one is a stay, and behind it all are shut
pub record AreGatesOf (b : Board) (g : Gates) : Type 0 where
  pub until_each : length g.until ≡ length b.leaves
  pub shut_each : length g.shut ≡ length b.leaves
  pub stay_each : (p : ℕ) → p < length b.leaves → length (slice_index_or g.shut p []) ≡ length (row b.levels p)
  pub few : (p : ℕ) → p < length b.leaves → slice_index g.until p ≤ length (row b.levels p)
  pub past : (p a : ℕ) → p < length b.leaves → slice_index g.until p ≤ a → a < length (row b.levels p) → is_shut g p a ≡ true

-- bounds between which all stays lie
abbrev pub AreWide : Board → (low high : List ℕ) → Type 0
AreWide b low high = (p a : ℕ) → p < length b.leaves → a < length (row b.levels p)
    → (slice_index low p ≤ stay_level b p a) × (stay_level b p a ≤ slice_index high p)

-- gates that leave open exactly the stays that meet the conditions
pub record AreUnbounded (b : Board) (forced forbidden : List (ℕ × ℕ)) (g : Gates) : Type 0 where
  pub low : List ℕ
  pub high : List ℕ
  pub wide : AreWide b low high
  pub gates : AreGates b low high forced forbidden g
