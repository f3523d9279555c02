-- Lists of roommates that are cut: each person has a top, the greatest rank that it may have, and keeps as many entries. Who
-- has no fewer entries than its top says has to have a mate, since being alone is a rank too.
use Rattle.std.specs.Prelude.{◌≡◌, ℕ, ◌<◌, ◌≤◌, List, Option, length, slice_index, take}
use Rattle.sm_lists.specs.Rows.{row, entry, place_of}
use Rattle.sm_theory.specs.Rooms.{IsAcceptable, IsRoomStable}
use Rattle.sm_room_list.specs.RoomVectors.{room_rank}

-- nobody's rank is above its top
abbrev pub IsWithinTops : List (List ℕ) → List ℕ → List (Option ℕ) → Type 0
IsWithinTops rows tops mates = (x : ℕ) → x < length rows → room_rank rows mates x ≤ slice_index tops x

-- a stable matching in which nobody's rank is above its top
pub record IsStableWithin (rows : List (List ℕ)) (tops : List ℕ) (mates : List (Option ℕ)) : Type 0 where
  pub stable : IsRoomStable rows mates
  pub within : IsWithinTops rows tops mates

-- each keeps of its list what stands before its top
pub record IsCut (rows : List (List ℕ)) (tops : List ℕ) (cut : List (List ℕ)) : Type 0 where
  pub one_each : length cut ≡ length rows
  pub kept : (x : ℕ) → row cut x ≡ take (slice_index tops x) (row rows x)

-- each person that x finds acceptable, at one of the first places of x's list, has somebody that it likes better than x
abbrev pub ArePassed : List (List ℕ) → List (Option ℕ) → ℕ → ℕ → Type 0
ArePassed rows mates x least = (i : ℕ) → i < least → i < length (row rows x) → IsAcceptable rows x (entry rows x i)
    → room_rank rows mates (entry rows x i) ≤ place_of rows (entry rows x i) x
