-- What is kept of roommates' lists.
use Rattle.std.specs.Prelude.{◌≡◌, ℕ, ◌<◌, List, length}
use Rattle.sm_lists.specs.Rows.{row, entry}
use Rattle.sm_lists.specs.Limits.{AreWithinLimits}
use Rattle.sm_lists.specs.Crosses.{cross_place}
use Rattle.sm_lists.specs.Held.{place_in}
use Rattle.sm_theory.specs.Rooms.{AreRoomLists}

-- lists of roommates, and beside each entry, as a number of four bytes, the place of the list's owner on the list of whom
-- it names
pub record AreRoomsKept (rows crosses : List (List ℕ)) : Type 0 where
  pub lists : AreRoomLists rows
  pub limits : AreWithinLimits rows
  pub one_each : length crosses ≡ length rows
  pub as_long : (x : ℕ) → length (row crosses x) ≡ length (row rows x)
  pub places : (x i : ℕ) → i < length (row rows x) → place_in (entry crosses x i) ≡ cross_place rows (entry rows x i) x
