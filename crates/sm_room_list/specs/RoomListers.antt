-- What a `RoomLister` tells: the lists, the vector to which it came last or behind which it goes on, and whether the last step
-- found one.
use Rattle.std.specs.Prelude.{◌≡◌, ℕ, Bool, true, false, List, Option, None, Some, length}
use Rattle.sm_lists.specs.Rows.{agents}
use Rattle.sm_lists.specs.Orders.{IsBefore}
use Rattle.sm_theory.specs.Rooms.{IsRoomStable}
use Rattle.sm_theory.specs.Listings.{IsNextListed, IsNoneBehind}
use Rattle.sm_room_list.specs.RoomVectors.{IsRoomVector}
use Rattle.sm_room_list.specs.Cuts.{IsStableWithin}
use Rattle.sm_room_list.specs.Tops.{AreTops}

-- a lister of roommates
pub record RoomLister : Type 0 where
  pub rows : List (List ℕ)
  pub cursor : Option (List ℕ)
  pub here : Bool

-- the vector, where one was given or reached
abbrev pub cursor_of : Bool → List ℕ → Option (List ℕ)
cursor_of true vector = Some vector
cursor_of false vector = None

-- the first rank vector of a stable matching behind a cursor
abbrev pub IsNextVector : List (List ℕ) → Option (List ℕ) → List ℕ → Type 0
IsNextVector rows cursor v = IsNextListed (IsBefore (agents rows)) (IsRoomVector rows) cursor v

-- no rank vector of a stable matching is behind a cursor
abbrev pub IsNoneLeft : List (List ℕ) → Option (List ℕ) → Type 0
IsNoneLeft rows cursor = IsNoneBehind (IsBefore (agents rows)) (IsRoomVector rows) cursor

-- what is kept of tops that hold all stable matchings
pub record AreRoot (rows : List (List ℕ)) (tops passed : List ℕ) : Type 0 where
  pub kept : AreTops rows tops passed
  pub all : (mates : List (Option ℕ)) → IsRoomStable rows mates → IsStableWithin rows tops mates

-- what a lister keeps
pub record IsRoomLister (rows : List (List ℕ)) (tops passed vector : List ℕ) (given here : Bool) : Type 0 where
  pub root : AreRoot rows tops passed
  pub long : given ≡ true → length vector ≡ length rows
  pub reached : here ≡ true → given ≡ true

-- a lister as it is started
pub record IsRoomStarted (rows : List (List ℕ)) (after : Option (List ℕ)) (s : RoomLister) : Type 0 where
  pub rows_are : s.rows ≡ rows
  pub cursor_is : s.cursor ≡ after
  pub nothing : s.here ≡ false
