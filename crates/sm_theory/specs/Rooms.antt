-- Roommates: one kind of agents, each of whom ranks some of the others. A list may hold its own person, and others that
-- don't list it in turn: such an entry keeps its place and has no effect.
use Rattle.std.specs.Prelude.{◌≡◌, ◌≢◌, ℕ, ◌<◌, List, Option, None, Some, length, slice_index_or}
use Rattle.sm_market.specs.Lists.{row, entry, place_of}

-- the lists name persons, none of them twice (Irving 1985, with lists that needn't be complete)
pub record AreRoomLists (rows : List (List ℕ)) : Type 0 where
  pub in_range : (x i : ℕ) → i < length (row rows x) → entry rows x i < length rows
  pub distinct : (x i j : ℕ) → i < j → j < length (row rows x) → entry rows x i ≢ entry rows x j

-- two persons that list each other
pub record IsAcceptable (rows : List (List ℕ)) (x y : ℕ) : Type 0 where
  pub apart : x ≢ y
  pub listed : place_of rows x y < length (row rows x)
  pub returned : place_of rows y x < length (row rows y)

-- whom a matching gives a person, if anybody
abbrev pub mate_of : List (Option ℕ) → ℕ → Option ℕ
mate_of mates x = slice_index_or mates x None

-- the place of somebody on x's list, or one past the list for nobody. Lower is better.
abbrev pub place_of_mate : List (List ℕ) → ℕ → Option ℕ → ℕ
place_of_mate rows x None = length (row rows x)
place_of_mate rows x (Some y) = place_of rows x y

-- a matching: for each person at most one mate, acceptable, whose mate it is (Irving 1985, with unmatched persons)
pub record IsRoomMatching (rows : List (List ℕ)) (mates : List (Option ℕ)) : Type 0 where
  pub one_each : length mates ≡ length rows
  pub acceptable : (x y : ℕ) → mate_of mates x ≡ Some y → IsAcceptable rows x y
  pub in_turn : (x y : ℕ) → mate_of mates x ≡ Some y → mate_of mates y ≡ Some x

-- two acceptable persons of whom each is unmatched or prefers the other to its mate
pub record RoomBlocks (rows : List (List ℕ)) (mates : List (Option ℕ)) (x y : ℕ) : Type 0 where
  pub acceptable : IsAcceptable rows x y
  pub first_gains : place_of rows x y < place_of_mate rows x (mate_of mates x)
  pub second_gains : place_of rows y x < place_of_mate rows y (mate_of mates y)

-- a matching that no pair blocks (Irving 1985)
pub record IsRoomStable (rows : List (List ℕ)) (mates : List (Option ℕ)) : Type 0 where
  pub matching : IsRoomMatching rows mates
  pub unblocked : (x y : ℕ) → ¬ RoomBlocks rows mates x y
