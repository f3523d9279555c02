-- The laws of cut lists of roommates. Each is the contract of a function of `laws`.
use Rattle.std.specs.Prelude.{◌≡◌, ℕ, ◌+◌, ◌<◌, ◌≤◌, ◌↔◌, List, Option, length, slice_index}
use Rattle.sm_lists.specs.Rows.{row, entry, place_of}
use Rattle.sm_theory.specs.Rooms.{AreRoomLists, IsAcceptable, IsRoomStable}
use Rattle.sm_room_list.specs.RoomVectors.{room_rank, room_vector}
use Rattle.sm_room_list.specs.Cuts.{IsStableWithin, IsCut, ArePassed}

-- the stable matchings within tops are those of the cut lists that are within the tops: everybody whose top isn't beyond its
-- list has a mate
abbrev pub CutInstance : Type 0
CutInstance = (rows cut : List (List ℕ)) (tops : List ℕ) (mates : List (Option ℕ)) → IsCut rows tops cut
    → IsStableWithin rows tops mates ↔ IsStableWithin cut tops mates

-- a stable matching within tops has the same rank vector by the lists and by the cut lists
abbrev pub CutKeepsRanks : Type 0
CutKeepsRanks = (rows cut : List (List ℕ)) (tops : List ℕ) (mates : List (Option ℕ)) → IsCut rows tops cut
    → IsStableWithin cut tops mates → room_vector rows mates ≡ room_vector cut mates

-- one stable matching of the cut lists decides: where it isn't within the tops, none is
abbrev pub OneDecides : Type 0
OneDecides = (rows cut : List (List ℕ)) (tops : List ℕ) (mates other : List (Option ℕ)) (x : ℕ) → IsCut rows tops cut
    → IsRoomStable cut mates → x < length rows → slice_index tops x < room_rank cut mates x → ¬ IsStableWithin rows tops other

-- a rank is above a number exactly where everybody whom the person finds acceptable at as many places has somebody that it
-- likes better
abbrev pub LowerIsUpper : Type 0
LowerIsUpper = (rows : List (List ℕ)) (mates : List (Option ℕ)) (x least : ℕ) → AreRoomLists rows → IsRoomStable rows mates
    → least ≤ length (row rows x) → least < room_rank rows mates x ↔ ArePassed rows mates x least

-- where a rank is above a number, who is acceptable at the place of that number has nobody that it likes less
abbrev pub FirstCuts : Type 0
FirstCuts = (rows : List (List ℕ)) (mates : List (Option ℕ)) (x least : ℕ) → AreRoomLists rows → IsRoomStable rows mates
    → least < room_rank rows mates x → least < length (row rows x) → IsAcceptable rows x (entry rows x least)
    → room_rank rows mates (entry rows x least) ≤ place_of rows (entry rows x least) x + 1
