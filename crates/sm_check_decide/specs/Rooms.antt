-- Roommates who stand at places of their lists.
use Rattle.std.specs.Prelude.{◌≡◌, ◌≢◌, ℕ, ◌<◌, ◌≤◌, List, Option, length, slice_index}
use Rattle.sm_market.specs.Lists.{row, place_of}
use Rattle.sm_theory.specs.Rooms.{IsAcceptable, mate_of, place_of_mate}
use Rattle.sm_theory.specs.Partitions.{successor_in, predecessor_in, party_place}

-- each person stands at a place of its list, or past the list
pub record AreStandings (rows : List (List ℕ)) (standings : List ℕ) : Type 0 where
  pub one_each : length standings ≡ length rows
  pub on_lists : (x : ℕ) → slice_index standings x ≤ length (row rows x)

-- y finds x acceptable, and likes it more than the place at which it stands
pub record LikesMore (rows : List (List ℕ)) (standings : List ℕ) (x y : ℕ) : Type 0 where
  pub acceptable : IsAcceptable rows x y
  pub gains : place_of rows y x < slice_index standings y

-- no two acceptable persons like each other more than the places at which they stand (Irving 1985)
pub record IsUnblockedAt (rows : List (List ℕ)) (standings : List ℕ) : Type 0 where
  pub unblocked : (x y : ℕ) → IsAcceptable rows x y → place_of rows x y < slice_index standings x → ¬ (place_of rows y x < slice_index standings y)

-- where persons stand who have these mates
pub record AreMatePlaces (rows : List (List ℕ)) (mates : List (Option ℕ)) (standings : List ℕ) : Type 0 where
  pub on_lists : AreStandings rows standings
  pub places : (x : ℕ) → x < length rows → slice_index standings x ≡ place_of_mate rows x (mate_of mates x)

-- no two persons have one successor
abbrev pub AreDistinct : List ℕ → Type 0
AreDistinct next = (x y : ℕ) → x < y → y < length next → successor_in next x ≢ successor_in next y

-- the persons before each person
pub record ArePredecessors (next before : List ℕ) : Type 0 where
  pub one_each : length before ≡ length next
  pub distinct : AreDistinct next
  pub persons : (x : ℕ) → x < length next → slice_index before x ≡ predecessor_in next x

-- where persons stand who are in these parties
pub record ArePartyPlaces (rows : List (List ℕ)) (next standings : List ℕ) : Type 0 where
  pub on_lists : AreStandings rows standings
  pub places : (x : ℕ) → x < length rows → slice_index standings x ≡ party_place rows next x

-- x is alone or finds its successor acceptable, and prefers it to its predecessor where they differ (Tan 1991)
pub record PrefersSuccessor (rows : List (List ℕ)) (x after before : ℕ) : Type 0 where
  pub acceptable : after ≢ x → IsAcceptable rows x after
  pub prefers : after ≢ before → place_of rows x after < place_of rows x before
