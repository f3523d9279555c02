-- Where the seats of the reviewers on a proposer's written list begin on its list of seats.
use Rattle.std.specs.Prelude.{◌≡◌, ℕ, ◌+◌, ◌-◌, ◌<◌, ◌≤◌, ◌^◌, List, length, slice_index}
use Rattle.sm_market.specs.Lists.{row, entry}
use Rattle.sm_seats.specs.Seating.{Seating, written_place}

-- places from 0 on, none before the one ahead of it
pub record AreRisingPlaces (begins : List ℕ) : Type 0 where
  pub some : 0 < length begins
  pub few : length begins < 2 ^ 24
  pub from : slice_index begins 0 ≡ 0
  pub rise : (j : ℕ) → j + 1 < length begins → slice_index begins j ≤ slice_index begins (j + 1)

-- from where the seats of the reviewer at place j of the written list begin on, up to where those of the next one do, each level
-- is the rank j + 1, and the last one is that of being unmatched
pub record AreLevelsBetween (begins levels : List ℕ) : Type 0 where
  pub long : length levels ≡ slice_index begins (length begins - 1) + 1
  pub at : (j i : ℕ) → j + 1 < length begins → slice_index begins j ≤ i → i < slice_index begins (j + 1) → slice_index levels i ≡ j + 1
  pub last : slice_index levels (slice_index begins (length begins - 1)) ≡ length begins

-- the level of each place is its rank, and that of being unmatched one more
pub record AreLevelsUpTo (places : ℕ) (levels : List ℕ) : Type 0 where
  pub long : length levels ≡ places + 1
  pub at : (i : ℕ) → i ≤ places → slice_index levels i ≡ i + 1

-- the seats begin at these places, for each proposer and each place of its written list, and one more behind the last seat
pub record AreBegins (s : Seating) (begins : List (List ℕ)) : Type 0 where
  pub one_each : length begins ≡ length s.market.proposers
  pub rising : (p : ℕ) → p < length s.market.proposers → AreRisingPlaces (row begins p)
  pub as_long : (p : ℕ) → p < length s.market.proposers → length (row begins p) ≡ length (row s.lists p) + 1
  pub end : (p : ℕ) → p < length s.market.proposers → entry begins p (length (row s.lists p)) ≡ length (row s.market.proposers p)
  pub between : (p j i : ℕ) → p < length s.market.proposers → j < length (row s.lists p) → entry begins p j ≤ i → i < entry begins p (j + 1) → written_place s p i ≡ j

-- the lists of seats are the written ones, place by place
pub record AreWrittenPlaces (s : Seating) : Type 0 where
  pub as_long : (p : ℕ) → p < length s.market.proposers → length (row s.market.proposers p) ≡ length (row s.lists p)
  pub same : (p i : ℕ) → i < length (row s.market.proposers p) → written_place s p i ≡ i
