-- Cross places: where each agent stands on the lists of those whom it names.
use Rattle.std.specs.Prelude.{◌≡◌, ℕ, ◌<◌, List, [], length, slice_index_or, Option, Some, None, if◌then◌else◌, nat_lt}
use Rattle.sm_lists.specs.Rows.{place_on, row, entry}

-- the first place of b on a list, None where b isn't on it
abbrev pub found_on : List ℕ → ℕ → Option ℕ
found_on list b = if nat_lt (place_on list b) (length list) then Some (place_on list b) else None

-- the first place of b on a's list
abbrev pub cross_place : List (List ℕ) → ℕ → ℕ → Option ℕ
cross_place rows a b = found_on (row rows a) b

-- for each place of a's list, the first place of a on the list of whom it names there; None where a isn't on it
pub record AreCrossPlacesOf (rows others : List (List ℕ)) (a : ℕ) (crosses : List (Option ℕ)) : Type 0 where
  pub as_long : length crosses ≡ length (row rows a)
  pub places : (i : ℕ) → i < length (row rows a) → slice_index_or crosses i None ≡ cross_place others (entry rows a i) a

-- the same for each list of a side
pub record AreCrossPlaces (rows others : List (List ℕ)) (crosses : List (List (Option ℕ))) : Type 0 where
  pub one_each : length crosses ≡ length rows
  pub of : (a : ℕ) → a < length rows → AreCrossPlacesOf rows others a (slice_index_or crosses a [])
