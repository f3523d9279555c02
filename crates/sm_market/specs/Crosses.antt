-- Cross positions: where each agent stands on the lists of those whom it lists.
use Rattle.std.specs.Prelude.{◌≡◌, ℕ, ◌<◌, List, length}
use Rattle.sm_market.specs.Lists.{row, entry, place_of}

-- for each place of each list of one side, the place of that agent on the list of whom it finds there
pub record AreCrosses (rows others crosses : List (List ℕ)) : Type 0 where
  pub one_each : length crosses ≡ length rows
  pub as_long : (a : ℕ) → length (row crosses a) ≡ length (row rows a)
  pub places : (a i : ℕ) → i < length (row rows a) → entry crosses a i ≡ place_of others (entry rows a i) a
