-- The ranks that persons choose, and ranks that are those of a stable matching.
use Rattle.std.specs.Prelude.{◌≡◌, ℕ, Bool, ◌+◌, ◌<◌, ◌≤◌, List, length, slice_index}
use Rattle.sm_lists.specs.Rows.{row}
use Rattle.sm_room_list.specs.Tops.{IsOpen}

-- for each person a rank and whether it has been met, and persons that wait for their choice
pub record AreChoices {X : Type 0} (rows : List (List ℕ)) (ranks : List ℕ) (met : List X) (waiting : List ℕ) : Type 0 where
  pub rank_each : length ranks ≡ length rows
  pub met_each : length met ≡ length rows
  pub in_range : (k : ℕ) → k < length waiting → slice_index waiting k < length rows

-- a person's rank is that of the first place that is open where each person's top is its rank, or one more than the list is long
-- where none is
pub record HasFirstOpen (rows : List (List ℕ)) (ranks : List ℕ) (x : ℕ) : Type 0 where
  pub place : ℕ
  pub rank : slice_index ranks x ≡ place + 1
  pub on_list : place ≤ length (row rows x)
  pub here : place < length (row rows x) → IsOpen rows ranks x place
  pub earlier : (i : ℕ) → i < place → ¬ IsOpen rows ranks x i
