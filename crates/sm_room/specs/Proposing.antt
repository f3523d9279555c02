-- How far the proposals of phase one have come.
use Rattle.std.specs.Prelude.{◌≡◌, ◌≢◌, ℕ, ◌<◌, ◌≤◌, List, length, slice_index, slice_set}
use Rattle.sm_lists.specs.Rows.{row, entry, place_of}
use Rattle.sm_room.specs.Bounds.{IsLeft, IsFirst, IsLast, IsProposing, bound_in}

-- The persons below `begun` have begun to propose. Each of them but `away` is last on the list of its first, and `away` is
-- last on no list. Nobody whom a person has passed is left on its list.
pub record IsProgress (rows : List (List ℕ)) (begun away : ℕ) (passed bounds : List ℕ) : Type 0 where
  pub passed_each : length passed ≡ length rows
  pub bound_each : length bounds ≡ length rows
  pub on_list : (x : ℕ) → slice_index passed x ≤ length (row rows x)
  pub proposing : IsProposing rows (bound_in bounds)
  pub all_passed : (x y : ℕ) → IsLeft rows (bound_in bounds) x y → slice_index passed x ≤ place_of rows x y
  pub settled : (x y : ℕ) → x < begun → x ≢ away → IsFirst rows (bound_in bounds) x y → IsLast rows (bound_in bounds) y x
  pub last_begun : (x y : ℕ) → IsLast rows (bound_in bounds) y x → x < begun
  pub last_rests : (x y : ℕ) → IsLast rows (bound_in bounds) y x → x ≢ away

-- x proposes to the person at a place of its list, who is left there and takes it
pub record IsProposalTaken (rows : List (List ℕ)) (x place : ℕ) (before after : List ℕ) : Type 0 where
  pub left : IsLeft rows (bound_in before) x (entry rows x place)
  pub stands : after ≡ slice_set before (entry rows x place) (place_of rows (entry rows x place) x)

-- nobody was taken before
pub record IsTakenIn (rows : List (List ℕ)) (x place : ℕ) (before after : List ℕ) : Type 0 where
  pub taken : IsProposalTaken rows x place before after
  pub was_free : length (row rows (entry rows x place)) ≤ slice_index before (entry rows x place)

-- z was, and is let go
pub record IsTakenFor (rows : List (List ℕ)) (x place z : ℕ) (before after : List ℕ) : Type 0 where
  pub taken : IsProposalTaken rows x place before after
  pub on_list : slice_index before (entry rows x place) < length (row rows (entry rows x place))
  pub lets_go : z ≡ entry rows (entry rows x place) (slice_index before (entry rows x place))

-- the person there isn't left
pub record IsPassed (rows : List (List ℕ)) (x place z : ℕ) (before after : List ℕ) : Type 0 where
  pub gone : ¬ IsLeft rows (bound_in before) x (entry rows x place)
  pub same : after ≡ before
  pub who : z ≡ x

-- those who are left on x's list at places below `upto`, in order
pub record IsListLeft (rows : List (List ℕ)) (bounds : List ℕ) (x upto : ℕ) (list : List ℕ) : Type 0 where
  pub left : (i : ℕ) → i < length list → IsLeft rows (bound_in bounds) x (slice_index list i)
  pub below : (i : ℕ) → i < length list → place_of rows x (slice_index list i) < upto
  pub all : (y : ℕ) → IsLeft rows (bound_in bounds) x y → place_of rows x y < upto → (i : ℕ) × i < length list × (slice_index list i ≡ y)
  pub ordered : (i j : ℕ) → i < j → j < length list → place_of rows x (slice_index list i) < place_of rows x (slice_index list j)
