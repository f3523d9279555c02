-- What is noted of a list, round by round, and the cross places that are written by then.
use Rattle.std.specs.Prelude.{◌≡◌, ◌≢◌, ℕ, ◌<◌, ◌≤◌, ◌==◌, Bool, true, false, List, [], Option, Some, None, length, slice_index, slice_index_or, slice_set, if◌then◌else◌}
use Rattle.sm_lists.specs.Rows.{row, entry}
use Rattle.sm_lists.specs.Crosses.{cross_place}
use Rattle.sm_lists.specs.declared.notes.Note.{Note}

-- what stands for a note past the last
abbrev pub no_note : Note
no_note = record { stamp = 0; place = 0 }

-- what was noted in a round
abbrev pub noted_in : ℕ → Note → Option ℕ
noted_in round note = if note.stamp == round then Some note.place else None

-- the place that is noted for each agent of a side, and how many rounds there have been
pub record Noted : Type 0 where
  pub rounds : ℕ
  pub places : List (Option ℕ)

-- the place that is noted for an agent
abbrev pub noted_of : List (Option ℕ) → ℕ → Option ℕ
noted_of places a = slice_index_or places a None

-- the places once one is noted for an agent, unless there is one
abbrev pub first_noted : Option ℕ → List (Option ℕ) → ℕ → ℕ → List (Option ℕ)
first_noted (Some _) places a place = places
first_noted None places a place = slice_set places a (Some place)

-- beside the entries that name agents before b are their cross places, and beside the others none
pub record ArePlacesBefore (rows others : List (List ℕ)) (b : ℕ) (crosses : List (List (Option ℕ))) : Type 0 where
  pub one_each : length crosses ≡ length rows
  pub as_long : (a : ℕ) → length (slice_index_or crosses a []) ≡ length (row rows a)
  pub written : (a i : ℕ) → i < length (row rows a) → entry rows a i < b
      → slice_index_or (slice_index_or crosses a []) i None ≡ cross_place others (entry rows a i) a
  pub unwritten : (a i : ℕ) → b ≤ entry rows a i → slice_index_or (slice_index_or crosses a []) i None ≡ None

-- no list but b's is changed, and that one is as long
pub record AreKeptBut (b : ℕ) (old new : List (List (Option ℕ))) : Type 0 where
  pub one_each : length new ≡ length old
  pub as_long : (c : ℕ) → length (slice_index_or new c []) ≡ length (slice_index_or old c [])
  pub others : (c : ℕ) → c ≢ b → slice_index_or new c [] ≡ slice_index_or old c []

-- a list's cross places once one is put at a place that is found, unless this was done before
abbrev pub put_once : Bool → Option ℕ → ℕ → List (Option ℕ) → List (Option ℕ)
put_once true _ place crosses = crosses
put_once false None place crosses = crosses
put_once false (Some k) place crosses = slice_set crosses k (Some place)

-- a list's cross places once one is put at another place too, where it is found
abbrev pub shared_from : Option ℕ → ℕ → List (Option ℕ) → List (Option ℕ)
shared_from None place crosses = crosses
shared_from (Some first) place crosses = slice_set crosses place (slice_index_or crosses first None)

-- beside each entry of a list that is noted for its agent, or whose agent isn't of the side, is its agent's own cross place
pub record HaveFirst (own : ℕ → Option ℕ) (list : List ℕ) (noted crosses : List (Option ℕ)) : Type 0 where
  pub as_long : length crosses ≡ length list
  pub first : (k : ℕ) → k < length list → (slice_index list k < length noted → noted_of noted (slice_index list k) ≡ Some k)
      → slice_index_or crosses k None ≡ own (slice_index list k)

-- beside each entry of a list is its agent's own cross place
pub record HaveAll (own : ℕ → Option ℕ) (list : List ℕ) (crosses : List (Option ℕ)) : Type 0 where
  pub as_long : length crosses ≡ length list
  pub all : (k : ℕ) → k < length list → slice_index_or crosses k None ≡ own (slice_index list k)
