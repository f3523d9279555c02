-- What can be wrong with an entry of a list of roommates, and which faulty entry is the first.
use Rattle.std.specs.Prelude.{◌≡◌, ◌≢◌, ℕ, ◌<◌, ◌≤◌, List, length}
use Rattle.sm_lists.specs.Rows.{row, entry}
use Rattle.sm_room.specs.declared.faults.RoomFault.{RoomFault}
use Rattle.sm_room.specs.declared.faults.RoomFault.TheVariants.{OutOfRange, Repeated, OutOfMemory}

-- the entry at place i of x's list names a person, who isn't named earlier on the list
pub record IsSound (rows : List (List ℕ)) (x i : ℕ) : Type 0 where
  pub in_range : entry rows x i < length rows
  pub fresh : (j : ℕ) → j < i → entry rows x j ≢ entry rows x i

-- x's list has a place i, and each entry before it is sound, on the lists of earlier persons and at earlier places
pub record IsReached (rows : List (List ℕ)) (x i : ℕ) : Type 0 where
  pub on_list : i < length (row rows x)
  pub earlier_persons : (z j : ℕ) → z < x → j < length (row rows z) → IsSound rows z j
  pub earlier_places : (j : ℕ) → j < i → IsSound rows x j

-- the first entry that isn't sound names nobody
pub record IsFirstOutOfRange (rows : List (List ℕ)) (x i : ℕ) : Type 0 where
  pub first : IsReached rows x i
  pub out_of_range : length rows ≤ entry rows x i

-- the first entry that isn't sound names a person for the second time on this list
pub record IsFirstRepeated (rows : List (List ℕ)) (x i : ℕ) : Type 0 where
  pub first : IsReached rows x i
  pub in_range : entry rows x i < length rows
  pub earlier : ℕ
  pub before : earlier < i
  pub repeated : entry rows x earlier ≡ entry rows x i

-- the first faulty entry stands at this person and place, and has this fault; want of memory says nothing of the lists
abbrev pub IsFirstFault : List (List ℕ) → RoomFault → Type 0
IsFirstFault rows (OutOfRange x i) = IsFirstOutOfRange rows x i
IsFirstFault rows (Repeated x i) = IsFirstRepeated rows x i
IsFirstFault rows OutOfMemory = Unit {0}
