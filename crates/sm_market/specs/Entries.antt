-- What can be wrong with an entry of a list, and which faulty entry is the first.
use Rattle.std.specs.Prelude.{◌≡◌, ◌≢◌, ℕ, ◌<◌, ◌≤◌, List, length}
use Rattle.sm_market.specs.Lists.{row, entry, place_of}

-- the entry at place i of a's list names an agent of the other side, who isn't named earlier on the list, and whose
-- list names a
pub record IsSound (rows others : List (List ℕ)) (a i : ℕ) : Type 0 where
  pub in_range : entry rows a i < length others
  pub fresh : (j : ℕ) → j < i → entry rows a j ≢ entry rows a i
  pub returned : let b = entry rows a i in place_of others b a < length (row others b)

-- each entry of one side's lists is sound
pub record AreSound (rows others : List (List ℕ)) : Type 0 where
  pub sound : (a i : ℕ) → i < length (row rows a) → IsSound rows others a i

-- a's list has a place i, and each entry before it is sound, on the lists of earlier agents and at earlier places
pub record IsReached (rows others : List (List ℕ)) (a i : ℕ) : Type 0 where
  pub on_list : i < length (row rows a)
  pub earlier_agents : (c j : ℕ) → c < a → j < length (row rows c) → IsSound rows others c j
  pub earlier_places : (j : ℕ) → j < i → IsSound rows others a j

-- the first entry that isn't sound names no agent of the other side
pub record IsFirstOutOfRange (rows others : List (List ℕ)) (a i : ℕ) : Type 0 where
  pub first : IsReached rows others a i
  pub out_of_range : length others ≤ entry rows a i

-- the first entry that isn't sound names an agent of the other side, for the second time on this list
pub record IsFirstRepeated (rows others : List (List ℕ)) (a i : ℕ) : Type 0 where
  pub first : IsReached rows others a i
  pub in_range : entry rows a i < length others
  pub earlier : ℕ
  pub before : earlier < i
  pub repeated : entry rows a earlier ≡ entry rows a i

-- the first entry that isn't sound names, for the first time on this list, an agent of the other side that doesn't
-- name a
pub record IsFirstNotMutual (rows others : List (List ℕ)) (a i : ℕ) : Type 0 where
  pub first : IsReached rows others a i
  pub in_range : entry rows a i < length others
  pub fresh : (j : ℕ) → j < i → entry rows a j ≢ entry rows a i
  pub one_sided : let b = entry rows a i in place_of others b a ≡ length (row others b)
