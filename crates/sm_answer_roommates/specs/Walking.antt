-- Finding the parties of a partition, one after another, and going along each from its lowest member.
use Rattle.std.specs.Prelude.{◌≡◌, ◌≢◌, ℕ, ◌<◌, ◌⊎◌, Bool, true, false, List, length, slice_index, slice_index_or}
use Rattle.sm_lists.specs.Rows.{row, entry}
use Rattle.sm_theory.specs.Partitions.{successor_in, after}
use Rattle.sm_answer_roommates.specs.Parties.{IsParty, IsInSomeParty}

-- whether a person was met
abbrev pub is_met : List Bool → ℕ → Bool
is_met met x = slice_index_or met x false

-- x is on a list
pub record IsPartyMember (list : List ℕ) (x : ℕ) : Type 0 where
  pub at : ℕ
  pub on_list : at < length list
  pub is : slice_index list at ≡ x

-- the parties of the persons below x are found, and their members are met, and no others
pub record ArePartiesFound (next : List ℕ) (x : ℕ) (met : List Bool) (parties : List (List ℕ)) : Type 0 where
  pub one_each : length met ≡ length next
  pub below : (y : ℕ) → y < x → is_met met y ≡ true
  pub back : (y : ℕ) → y < length next → is_met met (successor_in next y) ≡ true → is_met met y ≡ true
  pub each : (k : ℕ) → k < length parties → IsParty next (row parties k)
  pub earlier : (k : ℕ) → k < length parties → entry parties k 0 < x
  pub rising : (j k : ℕ) → j < k → k < length parties → entry parties j 0 < entry parties k 0
  pub members : (y : ℕ) → is_met met y ≡ true → IsInSomeParty parties y

-- the party of x, whose members are met besides those who were met before
pub record IsPartyOf (next : List ℕ) (x : ℕ) (before after : List Bool) (party : List ℕ) : Type 0 where
  pub one_each : length after ≡ length next
  pub is : IsParty next party
  pub first : slice_index party 0 ≡ x
  pub kept : (y : ℕ) → is_met before y ≡ true → is_met after y ≡ true
  pub added : (y : ℕ) → is_met after y ≡ true → (is_met before y ≡ true) ⊎ IsPartyMember party y
  pub listed : (i : ℕ) → i < length party → is_met after (slice_index party i) ≡ true

-- the first members of the party of x, the next of whom is y
pub record IsPartyFront (next : List ℕ) (x : ℕ) (before now : List Bool) (party : List ℕ) (y : ℕ) : Type 0 where
  pub one_each : length now ≡ length next
  pub some : 0 < length party
  pub steps : (i : ℕ) → i < length party → slice_index party i ≡ after next x i
  pub comes : y ≡ after next x (length party)
  pub apart : (i : ℕ) → 0 < i → i < length party → after next x i ≢ x
  pub kept : (z : ℕ) → is_met before z ≡ true → is_met now z ≡ true
  pub added : (z : ℕ) → is_met now z ≡ true → (is_met before z ≡ true) ⊎ IsPartyMember party z
  pub listed : (i : ℕ) → i < length party → is_met now (slice_index party i) ≡ true
