-- The parties of a permutation of persons, each with its members in turn.
use Rattle.std.specs.Prelude.{◌≡◌, ℕ, ◌+◌, ◌-◌, ◌<◌, List, length, slice_index}
use Rattle.sm_lists.specs.Rows.{row, entry}
use Rattle.sm_theory.specs.Partitions.{successor_in}

-- a party from its lowest member along successors, to the one whose successor is the lowest (Tan 1991)
pub record IsParty (next party : List ℕ) : Type 0 where
  pub some : 0 < length party
  pub inside : (i : ℕ) → i < length party → slice_index party i < length next
  pub lowest : (i : ℕ) → 0 < i → i < length party → slice_index party 0 < slice_index party i
  pub along : (i : ℕ) → i + 1 < length party → slice_index party (i + 1) ≡ successor_in next (slice_index party i)
  pub returns : successor_in next (slice_index party (length party - 1)) ≡ slice_index party 0

-- x is a member of one of the parties
pub record IsInSomeParty (parties : List (List ℕ)) (x : ℕ) : Type 0 where
  pub party : ℕ
  pub at : ℕ
  pub on_list : at < length (row parties party)
  pub is : entry parties party at ≡ x

-- all parties, in the order of their lowest members
pub record AreParties (next : List ℕ) (parties : List (List ℕ)) : Type 0 where
  pub each : (k : ℕ) → k < length parties → IsParty next (row parties k)
  pub rising : (j k : ℕ) → j < k → k < length parties → entry parties j 0 < entry parties k 0
  pub all : (x : ℕ) → x < length next → IsInSomeParty parties x
