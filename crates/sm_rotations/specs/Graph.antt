-- What each rotation needs and which ones need it, as lists of numbers.
use Rattle.std.specs.Prelude.{◌≡◌, ℕ, zero, suc, ◌+◌, ◌-◌, ◌<◌, ◌≤◌, ◌++◌, [], ◌∷◌, nat_eq, Bool, true, if◌then◌else◌, List, length, slice_get, slice_index_or, count_by, Option}
use Rattle.sm_market.specs.Lists.{Lists, row}
use Rattle.sm_theory.specs.Chains.{rotation_at, IsNeededBy}
use Rattle.sm_rotations.specs.Marking.{IsRisingListOf}

-- how often a number stands in a list
abbrev pub times : List ℕ → ℕ → ℕ
times numbers k = count_by (λ x. nat_eq x k) numbers

-- how often a number stands in those of the first n lists whose own numbers pass a test
abbrev pub times_below : (ℕ → Bool) → List (List ℕ) → ℕ → ℕ → ℕ
times_below test lists k zero = 0
times_below test lists k (suc n) = times_below test lists k n + (if test n then times (row lists n) k else 0)

-- the last number of a list
abbrev pub last_of : List ℕ → Option ℕ
last_of numbers = slice_get numbers (length numbers - 1)

-- j stands on the list of a rotation, once, just where j < n and j needs that rotation
pub record AreFollowers (l : Lists) (rotations : List (List (ℕ × ℕ))) (n : ℕ) (followers : List (List ℕ)) : Type 0 where
  pub one_each : length followers ≡ length rotations
  pub sound : (i j : ℕ) → 0 < times (row followers i) j → (j < n) × (i < length rotations) × IsNeededBy l (rotation_at rotations i) (rotation_at rotations j)
  pub all : (i j : ℕ) → j < n → i < length rotations → IsNeededBy l (rotation_at rotations i) (rotation_at rotations j) → 0 < times (row followers i) j
  pub once : (i j : ℕ) → times (row followers i) j ≤ 1

-- each list has, rising, the numbers below n of those on whose lists its own number stands
pub record AreTurnedBack (followers : List (List ℕ)) (n : ℕ) (needs : List (List ℕ)) : Type 0 where
  pub one_each : length needs ≡ length followers
  pub each : (j : ℕ) → IsRisingListOf (λ i. (i < n) × (0 < times (row followers i) j)) (row needs j)

-- the lists of those have the number at their ends, and all else stays
pub record AreAddedTo (number : ℕ) (those : List ℕ) (before after : List (List ℕ)) : Type 0 where
  pub one_each : length after ≡ length before
  pub to : (j : ℕ) → 0 < times those j → row after j ≡ row before j ++ number ∷ []
  pub others : (j : ℕ) → times those j ≡ 0 → row after j ≡ row before j

-- how often each number stands in the first n lists
pub record AreCounts (lists : List (List ℕ)) (n : ℕ) (counts : List ℕ) : Type 0 where
  pub one_each : length counts ≡ length lists
  pub each : (j : ℕ) → j < length lists → slice_index_or counts j 0 ≡ times_below (λ _. true) lists j n

-- each number of a list is counted
pub record AreCounted (list : List ℕ) (before after : List ℕ) : Type 0 where
  pub one_each : length after ≡ length before
  pub each : (j : ℕ) → slice_index_or after j 0 ≡ slice_index_or before j 0 + times list j
