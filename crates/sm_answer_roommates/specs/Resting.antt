-- Noting who is left out, one person after another.
use Rattle.std.specs.Prelude.{ℕ, ◌<◌, List, Contains, length, slice_index}
use Rattle.sm_theory.specs.Partitions.{IsLowestOfOdd}

-- of the persons below a bound those who are left out are noted, and no others
pub record AreLeftOutBelow (rows : List (List ℕ)) (next : List ℕ) (bound : ℕ) (out : List ℕ) : Type 0 where
  pub below : (i : ℕ) → i < length out → slice_index out i < bound
  pub rising : (i j : ℕ) → i < j → j < length out → slice_index out i < slice_index out j
  pub each : (i : ℕ) → i < length out → IsLowestOfOdd rows next (slice_index out i)
  pub all : (x : ℕ) → x < bound → IsLowestOfOdd rows next x → Contains out x
