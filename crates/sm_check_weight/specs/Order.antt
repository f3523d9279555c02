-- The order of the lines of an answer of `weight`, as far as judging them line by line stands on it.
use Rattle.std.specs.Prelude.{◌≡◌, ℕ, ◌+◌, List, length, take, Some, true, false, IsSome}
use Rattle.std.specs.List.{list_all, slice_get}
use Rattle.sm_agents.specs.Written.{Written}
use Rattle.sm_report.specs.Lines.{LineData}
use Rattle.sm_check_clauses.specs.Said.{rotations_in, needs_in, all_needs_in, is_up_to_rotations}

-- what a rotation needs stands behind it, before the next one, and stands there for each; and nothing else stands among them
pub record AreNeedsInOrder (w : Written) (lines : List LineData) : Type 0 where
  pub at : (k : ℕ) (x : LineData) → slice_get lines k ≡ Some x → IsSome (needs_in x)
      → length (all_needs_in (take k lines)) + 1 ≡ length (rotations_in w (take k lines))
  pub behind : (k : ℕ) (x : LineData) → slice_get lines k ≡ Some x → is_up_to_rotations x ≡ false
      → length (all_needs_in (take k lines)) ≡ length (rotations_in w (take k lines))
  pub up : (k : ℕ) (x : LineData) → slice_get lines k ≡ Some x → is_up_to_rotations x ≡ true → list_all is_up_to_rotations (take k lines) ≡ true
