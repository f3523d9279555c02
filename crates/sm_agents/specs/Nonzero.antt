-- Numbers that aren't all 0.
use Rattle.std.specs.Prelude.{◌≢◌, ℕ, zero, suc, ◌<◌, slice_index_or, Bool, true, false, List, length, ℤ, pos, negsuc}

-- a number is 0
abbrev pub is_zero : ℤ → Bool
is_zero (pos zero) = true
is_zero (pos (suc n)) = false
is_zero (negsuc n) = false

-- one of these numbers isn't 0
pub record HasNonzero (numbers : List ℤ) : Type 0 where
  pub at : ℕ
  pub there : at < length numbers
  pub isnt : slice_index_or numbers at (pos 0) ≢ pos 0
