-- The order of vectors of numbers, one number for each agent of a side.
use Rattle.std.specs.Prelude.{◌≡◌, ℕ, ◌<◌, List, length, slice_index}

-- one vector is before another: it is smaller at the first of the agents, in the given order, at which they differ
pub record IsBefore (order v w : List ℕ) : Type 0 where
  pub at : ℕ
  pub within : at < length order
  pub smaller : slice_index v (slice_index order at) < slice_index w (slice_index order at)
  pub alike : (j : ℕ) → j < at → slice_index v (slice_index order j) ≡ slice_index w (slice_index order j)

-- two vectors have the same numbers below an agent
abbrev pub AreAlikeBelow : ℕ → (u v : List ℕ) → Type 0
AreAlikeBelow from u v = (p : ℕ) → p < from → slice_index u p ≡ slice_index v p
