-- Trails: numbers that were come by, in order.
use Rattle.std.specs.Prelude.{◌≢◌, ℕ, ◌<◌, ◌^◌, List, length, slice_index}

-- the numbers below a bound that were come by, in order
pub record Trail : Type 0 where
  pub bound : ℕ
  pub items : List ℕ

-- each is below the bound, and none comes twice
pub record IsTrail (t : Trail) : Type 0 where
  pub few : t.bound < 2 ^ 32
  pub below : (k : ℕ) → k < length t.items → slice_index t.items k < t.bound
  pub distinct : (i j : ℕ) → i < j → j < length t.items → slice_index t.items i ≢ slice_index t.items j
