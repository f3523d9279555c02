-- Orders that have each of so many numbers once.
use Rattle.std.specs.Prelude.{◌≡◌, ◌≢◌, ℕ, ◌<◌, Bool, true, false, List, length, slice_index, slice_index_or}

-- an order has each of so many numbers once
pub record IsEachOnce (count : ℕ) (order : List ℕ) : Type 0 where
  pub in_range : (j : ℕ) → j < length order → slice_index order j < count
  pub once : (i j : ℕ) → i < j → j < length order → slice_index order i ≢ slice_index order j
  pub each : (p : ℕ) → p < count → (j : ℕ) × (j < length order) × (slice_index order j ≡ p)

-- p stands among the first n of an order
pub record IsNamedBefore (order : List ℕ) (n p : ℕ) : Type 0 where
  pub at : ℕ
  pub before : at < n
  pub names : slice_index order at ≡ p

-- the marks of those whom an order names at its first n places, and of nobody else
pub record AreMarked (order : List ℕ) (n : ℕ) (met : List Bool) : Type 0 where
  pub named : (p : ℕ) → slice_index_or met p false ≡ true → IsNamedBefore order n p
  pub all : (j : ℕ) → j < n → slice_index_or met (slice_index order j) false ≡ true

-- the first n of an order are below the count and differ
pub record AreApart (order : List ℕ) (count n : ℕ) : Type 0 where
  pub in_range : (j : ℕ) → j < n → slice_index order j < count
  pub once : (i j : ℕ) → i < j → j < n → slice_index order i ≢ slice_index order j
