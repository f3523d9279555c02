-- Sizes of integers.
use Rattle.std.proofs.Common.{◌≡◌, ℕ, suc, ◌+◌, ◌^◌, ◌≤◌, arith, ap, ℤ, pos, negsuc, ◌+ℤ◌, neg_ℤ, ◌≤ℤ◌, to_z, of_z, w64}
use Rattle.std.specs.Int.RustNames.{unsigned_abs}
use Rattle.std.proofs.lemmas.Int.{ints, to_z-of_z, fits_signed_from_abs}
use Rattle.sm_theory.specs.Weights.{total}

-- a size within a bound, from both sides
pub above_of : (z : ℤ) (n : ℕ) → unsigned_abs z ≤ n → neg_ℤ (pos n) ≤ℤ z
above_of (pos k) n h = omega (arith, ints)
above_of (negsuc k) n h = omega (arith, ints)

-- a number of size at most n is at most n
pub below_of : (z : ℤ) (n : ℕ) → unsigned_abs z ≤ n → z ≤ℤ pos n
below_of (pos k) n h = omega (arith, ints)
below_of (negsuc k) n h = omega (arith, ints)

-- a small number is itself in 64 bits
pub small_is : (z : ℤ) → unsigned_abs z ≤ 2 ^ 30 → to_z w64 (of_z w64 z) ≡ z
small_is z h = to_z-of_z w64 z (fits_signed_from_abs w64 z (omega arith))

-- one more value in a sum
pub total_more : (f : ℕ → ℤ) (n : ℕ) → total f (n + 1) ≡ total f n +ℤ f n
total_more f n = ap (total f) (let e : n + 1 ≡ suc n = omega arith in e)
