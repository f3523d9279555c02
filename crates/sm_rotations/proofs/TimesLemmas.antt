-- How often a test is passed in a list.
use Rattle.std.proofs.Common.{◌≡◌, ◌≢◌, ℕ, zero, suc, ◌+◌, ◌<◌, ◌≤◌, inl, inr, arith, refl, sym, ap, List, [], ◌∷◌, length, Bool, true, false, cond, if◌then◌else◌, slice_index_or, take}
use Rattle.std.specs.Bool.{nat_eq}
use Rattle.std.specs.List.{count_by, Contains}
use Rattle.std.proofs.lemmas.Bool.{cases_Bool, eq-eqb, eqb-true, ne_eqb}
use Rattle.std.proofs.lemmas.List.Sums.{sum_by-cons, get_or-le-sum_by, sum_by-take-le, sum_by_more}
use Rattle.sm_lists.proofs.Counting.{eq_or_ne}
use Rattle.sm_market.specs.Lists.{row}
use Rattle.sm_rotations.specs.Graph.{times, times_below}

-- a test as a number
abbrev num : Bool → ℕ
num b = cond b 1 0

-- a test that passes counts one
pub num_true : (b : Bool) → b ≡ true → num b ≡ 1
num_true b e = ap num e

-- a test that fails counts nothing
pub num_false : (b : Bool) → b ≡ false → num b ≡ 0
num_false b e = ap num e

module _ {X : Type 0} (p : X → Bool) where
  -- an item that fails doesn't count
  pub count_no : (x : X) (xs : List X) → p x ≡ false → count_by p (x ∷ xs) ≡ count_by p xs
  count_no x xs e =
      omega (arith, num_false (p x) e, sum_by-cons (λ x. cond (p x) 1 0) x xs)

  -- an item that passes
  pub record IsThere (xs : List X) (d : X) : Type 0 where
    pub at : ℕ
    pub inside : at < length xs
    pub is : p (slice_index_or xs at d) ≡ true

  -- where something counts, some item passes
  pub count_found : (xs : List X) (d : X) → 0 < count_by p xs → IsThere xs d
  count_found [] d some = absurd (omega arith)
  count_found (x ∷ xs) d some = elim (cases_Bool (p x)) [
    | inl e ↦ record { at = 0; inside = omega arith; is = e }
    | inr e ↦ let w = count_found xs d (omega (arith, count_no x xs e)) in record { at = suc w.at; inside = omega (arith, w.inside); is = w.is }
  ]

  -- where some item passes, something counts
  pub count_some : (xs : List X) (i : ℕ) (d : X) → i < length xs → p (slice_index_or xs i d) ≡ true → 0 < count_by p xs
  count_some xs i d inside e =
      omega (arith, num_true (p (slice_index_or xs i d)) e, get_or-le-sum_by (λ x. cond (p x) 1 0) xs i d inside)

-- how often a number stands in the lists of those below n that pass a test
module _ (lists : List (List ℕ)) (k : ℕ) where
  taken : (b : Bool) (x : ℕ) → b ≡ true → (if b then x else 0) ≡ x
  taken b x e = ap (λ b. if b then x else 0) e

  left_out : (b : Bool) (x : ℕ) → b ≡ false → (if b then x else 0) ≡ 0
  left_out b x e = ap (λ b. if b then x else 0) e

  -- one list more
  pub below_suc : (test : ℕ → Bool) (n : ℕ) → times_below test lists k (suc n) ≡ times_below test lists k n + (if test n then times (row lists n) k else 0)
  below_suc test n = refl

  -- where it stands in none of the lists that pass, it stands there never
  pub below_none : (test : ℕ → Bool) (n : ℕ) → ((i : ℕ) → i < n → test i ≡ true → times (row lists i) k ≡ 0) → times_below test lists k n ≡ 0
  below_none test zero none = refl
  below_none test (suc n) none = elim (cases_Bool (test n)) [
    | inl e ↦ omega (arith, below_suc test n, taken (test n) (times (row lists n) k) e, none n (omega arith) e, below_none test n (λ i a. none i (omega arith)))
    | inr e ↦ omega (arith, below_suc test n, left_out (test n) (times (row lists n) k) e, below_none test n (λ i a. none i (omega arith)))
  ]

  -- in all of them it stands at least as often as in one
  pub below_some : (test : ℕ → Bool) (n i : ℕ) → i < n → test i ≡ true → times (row lists i) k ≤ times_below test lists k n
  below_some test zero i a e = absurd (omega arith)
  below_some test (suc n) i a e = elim (eq_or_ne i n) [
    | inl is ↦ rw is (omega (arith, below_suc test n, taken (test n) (times (row lists n) k) (rw is at e)))
    | inr ne ↦ omega (arith, below_suc test n, below_some test n i (omega arith) e)
  ]

  same_term : (p q : ℕ → Bool) (n : ℕ) → p n ≡ q n → (if p n then times (row lists n) k else 0) ≡ (if q n then times (row lists n) k else 0)
  same_term p q n e = ap (λ b. if b then times (row lists n) k else 0) e

  -- tests that pass the same lists count the same
  pub below_alike : (p q : ℕ → Bool) (n : ℕ) → ((i : ℕ) → i < n → p i ≡ q i) → times_below p lists k n ≡ times_below q lists k n
  below_alike p q zero same = refl
  below_alike p q (suc n) same = omega (arith, below_suc p n, below_suc q n, same_term p q n (same n (omega arith)), below_alike p q n (λ i a. same i (omega arith)))

  -- where only j passes the one test and not the other
  pub below_apart : (p q : ℕ → Bool) (n j : ℕ) → j < n → p j ≡ true → q j ≡ false → ((i : ℕ) → i < n → i ≢ j → p i ≡ q i) → times_below p lists k n ≡ times_below q lists k n + times (row lists j) k
  below_apart p q zero j a here there same = absurd (omega arith)
  below_apart p q (suc n) j a here there same = elim (eq_or_ne j n) [
    | inl is ↦ rw is (omega (
      arith,
      below_suc p n,
      below_suc q n,
      taken (p n) (times (row lists n) k) (rw is at here),
      left_out (q n) (times (row lists n) k) (rw is at there),
      below_alike p q n (λ i b. same i (omega arith) (omega arith)),
    ))
    | inr ne ↦ omega (arith, below_suc p n, below_suc q n, same_term p q n (same n (omega arith) (λ e. ne (sym e))), below_apart p q n j (omega arith) here there (λ i b. same i (omega arith)))
  ]

  -- no more often than there are lists, where it stands in each at most once
  pub below_le : (test : ℕ → Bool) (n : ℕ) → ((i : ℕ) → times (row lists i) k ≤ 1) → times_below test lists k n ≤ n
  below_le test zero once = omega arith
  below_le test (suc n) once = elim (cases_Bool (test n)) [
    | inl e ↦ omega (arith, below_suc test n, taken (test n) (times (row lists n) k) e, once n, below_le test n once)
    | inr e ↦ omega (arith, below_suc test n, left_out (test n) (times (row lists n) k) e, below_le test n once)
  ]

-- one number more
module _ (xs : List ℕ) (i k : ℕ) (inside : i < length xs) where
  -- where the next item is the number, it stands in front of that once more
  pub times_more : slice_index_or xs i 0 ≡ k → times (take (i + 1) xs) k ≡ times (take i xs) k + 1
  times_more e =
      omega (arith, num_true (nat_eq (slice_index_or xs i 0) k) (eq-eqb (slice_index_or xs i 0) k e), sum_by_more (λ x. cond (nat_eq x k) 1 0) xs i 0 inside)

  -- where it is another, as often as before
  pub times_same : slice_index_or xs i 0 ≢ k → times (take (i + 1) xs) k ≡ times (take i xs) k
  times_same ne =
      omega (arith, num_false (nat_eq (slice_index_or xs i 0) k) (ne_eqb (slice_index_or xs i 0) k ne), sum_by_more (λ x. cond (nat_eq x k) 1 0) xs i 0 inside)

-- in the front of a list a number stands no more often than in all of it
pub times_part : (xs : List ℕ) (i k : ℕ) → times (take i xs) k ≤ times xs k
times_part xs i k = sum_by-take-le (λ x. cond (nat_eq x k) 1 0) xs i

-- what stands in a list stands there at least once
pub times_of_contains : (xs : List ℕ) (k : ℕ) → Contains xs k → 0 < times xs k
times_of_contains xs k w = count_some (λ x. nat_eq x k) xs w.0 k w.1 (eq-eqb (slice_index_or xs w.0 k) k w.2)

-- what stands in a list at least once is on it
pub contains_of_times : (xs : List ℕ) (k : ℕ) → 0 < times xs k → Contains xs k
contains_of_times xs k some =
    let w = count_found (λ x. nat_eq x k) xs k some in
    (w.at, w.inside, eqb-true (slice_index_or xs w.at k) k w.is)
