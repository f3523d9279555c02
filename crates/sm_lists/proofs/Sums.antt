-- Sums of the first n values.
use Rattle.std.proofs.Common.{◌≡◌, ◌≢◌, ℕ, zero, suc, ◌+◌, ◌<◌, ◌≤◌, inl, inr, arith, refl, sym, ap, ◌∙◌, Bool, true, false, cond}
use Rattle.std.proofs.lemmas.Bool.{cases_eq}
use Rattle.sm_lists.specs.Sums.{sum_to}
use Rattle.sm_lists.proofs.Counting.{eq_or_ne}

-- terms that are the same have the same sum
pub sum_same : (n : ℕ) (f g : ℕ → ℕ) → ((i : ℕ) → i < n → f i ≡ g i) → sum_to f n ≡ sum_to g n
sum_same zero f g e = refl
sum_same (suc n) f g e = omega (arith, sum_same n f g (λ i h. e i (omega arith)), e n (omega arith))

-- terms that are no greater have no greater sum
pub sum_le : (n : ℕ) (f g : ℕ → ℕ) → ((i : ℕ) → i < n → f i ≤ g i) → sum_to f n ≤ sum_to g n
sum_le zero f g e = omega arith
sum_le (suc n) f g e = omega (arith, sum_le n f g (λ i h. e i (omega arith)), e n (omega arith))

-- a sum of zeros is zero
pub sum_none : (n : ℕ) (f : ℕ → ℕ) → ((i : ℕ) → i < n → f i ≡ 0) → sum_to f n ≡ 0
sum_none zero f e = refl
sum_none (suc n) f e = omega (arith, sum_none n f (λ i h. e i (omega arith)), e n (omega arith))

-- the sum of sums is the sum of both
pub sum_plus : (n : ℕ) (f g : ℕ → ℕ) → sum_to (λ i. f i + g i) n ≡ sum_to f n + sum_to g n
sum_plus zero f g = omega arith
sum_plus (suc n) f g = omega (arith, sum_plus n f g)

-- two functions that differ at k alone
pub sum_one : (n k : ℕ) (f g : ℕ → ℕ) (d : ℕ) → k < n → ((i : ℕ) → i < n → i ≢ k → f i ≡ g i) → f k ≡ g k + d → sum_to f n ≡ sum_to g n + d
sum_one zero k f g d lt same here = absurd (omega arith)
sum_one (suc n) k f g d lt same here = elim (cases_eq n k) [
  | inl e ↦
      let a : f n ≡ f k = ap f e in
      let b : g n ≡ g k = ap g e in
      omega (arith, a, b, sum_same n f g (λ i h. same i (omega arith) (λ x. omega arith)))
  | inr e ↦ omega (arith, sum_one n k f g d (omega arith) (λ i h x. same i (omega arith) x) here, same n (omega arith) e)
]

-- the first term and the sum of the later ones
pub sum_first : (n : ℕ) (f : ℕ → ℕ) → sum_to f (suc n) ≡ f 0 + sum_to (λ k. f (suc k)) n
sum_first zero f = omega arith
sum_first (suc n) f = omega (arith, sum_first n f)

-- the order of summation
pub sum_swap : (n m : ℕ) (f : ℕ → ℕ → ℕ) → sum_to (λ i. sum_to (f i) m) n ≡ sum_to (λ j. sum_to (λ i. f i j) n) m
sum_swap zero m f = sym (sum_none m (λ j. 0) (λ j h. refl))
sum_swap (suc n) m f = omega (arith, sum_swap n m f, sum_plus m (λ j. sum_to (λ i. f i j) n) (λ j. f n j))

-- where the greater of two sums is no greater, the values are equal
pub sum_tight : (n : ℕ) (f g : ℕ → ℕ) → ((i : ℕ) → i < n → f i ≤ g i) → sum_to g n ≤ sum_to f n → (i : ℕ) → i < n → f i ≡ g i
sum_tight zero f g e h i a = absurd (omega arith)
sum_tight (suc n) f g e h i a =
    let le : sum_to f n ≤ sum_to g n = sum_le n f g (λ i b. e i (omega arith)) in
    let last : f n ≤ g n = e n (omega arith) in
    elim (eq_or_ne i n) [
      | inl x ↦ let y : f n ≡ g n = omega arith in ap f x ∙ y ∙ ap g (sym x)
      | inr x ↦ sum_tight n f g (λ i b. e i (omega arith)) (omega arith) i (omega arith)
    ]

-- a sum under a test
pub sum_cond : (n : ℕ) (b : Bool) (f : ℕ → ℕ) → cond b (sum_to f n) 0 ≡ sum_to (λ i. cond b (f i) 0) n
sum_cond n true f = refl
sum_cond n false f = sym (sum_none n (λ i. 0) (λ i h. refl))
