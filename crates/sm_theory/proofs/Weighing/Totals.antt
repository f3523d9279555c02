-- Sums of integers over 0..n-1 that differ at some places.
use Rattle.std.proofs.Common.{◌≡◌, ◌≢◌, ℕ, zero, suc, ◌<◌, ◌≤◌, ◌⊎◌, inl, inr, arith, refl, sym, ap, ◌∙◌, ℤ, ◌+ℤ◌, ◌-ℤ◌}
use Rattle.std.proofs.lemmas.Int.{ints}
use Rattle.sm_lists.proofs.Counting.{eq_or_ne, search_below, First, Decided-eq}
use Rattle.sm_theory.specs.Weights.{total}

-- terms that are the same have the same total
pub total_same : (n : ℕ) (f g : ℕ → ℤ) → ((p : ℕ) → p < n → f p ≡ g p) → total f n ≡ total g n
total_same zero f g same = refl
total_same (suc n) f g same =
    let one : total f n ≡ total g n = total_same n f g (λ p h. same p (omega arith)) in
    let two : f n ≡ g n = same n (omega arith) in
    omega (arith, ints)

-- functions that differ at q alone
pub total_one : (n q : ℕ) (f g : ℕ → ℤ) → q < n → ((p : ℕ) → p < n → p ≢ q → f p ≡ g p) → total f n ≡ total g n +ℤ (f q -ℤ g q)
total_one zero q f g h same = absurd (omega arith)
total_one (suc n) q f g h same = elim (eq_or_ne n q) [
  | inl e ↦
      let one : total f n ≡ total g n = total_same n f g (λ p k. same p (omega arith) (λ x. omega arith)) in
      let two : f q ≡ f n = ap f (sym e) in
      let three : g q ≡ g n = ap g (sym e) in
      omega (arith, ints)
  | inr e ↦
      let one : total f n ≡ total g n +ℤ (f q -ℤ g q) = total_one n q f g (omega arith) (λ p k x. same p (omega arith) x) in
      let two : f n ≡ g n = same n (omega arith) e in
      omega (arith, ints)
]

-- f at the first k of the places that `who` names, and g elsewhere
mixed_go : {X Y : Type 0} → ℤ → ℤ → X ⊎ Y → ℤ
mixed_go x y (inl _) = x
mixed_go x y (inr _) = y

mixed : (f g : ℕ → ℤ) (who : ℕ → ℕ) (k p : ℕ) → ℤ
mixed f g who k p = mixed_go (f p) (g p) (search_below k (λ i. who i ≡ p) (λ i _. Decided-eq (who i) p))

mixed_in : (f g : ℕ → ℤ) (who : ℕ → ℕ) (k p i : ℕ) → i < k → who i ≡ p → mixed f g who k p ≡ f p
unfolding mixed mixed_go
mixed_in f g who k p i h e = go (search_below k (λ i. who i ≡ p) (λ i _. Decided-eq (who i) p))
  where
    go : (d : First k (λ i. who i ≡ p) ⊎ ((i : ℕ) → i < k → who i ≡ p → ⊥)) → mixed_go (f p) (g p) d ≡ f p
    go (inl w) = refl
    go (inr none) = absurd (none i h e)

mixed_out : (f g : ℕ → ℤ) (who : ℕ → ℕ) (k p : ℕ) → ((i : ℕ) → i < k → who i ≡ p → ⊥) → mixed f g who k p ≡ g p
unfolding mixed mixed_go
mixed_out f g who k p none = go (search_below k (λ i. who i ≡ p) (λ i _. Decided-eq (who i) p))
  where
    go : (d : First k (λ i. who i ≡ p) ⊎ ((i : ℕ) → i < k → who i ≡ p → ⊥)) → mixed_go (f p) (g p) d ≡ g p
    go (inl w) = absurd (none w.at w.below w.holds)
    go (inr _) = refl

-- functions that differ at some places alone
module _ (n : ℕ) (f g : ℕ → ℤ) (size : ℕ) (who : ℕ → ℕ) (inside : (i : ℕ) → i < size → who i < n) (distinct : (i j : ℕ) → i < size → j < size → who i ≡ who j → i ≡ j) where
  total_mixed : (k : ℕ) → k ≤ size → total (mixed f g who k) n ≡ total g n +ℤ total (λ i. f (who i) -ℤ g (who i)) k
  total_mixed zero h =
      let one : total (mixed f g who 0) n ≡ total g n = total_same n (mixed f g who 0) g (λ p _. mixed_out f g who 0 p (λ i x. absurd (omega arith))) in
      omega (arith, ints)
  total_mixed (suc k) h =
      let before : total (mixed f g who k) n ≡ total g n +ℤ total (λ i. f (who i) -ℤ g (who i)) k = total_mixed k (omega arith) in
      let step : total (mixed f g who (suc k)) n ≡ total (mixed f g who k) n +ℤ (mixed f g who (suc k) (who k) -ℤ mixed f g who k (who k)) = total_one n (who k) (mixed f g who (suc k)) (mixed f g who k) (inside k (omega arith)) other in
      let new : mixed f g who (suc k) (who k) ≡ f (who k) = mixed_in f g who (suc k) (who k) k (omega arith) refl in
      let old : mixed f g who k (who k) ≡ g (who k) = mixed_out f g who k (who k) (λ i x e. let same = distinct i k (omega arith) (omega arith) e in omega arith) in
      omega (arith, ints)
    where
      other : (p : ℕ) → p < n → p ≢ who k → mixed f g who (suc k) p ≡ mixed f g who k p
      other p _ ne = elim (search_below k (λ i. who i ≡ p) (λ i _. Decided-eq (who i) p)) [
        | inl w ↦ mixed_in f g who (suc k) p w.at (omega (arith, w.below)) w.holds ∙ sym (mixed_in f g who k p w.at w.below w.holds)
        | inr none ↦ mixed_out f g who (suc k) p (λ i x e. elim (eq_or_ne i k) [ inl y ↦ ne (sym e ∙ ap who y) | inr y ↦ none i (omega arith) e ]) ∙ sym (mixed_out f g who k p none)
      ]

  -- the totals differ by the changes at the places that differ
  pub total_changes : ((p : ℕ) → p < n → ((i : ℕ) → i < size → who i ≡ p → ⊥) → f p ≡ g p) → total f n ≡ total g n +ℤ total (λ i. f (who i) -ℤ g (who i)) size
  total_changes same = total_same n f (mixed f g who size) all ∙ total_mixed size (omega arith)
    where
      all : (p : ℕ) → p < n → f p ≡ mixed f g who size p
      all p h = elim (search_below size (λ i. who i ≡ p) (λ i _. Decided-eq (who i) p)) [
        | inl w ↦ sym (mixed_in f g who size p w.at w.below w.holds)
        | inr none ↦ same p h none ∙ sym (mixed_out f g who size p none)
      ]
