-- Where a person stands in its party: how many steps behind the lowest, and how many members there are.
use Rattle.std.proofs.Common.{◌≡◌, ◌≢◌, ℕ, zero, suc, ◌+◌, ◌-◌, ◌<◌, ◌≤◌, ◌⊎◌, inl, inr, arith, refl, sym, ap, ◌∙◌, List, length}
use Rattle.sm_lists.proofs.Counting.{Decided-eq, lt_or_le, eq_or_ne, less_same_more, First, search_below, Decided-some, find_cycle}
use Rattle.sm_theory.specs.Partitions.{successor_in, after, IsStablePartition}
use Rattle.sm_theory.proofs.Room.Bridge.{one_successor, after_is, after_inside}
use Rattle.sm_theory.proofs.Net.Tests.{some_first}

-- x is so many steps behind the lowest of its party, which has so many members
pub record Spot (rows : List (List ℕ)) (next : List ℕ) (x : ℕ) : Type 0 where
  pub lead : ℕ
  pub inside : lead < length rows
  pub at : ℕ
  pub size : ℕ
  pub below : at < size
  pub is : after next lead at ≡ x
  pub returns : after next lead size ≡ lead
  pub apart : (i j : ℕ) → i < j → j < size → after next lead i ≢ after next lead j
  pub lowest : (i : ℕ) → lead ≤ after next lead i

-- as many steps lead to the same
as_many : (next : List ℕ) (x i j : ℕ) → i ≡ j → after next x i ≡ after next x j
as_many next x i j e = ap (after next x) e

-- steps add up
pub after_plus : (next : List ℕ) (x i j : ℕ) → after next (after next x j) i ≡ after next x (i + j)
after_plus next x zero j = as_many next x j (0 + j) (omega arith)
after_plus next x (suc i) j = let e : suc i + j ≡ suc (i + j) = omega arith in rw e (ap (successor_in next) (after_plus next x i j))

module _ {rows : List (List ℕ)} {next : List ℕ} (h : IsStablePartition rows next) where
  -- and can be taken back
  pub take_back : (x k i j : ℕ) → x < length rows → after next x (k + i) ≡ after next x (k + j) → after next x i ≡ after next x j
  take_back x zero i j a e = let f : 0 + i ≡ i = omega arith in let g : 0 + j ≡ j = omega arith in rw (f, g) at e
  take_back x (suc k) i j a e =
      let f : suc k + i ≡ suc (k + i) = omega arith in
      let g : suc k + j ≡ suc (k + j) = omega arith in
      take_back x k i j a (one_successor h (after next x (k + i)) (after next x (k + j)) (after_inside h x (k + i) a) (after_inside h x (k + j) a) (rw (f, g) at e))

  -- a first return
  record Period (x : ℕ) : Type 0 where
    size : ℕ
    some : 0 < size
    returns : after next x size ≡ x
    first : (k : ℕ) → 0 < k → k < size → after next x k ≢ x

  period : (x : ℕ) → x < length rows → Period x
  period x a = go (search_below (length rows) (λ k. after next x (suc k) ≡ x) (λ k _. Decided-eq (after next x (suc k)) x))
    where
      go : First (length rows) (λ k. after next x (suc k) ≡ x) ⊎ ((k : ℕ) → k < length rows → after next x (suc k) ≡ x → ⊥) → Period x
      go (inl w) = record { size = suc w.at; some = omega arith; returns = w.holds; first = first }
        where
          first : (k : ℕ) → 0 < k → k < suc w.at → after next x k ≡ x → ⊥
          first zero b c e = omega arith
          first (suc k) b c e = w.earlier k (omega arith) e
      go (inr none) =
          let w = find_cycle (length rows) (λ y. y < length rows) (successor_in next) (λ y b. b) (λ y b. h.in_range y b) x a in
          let k : ℕ = w.two - suc w.one in
          let e : w.two ≡ w.one + suc k = omega (arith, w.order) in
          let f : w.one + 0 ≡ w.one = omega arith in
          let same : after next x (w.one + 0) ≡ after next x (w.one + suc k) = ap (after next x) f ∙ sym (after_is h x w.one) ∙ w.same ∙ after_is h x w.two ∙ ap (after next x) e in
          absurd (none k (omega (arith, w.order, w.within)) (sym (take_back x w.one 0 (suc k) a same)))

  record Wrapped (x size i : ℕ) : Type 0 where
    to : ℕ
    below : to < size
    same : after next x i ≡ after next x to

  wrapped : (x : ℕ) (p : Period x) (i : ℕ) → Wrapped x p.size i
  wrapped x p zero = record { to = 0; below = p.some; same = refl }
  wrapped x p (suc i) =
      let w = wrapped x p i in
      elim (eq_or_ne (suc w.to) p.size) [
        | inl e ↦ record { to = 0; below = p.some; same = ap (successor_in next) w.same ∙ ap (after next x) e ∙ p.returns }
        | inr e ↦ record { to = suc w.to; below = omega (arith, w.below); same = ap (successor_in next) w.same }
      ]

  -- the persons met from x on before it comes again are distinct
  pub distinct_in : (x : ℕ) → x < length rows → (size : ℕ) → ((k : ℕ) → 0 < k → k < size → after next x k ≢ x) → (i j : ℕ) → i < j → j < size → after next x i ≢ after next x j
  distinct_in x a size first i j b c e =
      let k : ℕ = j - i in
      let f : i + 0 ≡ i = omega arith in
      let g : i + k ≡ j = omega arith in
      first k (omega arith) (omega arith) (sym (take_back x i 0 k a (rw (f, g) e)))

  -- a person that is the lowest of its party
  abbrev pub spot_of_lowest : (x size : ℕ) → x < length rows → 0 < size → after next x size ≡ x → ((k : ℕ) → 0 < k → k < size → after next x k ≢ x) → ((k : ℕ) → x ≤ after next x k) → Spot rows next x
  spot_of_lowest x size a some returns first lowest = record { lead = x; inside = a; at = 0; size = size; below = some; is = refl; returns = returns; apart = distinct_in x a size first; lowest = lowest }

  Reaches : ℕ → ℕ → ℕ → Type 0
  Reaches x size v = First size (λ j. after next x j ≡ v)

  -- each person has its place in its party
  pub spot : (x : ℕ) → x < length rows → Spot rows next x
  unfolding Reaches
  spot x a = go (some_first (length rows) (Reaches x p.size) (λ v _. Decided-some p.size (λ j. after next x j ≡ v) (λ j _. Decided-eq (after next x j) v)) x a (reach 0 p.some))
    where
      p : Period x
      p = period x a

      reach : (j : ℕ) → j < p.size → Reaches x p.size (after next x j)
      reach j b = some_first p.size (λ i. after next x i ≡ after next x j) (λ i _. Decided-eq (after next x i) (after next x j)) j b refl

      go : First (length rows) (Reaches x p.size) → Spot rows next x
      go w = record {
        lead = w.at;
        inside = w.below;
        at = back.0;
        size = p.size;
        below = back.1;
        is = steps back.0 ∙ back.2;
        returns = steps p.size ∙ as_many next x (p.size + off) (off + p.size) (omega arith) ∙ sym (after_plus next x off p.size) ∙ ap (λ y. after next y off) p.returns ∙ w.holds.holds;
        apart = λ i j b c e. distinct_in x a p.size p.first i j b c (take_back x off i j a (as_many next x (off + i) (i + off) (omega arith) ∙ sym (steps i) ∙ e ∙ steps j ∙ as_many next x (j + off) (off + j) (omega arith)));
        lowest = λ i. let v = wrapped x p (i + off) in let le = low v.to v.below in omega (arith, steps i, v.same);
      }
        where
          off : ℕ
          off = w.holds.at

          steps : (i : ℕ) → after next w.at i ≡ after next x (i + off)
          steps i = ap (λ y. after next y i) (sym w.holds.holds) ∙ after_plus next x i off

          back : (k : ℕ) × (k < p.size) × (after next x (k + off) ≡ x)
          back = elim (eq_or_ne off 0) [
            | inl e ↦ (0, p.some, as_many next x (0 + off) 0 (omega arith))
            | inr e ↦ (p.size - off, omega (arith, w.holds.below), as_many next x (p.size - off + off) p.size (omega (arith, w.holds.below)) ∙ p.returns)
          ]

          low : (j : ℕ) → j < p.size → w.at ≤ after next x j
          low j b = elim (lt_or_le (after next x j) w.at) [
            | inl less ↦ absurd (w.earlier (after next x j) less (reach j b))
            | inr more ↦ more
          ]

  -- there is one such place alone
  pub record SameSpot {x : ℕ} (s t : Spot rows next x) : Type 0 where
    pub lead : s.lead ≡ t.lead
    pub at : s.at ≡ t.at
    pub size : s.size ≡ t.size

  no_higher : {x : ℕ} (s t : Spot rows next x) → s.lead ≤ t.lead
  no_higher {x} s t =
      let rest : ℕ = t.size - t.at in
      let f : rest + t.at ≡ t.size = omega (arith, t.below) in
      let e : after next s.lead (rest + s.at) ≡ t.lead = sym (after_plus next s.lead rest s.at) ∙ ap (λ y. after next y rest) (s.is ∙ sym t.is) ∙ after_plus next t.lead rest t.at ∙ ap (after next t.lead) f ∙ t.returns in
      let le = s.lowest (rest + s.at) in
      omega arith

  -- a person has one spot alone
  pub same_spot : {x : ℕ} (s t : Spot rows next x) → SameSpot s t
  same_spot {x} s t = record { lead = lead; at = at; size = size }
    where
      lead : s.lead ≡ t.lead
      lead = omega (arith, no_higher s t, no_higher t s)

      moved : (k : ℕ) → after next s.lead k ≡ after next t.lead k
      moved k = ap (λ y. after next y k) lead

      size : s.size ≡ t.size
      size = elim (less_same_more s.size t.size) [
        | inl k ↦ absurd (t.apart 0 s.size (omega (arith, s.below)) k (sym lead ∙ sym s.returns ∙ moved s.size))
        | inr d ↦ elim d [
          | inl k ↦ k
          | inr k ↦ absurd (s.apart 0 t.size (omega (arith, t.below)) k (lead ∙ sym t.returns ∙ sym (moved t.size)))
        ]
      ]

      at : s.at ≡ t.at
      at = elim (less_same_more s.at t.at) [
        | inl k ↦ absurd (t.apart s.at t.at k t.below (sym (moved s.at) ∙ s.is ∙ sym t.is))
        | inr d ↦ elim d [
          | inl k ↦ k
          | inr k ↦ absurd (s.apart t.at s.at k s.below (moved t.at ∙ t.is ∙ sym s.is))
        ]
      ]
