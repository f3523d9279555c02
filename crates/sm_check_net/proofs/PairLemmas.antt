-- Pairs of numbers in order.
use Rattle.std.proofs.Common.{◌≡◌, ℕ, zero, suc, ◌+◌, ◌<◌, ◌≤◌, inl, inr, arith, refl, sym, ap, ◌∙◌, subst, Bool, true, false, ◌||◌, ltb, List, length, nat_cmp, is_lt, Ordering, get_or, eqb-true, ltb-true, lt-ltb, le-ltb, eq-eqb}
use Rattle.std.proofs.lemmas.List.{get_or_default}
use Rattle.std.specs.List.Sorted.{IsPartitionPoint, IsPartitionedBy}
use Rattle.std.specs.Prelude.{◌==◌, ◌&&◌}
use Rattle.std.specs.Ordering.{ordering_then}
use Rattle.std.proofs.lemmas.Bool.{false≢true, false_from_ne_true}
use Rattle.std.proofs.lemmas.Cmp.{ranked, by_ranked}
use Rattle.sm_lists.proofs.Counting.{eq_or_ne, lt_or_le}
use Rattle.sm_theory.proofs.Net.Tests.{and_parts, some_passes}
use Rattle.sm_check_net.specs.Pairs.{has_pair, IsBelow, IsUpTo, AreOrdered, IsParted, IsFirstAt}
use Rattle.sm_lists.specs.Pairs.{pair_at}

-- what the order of pairs says
not_below : (x y : ℕ × ℕ) → is_lt (ordering_then (nat_cmp y.0 x.0) (nat_cmp y.1 x.1)) ≡ false → IsUpTo x y
not_below x y = by_ranked (y.0 < x.0) (y.0 ≡ x.0) (x.0 < y.0) (nat_cmp y.0 x.0) (ranked y.0 x.0 _ refl)
    (λ e less h. absurd (false≢true (sym h ∙ ap (λ o. is_lt (ordering_then o rest)) e)))
    (λ e same h. second same (ap (λ o. is_lt (ordering_then o rest)) (sym e) ∙ h))
    (λ e more h. inl more)
  where
    rest : Ordering
    rest = nat_cmp y.1 x.1

    second : y.0 ≡ x.0 → is_lt (nat_cmp y.1 x.1) ≡ false → IsUpTo x y
    second same = by_ranked (y.1 < x.1) (y.1 ≡ x.1) (x.1 < y.1) (nat_cmp y.1 x.1) (ranked y.1 x.1 _ refl)
        (λ e less h. absurd (false≢true (sym h ∙ ap is_lt e)))
        (λ e also h. inr (sym same, omega arith))
        (λ e more h. inr (sym same, omega arith))

up_trans : (x y z : ℕ × ℕ) → IsUpTo x y → IsUpTo y z → IsUpTo x z
up_trans x y z (inl a) (inl b) = inl (omega arith)
up_trans x y z (inl a) (inr b) = inl (omega (arith, b.0))
up_trans x y z (inr a) (inl b) = inl (omega (arith, a.0))
up_trans x y z (inr a) (inr b) = inr (a.0 ∙ b.0, omega (arith, a.1, b.1))

-- from neighbours to all
pub ordered_of : (pairs : List (ℕ × ℕ)) → ((k : ℕ) (d : ℕ × ℕ) → 0 ≤ k → k + 1 < length pairs
    → is_lt (ordering_then (nat_cmp (get_or pairs (k + 1) d).0 (get_or pairs k d).0) (nat_cmp (get_or pairs (k + 1) d).1 (get_or pairs k d).1)) ≡ false) → AreOrdered pairs
ordered_of pairs sorted = record { ordered = ordered }
  where
    next : (k : ℕ) → k + 1 < length pairs → IsUpTo (pair_at pairs k) (pair_at pairs (k + 1))
    next k less = not_below (pair_at pairs k) (pair_at pairs (k + 1)) (sorted k (0, 0) (omega arith) less)

    ordered : (a b : ℕ) → a < b → b < length pairs → IsUpTo (pair_at pairs a) (pair_at pairs b)
    ordered a zero less few = absurd (omega arith)
    ordered a (suc b) less few =
        let e : b + 1 ≡ suc b = omega arith in
        let step : IsUpTo (pair_at pairs b) (pair_at pairs (suc b)) = subst (λ k. IsUpTo (pair_at pairs b) (pair_at pairs k)) e (next b (omega arith)) in
        elim (eq_or_ne a b) [
          | inl same ↦ subst (λ k. IsUpTo (pair_at pairs k) (pair_at pairs (suc b))) (sym same) step
          | inr ne ↦ up_trans (pair_at pairs a) (pair_at pairs b) (pair_at pairs (suc b)) (ordered a b (omega arith) (omega arith)) step
        ]

-- what comes before a pair in order does so with all before it
pub below_of : (x y z : ℕ × ℕ) → IsUpTo x y → IsBelow y z → IsBelow x z
below_of x y z (inl a) (inl b) = inl (omega arith)
below_of x y z (inl a) (inr b) = inl (omega (arith, b.0))
below_of x y z (inr a) (inl b) = inl (omega (arith, a.0))
below_of x y z (inr a) (inr b) = inr (a.0 ∙ b.0, omega (arith, a.1, b.1))

both_up : (x y : ℕ × ℕ) → IsUpTo x y → IsUpTo y x → x ≡ y
both_up x y (inl a) (inl b) = absurd (omega arith)
both_up x y (inl a) (inr b) = absurd (omega (arith, b.0))
both_up x y (inr a) (inl b) = absurd (omega (arith, a.0))
both_up x y (inr a) (inr b) = let e : x.1 ≡ y.1 = omega (arith, a.1, b.1) in (λ k. (a.0 k, e k))

-- the test of whether a pair comes before this one
abbrev pub comes_before : ℕ → ℕ → ℕ × ℕ → Bool
comes_before i j x = ltb x.0 i || (x.0 == i && ltb x.1 j)

before_of : (i j : ℕ) (x : ℕ × ℕ) → comes_before i j x ≡ true → IsBelow x (i, j)
before_of i j x t = elim (lt_or_le x.0 i) [
  | inl less ↦ inl less
  | inr le ↦
      let rest : (x.0 == i && ltb x.1 j) ≡ true = rw (le-ltb x.0 i le) at t in
      let both = and_parts (x.0 == i) (ltb x.1 j) rest in
      inr (eqb-true x.0 i both.0, ltb-true x.1 j both.1)
]

or_true : (t : Bool) → (t || true) ≡ true
or_true true = refl
or_true false = refl

is_before : (i j : ℕ) (x : ℕ × ℕ) → IsBelow x (i, j) → comes_before i j x ≡ true
is_before i j x (inl less) = rw (lt-ltb x.0 i less) refl
is_before i j x (inr same) = rw (eq-eqb x.0 i same.0, lt-ltb x.1 j same.1) (or_true (ltb x.0 i))

not_before : (i j : ℕ) (x : ℕ × ℕ) → comes_before i j x ≡ false → IsUpTo (i, j) x
not_before i j x f = elim (lt_or_le x.0 i) [
  | inl less ↦ absurd (false≢true (sym f ∙ is_before i j x (inl less)))
  | inr le ↦ elim (eq_or_ne x.0 i) [
    | inl e ↦ elim (lt_or_le x.1 j) [
      | inl less ↦ absurd (false≢true (sym f ∙ is_before i j x (inr (e, less))))
      | inr more ↦ inr (sym e, more)
    ]
    | inr ne ↦ inl (omega (arith, le, ne))
  ]
]

-- no pair that comes before this one stands behind one that doesn't, and so they part there
pub parted_before : (pairs : List (ℕ × ℕ)) (i j : ℕ) → AreOrdered pairs → IsPartitionedBy (comes_before i j) pairs
parted_before pairs i j o a b d le less t = elim (eq_or_ne a b) [
  | inl e ↦ rw e t
  | inr ne ↦
      is_before i j (get_or pairs a d)
      (below_of (get_or pairs a d) (get_or pairs b d) (i, j) (up_at a b d (omega arith) less) (before_of i j (get_or pairs b d) t))
]
  where
    up_at : (a b : ℕ) (d : ℕ × ℕ) → a < b → b < length pairs → IsUpTo (get_or pairs a d) (get_or pairs b d)
    up_at a b d few less = rw (get_or_default pairs a d (0, 0) (omega arith), get_or_default pairs b d (0, 0) less) (o.ordered a b few less)

-- where the pairs part by this test, the first n come before this one and no other does
pub parted_of : (pairs : List (ℕ × ℕ)) (i j n : ℕ) → n ≤ length pairs → IsPartitionPoint (λ y. comes_before i j y ≡ true) (λ y. comes_before i j y ≡ false) pairs n → IsParted pairs (i, j) n
parted_of pairs i j n few point = record {
  few = few;
  lower = λ a less. before_of i j (pair_at pairs a) (point.0 a (0, 0) (omega arith) less);
  higher = λ a more less. not_before i j (pair_at pairs a) (point.1 a (0, 0) more less);
}

is_pair : (x : ℕ × ℕ) (i j : ℕ) → x.0 ≡ i → x.1 ≡ j → x ≡ (i, j)
is_pair x i j a b = (λ k. (a k, b k))

-- the same numbers aren't before each other
not_itself : (x : ℕ × ℕ) (i j : ℕ) → x ≡ (i, j) → IsBelow x (i, j) → ⊥
not_itself x i j e (inl a) = let f : x.0 ≡ i = (λ k. (e k).0) in omega arith
not_itself x i j e (inr a) = let f : x.1 ≡ j = (λ k. (e k).1) in omega (arith, a.1)

-- where a pair stands that is found there
pub first_of : {pairs : List (ℕ × ℕ)} {i j k : ℕ} → IsParted pairs (i, j) k → (k < length pairs) × ((pair_at pairs k).0 ≡ i) × ((pair_at pairs k).1 ≡ j) → IsFirstAt pairs (i, j) k
first_of {pairs} {i} {j} {k} p here = record { there = here.0; is = is_pair (pair_at pairs k) i j here.1 here.2; new = λ a few same. not_itself (pair_at pairs a) i j same (p.lower a few) }

-- a pair that is one of them stands there
pub first_among : {pairs : List (ℕ × ℕ)} {i j k : ℕ} → AreOrdered pairs → IsParted pairs (i, j) k → has_pair pairs i j ≡ true → IsFirstAt pairs (i, j) k
first_among {pairs} {i} {j} {k} o p has =
    let w = some_passes (λ (x : ℕ × ℕ). x.0 == i && x.1 == j) pairs (0, 0) has in
    let both = and_parts _ _ w.holds in
    let here : pair_at pairs w.at ≡ (i, j) = is_pair (pair_at pairs w.at) i j (eqb-true _ i both.0) (eqb-true _ j both.1) in
    found w.at w.below here
  where
    found : (a : ℕ) → a < length pairs → pair_at pairs a ≡ (i, j) → IsFirstAt pairs (i, j) k
    found a less e = elim (lt_or_le a k) [
      | inl before ↦ absurd (not_itself (pair_at pairs a) i j e (p.lower a before))
      | inr behind ↦ let same : pair_at pairs k ≡ (i, j) = both_up (pair_at pairs k) (i, j) (up_to behind) (p.higher k (omega arith) (omega arith)) in first_of p (omega arith, (λ t. (same t).0), (λ t. (same t).1))
    ]
      where
        up_to : k ≤ a → IsUpTo (pair_at pairs k) (i, j)
        up_to behind = elim (eq_or_ne k a) [
          | inl same ↦ let is : pair_at pairs k ≡ (i, j) = ap (pair_at pairs) same ∙ e in inr ((λ t. (is t).0), (let f : (pair_at pairs k).1 ≡ j = (λ t. (is t).1) in omega arith))
          | inr ne ↦ subst (IsUpTo (pair_at pairs k)) e (o.ordered k a (omega arith) less)
        ]

-- and one that isn't found there is none of them
pub has_pair-none : {pairs : List (ℕ × ℕ)} {i j k : ℕ} → AreOrdered pairs → IsParted pairs (i, j) k → ((k < length pairs) × ((pair_at pairs k).0 ≡ i) × ((pair_at pairs k).1 ≡ j) → ⊥) → has_pair pairs i j ≡ false
has_pair-none {pairs} {i} {j} o p never = false_from_ne_true (has_pair pairs i j) (λ has. let f = first_among o p has in never (f.there, (λ t. (f.is t).0), (λ t. (f.is t).1)))
