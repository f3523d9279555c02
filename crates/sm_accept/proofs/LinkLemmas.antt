-- Linked numbers: where they stand, which follow which, and what taking one out leaves.
use Rattle.std.proofs.Common.{◌≡◌, ◌≢◌, ℕ, zero, suc, ◌+◌, ◌-◌, ◌<◌, ◌≤◌, ◌⊎◌, inl, inr, arith, refl, ap, List, Option, Some, None, MatchOption, length, get_or}
use Rattle.sm_market.specs.Lists.{Lists, row}
use Rattle.sm_lists.proofs.Counting.{less_same_more}
use Rattle.sm_accept.specs.Linking.{HoldsPair, IsFirstHeld, IsHeldBehind, IsNumberIn, Follows, AreStarts}

module _ {l : Lists} {starts : List ℕ} (s : AreStarts l starts) where
  -- the links of a later proposer stand behind those of an earlier one
  pub starts_rise : (p d : ℕ) → p + d < length l.proposers → get_or starts p 0 + (length (row l.proposers p) + 2) ≤ get_or starts (p + suc d) 0
  starts_rise p zero h = let step = s.step p (omega arith) in let e : p + suc zero ≡ p + 1 = omega arith in rw e (omega arith)
  starts_rise p (suc d) h =
      let before = starts_rise p d (omega arith) in
      let step = s.step (p + suc d) (omega arith) in
      let e : p + suc (suc d) ≡ p + suc d + 1 = omega arith in
      rw e (omega arith)

  -- the numbers of a proposer stand before those of a later one
  pub starts_below : (p q : ℕ) → p < q → q ≤ length l.proposers → get_or starts p 0 + (length (row l.proposers p) + 2) ≤ get_or starts q 0
  starts_below p q less h =
      let e : p + suc (q - suc p) ≡ q = omega arith in
      rw e at (starts_rise p (q - suc p) (omega arith))

  -- so no two share one
  pub apart : (p q j k : ℕ) → p < length l.proposers → q < length l.proposers → j < length (row l.proposers p) + 2 → k < length (row l.proposers q) + 2 → get_or starts p 0 + j ≡ get_or starts q 0 + k → (p ≡ q) × (j ≡ k)
  apart p q j k hp hq hj hk e = elim (less_same_more p q) [
    | inl less ↦ absurd (omega (arith, starts_below p q less (omega arith)))
    | inr d ↦ elim d [
      | inl same ↦ (same, let same_start = ap (λ x. get_or starts x 0) same in omega arith)
      | inr more ↦ absurd (omega (arith, starts_below q p more (omega arith)))
    ]
  ]

  -- and all are in range
  pub link_in_range : (p j : ℕ) → p < length l.proposers → j < length (row l.proposers p) + 2 → get_or starts p 0 + j < get_or starts (length l.proposers) 0
  link_in_range p j hp hj = omega (arith, starts_below p (length l.proposers) hp (omega arith))

-- what is in is no further than behind the list
pub in_le : {l : Lists} {ends : List ℕ} {p j : ℕ} → IsNumberIn l ends p j → j ≤ length (row l.proposers p) + 1
in_le (inl (inl e)) = omega arith
in_le (inl (inr e)) = omega arith
in_le (inr w) = let on = w.held.on_list in let e = w.number in omega arith

-- a held place's number is in
pub held_in : {l : Lists} {ends : List ℕ} {p i : ℕ} → HoldsPair l ends p i → IsNumberIn l ends p (i + 1)
held_in {i = i} h = inr (record { place = i; number = refl; held = h })

-- and a number on the list that is in has a held place
pub in_held : {l : Lists} {ends : List ℕ} {p j : ℕ} → IsNumberIn l ends p j → 0 < j → j ≤ length (row l.proposers p) → HoldsPair l ends p (j - 1)
in_held (inl (inl e)) some on = absurd (omega arith)
in_held (inl (inr e)) some on = absurd (omega arith)
in_held {l} {ends} {p} {j} (inr w) some on = let e : w.place ≡ j - 1 = let n = w.number in omega arith in rw e at w.held

-- what follows the front of the list
first_held : {l : Lists} {ends : List ℕ} {p k i : ℕ} → Follows l ends p 0 k → k ≤ length (row l.proposers p) → k ≡ i + 1 → IsFirstHeld l ends p i
first_held {l} {ends} {p} {k} {i} f on e = let e' : k - 1 ≡ i = omega arith in record {
  held = rw e' at (in_held f.upper f.rising on);
  earlier = λ j less h. f.between (j + 1) (omega arith) (omega arith) (held_in h);
}

-- what follows a held place
held_behind : {l : Lists} {ends : List ℕ} {p i k n : ℕ} → Follows l ends p (i + 1) k → k ≤ length (row l.proposers p) → k ≡ n + 1 → IsHeldBehind l ends p i n
held_behind {l} {ends} {p} {i} {k} {n} f on e = let e' : k - 1 ≡ n = omega arith in let rising = f.rising in record {
  held = rw e' at (in_held f.upper (omega arith) on);
  behind = omega arith;
  between = λ j more less h. f.between (j + 1) (omega arith) (omega arith) (held_in h);
}

-- nothing is held behind where the end of the list follows
none_behind : {l : Lists} {ends : List ℕ} {p n k : ℕ} → Follows l ends p n k → length (row l.proposers p) < k → (i : ℕ) → n ≤ i → ¬ HoldsPair l ends p i
none_behind {l} {ends} {p} {n} {k} f past i more h = let on = h.on_list in f.between (i + 1) (omega arith) (omega arith) (held_in h)

-- the answers that the number behind the front, or behind a held place, gives
pub first_answer : {l : Lists} {ends : List ℕ} {p k : ℕ} → Follows l ends p 0 k → (o : Option ℕ) → MatchOption o (length (row l.proposers p) < k) (λ i. (k ≤ length (row l.proposers p)) × (k ≡ i + 1))
    → MatchOption o ((i : ℕ) → ¬ HoldsPair l ends p i) (λ i. IsFirstHeld l ends p i)
first_answer f None past = λ i. none_behind f past i (omega arith)
first_answer f (Some i) at = first_held f at.0 at.1

-- the number that follows tells the next held place behind a place, or that there is none
pub behind_answer : {l : Lists} {ends : List ℕ} {p k : ℕ} (i : ℕ) → Follows l ends p (i + 1) k → (o : Option ℕ) → MatchOption o (length (row l.proposers p) < k) (λ n. (k ≤ length (row l.proposers p)) × (k ≡ n + 1))
    → MatchOption o ((n : ℕ) → i < n → ¬ HoldsPair l ends p n) (λ n. IsHeldBehind l ends p i n)
behind_answer i f None past = λ n more. none_behind f past n (omega arith)
behind_answer i f (Some n) at = held_behind f at.0 at.1

-- at most one number follows another, and at most one is followed by it
pub follows_once : {l : Lists} {ends : List ℕ} {p j k n : ℕ} → Follows l ends p j k → Follows l ends p j n → k ≡ n
follows_once {k = k} {n = n} x y = elim (less_same_more k n) [
  | inl less ↦ absurd (y.between k x.rising less x.upper)
  | inr d ↦ elim d [ inl e ↦ e | inr more ↦ absurd (x.between n y.rising more y.upper) ]
]

-- a number follows no more than one
pub followed_once : {l : Lists} {ends : List ℕ} {p j k n : ℕ} → Follows l ends p j k → Follows l ends p n k → j ≡ n
followed_once {j = j} {n = n} x y = elim (less_same_more j n) [
  | inl less ↦ absurd (x.between n less y.rising y.lower)
  | inr d ↦ elim d [ inl e ↦ e | inr more ↦ absurd (y.between j more x.rising x.lower) ]
]

-- number x of p's list is taken out, and all else stays
pub record IsTakenOut (l : Lists) (ends ends' : List ℕ) (p x : ℕ) : Type 0 where
  pub still_in : (q j : ℕ) → IsNumberIn l ends' q j → IsNumberIn l ends q j
  pub gone : ¬ IsNumberIn l ends' p x
  pub stays : (q j : ℕ) → IsNumberIn l ends q j → (q ≢ p) ⊎ (j ≢ x) → IsNumberIn l ends' q j

module _ {l : Lists} {ends ends' : List ℕ} {p x : ℕ} (t : IsTakenOut l ends ends' p x) where
  -- the ones on both sides of it follow each other
  pub follows_join : {b n : ℕ} → Follows l ends p b x → Follows l ends p x n → Follows l ends' p b n
  follows_join {b} {n} f g = let lower = f.rising in let upper = g.rising in record {
    lower = t.stays p b f.lower (inr (λ e. omega arith));
    upper = t.stays p n g.upper (inr (λ e. omega arith));
    rising = omega arith;
    between = λ y more less h. elim (less_same_more y x) [
      | inl k ↦ f.between y more k (t.still_in p y h)
      | inr d ↦ elim d [ inl e ↦ t.gone (rw e at h) | inr k ↦ g.between y k less (t.still_in p y h) ]
    ];
  }

  -- and elsewhere nothing changes
  pub follows_still : {q j k : ℕ} → Follows l ends q j k → IsNumberIn l ends' q j → IsNumberIn l ends' q k → Follows l ends' q j k
  follows_still f lower upper = record { lower = lower; upper = upper; rising = f.rising; between = λ y more less h. f.between y more less (t.still_in _ y h) }
