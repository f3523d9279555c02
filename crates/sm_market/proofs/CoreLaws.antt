-- The opposition of interests by counting, and what follows from it.
use Rattle.std.proofs.Common.{ℕ, ◌<◌, ◌≤◌, ◌⊎◌, inl, inr, arith}
use Rattle.sm_lists.proofs.Counting.{lt_or_le, less_same_more, two_injections, BothOnto}
use Rattle.sm_market.proofs.Core.{Sides, Stand, Stable, Pair, Stable-turned, Pair-turned, pair_of, pair_of', one_reviewer, one_proposer, same_place, easy, easy'}

-- who prefers m to n has a partner in n, and that partner prefers n to m
pub record Crossed (s : Sides) (m n : Stand) (p : ℕ) : Type 0 where
  pub seat : ℕ
  pub pair : Pair s n p seat
  pub prefers : n.b seat < m.b seat

-- opposition: who prefers m to n has a partner in n that prefers n to m, by counting both
pub whole : {s : Sides} {m n : Stand} → Stable s m → Stable s n → (p : ℕ) → m.a p < n.a p → Crossed s m n p
whole {s} {m} {n} hm hn p less = let w = onto.right p less in
    record { seat = w.from; pair = rw w.arrives at (theirs w.from w.holds); prefers = w.holds }
  where
    mine : (p : ℕ) → m.a p < n.a p → Pair s m p (s.at p (m.a p))
    mine p h = pair_of p hm.fit (omega (arith, hn.fit.left.within p))

    theirs : (r : ℕ) → n.b r < m.b r → Pair s n (s.at' r (n.b r)) r
    theirs r h = pair_of' r hn.fit (omega (arith, hm.fit.right.within r))

    onto : BothOnto (λ p. m.a p < n.a p) (λ r. n.b r < m.b r) (λ p. s.at p (m.a p)) (λ r. s.at' r (n.b r))
    onto = two_injections s.bound (λ p. m.a p < n.a p) (λ r. n.b r < m.b r) (λ p. s.at p (m.a p)) (λ r. s.at' r (n.b r))
        (λ p h. elim (lt_or_le p s.bound) [ inl k ↦ k | inr k ↦ absurd (omega (arith, hn.fit.left.within p, s.left.few p k)) ])
        (λ p h. easy hn (mine p h) h)
        (λ p q h k e. one_proposer (mine p h) (rw (← e) at (mine q k)))
        (λ r h. easy' hm (theirs r h) h)
        (λ r q h k e. one_reviewer (theirs r h) (rw (← e) at (theirs q k)))

-- a reviewer that prefers n to m has a partner in m, and that proposer prefers m to n
pub record Crossed' (s : Sides) (m n : Stand) (r : ℕ) : Type 0 where
  pub proposer : ℕ
  pub pair : Pair s m proposer r
  pub prefers : m.a proposer < n.a proposer

-- who prefers n to m, of the other side, has a partner in m, and that partner prefers m to n
pub whole' : {s : Sides} {m n : Stand} → Stable s m → Stable s n → (r : ℕ) → n.b r < m.b r → Crossed' s m n r
whole' hm hn r less = let w = whole (Stable-turned hn) (Stable-turned hm) r less in
    record { proposer = w.seat; pair = Pair-turned w.pair; prefers = w.prefers }

-- a proposer that is matched in one stable matching is matched in each
pub same_matched : {s : Sides} {m n : Stand} → Stable s m → Stable s n → (p : ℕ) → m.a p < s.len p → n.a p < s.len p
same_matched {s} {m} {n} hm hn p h = elim (lt_or_le (m.a p) (n.a p)) [ inl k ↦ (whole hm hn p k).pair.matched | inr k ↦ omega arith ]

-- a reviewer that is matched in one stable matching is matched in each
pub same_matched' : {s : Sides} {m n : Stand} → Stable s m → Stable s n → (r : ℕ) → m.b r < s.len' r → n.b r < s.len' r
same_matched' hm hn r h = same_matched (Stable-turned hm) (Stable-turned hn) r h

-- where each proposer does as well in m as in n, each reviewer does as well in n as in m
pub opposed : {s : Sides} {m n : Stand} → Stable s m → Stable s n → ((p : ℕ) → m.a p ≤ n.a p) → (r : ℕ) → n.b r ≤ m.b r
opposed {s} {m} {n} hm hn all r = elim (lt_or_le (m.b r) (n.b r)) [
  | inl h ↦ let w = whole' hn hm r h in absurd (omega (arith, w.prefers, all w.proposer))
  | inr h ↦ h
]

-- where no reviewer prefers n to m, no proposer prefers m to n
pub opposed' : {s : Sides} {m n : Stand} → Stable s m → Stable s n → ((r : ℕ) → m.b r ≤ n.b r) → (p : ℕ) → n.a p ≤ m.a p
opposed' hm hn all p = opposed (Stable-turned hm) (Stable-turned hn) all p

-- a pair of m that isn't one of n: one of the two prefers m and the other n
pub pair_law : {s : Sides} {m n : Stand} {p r : ℕ} → Stable s m → Stable s n → Pair s m p r → (Pair s n p r → ⊥)
    → ((m.a p < n.a p) × (n.b r < m.b r)) ⊎ ((n.a p < m.a p) × (m.b r < n.b r))
pair_law {s} {m} {n} {p} {r} hm hn pair other = elim (less_same_more (m.a p) (n.a p)) [
  | inl h ↦ inl (h, easy hn pair h)
  | inr d ↦ elim d [
    | inl h ↦ absurd (other (same_place hn.fit pair h))
    | inr h ↦ let w = whole hn hm p h in inr (h, rw (one_reviewer w.pair pair) at w.prefers)
  ]
]
