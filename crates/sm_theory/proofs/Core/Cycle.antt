-- Cycles of pairs, and what goes round them.
use Rattle.std.proofs.Common.{◌≡◌, ℕ, zero, suc, ◌+◌, ◌-◌, ◌<◌, ◌≤◌, ◌⊎◌, inl, inr, arith, refl, sym, ap, ◌∙◌}
use Rattle.sm_lists.proofs.Counting.{lt_or_le, search_below, First, Decided-eq}
use Rattle.sm_market.proofs.Core.{Sides, Stand, Pair, one_reviewer, one_proposer}
-- going round, passed on
pub use Rattle.sm_market.proofs.CycleLemmas.{turn, turn_last, turn_more, turn_in, turn_once, Follows, follows}

-- what passes from each number to the next holds all round
pub go_round : (n : ℕ) (P : ℕ → Type 0) → ((i : ℕ) → i < n → P i → P (turn n i)) → (i : ℕ) → i < n → P i → (j : ℕ) → j < n → P j
go_round n P step i h p = up
  where
    -- from i up to the last
    climb : (d : ℕ) → i + d < n → P (i + d)
    climb zero k = rw (sum_zero i) p
      where
        sum_zero : (i : ℕ) → i + zero ≡ i
        sum_zero i = omega arith
    climb (suc d) k =
        let before : P (i + d) = climb d (omega arith) in
        let e : turn n (i + d) ≡ i + suc d = turn_more n (i + d) (omega arith) ∙ omega arith in
        rw e at (step (i + d) (omega arith) before)

    last : P (n - 1)
    last = let e : i + (n - 1 - i) ≡ n - 1 = omega arith in rw e at (climb (n - 1 - i) (omega arith))

    start : P 0
    start = rw (turn_last n (n - 1) (omega arith)) at (step (n - 1) (omega arith) last)

    up : (j : ℕ) → j < n → P j
    up zero k = start
    up (suc j) k = let e : turn n j ≡ suc j = turn_more n j (omega arith) ∙ omega arith in rw e at (step j (omega arith) (up j (omega arith)))

-- pairs of a proposer and whom it has, in a circle
pub record Cycle : Type 0 where
  pub size : ℕ
  pub who : ℕ → ℕ
  pub has : ℕ → ℕ

-- whom the next proposer of the circle has
abbrev pub target : Cycle → ℕ → ℕ
target c i = c.has (turn c.size i)

-- r is p's successor at m
pub record Succ (s : Sides) (m : Stand) (p r : ℕ) : Type 0 where
  pub on : s.place p r < s.len p
  pub behind : m.a p < s.place p r
  pub takes : s.rank r p < m.b r
  pub first : (q : ℕ) → m.a p < s.place p q → s.place p q < s.place p r → m.b q ≤ s.rank q p
  pub matched : m.b r < s.len' r

-- there is no more than one successor
pub succ_unique : {s : Sides} {m : Stand} {p r q : ℕ} → Succ s m p r → Succ s m p q → r ≡ q
succ_unique {s} {m} {p} {r} {q} x y =
    sym (s.left.at_place p r x.on) ∙ ap (s.at p) same ∙ s.left.at_place p q y.on
  where
    same : s.place p r ≡ s.place p q
    same = elim (lt_or_le (s.place p r) (s.place p q)) [
      | inl h ↦ absurd (omega (arith, y.first r x.behind h, x.takes))
      | inr h ↦ elim (lt_or_le (s.place p q) (s.place p r)) [
        | inl k ↦ absurd (omega (arith, x.first q y.behind k, y.takes))
        | inr k ↦ omega arith
      ]
    ]

-- a cycle of distinct proposers, each with its partner, whose successor is the next one's partner
pub record Exposed (s : Sides) (m : Stand) (c : Cycle) : Type 0 where
  pub some : 0 < c.size
  pub distinct : (i j : ℕ) → i < c.size → j < c.size → c.who i ≡ c.who j → i ≡ j
  pub paired : (i : ℕ) → i < c.size → Pair s m (c.who i) (c.has i)
  pub next : (i : ℕ) → i < c.size → Succ s m (c.who i) (target c i)

-- c has p, and r
abbrev pub Moves : Cycle → ℕ → Type 0
Moves c p = First c.size (λ i. c.who i ≡ p)

-- a proposer is in the cycle or it is not
pub moves_or_not : (c : Cycle) (p : ℕ) → Moves c p ⊎ ((i : ℕ) → i < c.size → c.who i ≡ p → ⊥)
moves_or_not c p = search_below c.size (λ i. c.who i ≡ p) (λ i _. Decided-eq (c.who i) p)

-- a reviewer is in the cycle or it is not
pub gives_or_not : (c : Cycle) (r : ℕ) → First c.size (λ i. c.has i ≡ r) ⊎ ((i : ℕ) → i < c.size → c.has i ≡ r → ⊥)
gives_or_not c r = search_below c.size (λ i. c.has i ≡ r) (λ i _. Decided-eq (c.has i) r)

-- the proposer of each pair is in the cycle
pub moves_at : (c : Cycle) (i : ℕ) → i < c.size → Moves c (c.who i)
moves_at c i h = elim (moves_or_not c (c.who i)) [ inl w ↦ w | inr none ↦ absurd (none i h refl) ]

-- two cycles exposed at one matching that share a proposer are the same: each has the other's pairs
pub record Among (c d : Cycle) (i : ℕ) : Type 0 where
  pub at : ℕ
  pub below : at < d.size
  pub who_is : d.who at ≡ c.who i
  pub has_is : d.has at ≡ c.has i

-- where two exposed cycles share a proposer, each pair of one is a pair of the other
pub same_cycle : {s : Sides} {m : Stand} {c d : Cycle} → Exposed s m c → Exposed s m d → (i j : ℕ) → i < c.size → j < d.size → d.who j ≡ c.who i → (k : ℕ) → k < c.size → Among c d k
same_cycle {s} {m} {c} {d} x y i j h g e = go_round c.size (Among c d) step i h (record { at = j; below = g; who_is = e; has_is = has j i g h e })
  where
    has : (j i : ℕ) → j < d.size → i < c.size → d.who j ≡ c.who i → d.has j ≡ c.has i
    has j i g h e = one_reviewer (y.paired j g) (rw (← e) at (x.paired i h))

    step : (i : ℕ) → i < c.size → Among c d i → Among c d (turn c.size i)
    step i h w =
        let same : target d w.at ≡ target c i = succ_unique (y.next w.at w.below) (rw (← w.who_is) at (x.next i h)) in
        let inside = turn_in d.size w.at w.below in
        let inside' = turn_in c.size i h in
        let who : d.who (turn d.size w.at) ≡ c.who (turn c.size i) = one_proposer (y.paired (turn d.size w.at) inside) (rw (← same) at (x.paired (turn c.size i) inside')) in
        record { at = turn d.size w.at; below = inside; who_is = who; has_is = same }
