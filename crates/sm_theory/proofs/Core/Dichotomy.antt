-- The step lemma, the dichotomy, and a rotation wherever a stable matching is worse for some proposer.
use Rattle.std.proofs.Common.{◌≡◌, ℕ, suc, ◌+◌, ◌-◌, ◌<◌, ◌≤◌, ◌⊎◌, inl, inr, arith, sym, ap, ◌∙◌}
use Rattle.sm_lists.proofs.Counting.{Decided, Decided-lt, Decided-and, Decided-eq, lt_or_le, eq_or_ne, less_same_more, First, search_below, iterate, iterate-zero, iterate-suc, iterate-add, iterate_stays, find_cycle, Twice}
use Rattle.sm_market.proofs.Core.{Sides, Stand, Stable, Pair, pair_of, pair_at, one_proposer, one_reviewer}
use Rattle.sm_market.proofs.CoreLaws.{whole, whole', Crossed, Crossed'}
use Rattle.sm_theory.proofs.Core.Cycle.{Cycle, turn, turn_in, turn_last, turn_more, target, Succ, succ_unique, Exposed, go_round}

-- p, which does better in m than in n, has a successor at m that is no worse than what it has in n, and so has the
-- proposer that has the successor
pub record Step (s : Sides) (m n : Stand) (p : ℕ) : Type 0 where
  pub seat : ℕ
  pub succ : Succ s m p seat
  pub low : s.place p seat ≤ n.a p
  pub other : ℕ
  pub pair : Pair s m other seat
  pub prefers : m.a other < n.a other

abbrev Fits : Sides → Stand → ℕ → ℕ → Type 0
Fits s m p i = (m.a p < i) × (s.rank (s.at p i) p < m.b (s.at p i))

-- the step lemma: who does better in m than in n has a successor at m, no worse than what it has in n
pub step : {s : Sides} {m n : Stand} → Stable s m → Stable s n → (p : ℕ) → m.a p < n.a p → Step s m n p
step {s} {m} {n} hm hn p less = go (search_below (s.len p) (Fits s m p) (λ i _. Decided-and (Decided-lt (m.a p) i) (Decided-lt (s.rank (s.at p i) p) (m.b (s.at p i)))))
  where
    w : Crossed s m n p
    w = whole hm hn p less

    fits_at : (q : ℕ) → s.place p q < s.len p → m.a p < s.place p q → s.rank q p < m.b q → Fits s m p (s.place p q)
    fits_at q on h k = (h, rw (s.left.at_place p q on) k)

    build : (i : ℕ) → i < s.len p → m.a p < i → s.rank (s.at p i) p < m.b (s.at p i) → ((j : ℕ) → j < i → Fits s m p j → ⊥) → i ≤ n.a p → s.place p (s.at p i) ≡ i → Step s m n p
    build i on behind takes earlier low is =
        let r : ℕ = s.at p i in
        let less' : n.b r < m.b r = elim (eq_or_ne i (n.a p)) [
          | inl e ↦ rw (one_reviewer w.pair (pair_at p r hn.fit w.pair.matched (is ∙ e))) at w.prefers
          | inr e ↦ elim (lt_or_le (s.rank r p) (n.b r)) [
            | inl k ↦ absurd (hn.unblocked p r (omega arith) (omega arith) k)
            | inr k ↦ omega arith
          ]
        ] in
        let v : Crossed' s m n r = whole' hm hn r less' in
        record {
          seat = r;
          succ = record {
            on = omega arith;
            behind = omega arith;
            takes = takes;
            first = λ q h k. elim (lt_or_le (s.rank q p) (m.b q)) [ inr j ↦ j | inl j ↦ absurd (earlier (s.place p q) (omega arith) (fits_at q (omega arith) h j)) ];
            matched = v.pair.matched';
          };
          low = omega arith;
          other = v.proposer;
          pair = v.pair;
          prefers = v.prefers;
        }

    go : First (s.len p) (Fits s m p) ⊎ ((i : ℕ) → i < s.len p → Fits s m p i → ⊥) → Step s m n p
    go (inr none) = absurd (none (s.place p w.seat) (omega (arith, w.pair.place_is, w.pair.matched)) (fits_at w.seat (omega (arith, w.pair.place_is, w.pair.matched)) (omega (arith, w.pair.place_is)) (omega (arith, w.pair.rank_is, w.prefers))))
    go (inl f) = build f.at f.below f.holds.0 f.holds.1 f.earlier low (s.left.place_at p f.at f.below)
      where
        low : f.at ≤ n.a p
        low = elim (lt_or_le (n.a p) f.at) [
          | inr h ↦ h
          | inl h ↦ absurd (f.earlier (s.place p w.seat) (omega (arith, w.pair.place_is)) (fits_at w.seat (omega (arith, w.pair.place_is, w.pair.matched)) (omega (arith, w.pair.place_is)) (omega (arith, w.pair.rank_is, w.prefers))))
        ]

-- the same at a given successor and the proposer that has it
pub step_low : {s : Sides} {m n : Stand} {p r : ℕ} → Stable s m → Stable s n → Succ s m p r → m.a p < n.a p → s.place p r ≤ n.a p
step_low {s} {m} {n} {p} hm hn x less = let w = step hm hn p less in rw (succ_unique w.succ x) at w.low

-- where p does better in m than in n, so does the proposer that has p's successor
pub step_on : {s : Sides} {m n : Stand} {p q r : ℕ} → Stable s m → Stable s n → Succ s m p r → Pair s m q r → m.a p < n.a p → m.a q < n.a q
step_on {s} {m} {n} {p} hm hn x pair less = let w = step hm hn p less in
    rw (one_proposer w.pair (rw (succ_unique x w.succ) at pair)) at w.prefers

-- all proposers of an exposed cycle have their reviewer or better in n, or all have the next one or worse
pub dichotomy : {s : Sides} {m n : Stand} {c : Cycle} → Stable s m → Stable s n → Exposed s m c
    → ((i : ℕ) → i < c.size → n.a (c.who i) ≤ m.a (c.who i)) ⊎ ((i : ℕ) → i < c.size → s.place (c.who i) (target c i) ≤ n.a (c.who i))
dichotomy {s} {m} {n} {c} hm hn x = go (search_below c.size (λ i. m.a (c.who i) < n.a (c.who i)) (λ i _. Decided-lt (m.a (c.who i)) (n.a (c.who i))))
  where
    go : First c.size (λ i. m.a (c.who i) < n.a (c.who i)) ⊎ ((i : ℕ) → i < c.size → m.a (c.who i) < n.a (c.who i) → ⊥)
        → ((i : ℕ) → i < c.size → n.a (c.who i) ≤ m.a (c.who i)) ⊎ ((i : ℕ) → i < c.size → s.place (c.who i) (target c i) ≤ n.a (c.who i))
    go (inr none) = inl (λ i h. elim (lt_or_le (m.a (c.who i)) (n.a (c.who i))) [ inl k ↦ absurd (none i h k) | inr k ↦ k ])
    go (inl f) = inr (λ i h. step_low hm hn (x.next i h) (all i h))
      where
        all : (i : ℕ) → i < c.size → m.a (c.who i) < n.a (c.who i)
        all = go_round c.size (λ i. m.a (c.who i) < n.a (c.who i)) (λ i h less. step_on hm hn (x.next i h) (x.paired (turn c.size i) (turn_in c.size i h)) less) f.at f.below f.holds

-- whom p's successor has, where p does better in m
follow_go : {X Y : Type 0} → (X → ℕ) → ℕ → X ⊎ Y → ℕ
follow_go f n (inl w) = f w
follow_go f n (inr _) = n

follow : {s : Sides} {m n : Stand} → Stable s m → Stable s n → ℕ → ℕ
follow {s} {m} {n} hm hn p = follow_go (λ less. (step hm hn p less).other) p (Decided-lt (m.a p) (n.a p))

record FollowedBy (s : Sides) (m n : Stand) (p q : ℕ) : Type 0 where
  pub seat : ℕ
  pub succ : Succ s m p seat
  pub pair : Pair s m q seat
  pub prefers : m.a q < n.a q

followed : {s : Sides} {m n : Stand} (hm : Stable s m) (hn : Stable s n) (p : ℕ) → m.a p < n.a p → FollowedBy s m n p (follow hm hn p)
unfolding follow follow_go
followed {s} {m} {n} hm hn p less = go (Decided-lt (m.a p) (n.a p))
  where
    go : (d : Decided (m.a p < n.a p)) → FollowedBy s m n p (follow_go (λ less. (step hm hn p less).other) p d)
    go (inl h) = let w = step hm hn p h in record { seat = w.seat; succ = w.succ; pair = w.pair; prefers = w.prefers }
    go (inr h) = absurd (h less)

-- some cycle that is exposed at m
pub record Found (s : Sides) (m : Stand) : Type 0 where
  pub cycle : Cycle
  pub exposed : Exposed s m cycle

abbrev Returns : (ℕ → ℕ) → ℕ → ℕ → Type 0
Returns f x d = (0 < d) × (iterate f d x ≡ x)

abbrev Worse : Stand → Stand → ℕ → Type 0
Worse m n p = m.a p < n.a p

-- where some proposer does worse in a stable matching than in m, some rotation is exposed at m
pub some_exposed : {s : Sides} {m n : Stand} → Stable s m → Stable s n → (p : ℕ) → m.a p < n.a p → Found s m
some_exposed {s} {m} {n} hm hn p less = close (find_cycle s.bound (Worse m n) f inside stays p less)
  where
    f : ℕ → ℕ
    f = follow hm hn

    inside : (p : ℕ) → Worse m n p → p < s.bound
    inside p h = elim (lt_or_le p s.bound) [ inl k ↦ k | inr k ↦ absurd (omega (arith, hn.fit.left.within p, s.left.few p k)) ]

    stays : (p : ℕ) → Worse m n p → Worse m n (f p)
    stays p h = (followed hm hn p h).prefers

    build : (x : ℕ) → Worse m n x → (d : ℕ) → 0 < d → iterate f d x ≡ x → ((j : ℕ) → j < d → Returns f x j → ⊥) → Found s m
    build x worse d pos back least = record { cycle = c; exposed = record { some = pos; distinct = distinct; paired = λ i _. paired i; next = next } }
      where
        c : Cycle
        c = record { size = d; who = λ i. iterate f i x; has = λ i. s.at (iterate f i x) (m.a (iterate f i x)) }

        it : (i : ℕ) → Worse m n (iterate f i x)
        it i = iterate_stays (Worse m n) f stays i x worse

        paired : (i : ℕ) → Pair s m (iterate f i x) (s.at (iterate f i x) (m.a (iterate f i x)))
        paired i = pair_of (iterate f i x) hm.fit (omega (arith, it i, hn.fit.left.within (iterate f i x)))

        apart : (i j : ℕ) → i < j → j < d → iterate f i x ≡ iterate f j x → ⊥
        apart i j h k e = least (d - j + i) (omega arith) (omega arith, loop)
          where
            sum : d - j + j ≡ d
            sum = omega arith

            loop : iterate f (d - j + i) x ≡ x
            loop = iterate-add f (d - j) i x ∙ ap (iterate f (d - j)) e ∙ sym (iterate-add f (d - j) j x) ∙ ap (λ z. iterate f z x) sum ∙ back

        distinct : (i j : ℕ) → i < d → j < d → iterate f i x ≡ iterate f j x → i ≡ j
        distinct i j h k e = elim (less_same_more i j) [
          | inl less ↦ absurd (apart i j less k e)
          | inr o ↦ elim o [ inl same ↦ same | inr more ↦ absurd (apart j i more h (sym e)) ]
        ]

        onward : (i : ℕ) → i < d → iterate f (turn d i) x ≡ f (iterate f i x)
        onward i h = elim (eq_or_ne (i + 1) d) [
          | inl e ↦ ap (λ z. iterate f z x) (turn_last d i e) ∙ iterate-zero f x ∙ sym back ∙ ap (λ z. iterate f z x) (omega arith) ∙ iterate-suc f i x
          | inr e ↦ ap (λ z. iterate f z x) (turn_more d i e ∙ omega arith) ∙ iterate-suc f i x
        ]

        next : (i : ℕ) → i < d → Succ s m (iterate f i x) (s.at (iterate f (turn d i) x) (m.a (iterate f (turn d i) x)))
        next i h =
            let w = followed hm hn (iterate f i x) (it i) in
            let v : Pair s m (iterate f (turn d i) x) w.seat = rw (sym (onward i h)) at w.pair in
            rw (one_reviewer v (paired (turn d i))) at w.succ

    close : Twice (λ k. iterate f k p) s.bound → Found s m
    close t = go (search_below (suc s.bound) (Returns f x) (λ d _. Decided-and (Decided-lt 0 d) (Decided-eq (iterate f d x) x)))
      where
        x : ℕ
        x = iterate f t.one p

        sum : t.two - t.one + t.one ≡ t.two
        sum = omega (arith, t.order)

        back : iterate f (t.two - t.one) x ≡ x
        back = sym (iterate-add f (t.two - t.one) t.one p) ∙ ap (λ z. iterate f z p) sum ∙ sym t.same

        go : First (suc s.bound) (Returns f x) ⊎ ((d : ℕ) → d < suc s.bound → Returns f x d → ⊥) → Found s m
        go (inl w) = build x (iterate_stays (Worse m n) f stays t.one p less) w.at w.holds.0 w.holds.1 w.earlier
        go (inr none) = absurd (none (t.two - t.one) (omega (arith, t.within)) (omega (arith, t.order), back))
