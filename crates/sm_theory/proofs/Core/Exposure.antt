-- At the matching of a closed set, a rotation outside whose predecessors are inside is exposed; so closed sets have
-- stable matchings.
use Rattle.std.proofs.Common.{◌≡◌, ℕ, suc, ◌<◌, ◌≤◌, ◌⊎◌, inl, inr, arith, sym, ap, ◌∙◌}
use Rattle.sm_lists.proofs.Counting.{Decided-lt, lt_or_le, eq_or_ne, First, Last, last_below}
use Rattle.sm_market.proofs.Core.{Sides, Stand, Stable, Pair, pair_at', same_place}
use Rattle.sm_market.proofs.CoreLaws.{opposed}
use Rattle.sm_theory.proofs.Core.Cycle.{Cycle, turn, turn_in, target, Exposed, Moves, moves_at, gives_or_not, follows}
use Rattle.sm_theory.proofs.Core.Rotation.{keeps}
use Rattle.sm_theory.proofs.Core.Chain.{Chain, Needs, Closed, IsOf, seat_low, rise, last_move, since_last, since_start, last_needed, moved_to, passed, upper, way_of}

module _ {s : Sides} {t : ℕ} {M : ℕ → Stand} {c : ℕ → Cycle} (ch : Chain s t M c) where
  module _ {C : ℕ → Type 0} {n : Stand} (closed : Closed s t c C) (hn : Stable s n) (of : IsOf t M c C n) (k : ℕ) (h : k < t) (out : C k → ⊥) (ready : (i : ℕ) → i < t → Needs s (c i) (c k) → C i) where
    -- the proposers of k have what they have just before k
    pub same_before : (p : ℕ) → Moves (c k) p → n.a p ≡ (M k).a p
    same_before p mv = elim (last_move (way_of ch) p k) [
      | inl w ↦ omega (
        arith,
        upper (way_of ch) closed of k p h out mv,
        since_last (way_of ch) p k (omega arith) w,
        of.reach p w.at (omega (arith, w.below)) (ready w.at (omega (arith, w.below)) (last_needed (way_of ch) p k h mv w)) w.holds,
      )
      | inr none ↦ omega (arith, upper (way_of ch) closed of k p h out mv, since_start (way_of ch) p k (omega arith) none, of.low p)
    ]

    same_pair : (i : ℕ) → i < (c k).size → Pair s n ((c k).who i) ((c k).has i)
    same_pair i g = same_place hn.fit ((ch.exposed k h).paired i g) (sym (same_before ((c k).who i) (moves_at (c k) i g)))

    -- whoever is passed over at k is settled in n as well
    settled : (i r : ℕ) → i < (c k).size → s.place ((c k).who i) ((c k).has i) < s.place ((c k).who i) r → s.place ((c k).who i) r < s.place ((c k).who i) (target (c k) i) → n.b r ≤ s.rank r ((c k).who i)
    settled i r g x y = elim (lt_or_le (s.rank r p) ((M 0).b r)) [
      | inr first ↦ omega (arith, opposed (ch.stable 0 (omega arith)) hn (ch.best n hn) r)
      | inl first ↦ elim (last_below k (λ j. s.rank r p < (M j).b r) (λ j _. Decided-lt (s.rank r p) ((M j).b r))) [
        | inr none ↦ elim (eq_or_ne 0 k) [
          | inl e ↦ absurd (omega (arith, passed (way_of ch) k i r h g x y, ap (λ j. (M j).b r) e))
          | inr e ↦ absurd (none 0 (omega arith) first)
        ]
        | inl w ↦ go w.at w.below w.holds (after w) (gives_or_not (c w.at) r)
      ]
    ]
      where
        p : ℕ
        p = (c k).who i

        old : Pair s (M k) p ((c k).has i)
        old = (ch.exposed k h).paired i g

        after : (w : Last k (λ j. s.rank r p < (M j).b r)) → (M (suc w.at)).b r ≤ s.rank r p
        after w = elim (eq_or_ne (suc w.at) k) [
          | inl e ↦ omega (arith, passed (way_of ch) k i r h g x y, ap (λ j. (M j).b r) e)
          | inr e ↦ elim (lt_or_le (s.rank r p) ((M (suc w.at)).b r)) [
            | inl less ↦ absurd (w.later (suc w.at) (omega arith) (omega (arith, w.below)) less)
            | inr more ↦ more
          ]
        ]

        -- j gives r somebody that it prefers to p, and so is a predecessor of k
        by : (j q : ℕ) → j < k → s.rank r p < (M j).b r → (M (suc j)).b r ≤ s.rank r p → q < (c j).size → target (c j) q ≡ r → n.b r ≤ s.rank r p
        by j q less high low inside is = omega (arith, seat_low hn new (of.reach ((c j).who q) j (omega arith) member (moves_at (c j) q inside)))
          where
            new : Pair s (M (suc j)) ((c j).who q) r
            new = rw is at (moved_to (way_of ch) j q (omega arith) inside)

            prior : Pair s (M j) ((c j).who (turn (c j).size q)) r
            prior = rw is at ((ch.exposed j (omega arith)).paired (turn (c j).size q) (turn_in (c j).size q inside))

            better : s.rank r ((c j).who q) < s.rank r p
            better = elim (eq_or_ne ((M (suc j)).b r) (s.rank r p)) [
              | inl e ↦
                  let v : Pair s (M (suc j)) p r = pair_at' p r (ch.stable (suc j) (omega arith)).fit new.matched' (sym e) in
                  absurd (omega (arith, v.place_is, old.place_is, rise (way_of ch) p (suc j) k less (omega arith)))
              | inr e ↦ omega (arith, new.rank_is)
            ]

            worse : s.rank r p < s.rank r ((c j).who (turn (c j).size q))
            worse = omega (arith, prior.rank_is)

            needed : Needs s (c j) (c k)
            needed = inr (record { at = q; below = inside; at' = i; below' = g; behind = rw is x; before = rw is y; gains = rw is better; loses = rw is worse })

            member : C j
            member = ready j (omega arith) needed

        go : (j : ℕ) → j < k → s.rank r p < (M j).b r → (M (suc j)).b r ≤ s.rank r p → First (c j).size (λ i. (c j).has i ≡ r) ⊎ ((i : ℕ) → i < (c j).size → (c j).has i ≡ r → ⊥) → n.b r ≤ s.rank r p
        go j less high low (inr none) = absurd (omega (arith, keeps (ch.stable j (omega arith)).fit (ch.exposed j (omega arith)) (ch.onward j (omega arith)) r none))
        go j less high low (inl f) = let w = follows (c j).size f.at f.below in by j w.at less high low w.below (ap (c j).has w.is ∙ f.holds)

    -- a rotation outside a closed set whose predecessors are all inside is exposed at the set's matching
    pub exposed_there : Exposed s n (c k)
    exposed_there = record {
      some = (ch.exposed k h).some;
      distinct = (ch.exposed k h).distinct;
      paired = same_pair;
      next = λ i g.
          let x = (ch.exposed k h).next i g in
          let e = same_before ((c k).who i) (moves_at (c k) i g) in
          let v = same_pair (turn (c k).size i) (turn_in (c k).size i g) in
          let u = (ch.exposed k h).paired (turn (c k).size i) (turn_in (c k).size i g) in
          let o = (ch.exposed k h).paired i g in
          record {
            on = x.on;
            behind = omega (arith, x.behind);
            takes = omega (arith, x.takes, v.rank_is, u.rank_is);
            matched = v.matched';
            first = λ r a b. settled i r g (omega (arith, o.place_is)) b;
          };
    }
