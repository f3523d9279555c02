-- The reviewers' side of a matching from its proposers' side.
pub use Rattle.sm_market.proofs.Core.{same_reviewers}
use Rattle.std.proofs.Common.{◌≡◌, ◌≢◌, ℕ, ◌<◌, ◌≤◌, ◌⊎◌, inl, inr, arith, sym, ap, ◌∙◌}
use Rattle.sm_lists.proofs.Counting.{less_same_more, search_below, First, Decided-eq}
use Rattle.sm_market.proofs.Core.{Sides, Stand, Fit, Stable, pair_at, one_proposer}

-- each reviewer stands at the first proposer on its list that has it
pub record Seats (s : Sides) (m : Stand) : Type 0 where
  pub within : (r : ℕ) → m.b r ≤ s.len' r
  pub has : (r : ℕ) → m.b r < s.len' r → s.place (s.at' r (m.b r)) r ≡ m.a (s.at' r (m.b r))
  pub first : (r k : ℕ) → k < m.b r → s.place (s.at' r k) r ≢ m.a (s.at' r k)

-- nobody on the other side is had twice
abbrev pub NoTwice : Sides → Stand → Type 0
NoTwice s m = (p q r : ℕ) → m.a p < s.len p → m.a q < s.len q → s.place p r ≡ m.a p → s.place q r ≡ m.a q → p ≡ q

-- proposers' standings in which no reviewer is had twice, with its seats, are a matching
pub fit_of_seats : {s : Sides} {m : Stand} → ((p : ℕ) → m.a p ≤ s.len p) → NoTwice s m → Seats s m → Fit s m
fit_of_seats {s} {m} low once seats = record {
  left = record { within = low; kept = left };
  right = record { within = seats.within; kept = right };
}
  where
    left : (p r : ℕ) → m.a p < s.len p → s.place p r ≡ m.a p → s.rank r p ≡ m.b r
    left p r on e =
        let back = s.left.back p r (omega arith) in
        let here = s.right.at_place r p back in
        elim (less_same_more (s.rank r p) (m.b r)) [
          | inl h ↦ absurd (seats.first r (s.rank r p) h (rw here e))
          | inr d ↦ elim d [
            | inl h ↦ h
            | inr h ↦
                let q : ℕ = s.at' r (m.b r) in
                let has : s.place q r ≡ m.a q = seats.has r (omega arith) in
                let there : s.rank r q ≡ m.b r = s.right.place_at r (m.b r) (omega arith) in
                let listed : s.place q r < s.len q = s.right.back r q (omega arith) in
                let same : p ≡ q = once p q r on (omega arith) e has in
                ap (s.rank r) same ∙ there
          ]
        ]

    right : (r p : ℕ) → m.b r < s.len' r → s.rank r p ≡ m.b r → s.place p r ≡ m.a p
    right r p on e =
        let here : s.at' r (m.b r) ≡ p = ap (s.at' r) (sym e) ∙ s.right.at_place r p (omega arith) in
        rw here at (seats.has r on)

-- the seats of given standings
seat_go : {X Y : Type 0} → (X → ℕ) → ℕ → X ⊎ Y → ℕ
seat_go f n (inl w) = f w
seat_go f n (inr _) = n

-- the first place on a reviewer's list whose proposer has it, or the list's length
pub seat_of : Sides → (ℕ → ℕ) → ℕ → ℕ
seat_of s a r = seat_go (λ w. w.at) (s.len' r) (search_below (s.len' r) (λ k. s.place (s.at' r k) r ≡ a (s.at' r k)) (λ k _. Decided-eq (s.place (s.at' r k) r) (a (s.at' r k))))

-- these are the seats of the standings
pub Seats-seat_of : (s : Sides) (a : ℕ → ℕ) → Seats s (record { a = a; b = seat_of s a })
unfolding seat_of seat_go
Seats-seat_of s a = record {
  within = λ r. within r (found r);
  has = λ r. has r (found r);
  first = λ r. first r (found r);
}
  where
    Is : ℕ → ℕ → Type 0
    Is r k = s.place (s.at' r k) r ≡ a (s.at' r k)

    found : (r : ℕ) → First (s.len' r) (λ k. s.place (s.at' r k) r ≡ a (s.at' r k)) ⊎ ((k : ℕ) → k < s.len' r → s.place (s.at' r k) r ≡ a (s.at' r k) → ⊥)
    found r = search_below (s.len' r) (λ k. s.place (s.at' r k) r ≡ a (s.at' r k)) (λ k _. Decided-eq (s.place (s.at' r k) r) (a (s.at' r k)))

    within : (r : ℕ) (d : First (s.len' r) (λ k. s.place (s.at' r k) r ≡ a (s.at' r k)) ⊎ ((k : ℕ) → k < s.len' r → s.place (s.at' r k) r ≡ a (s.at' r k) → ⊥)) → seat_go (λ w. w.at) (s.len' r) d ≤ s.len' r
    within r (inl w) = omega (arith, w.below)
    within r (inr w) = omega arith

    has : (r : ℕ) (d : First (s.len' r) (λ k. s.place (s.at' r k) r ≡ a (s.at' r k)) ⊎ ((k : ℕ) → k < s.len' r → s.place (s.at' r k) r ≡ a (s.at' r k) → ⊥)) → seat_go (λ w. w.at) (s.len' r) d < s.len' r → s.place (s.at' r (seat_go (λ w. w.at) (s.len' r) d)) r ≡ a (s.at' r (seat_go (λ w. w.at) (s.len' r) d))
    has r (inl w) _ = w.holds
    has r (inr w) h = absurd (omega arith)

    first : (r : ℕ) (d : First (s.len' r) (λ k. s.place (s.at' r k) r ≡ a (s.at' r k)) ⊎ ((k : ℕ) → k < s.len' r → s.place (s.at' r k) r ≡ a (s.at' r k) → ⊥)) → (k : ℕ) → k < seat_go (λ w. w.at) (s.len' r) d → s.place (s.at' r k) r ≢ a (s.at' r k)
    first r (inl w) k h = w.earlier k h
    first r (inr w) k h = w k h

-- and the one is stable where the other is
pub same_stable : {s : Sides} {m n : Stand} → Stable s n → ((p : ℕ) → m.a p ≡ n.a p) → Seats s m → Stable s m
same_stable {s} {m} {n} hn alike seats = record { fit = fit; unblocked = λ p r on better gains. hn.unblocked p r on (omega (arith, alike p)) (omega (arith, same_reviewers fit hn.fit alike r)) }
  where
    once : NoTwice s m
    once p q r on on' e e' = one_proposer
        (pair_at p r hn.fit (omega (arith, alike p)) (e ∙ alike p))
        (pair_at q r hn.fit (omega (arith, alike q)) (e' ∙ alike q))

    fit : Fit s m
    fit = fit_of_seats (λ p. omega (arith, alike p, hn.fit.left.within p)) once seats
