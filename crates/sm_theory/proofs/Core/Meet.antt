-- Meet and join of stable matchings are stable.
use Rattle.std.proofs.Common.{◌≡◌, ℕ, ◌<◌, ◌≤◌, ◌⊎◌, inl, inr, arith, sym, ◌∙◌, min, max}
use Rattle.sm_lists.proofs.Counting.{lt_or_le}
use Rattle.sm_market.proofs.Core.{Sides, Stand, Fit, Stable, Pair, pair_of', pair_at, one_proposer, one_reviewer, same_place, easy, easy'}
use Rattle.sm_market.proofs.CoreLaws.{whole}
use Rattle.sm_theory.proofs.Core.Seats.{Seats, NoTwice, fit_of_seats}

-- two proposers that have one reviewer, one in m and one in n, each where it does better, are the same
one_better : {s : Sides} {m n : Stand} {p q r : ℕ} → Stable s m → Stable s n → Pair s m p r → Pair s n q r → m.a p ≤ n.a p → n.a q ≤ m.a q → p ≡ q
one_better {s} {m} {n} {p} {q} {r} hm hn mp nq le ge = elim (lt_or_le (m.a p) (n.a p)) [
  | inr h ↦ one_proposer (same_place hn.fit mp (omega arith)) nq
  | inl h ↦ elim (lt_or_le (n.a q) (m.a q)) [
    | inr k ↦ one_proposer mp (same_place hm.fit nq (omega arith))
    | inl k ↦ absurd (omega (arith, easy hn mp h, easy hm nq k))
  ]
]

-- and each where it does worse
one_worse : {s : Sides} {m n : Stand} {p q r : ℕ} → Stable s m → Stable s n → Pair s m p r → Pair s n q r → n.a p ≤ m.a p → m.a q ≤ n.a q → p ≡ q
one_worse {s} {m} {n} {p} {q} {r} hm hn mp nq le ge = elim (lt_or_le (n.a p) (m.a p)) [
  | inr h ↦ one_proposer (same_place hn.fit mp (omega arith)) nq
  | inl h ↦ elim (lt_or_le (m.a q) (n.a q)) [
    | inr k ↦ one_proposer mp (same_place hm.fit nq (omega arith))
    | inl k ↦
        let w = whole hn hm p h in
        let v = whole hm hn q k in
        let first : m.b r < n.b r = rw (one_reviewer w.pair mp) at w.prefers in
        let second : n.b r < m.b r = rw (one_reviewer v.pair nq) at v.prefers in
        absurd (omega arith)
  ]
]

module _ (s : Sides) (m n k : Stand) (hm : Stable s m) (hn : Stable s n) (seats : Seats s k) where
  -- where k gives each proposer the better of its two
  module _ (meets : (p : ℕ) → k.a p ≡ min (m.a p) (n.a p)) where
    meet_cases : (p : ℕ) → ((k.a p ≡ m.a p) × (m.a p ≤ n.a p)) ⊎ ((k.a p ≡ n.a p) × (n.a p ≤ m.a p))
    meet_cases p = elim (lt_or_le (m.a p) (n.a p)) [ inl h ↦ inl (omega (arith, meets p), omega arith) | inr h ↦ inr (omega (arith, meets p), h) ]

    meet_once : NoTwice s k
    meet_once p q r on on' e e' = elim (meet_cases p) [
      | inl x ↦ elim (meet_cases q) [
        | inl y ↦ one_proposer (pair_at p r hm.fit (omega (arith, x.0)) (e ∙ x.0)) (pair_at q r hm.fit (omega (arith, y.0)) (e' ∙ y.0))
        | inr y ↦ one_better hm hn (pair_at p r hm.fit (omega (arith, x.0)) (e ∙ x.0)) (pair_at q r hn.fit (omega (arith, y.0)) (e' ∙ y.0)) x.1 y.1
      ]
      | inr x ↦ elim (meet_cases q) [
        | inl y ↦ one_better hn hm (pair_at p r hn.fit (omega (arith, x.0)) (e ∙ x.0)) (pair_at q r hm.fit (omega (arith, y.0)) (e' ∙ y.0)) x.1 y.1
        | inr y ↦ one_proposer (pair_at p r hn.fit (omega (arith, x.0)) (e ∙ x.0)) (pair_at q r hn.fit (omega (arith, y.0)) (e' ∙ y.0))
      ]
    ]

    -- the meet is a matching
    pub meet_fit : Fit s k
    meet_fit = fit_of_seats (λ p. omega (arith, meets p, hm.fit.left.within p)) meet_once seats

    -- no reviewer does worse than in both
    meet_worse : (r : ℕ) → (k.b r ≤ m.b r) ⊎ (k.b r ≤ n.b r)
    meet_worse r = elim (lt_or_le (k.b r) (s.len' r)) [
      | inl h ↦
          let w = pair_of' r meet_fit h in
          elim (meet_cases (s.at' r (k.b r))) [
            | inl x ↦ inl (omega (arith, w.rank_is, (pair_at (s.at' r (k.b r)) r hm.fit (omega (arith, x.0, w.matched)) (w.place_is ∙ x.0)).rank_is))
            | inr x ↦ inr (omega (arith, w.rank_is, (pair_at (s.at' r (k.b r)) r hn.fit (omega (arith, x.0, w.matched)) (w.place_is ∙ x.0)).rank_is))
          ]
      | inr h ↦ elim (lt_or_le (m.b r) (s.len' r)) [
        | inr x ↦ inl (omega (arith, seats.within r))
        | inl x ↦ elim (lt_or_le (n.b r) (s.len' r)) [
          | inr y ↦ inr (omega (arith, seats.within r))
          | inl y ↦ absurd (neither r h (pair_of' r hm.fit x) (pair_of' r hn.fit y))
        ]
      ]
    ]
      where
        neither : {p q : ℕ} → (r : ℕ) → s.len' r ≤ k.b r → Pair s m p r → Pair s n q r → ⊥
        neither {p} {q} r free mp nq = elim (meet_cases p) [
          | inl x ↦ let w : Pair s k p r = pair_at p r meet_fit (omega (arith, x.0, mp.matched)) (mp.place_is ∙ sym x.0) in omega (arith, w.matched')
          | inr x ↦ elim (meet_cases q) [
            | inr y ↦ let w : Pair s k q r = pair_at q r meet_fit (omega (arith, y.0, nq.matched)) (nq.place_is ∙ sym y.0) in omega (arith, w.matched')
            | inl y ↦ elim (lt_or_le (n.a p) (m.a p)) [
              | inr e ↦ let w : Pair s k p r = pair_at p r meet_fit (omega (arith, x.0, mp.matched)) (mp.place_is ∙ omega (arith, x.0, x.1)) in omega (arith, w.matched')
              | inl lp ↦ elim (lt_or_le (m.a q) (n.a q)) [
                | inr e ↦ let w : Pair s k q r = pair_at q r meet_fit (omega (arith, y.0, nq.matched)) (nq.place_is ∙ omega (arith, y.0, y.1)) in omega (arith, w.matched')
                | inl lq ↦
                    let w = whole hn hm p lp in
                    let v = whole hm hn q lq in
                    let first : m.b r < n.b r = rw (one_reviewer w.pair mp) at w.prefers in
                    let second : n.b r < m.b r = rw (one_reviewer v.pair nq) at v.prefers in
                    omega arith
              ]
            ]
          ]
        ]

    -- the meet is stable
    pub meet_stable : Stable s k
    meet_stable = record {
      fit = meet_fit;
      unblocked = λ p r on better gains. elim (meet_worse r) [
        | inl x ↦ hm.unblocked p r on (omega (arith, meets p)) (omega arith)
        | inr x ↦ hn.unblocked p r on (omega (arith, meets p)) (omega arith)
      ];
    }

  -- where k gives each proposer the worse of its two
  module _ (joins : (p : ℕ) → k.a p ≡ max (m.a p) (n.a p)) where
    join_cases : (p : ℕ) → ((k.a p ≡ m.a p) × (n.a p ≤ m.a p)) ⊎ ((k.a p ≡ n.a p) × (m.a p ≤ n.a p))
    join_cases p = elim (lt_or_le (n.a p) (m.a p)) [ inl h ↦ inl (omega (arith, joins p), omega arith) | inr h ↦ inr (omega (arith, joins p), h) ]

    join_once : NoTwice s k
    join_once p q r on on' e e' = elim (join_cases p) [
      | inl x ↦ elim (join_cases q) [
        | inl y ↦ one_proposer (pair_at p r hm.fit (omega (arith, x.0)) (e ∙ x.0)) (pair_at q r hm.fit (omega (arith, y.0)) (e' ∙ y.0))
        | inr y ↦ one_worse hm hn (pair_at p r hm.fit (omega (arith, x.0)) (e ∙ x.0)) (pair_at q r hn.fit (omega (arith, y.0)) (e' ∙ y.0)) x.1 y.1
      ]
      | inr x ↦ elim (join_cases q) [
        | inl y ↦ one_worse hn hm (pair_at p r hn.fit (omega (arith, x.0)) (e ∙ x.0)) (pair_at q r hm.fit (omega (arith, y.0)) (e' ∙ y.0)) x.1 y.1
        | inr y ↦ one_proposer (pair_at p r hn.fit (omega (arith, x.0)) (e ∙ x.0)) (pair_at q r hn.fit (omega (arith, y.0)) (e' ∙ y.0))
      ]
    ]

    -- the join is a matching
    pub join_fit : Fit s k
    join_fit = fit_of_seats (λ p. omega (arith, joins p, hm.fit.left.within p, hn.fit.left.within p)) join_once seats

    -- each reviewer does at least as well as in m and in n
    join_better : (r : ℕ) → (k.b r ≤ m.b r) × (k.b r ≤ n.b r)
    join_better r = (
      elim (lt_or_le (m.b r) (k.b r)) [ inr h ↦ h | inl h ↦ absurd (left (pair_of' r hm.fit (omega (arith, seats.within r))) h) ],
      elim (lt_or_le (n.b r) (k.b r)) [ inr h ↦ h | inl h ↦ absurd (right (pair_of' r hn.fit (omega (arith, seats.within r))) h) ],
    )
      where
        in_m : {p : ℕ} → Pair s m p r → k.a p ≡ m.a p → k.b r ≡ m.b r
        in_m {p} w e = let v : Pair s k p r = pair_at p r join_fit (omega (arith, w.matched)) (w.place_is ∙ sym e) in sym v.rank_is ∙ w.rank_is

        in_n : {p : ℕ} → Pair s n p r → k.a p ≡ n.a p → k.b r ≡ n.b r
        in_n {p} w e = let v : Pair s k p r = pair_at p r join_fit (omega (arith, w.matched)) (w.place_is ∙ sym e) in sym v.rank_is ∙ w.rank_is

        left : {p : ℕ} → Pair s m p r → m.b r < k.b r → ⊥
        left {p} mp less = elim (lt_or_le (m.a p) (n.a p)) [
          | inr h ↦ omega (arith, in_m mp (omega (arith, joins p)))
          | inl h ↦
              let better = easy hn mp h in
              let nq = pair_of' r hn.fit (omega (arith, seats.within r)) in
              let worse = easy' hm nq better in
              omega (arith, in_n nq (omega (arith, joins (s.at' r (n.b r)))))
        ]

        right : {p : ℕ} → Pair s n p r → n.b r < k.b r → ⊥
        right {p} np less = elim (lt_or_le (n.a p) (m.a p)) [
          | inr h ↦ omega (arith, in_n np (omega (arith, joins p)))
          | inl h ↦
              let better = easy hm np h in
              let mq = pair_of' r hm.fit (omega (arith, seats.within r)) in
              let worse = easy' hn mq better in
              omega (arith, in_m mq (omega (arith, joins (s.at' r (m.b r)))))
        ]

    -- the join is stable
    pub join_stable : Stable s k
    join_stable = record {
      fit = join_fit;
      unblocked = λ p r on better gains. elim (join_cases p) [
        | inl x ↦ hm.unblocked p r on (omega (arith, x.0)) (omega (arith, (join_better r).0))
        | inr x ↦ hn.unblocked p r on (omega (arith, x.0)) (omega (arith, (join_better r).1))
      ];
    }
