-- The median of closed sets, over two sides without lists.
use Rattle.std.proofs.Common.{◌≡◌, ℕ, ◌+◌, ◌-◌, ◌<◌, ◌≤◌, inl, inr, arith, refl, Bool, true, false, nat_lt, nat_le, List, map, length, All, count_by}
use Rattle.std.proofs.lemmas.Bool.{ltb-true, le-leb, cases_Bool}
use Rattle.sm_lists.proofs.Counting.{Decided, Decided-and, First, search_below, lt_or_le, eq_or_ne}
use Rattle.sm_market.proofs.Core.{Sides, Stand}
use Rattle.sm_theory.proofs.Core.Cycle.{Cycle, Moves}
use Rattle.sm_theory.proofs.Core.Chain.{Chain, Closed, IsOf, Decided-moves, initial, way_of}
use Rattle.sm_theory.specs.Medians.{IsAtPlace}
use Rattle.sm_theory.proofs.Medians.Counts.{count_map, count_cover, count_apart, count_none, count_all}

-- a set that a test tells, and what is its matching
abbrev pub Passing : (ℕ → Bool) → ℕ → Type 0
Passing test k = test k ≡ true

decided_false : (b : Bool) → Decided (b ≡ false)
decided_false true = inr (λ e. grind arith)
decided_false false = inl refl

not_both : (b : Bool) → b ≡ true → b ≡ false → ⊥
not_both true e f = grind arith
not_both false e f = grind arith

module _ {s : Sides} {t : ℕ} {M : ℕ → Stand} {c : ℕ → Cycle} (ch : Chain s t M c) where
  -- a closed set and its matching
  pub record IsSetOf (test : ℕ → Bool) (n : Stand) : Type 0 where
    pub closed : Closed s t c (Passing test)
    pub of : IsOf t M c (Passing test) n

  -- the rotations that all but fewer than `place` of the sets have give each proposer what stands at this place
  pub at_place : {X : Type 0} (test : X → ℕ → Bool) (n : X → Stand) (xs : List X) → All (λ x. IsSetOf (test x) (n x)) xs
      → (many : ℕ → Bool) (place : ℕ) → 0 < place → place ≤ length xs
      → ((k : ℕ) → k < t → many k ≡ true → length xs - place + 1 ≤ count_by (λ x. test x k) xs)
      → ((k : ℕ) → k < t → many k ≡ false → count_by (λ x. test x k) xs ≤ length xs - place)
      → {m : Stand} → IsOf t M c (Passing many) m → (p : ℕ) → IsAtPlace (map (λ x. (n x).a p) xs) place (m.a p)
  at_place {X} test n xs all many place some within often seldom {m} of p = record {
    fewer = omega (arith, count_map (λ y. nat_lt y (m.a p)) (λ x. (n x).a p) xs, fewer);
    enough = omega (arith, count_map (λ y. nat_le y (m.a p)) (λ x. (n x).a p) xs, enough);
  }
    where
      G : X → Type 0
      G x = IsSetOf (test x) (n x)

      fewer : count_by (λ x. nat_lt ((n x).a p) (m.a p)) xs < place
      fewer = elim (of.attained p) [
        | inl e ↦ omega (arith, count_none (λ x. IsSetOf (test x) (n x)) (λ x. nat_lt ((n x).a p) (m.a p)) xs all (λ x g h. omega (arith, ltb-true ((n x).a p) (m.a p) h, g.of.low p, e)))
        | inr w ↦ omega (
          arith,
          often w.at w.below w.member,
          count_apart (λ x. IsSetOf (test x) (n x)) (λ x. nat_lt ((n x).a p) (m.a p)) (λ x. test x w.at) xs all (λ x g h member. omega (arith, ltb-true ((n x).a p) (m.a p) h, g.of.reach p w.at w.below member w.moves, w.is)),
        )
      ]

      -- whoever stands worse got there by a rotation that isn't one of the many
      by_seldom : (x : X) → IsSetOf (test x) (n x) → m.a p < (n x).a p → (k : ℕ) × (k < t) × (test x k ≡ true) × Moves (c k) p × (many k ≡ false)
      by_seldom x g worse = elim (g.of.attained p) [
        | inl e ↦ absurd (omega (arith, of.low p, e))
        | inr w ↦ elim (cases_Bool (many w.at)) [
          | inl member ↦ absurd (omega (arith, of.reach p w.at w.below member w.moves, w.is))
          | inr out ↦ (w.at, w.below, w.member, w.moves, out)
        ]
      ]

      enough : place ≤ count_by (λ x. nat_le ((n x).a p) (m.a p)) xs
      enough = elim (search_below t (λ k. (many k ≡ false) × Moves (c k) p) (λ k _. Decided-and (decided_false (many k)) (Decided-moves (c k) p))) [
        | inr none ↦ omega (
          arith,
          count_all (λ x. IsSetOf (test x) (n x)) (λ x. nat_le ((n x).a p) (m.a p)) xs all (λ x g. elim (lt_or_le (m.a p) ((n x).a p)) [
            | inl worse ↦ let w = by_seldom x g worse in absurd (none w.0 w.1 (w.4, w.3))
            | inr no_worse ↦ le-leb ((n x).a p) (m.a p) no_worse
          ]),
        )
        | inl w ↦ omega (
          arith,
          seldom w.at w.below w.holds.0,
          count_cover (λ x. IsSetOf (test x) (n x)) (λ x. nat_le ((n x).a p) (m.a p)) (λ x. test x w.at) xs all (λ x g. elim (lt_or_le (m.a p) ((n x).a p)) [
            | inl worse ↦ inr (has x g w (by_seldom x g worse))
            | inr no_worse ↦ inl (le-leb ((n x).a p) (m.a p) no_worse)
          ]),
        )
      ]
        where
          has : (x : X) → IsSetOf (test x) (n x) → (w : First t (λ k. (many k ≡ false) × Moves (c k) p)) → (k : ℕ) × (k < t) × (test x k ≡ true) × Moves (c k) p × (many k ≡ false) → test x w.at ≡ true
          has x g w v = elim (lt_or_le v.0 w.at) [
            | inl less ↦ absurd (w.earlier v.0 less (v.4, v.3))
            | inr more ↦ elim (eq_or_ne w.at v.0) [
              | inl e ↦ rw e v.2
              | inr e ↦ initial (way_of ch) g.closed p v.0 v.1 v.2 v.3 w.at (omega arith) w.holds.1
            ]
          ]
