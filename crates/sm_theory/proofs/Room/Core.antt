-- Roommates as functions on numbers. A way gives each person somebody to whom it goes and somebody who goes to it: a
-- partition's successor and predecessor, or the mate twice. Ways are matchings of a market that has each person on both
-- sides, so the interests of the two sides are opposed.
use Rattle.std.proofs.Common.{◌≡◌, ℕ, zero, suc, ◌+◌, ◌-◌, ◌*◌, ◌<◌, ◌≤◌, inl, inr, arith, sym, ap, ◌∙◌}
use Rattle.sm_lists.proofs.Counting.{Decided, Decided-lt, Decided-and, lt_or_le, search_below, BothOnto, two_injections, iterate, iterate-zero, iterate-suc}

-- persons below n, the lengths of their lists, places, and who are acceptable
pub record Persons : Type 1 where
  pub n : ℕ
  pub len : ℕ → ℕ
  pub place : ℕ → ℕ → ℕ
  pub Acc : ℕ → ℕ → Type 0
  pub turn : (x y : ℕ) → Acc x y → Acc y x
  pub on : (x y : ℕ) → Acc x y → place x y < len x
  pub inside : (x y : ℕ) → Acc x y → x < n
  pub one : (x y z : ℕ) → Acc x y → Acc x z → place x y ≡ place x z → y ≡ z

-- to whom each goes, who goes to each, and the places of both
pub record Way : Type 0 where
  pub to : ℕ → ℕ
  pub from : ℕ → ℕ
  pub a : ℕ → ℕ
  pub b : ℕ → ℕ

-- a way gone the other way round
abbrev pub turned : Way → Way
turned w = record { to = w.from; from = w.to; a = w.b; b = w.a }

-- each who isn't alone goes to somebody acceptable, who knows from whom
pub record Goes (s : Persons) (w : Way) : Type 0 where
  pub within : (x : ℕ) → w.a x ≤ s.len x
  pub acc : (x : ℕ) → w.a x < s.len x → s.Acc x (w.to x)
  pub at : (x : ℕ) → w.a x < s.len x → s.place x (w.to x) ≡ w.a x
  pub back : (x : ℕ) → w.a x < s.len x → w.from (w.to x) ≡ x
  pub theirs : (x : ℕ) → w.a x < s.len x → s.place (w.to x) x ≡ w.b (w.to x)

-- a way both of whose directions go, and that no two persons block
pub record Cover (s : Persons) (w : Way) : Type 0 where
  pub left : Goes s w
  pub right : Goes s (turned w)
  pub unblocked : (x y : ℕ) → s.Acc x y → s.place x y < w.a x → s.place y x < w.b y → ⊥

-- the other way round it is one too
pub Cover-turned : {s : Persons} {w : Way} → Cover s w → Cover s (turned w)
Cover-turned {s} c = record { left = c.right; right = c.left; unblocked = λ x y k f g. c.unblocked y x (s.turn x y k) g f }

-- a way in which each likes to whom it goes at least as well as who goes to it
pub record Parting (s : Persons) (w : Way) : Type 0 where
  pub left : Goes s w
  pub right : Goes s (turned w)
  pub le : (x : ℕ) → w.a x ≤ w.b x
  pub unblocked : (x y : ℕ) → s.Acc x y → s.place x y < w.b x → s.place y x < w.b y → ⊥

-- a parting is one
pub cover : {s : Persons} {w : Way} → Parting s w → Cover s w
cover {s} {w} p = record { left = p.left; right = p.right; unblocked = λ x y k f g. p.unblocked x y k (omega (arith, p.le x)) g }

-- whom one likes better than in the other way likes the other way better
pub forth : {s : Persons} {m n : Way} → Cover s m → Cover s n → (x : ℕ) → m.a x < n.a x → n.b (m.to x) < m.b (m.to x)
forth {s} {m} {n} hm hn x less = elim (lt_or_le (n.b y) (m.b y)) [
  | inl k ↦ k
  | inr k ↦ elim (lt_or_le (m.b y) (n.b y)) [
    | inl j ↦ absurd (hn.unblocked x y acc (omega (arith, at, less)) (omega (arith, theirs, j)))
    | inr j ↦ absurd (same (omega (arith, j, k)))
  ]
]
  where
    y : ℕ
    y = m.to x

    on : m.a x < s.len x
    on = omega (arith, less, hn.left.within x)

    acc : s.Acc x y
    acc = hm.left.acc x on

    at : s.place x y ≡ m.a x
    at = hm.left.at x on

    theirs : s.place y x ≡ m.b y
    theirs = hm.left.theirs x on

    same : n.b y ≡ m.b y → ⊥
    same e =
        let on' : n.b y < s.len y = omega (arith, e, theirs, s.on y x (s.turn x y acc)) in
        let who : n.from y ≡ x = s.one y (n.from y) x (hn.right.acc y on') (s.turn x y acc) (hn.right.at y on' ∙ e ∙ sym theirs) in
        let back : s.place x y ≡ n.a x = rw who at (hn.right.theirs y on') in
        omega (arith, back, at, less)

-- in n x isn't alone, and goes to somebody who likes n better
pub record Crossed (s : Persons) (m n : Way) (x : ℕ) : Type 0 where
  pub matched : n.a x < s.len x
  pub there : n.b (n.to x) < m.b (n.to x)

module _ {s : Persons} {m n : Way} (hm : Cover s m) (hn : Cover s n) where
  onto : BothOnto (λ x. m.a x < n.a x) (λ y. n.b y < m.b y) m.to n.from
  onto = two_injections s.n (λ x. m.a x < n.a x) (λ y. n.b y < m.b y) m.to n.from
      (λ x p. s.inside x (m.to x) (hm.left.acc x (omega (arith, p, hn.left.within x))))
      (λ x p. forth hm hn x p)
      (λ x y p q e. sym (hm.left.back x (omega (arith, p, hn.left.within x))) ∙ ap m.from e ∙ hm.left.back y (omega (arith, q, hn.left.within y)))
      (λ y p. forth (Cover-turned hn) (Cover-turned hm) y p)
      (λ x y p q e. sym (hn.right.back x (omega (arith, p, hm.right.within x))) ∙ ap n.to e ∙ hn.right.back y (omega (arith, q, hm.right.within y)))

  -- who likes m better goes in n to somebody who likes n better
  pub crossed : (x : ℕ) → m.a x < n.a x → Crossed s m n x
  crossed x p =
      let w = onto.right x p in
      let on : n.b w.from < s.len w.from = omega (arith, w.holds, hm.right.within w.from) in
      let back : n.to x ≡ w.from = ap n.to (sym w.arrives) ∙ hn.right.back w.from on in
      let acc : s.Acc x w.from = rw w.arrives at (s.turn w.from (n.from w.from) (hn.right.acc w.from on)) in
      let theirs : s.place x w.from ≡ n.a x = rw w.arrives at (hn.right.theirs w.from on) in
      let at = s.on x w.from acc in
      record { matched = omega arith; there = rw back w.holds }

  -- who likes n better has in m somebody who likes m better
  pub crossed_back : (y : ℕ) → n.b y < m.b y → m.a (m.from y) < n.a (m.from y)
  crossed_back y p =
      let w = onto.left y p in
      let on : m.a w.from < s.len w.from = omega (arith, w.holds, hn.left.within w.from) in
      let e : m.from y ≡ w.from = ap m.from (sym w.arrives) ∙ hm.left.back w.from on in
      rw e w.holds

-- nobody is alone in one way and not in the other
pub same_alone : {s : Persons} {m n : Way} → Cover s m → Cover s n → (x : ℕ) → m.a x < s.len x → n.a x < s.len x
same_alone {s} {m} {n} hm hn x on = elim (lt_or_le (m.a x) (n.a x)) [
  | inl less ↦ (crossed hm hn x less).matched
  | inr more ↦ omega arith
]

-- both ways lie between each other's, for one person
pub record Between (m n : Way) (x : ℕ) : Type 0 where
  pub out : m.a x < n.b x
  pub back : n.a x < m.b x

-- the same seen from the other way
pub Between-turned : {m n : Way} {x : ℕ} → Between m n x → Between n m x
Between-turned w = record { out = w.back; back = w.out }

Decided-between : (m n : Way) (x : ℕ) → Decided (Between m n x)
Decided-between m n x = elim (Decided-and (Decided-lt (m.a x) (n.b x)) (Decided-lt (n.a x) (m.b x))) [
  | inl w ↦ inl (record { out = w.0; back = w.1 })
  | inr w ↦ inr (λ v. w (v.out, v.back))
]

-- a person has the same places in both ways
pub record Same (m n : Way) (x : ℕ) : Type 0 where
  pub a_is : m.a x ≡ n.a x
  pub b_is : m.b x ≡ n.b x

module _ {s : Persons} {m n : Way} (hm : Parting s m) (hn : Parting s n) where
  out_to : (x : ℕ) → m.a x < n.b x → n.a (m.to x) < m.b (m.to x)
  out_to x p = forth (cover hm) (Cover-turned (cover hn)) x p

  back_to : (y : ℕ) → n.a y < m.b y → m.a (n.to y) < n.b (n.to y)
  back_to y p = forth (cover hn) (Cover-turned (cover hm)) y p

  back_from : (y : ℕ) → n.a y < m.b y → m.a (m.from y) < n.b (m.from y)
  back_from y p = crossed_back (cover hm) (Cover-turned (cover hn)) y p

  -- such a person goes in n to nobody that it likes less, and nobody that it likes more goes to it
  lower : (x : ℕ) → Between m n x → n.a x ≤ m.a x
  lower x w = elim (lt_or_le (m.a x) (n.a x)) [
    | inr k ↦ k
    | inl k ↦
        let c = crossed (cover hm) (cover hn) x k in
        absurd (hm.unblocked x (n.to x) (hn.left.acc x c.matched) (omega (arith, hn.left.at x c.matched, w.back)) (omega (arith, hn.left.theirs x c.matched, c.there)))
  ]

  upper : (x : ℕ) → Between m n x → m.b x ≤ n.b x
  upper x w = elim (lt_or_le (n.b x) (m.b x)) [
    | inr k ↦ k
    | inl k ↦
        let c = crossed (cover hm) (Cover-turned (cover hn)) x w.out in
        absurd (hm.unblocked x (n.from x) (hn.right.acc x c.matched) (omega (arith, hn.right.at x c.matched, k)) (omega (arith, hn.right.theirs x c.matched, c.there)))
  ]

  either : (x : ℕ) → m.a x < m.b x → (m.a x < n.b x → ⊥) → n.a x < m.b x
  either x gap out = elim (lt_or_le (m.a x) (n.b x)) [
    | inl k ↦ absurd (out k)
    | inr k ↦ omega (arith, hn.le x)
  ]

module _ {s : Persons} {m n : Way} (hm : Parting s m) (hn : Parting s n) where
  -- for a person both ways lie between, they give the same places
  pub between_same : (x : ℕ) → Between m n x → Same m n x
  between_same x w = record {
    a_is = omega (arith, lower hm hn x w, lower hn hm x (Between-turned w));
    b_is = omega (arith, upper hm hn x w, upper hn hm x (Between-turned w));
  }

  -- and it goes to the same person
  pub same_to : (x : ℕ) → Between m n x → n.to x ≡ m.to x
  same_to x w =
      let e = between_same x w in
      let on : m.a x < s.len x = omega (arith, w.out, hn.right.within x) in
      let on' : n.a x < s.len x = omega (arith, on, e.a_is) in
      s.one x (n.to x) (m.to x) (hn.left.acc x on') (hm.left.acc x on) (hn.left.at x on' ∙ sym e.a_is ∙ sym (hm.left.at x on))

  -- and that one lies between too
  pub between_next : (x : ℕ) → Between m n x → Between m n (m.to x)
  between_next x w = record { out = rw (same_to x w) at (back_to hm hn x w.back); back = out_to hm hn x w.out }

  between_on : (x k j : ℕ) → Between m n (iterate m.to k x) → Between m n (iterate m.to (j + k) x)
  between_on x k zero w = let e : 0 + k ≡ k = omega arith in rw e w
  between_on x k (suc j) w = let e : suc j + k ≡ suc (j + k) = omega arith in rw (e, iterate-suc m.to (j + k) x) (between_next _ (between_on x k j w))

  -- a party of odd length in which each prefers its successor to its predecessor
  module _ (x half : ℕ) (returns : iterate m.to (2 * half + 1) x ≡ x) (gap : (k : ℕ) → m.a (iterate m.to k x) < m.b (iterate m.to k x)) where
    abbrev Out : ℕ → Type 0
    Out k = m.a (iterate m.to k x) < n.b (iterate m.to k x)

    -- were nobody between, the test would alternate round the party
    module _ (none : (k : ℕ) → k < 2 * half + 2 → Between m n (iterate m.to k x) → ⊥) where
      then_not : (k : ℕ) → k < 2 * half + 1 → Out k → Out (suc k) → ⊥
      then_not k h p q = none (suc k) (omega arith) (record { out = q; back = rw (iterate-suc m.to k x) (out_to hm hn (iterate m.to k x) p) })

      then_out : (k : ℕ) → (Out k → ⊥) → Out (suc k)
      then_out k p = elim (Decided-lt (m.a (iterate m.to (suc k) x)) (n.b (iterate m.to (suc k) x))) [
        | inl q ↦ q
        | inr q ↦
            let y : ℕ = iterate m.to k x in
            let high : n.a (m.to y) < m.b (m.to y) = rw (iterate-suc m.to k x) at (either hm hn (iterate m.to (suc k) x) (gap (suc k)) q) in
            let on : m.a y < s.len y = omega (arith, gap k, hm.right.within y) in
            absurd (p (rw (hm.left.back y on) at (back_from hm hn (m.to y) high)))
      ]

      twice_out : (h : ℕ) → h ≤ half → Out 0 → Out (2 * h)
      twice_out zero g p = p
      twice_out (suc h) g p = let e : 2 * suc h ≡ suc (suc (2 * h)) = omega arith in rw e (then_out (suc (2 * h)) (then_not (2 * h) (omega arith) (twice_out h (omega arith) p)))

      twice_not : (h : ℕ) → h ≤ half → (Out 0 → ⊥) → Out (2 * h) → ⊥
      twice_not zero g p q = p q
      twice_not (suc h) g p q = let e : 2 * suc h ≡ suc (suc (2 * h)) = omega arith in then_not (suc (2 * h)) (omega arith) (then_out (2 * h) (twice_not h (omega arith) p)) (rw e at q)

      full : suc (2 * half) ≡ 2 * half + 1
      full = omega arith

      last_is : iterate m.to (suc (2 * half)) x ≡ iterate m.to 0 x
      last_is = ap (λ k. iterate m.to k x) full ∙ returns ∙ sym (iterate-zero m.to x)

      alternates : ⊥
      alternates = elim (Decided-lt (m.a (iterate m.to 0 x)) (n.b (iterate m.to 0 x))) [
        | inl p ↦ then_not (2 * half) (omega arith) (twice_out half (omega arith) p) (rw last_is p)
        | inr p ↦ p (rw last_is at (then_out (2 * half) (twice_not half (omega arith) p)))
      ]

    -- so somebody is, and then all are
    pub all_between : (k : ℕ) → Between m n (iterate m.to k x)
    all_between k = elim (search_below (2 * half + 2) (λ k. Between m n (iterate m.to k x)) (λ k _. Decided-between m n (iterate m.to k x))) [
      | inr none ↦ absurd (alternates none)
      | inl w ↦
          let far : Between m n (iterate m.to ((2 * half + 1 - w.at) + w.at) x) = between_on x w.at (2 * half + 1 - w.at) w.holds in
          let e : (2 * half + 1 - w.at) + w.at ≡ 2 * half + 1 = omega (arith, w.below) in
          let here : Between m n (iterate m.to 0 x) = rw (iterate-zero m.to x) (rw (e, returns) at far) in
          let f : k + 0 ≡ k = omega arith in
          rw f at (between_on x 0 k here)
    ]
