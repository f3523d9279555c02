-- Eliminating an exposed rotation leaves a stable matching.
use Rattle.std.proofs.Common.{◌≡◌, ℕ, ◌<◌, ◌≤◌, ◌⊎◌, inl, inr, arith, refl, sym, ap, ◌∙◌}
use Rattle.sm_lists.proofs.Counting.{lt_or_le, eq_or_ne, less_same_more}
use Rattle.sm_market.proofs.Core.{Sides, Stand, Fit, Stable, Pair, pair_of', pair_at, pair_at', same_place, one_proposer, one_reviewer}
use Rattle.sm_theory.proofs.Core.Seats.{Seats, NoTwice, fit_of_seats, seat_of, Seats-seat_of}
use Rattle.sm_theory.proofs.Core.Cycle.{Cycle, turn, turn_in, turn_once, target, Succ, Exposed, Moves, moves_or_not, gives_or_not, follows}

-- k is m with the cycle eliminated
pub record Elim (s : Sides) (m : Stand) (c : Cycle) (k : Stand) : Type 0 where
  pub moved : (i : ℕ) → i < c.size → k.a (c.who i) ≡ s.place (c.who i) (target c i)
  pub still : (p : ℕ) → ((i : ℕ) → i < c.size → c.who i ≡ p → ⊥) → k.a p ≡ m.a p
  pub seats : Seats s k

module _ {s : Sides} {m : Stand} {c : Cycle} {k : Stand} (hm : Fit s m) (x : Exposed s m c) (e : Elim s m c k) where
  -- the proposers of the cycle go down, all others stay
  pub goes_down : (i : ℕ) → i < c.size → m.a (c.who i) < k.a (c.who i)
  goes_down i h = omega (arith, e.moved i h, (x.next i h).behind)

  -- no proposer does better once the cycle is eliminated
  pub never_up : (p : ℕ) → m.a p ≤ k.a p
  never_up p = elim (moves_or_not c p) [
    | inl w ↦ let h = goes_down w.at w.below in let h' : m.a p < k.a p = rw w.holds at h in omega arith
    | inr none ↦ omega (arith, e.still p none)
  ]

  once : NoTwice s k
  once p q r on on' is is' = elim (moves_or_not c p) [
    | inl w ↦ elim (moves_or_not c q) [
      | inl v ↦
          let wr : target c w.at ≡ r = there w (on) is in
          let vr : target c v.at ≡ r = there v (on') is' in
          sym w.holds ∙ ap c.who (turn_once c.size w.at v.at w.below v.below (has_once _ _ (turn_in c.size w.at w.below) (turn_in c.size v.at v.below) (wr ∙ sym vr))) ∙ v.holds
      | inr none ↦ absurd (taken w none on is on' is')
    ]
    | inr none ↦ elim (moves_or_not c q) [
      | inl v ↦ absurd (taken v none on' is' on is)
      | inr none' ↦ one_proposer (stays none on is) (stays none' on' is')
    ]
  ]
    where
      has_once : (i j : ℕ) → i < c.size → j < c.size → c.has i ≡ c.has j → i ≡ j
      has_once i j h g same = x.distinct i j h g (one_proposer (x.paired i h) (rw (← same) at (x.paired j g)))

      there : {p : ℕ} (w : Moves c p) → k.a p < s.len p → s.place p r ≡ k.a p → target c w.at ≡ r
      there {p} w on is =
          let mv : k.a p ≡ s.place p (target c w.at) = rw w.holds at (e.moved w.at w.below) in
          let one = s.left.at_place p (target c w.at) (omega arith) in
          let two = s.left.at_place p r (omega arith) in
          sym one ∙ ap (s.at p) (sym mv ∙ sym is) ∙ two

      stays : {q : ℕ} → ((i : ℕ) → i < c.size → c.who i ≡ q → ⊥) → k.a q < s.len q → s.place q r ≡ k.a q → Pair s m q r
      stays {q} none on is = pair_at q r hm (omega (arith, e.still q none)) (is ∙ e.still q none)

      taken : {p q : ℕ} (w : Moves c p) → ((i : ℕ) → i < c.size → c.who i ≡ q → ⊥) → k.a p < s.len p → s.place p r ≡ k.a p → k.a q < s.len q → s.place q r ≡ k.a q → ⊥
      taken {p} {q} w none on is on' is' =
          let inside = turn_in c.size w.at w.below in
          none (turn c.size w.at) inside (one_proposer (rw (there w on is) at (x.paired (turn c.size w.at) inside)) (stays none on' is'))

  -- what is left is a matching
  pub elim_fit : Fit s k
  elim_fit = fit_of_seats low once e.seats
    where
      low : (p : ℕ) → k.a p ≤ s.len p
      low p = elim (moves_or_not c p) [
        | inl w ↦ let mv : k.a p ≡ s.place p (target c w.at) = rw w.holds at (e.moved w.at w.below) in
            let on : s.place p (target c w.at) < s.len p = rw w.holds at (x.next w.at w.below).on in omega arith
        | inr none ↦ omega (arith, e.still p none, hm.left.within p)
      ]

  -- each proposer of the cycle has the reviewer of the next pair
  pub new_pair : (i : ℕ) → i < c.size → Pair s k (c.who i) (target c i)
  new_pair i h = pair_at (c.who i) (target c i) elim_fit (omega (arith, e.moved i h, (x.next i h).on)) (sym (e.moved i h))

  -- each reviewer of the cycle does better
  pub gains : (i : ℕ) → i < c.size → k.b (target c i) < m.b (target c i)
  gains i h = omega (arith, (new_pair i h).rank_is, (x.next i h).takes)

  -- a reviewer that isn't in the cycle stays
  pub keeps : (r : ℕ) → ((i : ℕ) → i < c.size → c.has i ≡ r → ⊥) → k.b r ≡ m.b r
  keeps r none = elim (less_same_more (k.b r) (m.b r)) [
    | inr d ↦ elim d [
      | inl h ↦ h
      | inr h ↦
          let w = pair_of' r hm (omega (arith, e.seats.within r)) in
          absurd (omega (arith, same_there w))
    ]
    | inl h ↦
        let w = pair_of' r elim_fit (omega (arith, hm.right.within r)) in
        absurd (elim (moves_or_not c (s.at' r (k.b r))) [
          | inl v ↦
              let inside = turn_in c.size v.at v.below in
              none (turn c.size v.at) inside (one_reviewer (rw v.holds at (new_pair v.at v.below)) w)
          | inr out ↦ omega (arith, (pair_at (s.at' r (k.b r)) r hm (omega (arith, w.matched, e.still _ out)) (w.place_is ∙ e.still _ out)).rank_is, w.rank_is)
        ])
  ]
    where
      same_there : {q : ℕ} → Pair s m q r → k.b r ≡ m.b r
      same_there {q} w = elim (moves_or_not c q) [
        | inl v ↦ absurd (none v.at v.below (one_reviewer (rw v.holds at (x.paired v.at v.below)) w))
        | inr out ↦ let v : Pair s k q r = pair_at q r elim_fit (omega (arith, w.matched, e.still q out)) (w.place_is ∙ sym (e.still q out)) in omega (arith, v.rank_is, w.rank_is)
      ]

  -- no reviewer does worse
  pub never_worse : (r : ℕ) → k.b r ≤ m.b r
  never_worse r = elim (gives_or_not c r) [
    | inl w ↦
        let f = follows c.size w.at w.below in
        let is : target c f.at ≡ r = ap c.has f.is ∙ w.holds in
        let less : k.b r < m.b r = rw is at (gains f.at f.below) in omega arith
    | inr none ↦ omega (arith, keeps r none)
  ]

module _ {s : Sides} {m : Stand} {c : Cycle} {k : Stand} (hm : Stable s m) (x : Exposed s m c) (e : Elim s m c k) where
  falls : (r : ℕ) → k.b r ≤ m.b r
  falls r = never_worse hm.fit x e r

  -- what is left is stable where it was stable
  pub elim_stable : Stable s k
  elim_stable = record { fit = elim_fit hm.fit x e; unblocked = blocked }
    where
      blocked : (p r : ℕ) → s.place p r < s.len p → s.place p r < k.a p → s.rank r p < k.b r → ⊥
      blocked p r on better wins = elim (moves_or_not c p) [
        | inr none ↦ hm.unblocked p r on (omega (arith, e.still p none)) (omega (arith, falls r))
        | inl w ↦
            let old : Pair s m p (c.has w.at) = rw w.holds at (x.paired w.at w.below) in
            let mv : k.a p ≡ s.place p (target c w.at) = rw w.holds at (e.moved w.at w.below) in
            let nx : Succ s m p (target c w.at) = rw w.holds at (x.next w.at w.below) in
            elim (less_same_more (s.place p r) (m.a p)) [
              | inl h ↦ hm.unblocked p r on h (omega (arith, falls r))
              | inr d ↦ elim d [
                | inl h ↦ omega (arith, falls r, (pair_at p r hm.fit old.matched h).rank_is)
                | inr h ↦ omega (arith, falls r, nx.first r h (omega arith))
              ]
            ]
      ]

-- the elimination of a cycle
after_go : {X Y : Type 0} → (X → ℕ) → ℕ → X ⊎ Y → ℕ
after_go f n (inl w) = f w
after_go f n (inr _) = n

-- where p stands once the cycle is eliminated
pub after : Sides → Stand → Cycle → ℕ → ℕ
after s m c p = after_go (λ w. s.place p (target c w.at)) (m.a p) (moves_or_not c p)

-- the standings of both sides once the cycle is eliminated
pub eliminate : Sides → Stand → Cycle → Stand
eliminate s m c = record { a = after s m c; b = seat_of s (after s m c) }

-- and these are m with the cycle eliminated
pub Elim-eliminate : {s : Sides} {m : Stand} {c : Cycle} → Exposed s m c → Elim s m c (eliminate s m c)
unfolding eliminate after after_go
Elim-eliminate {s} {m} {c} x = record { moved = λ i h. moved i h (moves_or_not c (c.who i)); still = λ p none. still p none (moves_or_not c p); seats = Seats-seat_of s (after s m c) }
  where
    moved : (i : ℕ) → i < c.size → (d : Moves c (c.who i) ⊎ ((j : ℕ) → j < c.size → c.who j ≡ c.who i → ⊥)) → after_go (λ w. s.place (c.who i) (target c w.at)) (m.a (c.who i)) d ≡ s.place (c.who i) (target c i)
    moved i h (inl w) = ap (λ j. s.place (c.who i) (target c j)) (x.distinct w.at i w.below h w.holds)
    moved i h (inr none) = absurd (none i h refl)

    still : (p : ℕ) → ((i : ℕ) → i < c.size → c.who i ≡ p → ⊥) → (d : Moves c p ⊎ ((j : ℕ) → j < c.size → c.who j ≡ p → ⊥)) → after_go (λ w. s.place p (target c w.at)) (m.a p) d ≡ m.a p
    still p none (inl w) = absurd (none w.at w.below w.holds)
    still p none (inr _) = refl

-- c is eliminated from m, which leaves k; d is exposed there, c moves nobody of d, and it moves no reviewer past anybody of d
module _ {s : Sides} {m k : Stand} {c d : Cycle} (f : Fit s m) (x : Exposed s m c) (e : Elim s m c k) (y : Exposed s k d)
    (out : (i j : ℕ) → i < d.size → j < c.size → c.who j ≡ d.who i → ⊥)
    (over : (i j : ℕ) → i < d.size → j < c.size → s.place (d.who i) (target c j) < s.len (d.who i) → s.rank (target c j) (c.who j) < s.rank (target c j) (d.who i) → s.rank (target c j) (d.who i) < m.b (target c j) → ⊥) where
  still : (i : ℕ) → i < d.size → k.a (d.who i) ≡ m.a (d.who i)
  still i h = e.still (d.who i) (λ j g is. out i j h g is)

  pair : (i : ℕ) → i < d.size → Pair s m (d.who i) (d.has i)
  pair i h = same_place f (y.paired i h) (still i h)

  -- a reviewer of c that would not take somebody of d now would not have taken it before
  refuses_in : (i j : ℕ) → i < d.size → j < c.size → m.a (d.who i) < s.place (d.who i) (target c j) → s.place (d.who i) (target c j) < s.len (d.who i)
      → k.b (target c j) ≤ s.rank (target c j) (d.who i) → m.b (target c j) ≤ s.rank (target c j) (d.who i)
  refuses_in i j h g behind on short = elim (lt_or_le (s.rank (target c j) (d.who i)) (m.b (target c j))) [
    | inr more ↦ more
    | inl less ↦
        let new = new_pair f x e j g in
        absurd (elim (eq_or_ne (s.rank (target c j) (d.who i)) (k.b (target c j))) [
          | inl same ↦
              let v : Pair s k (d.who i) (target c j) = pair_at' (d.who i) (target c j) (elim_fit f x e) new.matched' same in
              omega (arith, v.place_is, still i h, behind)
          | inr ne ↦ over i j h g on (omega (arith, new.rank_is, short)) less
        ])
  ]

  -- and so is it with any reviewer
  refuses : (i q : ℕ) → i < d.size → m.a (d.who i) < s.place (d.who i) q → s.place (d.who i) q < s.len (d.who i) → k.b q ≤ s.rank q (d.who i) → m.b q ≤ s.rank q (d.who i)
  refuses i q h behind on short = elim (gives_or_not c q) [
    | inr none ↦ omega (arith, short, keeps f x e q none)
    | inl w ↦
        let v = follows c.size w.at w.below in
        let is : target c v.at ≡ q = ap c.has v.is ∙ w.holds in
        let there : m.a (d.who i) < s.place (d.who i) q → s.place (d.who i) q < s.len (d.who i) → k.b q ≤ s.rank q (d.who i) → m.b q ≤ s.rank q (d.who i) = rw is at (refuses_in i v.at h v.below) in
        there behind on short
  ]

  -- so d was exposed before
  pub exposed_before : Exposed s m d
  exposed_before = record {
    some = y.some;
    distinct = y.distinct;
    paired = pair;
    next = λ i h.
        let n = y.next i h in
        let v = pair (turn d.size i) (turn_in d.size i h) in
        record {
          on = n.on;
          behind = omega (arith, n.behind, still i h);
          takes = omega (arith, n.takes, never_worse f x e (target d i));
          first = λ q a b. refuses i q h a (omega (arith, b, n.on)) (n.first q (omega (arith, a, still i h)) b);
          matched = v.matched';
        };
  }
