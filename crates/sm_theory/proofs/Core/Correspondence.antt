-- Each stable matching is that of a closed set; what is exposed at it; every exposed rotation is one of the chain.
use Rattle.std.proofs.Common.{◌≡◌, ℕ, suc, ◌<◌, ◌≤◌, ◌⊎◌, inl, inr, arith, sym}
use Rattle.sm_lists.proofs.Counting.{Decided, Decided-le, Decided-and, Decided-not, by_contradiction, lt_or_le, First, Last, search_below, last_below}
use Rattle.sm_market.proofs.Core.{Sides, Stand, Stable, Pair}
use Rattle.sm_theory.proofs.Core.Cycle.{Cycle, turn, turn_in, target, Exposed, Moves, moves_or_not, moves_at, Among, same_cycle}
use Rattle.sm_theory.proofs.Core.Rotation.{Elim, eliminate, Elim-eliminate, elim_stable, goes_down}
use Rattle.sm_theory.proofs.Core.Dichotomy.{dichotomy}
use Rattle.sm_theory.proofs.Core.Chain.{Chain, Needs, Closed, IsOf, Attained, Decided-moves, seat_high, up_at, quiet, moved_to, needs_lower, upper, way_of}
use Rattle.sm_theory.proofs.Core.Exposure.{exposed_there, same_before}
use Rattle.sm_theory.proofs.Core.Closed.{of_more}

module _ {s : Sides} {t : ℕ} {M : ℕ → Stand} {c : ℕ → Cycle} (ch : Chain s t M c) where
  -- k's proposers have the next reviewer or worse in n: it is enough to ask the first
  pub Reaches : Stand → ℕ → Type 0
  Reaches n k = (M (suc k)).a ((c k).who 0) ≤ n.a ((c k).who 0)

  module _ {n : Stand} (hn : Stable s n) where
    -- whether n reaches a rotation is decided
    pub Decided-reaches : (k : ℕ) → Decided (Reaches n k)
    unfolding Reaches
    Decided-reaches k = Decided-le ((M (suc k)).a ((c k).who 0)) (n.a ((c k).who 0))

    reaches_all : (k p : ℕ) → k < t → Reaches n k → Moves (c k) p → (M (suc k)).a p ≤ n.a p
    unfolding Reaches
    reaches_all k p h r mv = elim (dichotomy (ch.stable k (omega arith)) hn (ch.exposed k h)) [
      | inl all ↦ absurd (omega (arith, all 0 (ch.exposed k h).some, up_at (way_of ch) k ((c k).who 0) h (moves_at (c k) 0 (ch.exposed k h).some), r))
      | inr all ↦
          let x : s.place p (target (c k) mv.at) ≤ n.a p = rw mv.holds at (all mv.at mv.below) in
          let y : (M (suc k)).a p ≡ s.place p (target (c k) mv.at) = rw mv.holds at ((ch.onward k h).moved mv.at mv.below) in
          omega arith
    ]

    reaches_by : (k p : ℕ) → k < t → Moves (c k) p → (M k).a p < n.a p → Reaches n k
    unfolding Reaches
    reaches_by k p h mv less = elim (dichotomy (ch.stable k (omega arith)) hn (ch.exposed k h)) [
      | inl all ↦ let x : n.a p ≤ (M k).a p = rw mv.holds at (all mv.at mv.below) in absurd (omega arith)
      | inr all ↦ omega (arith, all 0 (ch.exposed k h).some, (ch.onward k h).moved 0 (ch.exposed k h).some)
    ]

    stops_all : (k p : ℕ) → k < t → (Reaches n k → ⊥) → Moves (c k) p → n.a p ≤ (M k).a p
    stops_all k p h out mv = elim (lt_or_le ((M k).a p) (n.a p)) [ inl less ↦ absurd (out (reaches_by k p h mv less)) | inr more ↦ more ]

    -- where nothing that n reaches moves p from k on, n is no worse for p than stage k
    top : (k p : ℕ) → k ≤ t → ((j : ℕ) → k ≤ j → j < t → Reaches n j → Moves (c j) p → ⊥) → n.a p ≤ (M k).a p
    top k p h none = elim (search_below t (λ j. (k ≤ j) × Moves (c j) p) (λ j _. Decided-and (Decided-le k j) (Decided-moves (c j) p))) [
      | inl w ↦ omega (
        arith,
        stops_all w.at p w.below (λ r. none w.at w.holds.0 w.below r w.holds.1) w.holds.1,
        quiet (way_of ch) p k w.at w.holds.0 (omega (arith, w.below)) (λ j x y mv. w.earlier j y (x, mv)),
      )
      | inr never ↦ omega (arith, ch.worst n hn p, quiet (way_of ch) p k t h (omega arith) (λ j x y mv. never j y (x, mv)))
    ]

    -- n is the matching of what it reaches
    pub reaches_of : IsOf t M c (Reaches n) n
    reaches_of = record { low = ch.best n hn; reach = λ p k h r mv. reaches_all k p h r mv; attained = λ p. attained p (last_below t (λ k. Reaches n k × Moves (c k) p) (λ k _. Decided-and (Decided-reaches k) (Decided-moves (c k) p))) }
      where
        attained : (p : ℕ) → Last t (λ k. Reaches n k × Moves (c k) p) ⊎ ((k : ℕ) → k < t → Reaches n k × Moves (c k) p → ⊥) → (n.a p ≡ (M 0).a p) ⊎ Attained t M c (Reaches n) n p
        attained p (inl w) = inr (record {
          at = w.at;
          below = w.below;
          member = w.holds.0;
          moves = w.holds.1;
          is = omega (arith, reaches_all w.at p w.below w.holds.0 w.holds.1, top (suc w.at) p w.below (λ j x y r mv. w.later j x y (r, mv)));
        })
        attained p (inr none) = inl (omega (arith, ch.best n hn p, top 0 p (omega arith) (λ j x y r mv. none j y (r, mv))))

    -- and that is closed
    pub reaches_closed : Closed s t c (Reaches n)
    reaches_closed i j h g r (inl w) =
        let p : ℕ = (c i).who w.at in
        let mv : Moves (c j) p = rw (sym w.who_is) at (moves_at (c j) w.at' w.below') in
        let new = moved_to (way_of ch) i w.at h w.below in
        let old : Pair s (M j) p (target (c i) w.at) = rw (sym w.who_is, sym w.has_is) at ((ch.exposed j g).paired w.at' w.below') in
        reaches_by i p h (moves_at (c i) w.at w.below) (omega (arith, reaches_all j p g r mv, up_at (way_of ch) j p g mv, new.place_is, old.place_is, up_at (way_of ch) i p h (moves_at (c i) w.at w.below)))
    reaches_closed i j h g r (inr w) = by_contradiction (Decided-reaches i) (λ out.
        let p : ℕ = (c j).who w.at' in
        let q : ℕ = (c i).who (turn (c i).size w.at) in
        let seat : ℕ = target (c i) w.at in
        let inside = turn_in (c i).size w.at w.below in
        let low = reaches_all j p g r (moves_at (c j) w.at' w.below') in
        let new = moved_to (way_of ch) j w.at' g w.below' in
        let old = (ch.exposed i h).paired (turn (c i).size w.at) inside in
        let high = seat_high (ch.stable i (omega arith)) hn old (stops_all i q h out (moves_at (c i) (turn (c i).size w.at) inside)) in
        hn.unblocked p seat (omega (arith, w.before, new.place_is, new.matched)) (omega (arith, w.before, new.place_is, low)) (omega (arith, w.loses, old.rank_is, high)))

  module _ {C : ℕ → Type 0} {n : Stand} (closed : Closed s t c C) (known : (k : ℕ) → k < t → Decided (C k)) (hn : Stable s n) (of : IsOf t M c C n) where
    -- what is exposed at the matching of a closed set is outside it, and its predecessors are inside
    pub exposed_out : (k : ℕ) → k < t → Exposed s n (c k) → C k → ⊥
    exposed_out k h x inside =
        let mv = moves_at (c k) 0 x.some in
        omega (arith, of.reach ((c k).who 0) k h inside mv, up_at (way_of ch) k ((c k).who 0) h mv, (x.paired 0 x.some).place_is, ((ch.exposed k h).paired 0 x.some).place_is)

    -- the predecessors of what is exposed at the matching of a closed set are inside
    pub exposed_ready : (k : ℕ) → k < t → Exposed s n (c k) → (i : ℕ) → i < t → Needs s (c i) (c k) → C i
    exposed_ready k h x i g (inl w) = by_contradiction (known i g) (λ out.
        let p : ℕ = (c i).who w.at in
        let mv = moves_at (c i) w.at w.below in
        let new = moved_to (way_of ch) i w.at g w.below in
        let there : Pair s n p (target (c i) w.at) = rw (sym w.who_is, sym w.has_is) at (x.paired w.at' w.below') in
        omega (arith, upper (way_of ch) closed of i p g out mv, up_at (way_of ch) i p g mv, new.place_is, there.place_is))
    exposed_ready k h x i g (inr w) = by_contradiction (known i g) (λ out.
        let q : ℕ = (c i).who (turn (c i).size w.at) in
        let seat : ℕ = target (c i) w.at in
        let inside = turn_in (c i).size w.at w.below in
        let old = (ch.exposed i g).paired (turn (c i).size w.at) inside in
        let high = seat_high (ch.stable i (omega arith)) hn old (upper (way_of ch) closed of i q g out (moves_at (c i) (turn (c i).size w.at) inside)) in
        omega (arith, (x.next w.at' w.below').first seat (omega (arith, (x.paired w.at' w.below').place_is, w.behind)) w.before, w.loses, old.rank_is, high))

  -- d is a rotation of the chain, begun at some pair, which is exposed at n
  pub record InChain (n : Stand) (d : Cycle) : Type 0 where
    pub at : ℕ
    pub below : at < t
    pub exposed : Exposed s n (c at)
    pub there : (i : ℕ) → i < d.size → Among d (c at) i
    pub back : (i : ℕ) → i < (c at).size → Among (c at) d i

  -- a rotation exposed at a stable matching is one of the chain
  pub all_in_chain : {n : Stand} {d : Cycle} → Stable s n → Exposed s n d → InChain n d
  all_in_chain {n} {d} hn x = go (search_below t (λ k. Reaches m k × (Reaches n k → ⊥)) (λ k _. Decided-and (Decided-reaches hm k) (Decided-not (Decided-reaches hn k))))
    where
      m : Stand
      m = eliminate s n d

      e : Elim s n d m
      e = Elim-eliminate x

      hm : Stable s m
      hm = elim_stable hn x e

      found : (k : ℕ) → k < t → Reaches m k → (Reaches n k → ⊥) → ((j : ℕ) → j < k → Reaches m j × (Reaches n j → ⊥) → ⊥) → InChain n d
      found k h inside out least = share (moves_or_not d p)
        where
          ready : (i : ℕ) → i < t → Needs s (c i) (c k) → Reaches n i
          ready i g need = by_contradiction (Decided-reaches hn i) (λ not_there. least i (needs_lower (way_of ch) i k g h need) (reaches_closed hm i k g h inside need, not_there))

          y : Exposed s n (c k)
          y = exposed_there ch (reaches_closed hn) hn (reaches_of hn) k h out ready

          p : ℕ
          p = (c k).who 0

          mv : Moves (c k) p
          mv = moves_at (c k) 0 y.some

          less : n.a p < m.a p
          less = omega (arith, reaches_all hm k p h inside mv, up_at (way_of ch) k p h mv, same_before ch (reaches_closed hn) hn (reaches_of hn) k h out ready p mv)

          share : Moves d p ⊎ ((i : ℕ) → i < d.size → d.who i ≡ p → ⊥) → InChain n d
          share (inr none) = absurd (omega (arith, e.still p none, less))
          share (inl w) = record { at = k; below = h; exposed = y; there = same_cycle x y w.at 0 w.below y.some (sym w.holds); back = same_cycle y x 0 w.at y.some w.below w.holds }

      go : First t (λ k. Reaches m k × (Reaches n k → ⊥)) ⊎ ((k : ℕ) → k < t → Reaches m k × (Reaches n k → ⊥) → ⊥) → InChain n d
      go (inl w) = found w.at w.below w.holds.0 w.holds.1 w.earlier
      go (inr none) = absurd (omega (
        arith,
        goes_down hn.fit x e 0 x.some,
        of_more ch (reaches_of hm) (reaches_of hn) (λ k h r. by_contradiction (Decided-reaches hn k) (λ out. none k h (r, out))) (d.who 0),
      ))
