-- Two rotations that are exposed at one matching and share a proposer lead to one matching.
use Rattle.std.proofs.Common.{◌≡◌, ◌≢◌, ℕ, suc, ◌<◌, inl, inr, arith, sym, ap, ◌∙◌, List, length}
use Rattle.sm_market.specs.Lists.{Lists, IsMarket}
use Rattle.sm_market.specs.Matching.{Places}
use Rattle.sm_market.specs.Stable.{IsStable}
use Rattle.sm_lists.proofs.Counting.{by_contradiction, lt_or_le}
use Rattle.sm_market.proofs.Core.{Sides, Stand, Stable}
use Rattle.sm_market.proofs.Bridge.{stable_equal}
use Rattle.sm_theory.specs.Rotations.{proposer_at, IsExposed, eliminated}
use Rattle.sm_theory.proofs.Core.Cycle.{Cycle, target, Exposed, Moves, moves_or_not, moves_at, Among, same_cycle, succ_unique}
use Rattle.sm_theory.proofs.Core.Rotation.{Elim, never_up}
use Rattle.sm_theory.proofs.Core.Chain.{Chain, Needs, up_at, rise, upper, way_of}
use Rattle.sm_theory.proofs.Core.Exposure.{exposed_there}
use Rattle.sm_theory.proofs.Core.Correspondence.{Reaches, Decided-reaches, reaches_of, reaches_closed, exposed_out, exposed_ready}
use Rattle.sm_theory.proofs.Bridge.Rotation.{exposed_of, elim_of, eliminated_stable}

module _ {s : Sides} {m k n : Stand} {c d : Cycle} (x : Exposed s m c) (y : Exposed s m d) (e : Elim s m c k) (f : Elim s m d n) (i j : ℕ) (h : i < c.size) (g : j < d.size) (same : d.who j ≡ c.who i) where
  -- each proposer comes to the same place by either
  pub same_move : (p : ℕ) → k.a p ≡ n.a p
  same_move p = elim (moves_or_not c p) [
    | inl w ↦
        let v : Among c d w.at = same_cycle x y i j h g same w.at w.below in
        let one : target d v.at ≡ target c w.at = succ_unique (y.next v.at v.below) (rw (sym v.who_is) at (x.next w.at w.below)) in
        let left : k.a p ≡ s.place p (target c w.at) = rw w.holds at (e.moved w.at w.below) in
        let who : d.who v.at ≡ p = v.who_is ∙ w.holds in
        let right : n.a p ≡ s.place p (target d v.at) = rw who at (f.moved v.at v.below) in
        left ∙ ap (s.place p) (sym one) ∙ sym right
    | inr none ↦ elim (moves_or_not d p) [
      | inr none' ↦ e.still p none ∙ sym (f.still p none')
      | inl w ↦ let v : Among d c w.at = same_cycle y x j i g h (sym same) w.at w.below in absurd (none v.at v.below (v.who_is ∙ w.holds))
    ]
  ]

-- so eliminating either leaves the same matching
pub eliminated-same : {l : Lists} {m : Places} {c d : List (ℕ × ℕ)} → IsMarket l → IsStable l m → IsExposed l m c → IsExposed l m d → (i j : ℕ) → i < length c → j < length d → proposer_at d j ≡ proposer_at c i → eliminated l m c ≡ eliminated l m d
eliminated-same h s x y i j a b same = stable_equal h (eliminated_stable h s x) (eliminated_stable h s y)
    (same_move (exposed_of h s.matching x) (exposed_of h s.matching y) (elim_of h s.matching x) (elim_of h s.matching y) i j a b same)

-- Putting a chain into another order: at a stable matching the rotations that it reaches are behind it.
module _ {s : Sides} {t : ℕ} {M : ℕ → Stand} {c : ℕ → Cycle} (ch : Chain s t M c) where
  -- a rotation is reached where one of its proposers does worse than before it
  pub reached_by : {n : Stand} (hn : Stable s n) (k p : ℕ) → k < t → Moves (c k) p → (M k).a p < n.a p → Reaches ch n k
  reached_by hn k p h mv less = by_contradiction (Decided-reaches ch hn k) (λ out. omega (arith, upper (way_of ch) (reaches_closed ch hn) (reaches_of ch hn) k p h out mv))

  -- what is exposed isn't reached, and all that it needs is
  pub exposed_is_ready : {n : Stand} (hn : Stable s n) (k : ℕ) → k < t → Exposed s n (c k) → (Reaches ch n k → ⊥) × ((i : ℕ) → i < t → Needs s (c i) (c k) → Reaches ch n i)
  exposed_is_ready hn k h x = (
    exposed_out ch (reaches_closed ch hn) (λ i _. Decided-reaches ch hn i) hn (reaches_of ch hn) k h x,
    exposed_ready ch (reaches_closed ch hn) (λ i _. Decided-reaches ch hn i) hn (reaches_of ch hn) k h x,
  )

  -- what isn't reached, while all that it needs is, is exposed
  pub ready_is_exposed : {n : Stand} (hn : Stable s n) (k : ℕ) → k < t → (Reaches ch n k → ⊥) → ((i : ℕ) → i < t → Needs s (c i) (c k) → Reaches ch n i) → Exposed s n (c k)
  ready_is_exposed hn k h out ready = exposed_there ch (reaches_closed ch hn) hn (reaches_of ch hn) k h out ready

  -- eliminating one of the chain's rotations reaches that one in addition, and no other
  module _ {n m : Stand} (hn : Stable s n) (hm : Stable s m) (k : ℕ) (h : k < t) (x : Exposed s n (c k)) (e : Elim s n (c k) m) where
    -- what was reached is reached still
    pub still_reached : (j : ℕ) → j < t → Reaches ch n j → Reaches ch m j
    still_reached j g r =
        let p : ℕ = (c j).who 0 in
        let mv = moves_at (c j) 0 (ch.exposed j g).some in
        reached_by hm j p g mv (omega (arith, (reaches_of ch hn).reach p j g r mv, never_up hn.fit x e p, up_at (way_of ch) j p g mv))

    after_k : (p : ℕ) (w : Moves (c k) p) → m.a p ≡ (M (suc k)).a p
    after_k p w =
        let one : m.a p ≡ s.place p (target (c k) w.at) = rw w.holds at (e.moved w.at w.below) in
        let two : (M (suc k)).a p ≡ s.place p (target (c k) w.at) = rw w.holds at ((ch.onward k h).moved w.at w.below) in
        one ∙ sym two

    before_k : (p : ℕ) (w : Moves (c k) p) → n.a p ≡ (M k).a p
    before_k p w =
        let one : s.place p ((c k).has w.at) ≡ n.a p = rw w.holds at ((x.paired w.at w.below).place_is) in
        let two : s.place p ((c k).has w.at) ≡ (M k).a p = rw w.holds at (((ch.exposed k h).paired w.at w.below).place_is) in
        sym one ∙ two

    -- the rotation that was eliminated is reached now
    pub now_reached : Reaches ch m k
    now_reached =
        let p : ℕ = (c k).who 0 in
        let mv = moves_at (c k) 0 x.some in
        reached_by hm k p h mv (omega (arith, after_k p mv, up_at (way_of ch) k p h mv))

    -- and no other that wasn't
    pub no_other : (j : ℕ) → j < t → j ≢ k → Reaches ch m j → Reaches ch n j
    no_other j g ne r =
        let p : ℕ = (c j).who 0 in
        let mv = moves_at (c j) 0 (ch.exposed j g).some in
        let low = (reaches_of ch hm).reach p j g r mv in
        let up = up_at (way_of ch) j p g mv in
        elim (moves_or_not (c k) p) [
          | inr none ↦ reached_by hn j p g mv (omega (arith, low, up, e.still p none))
          | inl w ↦ elim (lt_or_le j k) [
            | inl less ↦ reached_by hn j p g mv (omega (arith, up, before_k p w, rise (way_of ch) p (suc j) k less (omega arith)))
            | inr more ↦ absurd (omega (arith, low, up, after_k p w, rise (way_of ch) p (suc k) j (omega arith) (omega arith)))
          ]
        ]
