-- Closed sets that differ by one rotation, and the matchings of them.
use Rattle.std.proofs.Common.{◌≡◌, ℕ, suc, ◌<◌, ◌≤◌, ◌⊎◌, inl, inr, arith, sym, ap, ◌∙◌, le_of_eq, le_trans, Bool, List, length}
use Rattle.sm_market.specs.Lists.{Lists, IsMarket}
use Rattle.sm_market.specs.Matching.{Places, standing}
use Rattle.sm_market.specs.Stable.{IsStable}
use Rattle.sm_lists.proofs.Counting.{Decided, eq_or_ne}
use Rattle.sm_market.proofs.Core.{Sides, Stand, Stable}
use Rattle.sm_market.proofs.Bridge.{stand_of, stable_of, stable_equal}
use Rattle.sm_theory.specs.Rotations.{IsExposed, eliminated}
use Rattle.sm_theory.specs.Chains.{rotation_at, stage, IsCompleteChain}
use Rattle.sm_theory.specs.ClosedSets.{IsMember, IsClosed, matching_of}
use Rattle.sm_theory.proofs.Core.Cycle.{Cycle, Exposed, Moves, moves_or_not, Among, Succ, succ_unique, target}
use Rattle.sm_theory.proofs.Core.Rotation.{Elim, never_up}
use Rattle.sm_theory.proofs.Core.Chain.{Chain, IsOf, Attained, Decided-moves, not_moves}
use Rattle.sm_theory.proofs.Core.Closed.{same_target, of_more}
use Rattle.sm_theory.proofs.Core.Correspondence.{InChain, all_in_chain}
use Rattle.sm_theory.proofs.Bridge.Rotation.{cycle_of, exposed_of, exposed_back, elim_of, eliminated_stable}
use Rattle.sm_theory.proofs.Bridge.Chain.{chain_of}
use Rattle.sm_theory.proofs.Bridge.Sets.{set_is_of, set_stable}
use Rattle.sm_theory.proofs.Chains.Rotations.{exposed_where_ready, predecessor_is_earlier}
use Rattle.sm_theory.specs.Routes.{IsOneDown}

module _ {s : Sides} {t : ℕ} {M : ℕ → Stand} {c : ℕ → Cycle} (ch : Chain s t M c) where
  -- eliminating rotation k at the matching of a set gives the matching of the set with k
  pub one_more_of : {C D : ℕ → Type 0} {n m : Stand} → Stable s n → IsOf t M c C n → (k : ℕ) → k < t → Exposed s n (c k) → Elim s n (c k) m
      → D k → ((j : ℕ) → C j → D j) → ((j : ℕ) → D j → (j ≡ k → ⊥) → C j) → IsOf t M c D m
  one_more_of {C} {D} {n} {m} hn of k h x e inside more less = record { low = λ p. le_trans (of.low p) (never_up hn.fit x e p); reach = reach; attained = λ p. attained p (Decided-moves (c k) p) }
    where
      reach : (p j : ℕ) → j < t → D j → Moves (c j) p → (M (suc j)).a p ≤ m.a p
      reach p j g member mv = elim (eq_or_ne j k) [
        | inl same ↦ let mv' : Moves (c k) p = rw same at mv in le_of_eq (ap (λ i. (M (suc i)).a p) same ∙ sym (same_target ch k p h mv' e))
        | inr other ↦ le_trans (of.reach p j g (less j member other) mv) (never_up hn.fit x e p)
      ]

      attained : (p : ℕ) → Decided (Moves (c k) p) → (m.a p ≡ (M 0).a p) ⊎ Attained t M c D m p
      attained p (inl mv) = inr (record { at = k; below = h; member = inside; moves = mv; is = same_target ch k p h mv e })
      attained p (inr none) = elim (of.attained p) [
        | inl a ↦ inl (e.still p (not_moves (c k) p none) ∙ a)
        | inr a ↦ inr (record { at = a.at; below = a.below; member = more a.at a.member; moves = a.moves; is = e.still p (not_moves (c k) p none) ∙ a.is })
      ]

-- two exposed cycles that have each other's pairs have the same elimination
pub same_elim : {s : Sides} {m k k' : Stand} {c d : Cycle} → Exposed s m c → Exposed s m d → ((i : ℕ) → i < c.size → Among c d i) → ((i : ℕ) → i < d.size → Among d c i)
    → Elim s m c k → Elim s m d k' → (p : ℕ) → k.a p ≡ k'.a p
same_elim {s} {m} {k} {k'} {c} {d} x y there back e e' p = elim (moves_or_not c p) [
  | inl mv ↦
      let v = there mv.at mv.below in
      let nx : Succ s m (c.who mv.at) (target d v.at) = rw v.who_is at (y.next v.at v.below) in
      ap k.a (sym mv.holds) ∙ e.moved mv.at mv.below ∙ ap (s.place (c.who mv.at)) (succ_unique (x.next mv.at mv.below) nx)
      ∙ ap (λ q. s.place q (target d v.at)) (sym v.who_is) ∙ sym (e'.moved v.at v.below) ∙ ap k'.a (v.who_is ∙ mv.holds)
  | inr none ↦ e.still p none ∙ sym (e'.still p (λ i a is. let v = back i a in none v.at v.below (v.who_is ∙ is)))
]

-- the larger set has one rotation more
pub record IsOneMore (small large : List Bool) (k : ℕ) : Type 0 where
  pub out : ¬ IsMember small k
  pub inside : IsMember large k
  pub more : (j : ℕ) → IsMember small j → IsMember large j
  pub less : (j : ℕ) → IsMember large j → (j ≡ k → ⊥) → IsMember small j

module _ {l : Lists} (h : IsMarket l) {first : Places} {rotations : List (List (ℕ × ℕ))} (chain : IsCompleteChain l first rotations) where
  -- the one that the larger set has more is exposed at the matching of the smaller
  pub one_more_exposed : {small large : List Bool} → IsClosed l rotations small → IsClosed l rotations large → (k : ℕ) → k < length rotations → IsOneMore small large k
      → IsExposed l (matching_of l first rotations small) (rotation_at rotations k)
  one_more_exposed {small} {large} a b k g one = (exposed_where_ready l first rotations small k h chain a g).1 (record {
    outside = one.out;
    prepared = λ i i_in need. one.less i (b.closed i k i_in g one.inside need) (λ e. omega (arith, e, predecessor_is_earlier l first rotations i k h chain i_in g need));
  })

  -- and its elimination gives the matching of the larger
  pub one_more_next : {small large : List Bool} → IsClosed l rotations small → IsClosed l rotations large → (k : ℕ) → k < length rotations → IsOneMore small large k
      → matching_of l first rotations large ≡ eliminated l (matching_of l first rotations small) (rotation_at rotations k)
  one_more_next {small} {large} a b k g one = stable_equal h (set_stable h chain large b) (eliminated_stable h (set_stable h chain small a) x)
      (λ p. omega (arith, of_more (chain_of h chain) (set_is_of h chain large) of (λ j _ m. m) p, of_more (chain_of h chain) of (set_is_of h chain large) (λ j _ m. m) p))
    where
      x : IsExposed l (matching_of l first rotations small) (rotation_at rotations k)
      x = one_more_exposed a b k g one

      of : IsOf (length rotations) (λ k. stand_of l (stage l first rotations k)) (λ k. cycle_of (rotation_at rotations k)) (IsMember large) (stand_of l (eliminated l (matching_of l first rotations small) (rotation_at rotations k)))
      of = one_more_of (chain_of h chain) (stable_of h (set_stable h chain small a)) (set_is_of h chain small) k g
          (exposed_of h (set_stable h chain small a).matching x) (elim_of h (set_stable h chain small a).matching x) one.inside one.more one.less

  -- so between the two is one step
  pub one_down : {small large : List Bool} → IsClosed l rotations small → IsClosed l rotations large → (k : ℕ) → k < length rotations → IsOneMore small large k
      → IsOneDown l (matching_of l first rotations small) (matching_of l first rotations large)
  one_down a b k g one = record { rotation = rotation_at rotations k; exposed = one_more_exposed a b k g one; next = one_more_next a b k g one }

  -- whatever rotation is eliminated, it is one of the chain
  pub record OneOfChain (m n : Places) : Type 0 where
    pub at : ℕ
    pub below : at < length rotations
    pub exposed : IsExposed l m (rotation_at rotations at)
    pub next : n ≡ eliminated l m (rotation_at rotations at)

  pub one_of_chain : {m n : Places} → IsStable l m → IsOneDown l m n → OneOfChain m n
  one_of_chain {m} {n} hm one = record { at = w.at; below = w.below; exposed = y; next = one.next ∙ stable_equal h (eliminated_stable h hm one.exposed) (eliminated_stable h hm y) same }
    where
      w : InChain (chain_of h chain) (stand_of l m) (cycle_of one.rotation)
      w = all_in_chain (chain_of h chain) (stable_of h hm) (exposed_of h hm.matching one.exposed)

      y : IsExposed l m (rotation_at rotations w.at)
      y = exposed_back h (rotation_at rotations w.at) w.exposed

      same : (p : ℕ) → standing l.proposers (eliminated l m one.rotation).proposers p ≡ standing l.proposers (eliminated l m (rotation_at rotations w.at)).proposers p
      same p = same_elim (exposed_of h hm.matching one.exposed) (exposed_of h hm.matching y) w.there w.back (elim_of h hm.matching one.exposed) (elim_of h hm.matching y) p
