-- The laws on rotations and on closed sets.
use Rattle.std.proofs.Common.{◌≡◌, ℕ, ◌<◌, ◌≤◌, inl, inr, arith, sym, ap, ◌∙◌, List, length, map, Bool, false, ext_get_or}
use Rattle.std.specs.List.{range_with_len}
use Rattle.std.proofs.lemmas.List.FromFn.{get_or-map-range_with_len, length-map-range_with_len}
use Rattle.sm_lists.proofs.ResultLemmas.{same_bool}
use Rattle.sm_market.specs.Lists.{Lists, reversed_lists}
use Rattle.sm_market.specs.Matching.{Places, standing, reversed}
use Rattle.sm_market.specs.Stable.{IsStable}
use Rattle.sm_lists.proofs.Counting.{bool_of, holds_of, of_holds}
use Rattle.sm_market.proofs.CoreLaws.{opposed, opposed'}
use Rattle.sm_market.proofs.Bridge.{stand_of, stable_of, IsMarket-reversed, IsStable-reversed}
use Rattle.sm_theory.specs.Rotations.{proposer_at, IsExposed}
use Rattle.sm_theory.specs.Chains.{rotation_at, stage, IsCompleteChain, IsPrintedChain}
use Rattle.sm_theory.specs.ClosedSets.{is_member, IsMember, IsClosed, matching_of}
use Rattle.sm_theory.specs.Laws.{Dichotomy, EliminationIsStable, NothingExposed, NothingExposedBack, BestIsUnique, PredecessorIsEarlier, SetsAreMatchings, ExposedWhereReady, AllInTheChain}
use Rattle.sm_theory.proofs.Core.Cycle.{moves_at}
use Rattle.sm_theory.proofs.Core.Dichotomy.{dichotomy}
use Rattle.sm_theory.proofs.Core.Chain.{needs_lower, way_of}
use Rattle.sm_theory.proofs.Core.Exposure.{exposed_there}
use Rattle.sm_theory.proofs.Core.Closed.{of_more, differ}
use Rattle.sm_theory.proofs.Core.Correspondence.{Reaches, Decided-reaches, reaches_of, reaches_closed, exposed_out, exposed_ready, all_in_chain, InChain}
use Rattle.sm_theory.proofs.Bridge.Rotation.{cycle_of, exposed_of, exposed_back, eliminated_stable}
use Rattle.sm_theory.proofs.Bridge.Chain.{nothing_below, chain_of, needs_of, needs_back, closed_of, Decided-member, stable_equal}
use Rattle.sm_theory.proofs.Bridge.Sets.{set_is_of, set_stable}

-- of an exposed rotation, all proposers have their reviewer or better, or all the next or worse
pub dichotomy_law : Dichotomy
dichotomy_law l m n rotation h hm hn x = dichotomy (stable_of h hm) (stable_of h hn) (exposed_of h hm.matching x)

-- eliminating an exposed rotation leaves a stable matching
pub elimination_is_stable : EliminationIsStable
elimination_is_stable l m rotation h hm x = eliminated_stable h hm x

-- a stable matching at which nothing is exposed is the reviewers' best
pub nothing_exposed : NothingExposed
nothing_exposed l m h hm none = (record { stable = hm; worst = worst }, λ n hn r. opposed (stable_of h hn) (stable_of h hm) (worst n hn) r)
  where
    worst : (n : Places) → IsStable l n → (p : ℕ) → standing l.proposers n.proposers p ≤ standing l.proposers m.proposers p
    worst n hn p = nothing_below h hm none (stand_of l n) (stable_of h hn) p

-- a stable matching at which nothing is exposed with the sides exchanged is the proposers' best
pub nothing_exposed_back : NothingExposedBack
nothing_exposed_back l m h hm none = record {
  stable = hm;
  best = λ n hn p. opposed' (stable_of h hn) (stable_of h hm)
      (λ r. nothing_below (IsMarket-reversed h) (IsStable-reversed h hm) none (stand_of (reversed_lists l) (reversed n)) (stable_of (IsMarket-reversed h) (IsStable-reversed h hn)) r) p;
}

-- each side has no more than one best matching
pub best_is_unique : BestIsUnique
best_is_unique l m n h = (
  (λ x y. stable_equal h x.stable y.stable (λ p. omega (arith, x.best n y.stable p, y.best m x.stable p))),
  (λ x y. stable_equal h x.stable y.stable (λ p. omega (arith, x.worst n y.stable p, y.worst m x.stable p))),
)

-- a predecessor stands earlier in the chain
pub predecessor_is_earlier : PredecessorIsEarlier
predecessor_is_earlier l first rotations i j h chain a b need = needs_lower (way_of (chain_of h chain)) i j a b (needs_of h need)

-- the closed sets and the stable matchings correspond one to one
pub sets_are_matchings : SetsAreMatchings
sets_are_matchings l first rotations h chain = record {
  stable = λ set closed. set_stable h chain set closed;
  all = λ m hm. (set_of m hm, closed m hm, equal m hm);
  different = different;
}
  where
    set_of : (m : Places) → IsStable l m → List Bool
    set_of m hm = map (λ k. bool_of (Decided-reaches (chain_of h chain) (stable_of h hm) k)) (range_with_len 0 (length rotations))

    at : (m : Places) (hm : IsStable l m) (k : ℕ) → k < length rotations → is_member (set_of m hm) k ≡ bool_of (Decided-reaches (chain_of h chain) (stable_of h hm) k)
    at m hm k g = get_or-map-range_with_len (λ k. bool_of (Decided-reaches (chain_of h chain) (stable_of h hm) k)) 0 (length rotations) k k false g (omega arith)

    into : (m : Places) (hm : IsStable l m) (k : ℕ) → k < length rotations → Reaches (chain_of h chain) (stand_of l m) k → IsMember (set_of m hm) k
    into m hm k g r = at m hm k g ∙ of_holds (Decided-reaches (chain_of h chain) (stable_of h hm) k) r

    out : (m : Places) (hm : IsStable l m) (k : ℕ) → k < length rotations → IsMember (set_of m hm) k → Reaches (chain_of h chain) (stand_of l m) k
    out m hm k g e = holds_of (Decided-reaches (chain_of h chain) (stable_of h hm) k) (sym (at m hm k g) ∙ e)

    closed : (m : Places) (hm : IsStable l m) → IsClosed l rotations (set_of m hm)
    closed m hm = record {
      one_each = length-map-range_with_len _ 0 (length rotations);
      closed = λ i j a b member need. into m hm i a (reaches_closed (chain_of h chain) (stable_of h hm) i j a b (out m hm j b member) (needs_of h need));
    }

    equal : (m : Places) (hm : IsStable l m) → matching_of l first rotations (set_of m hm) ≡ m
    equal m hm = stable_equal h (set_stable h chain (set_of m hm) (closed m hm)) hm (λ p. omega (
      arith,
      of_more (chain_of h chain) (set_is_of h chain (set_of m hm)) (reaches_of (chain_of h chain) (stable_of h hm)) (out m hm) p,
      of_more (chain_of h chain) (reaches_of (chain_of h chain) (stable_of h hm)) (set_is_of h chain (set_of m hm)) (into m hm) p,
    ))

    more : (set other : List Bool) → IsClosed l rotations other → matching_of l first rotations set ≡ matching_of l first rotations other → (k : ℕ) → k < length rotations → IsMember set k → IsMember other k
    more set other c e k g member = elim (Decided-member other k) [
      | inl w ↦ w
      | inr w ↦
          let some = (chain.exposed k g).not_empty in
          let p : ℕ = proposer_at (rotation_at rotations k) 0 in
          absurd (omega (
            arith,
            differ (chain_of h chain) (closed_of h c) (set_is_of h chain set) (set_is_of h chain other) k g member w p (moves_at (cycle_of (rotation_at rotations k)) 0 some),
            ap (λ m. standing l.proposers m.proposers p) e,
          ))
    ]

    different : (set other : List Bool) → IsClosed l rotations set → IsClosed l rotations other → matching_of l first rotations set ≡ matching_of l first rotations other → set ≡ other
    different set other c d e = ext_get_or false set other (c.one_each ∙ sym d.one_each) (λ k g.
        same_bool (is_member set k) (is_member other k) (more set other d e k (omega (arith, c.one_each))) (more other set c (sym e) k (omega (arith, c.one_each))))

-- at the matching of a closed set, what is exposed is what is ready
pub exposed_where_ready : ExposedWhereReady
exposed_where_ready l first rotations set k h chain closed g = (
  (λ x.
      let y = exposed_of h (set_stable h chain set closed).matching x in
      record {
        outside = exposed_out (chain_of h chain) (closed_of h closed) (λ i _. Decided-member set i) (stable_of h (set_stable h chain set closed)) (set_is_of h chain set) k g y;
        prepared = λ i a need. exposed_ready (chain_of h chain) (closed_of h closed) (λ i _. Decided-member set i) (stable_of h (set_stable h chain set closed)) (set_is_of h chain set) k g y i a (needs_of h need);
      }),
  (λ w. exposed_back h (rotation_at rotations k)
      (exposed_there (chain_of h chain) (closed_of h closed) (stable_of h (set_stable h chain set closed)) (set_is_of h chain set) k g w.outside
      (λ i a need. w.prepared i a (needs_back h (rotation_at rotations i) (rotation_at rotations k) need)))),
)

pair_equal : (x y : ℕ × ℕ) → x.0 ≡ y.0 → x.1 ≡ y.1 → x ≡ y
pair_equal x y p q = λ i. (p i, q i)

-- each rotation that is exposed at a stable matching is one of the chain
pub all_in_the_chain : AllInTheChain
all_in_the_chain l first rotations m rotation h chain hm x =
    let w : InChain (chain_of h chain) (stand_of l m) (cycle_of rotation) = all_in_chain (chain_of h chain) (stable_of h hm) (exposed_of h hm.matching x) in (
      w.at,
      w.below,
      record {
        there = λ i a. let v = w.there i a in (v.at, v.below, pair_equal _ _ v.who_is v.has_is);
        back = λ i a. let v = w.back i a in (v.at, v.below, pair_equal _ _ v.who_is v.has_is);
      },
    )

-- a complete chain is printed where each rotation begins with the lowest-numbered proposer
pub printed_of : {l : Lists} {first : Places} {rotations : List (List (ℕ × ℕ))} → IsCompleteChain l first rotations
    → ((k : ℕ) → k < length rotations → (other : List (ℕ × ℕ)) → IsExposed l (stage l first rotations k) other → (i : ℕ) → i < length other → proposer_at (rotation_at rotations k) 0 ≤ proposer_at other i)
    → IsPrintedChain l first rotations
printed_of chain lowest = record { chain = chain; lowest = λ k h. record { exposed = chain.exposed k h; lowest = lowest k h } }
