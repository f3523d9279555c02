-- Complete chains and the matchings of sets, between the definitions over lists and the functions of Core.
pub use Rattle.sm_market.proofs.Bridge.{places_equal, stable_equal}
use Rattle.std.proofs.Common.{◌≡◌, ℕ, zero, suc, ◌<◌, ◌≤◌, inl, inr, arith, refl, sym, ap, ◌∙◌, List, [], ◌∷◌, ◌++◌, length, map, Bool, true, false, slice_index_or}
use Rattle.std.specs.List.{range_with_len}
use Rattle.std.proofs.lemmas.List.{length_push, get_or_append_left, get_or_push}
use Rattle.std.proofs.lemmas.List.FromFn.{get_or-map-range_with_len, length-map-range_with_len}
use Rattle.sm_market.specs.Lists.{Lists, IsMarket}
use Rattle.sm_market.specs.Matching.{Places, standing, IsMatching}
use Rattle.sm_market.specs.Stable.{IsStable}
use Rattle.sm_lists.proofs.Counting.{Decided, lt_or_le, eq_or_ne}
use Rattle.sm_market.proofs.Core.{Sides, Stand, Stable}
use Rattle.sm_market.proofs.Bridge.{sides_of, stand_of, fit_of, stable_of}
use Rattle.sm_theory.specs.Rotations.{proposer_at, reviewer_at, IsExposed, eliminated}
use Rattle.sm_theory.specs.Chains.{rotation_at, stage, AreEliminable, IsCompleteChain, IsNeededBy}
use Rattle.sm_theory.specs.ClosedSets.{is_member, IsMember, IsClosed}
use Rattle.sm_theory.proofs.Core.Cycle.{Cycle, turn, turn_in, target, Exposed}
use Rattle.sm_theory.proofs.Core.Dichotomy.{some_exposed, Found}
use Rattle.sm_theory.proofs.Core.Chain.{Chain, Way, Needs, Closed}
use Rattle.sm_theory.proofs.Bridge.Places.{Tabled, tabled}
use Rattle.sm_theory.proofs.Bridge.Rotation.{cycle_of, exposed_of, exposed_back, elim_of, eliminated_matching, eliminated_stable}

-- a cycle written as a list
abbrev pub listed : Cycle → List (ℕ × ℕ)
listed c = map (λ i. (c.who i, c.has i)) (range_with_len 0 c.size)

-- pair i of the list is pair i of the cycle
pub at_listed : (c : Cycle) (i : ℕ) → i < c.size → slice_index_or (listed c) i (0, 0) ≡ (c.who i, c.has i)
at_listed c i h = get_or-map-range_with_len (λ i. (c.who i, c.has i)) 0 c.size i i (0, 0) h (omega arith)

-- an exposed cycle stays exposed once it is written as a list
pub exposed_listed : {s : Sides} {m : Stand} {c : Cycle} → Exposed s m c → Exposed s m (cycle_of (listed c))
exposed_listed {s} {m} {c} x = record {
  some = omega (arith, size, x.some);
  distinct = λ i j a b e. x.distinct i j (inside i a) (inside j b) (sym (who i (inside i a)) ∙ e ∙ who j (inside j b));
  paired = λ i a. rw (who i (inside i a), has i (inside i a)) (x.paired i (inside i a));
  next = λ i a. rw (who i (inside i a), target_is i (inside i a)) (x.next i (inside i a));
}
  where
    size : length (listed c) ≡ c.size
    size = length-map-range_with_len (λ i. (c.who i, c.has i)) 0 c.size

    inside : (i : ℕ) → i < length (listed c) → i < c.size
    inside i a = omega (arith, size)

    who : (i : ℕ) → i < c.size → proposer_at (listed c) i ≡ c.who i
    who i a = ap (λ pair. pair.0) (at_listed c i a)

    has : (i : ℕ) → i < c.size → reviewer_at (listed c) i ≡ c.has i
    has i a = ap (λ pair. pair.1) (at_listed c i a)

    target_is : (i : ℕ) → i < c.size → target (cycle_of (listed c)) i ≡ target c i
    target_is i a = ap (λ n. reviewer_at (listed c) (turn n i)) size ∙ has (turn c.size i) (turn_in c.size i a)

-- nothing exposed: no stable matching is worse for any proposer
pub nothing_below : {l : Lists} (h : IsMarket l) {m : Places} → IsStable l m → ((other : List (ℕ × ℕ)) → ¬ IsExposed l m other) → (n : Stand) → Stable (sides_of l h) n → (p : ℕ) → n.a p ≤ standing l.proposers m.proposers p
nothing_below {l} h {m} s none n hn p = elim (lt_or_le (standing l.proposers m.proposers p) (n.a p)) [
  | inr k ↦ k
  | inl k ↦ let w : Found (sides_of l h) (stand_of l m) = some_exposed (stable_of h s) hn p k in absurd (none (listed w.cycle) (exposed_back h (listed w.cycle) (exposed_listed w.exposed)))
]

module _ {l : Lists} (h : IsMarket l) {first : Places} {rotations : List (List (ℕ × ℕ))} (chain : IsCompleteChain l first rotations) where
  -- each stage of a complete chain is a stable matching
  pub stage_stable : (k : ℕ) → k ≤ length rotations → IsStable l (stage l first rotations k)
  stage_stable zero g = chain.from_best.stable
  stage_stable (suc k) g = eliminated_stable h (stage_stable k (omega arith)) (chain.exposed k (omega arith))

  -- a complete chain over lists is one as functions
  pub chain_of : Chain (sides_of l h) (length rotations) (λ k. stand_of l (stage l first rotations k)) (λ k. cycle_of (rotation_at rotations k))
  chain_of = record {
    stable = λ k g. stable_of h (stage_stable k g);
    exposed = λ k g. exposed_of h (stage_stable k (omega arith)).matching (chain.exposed k g);
    onward = λ k g. elim_of h (stage_stable k (omega arith)).matching (chain.exposed k g);
    best = λ n s p. let w : Tabled l n = tabled h s in omega (arith, w.alike p, chain.from_best.best w.places w.stable p);
    worst = nothing_below h (stage_stable (length rotations) (omega arith)) chain.complete;
  }

-- the rotations of a complete chain can be eliminated in turn
pub eliminable_of : {l : Lists} {first : Places} {rotations : List (List (ℕ × ℕ))} → IsCompleteChain l first rotations → AreEliminable l first rotations
eliminable_of chain = record { exposed = chain.exposed }

-- one more rotation behind others
pub rotation_at-push_before : (xs : List (List (ℕ × ℕ))) (x : List (ℕ × ℕ)) (k : ℕ) → k < length xs → rotation_at (xs ++ x ∷ []) k ≡ rotation_at xs k
rotation_at-push_before xs x k less = get_or_append_left xs (x ∷ []) [] k less

-- the rotation that is added is the last
pub rotation_at-push_new : (xs : List (List (ℕ × ℕ))) (x : List (ℕ × ℕ)) (k : ℕ) → k ≡ length xs → rotation_at (xs ++ x ∷ []) k ≡ x
rotation_at-push_new xs x k e = get_or_push xs x [] k (sym e)

-- the stages up to there stay as they are
pub stage_before : (l : Lists) (first : Places) (xs : List (List (ℕ × ℕ))) (x : List (ℕ × ℕ)) (k : ℕ) → k ≤ length xs → stage l first (xs ++ x ∷ []) k ≡ stage l first xs k
stage_before l first xs x zero le = refl
stage_before l first xs x (suc k) le = ap (λ m. eliminated l m (rotation_at (xs ++ x ∷ []) k)) (stage_before l first xs x k (omega arith)) ∙ ap (eliminated l (stage l first xs k)) (rotation_at-push_before xs x k (omega arith))

-- one that is exposed where the rotations lead can be eliminated behind them
pub eliminable_more : {l : Lists} {first m : Places} {rotations : List (List (ℕ × ℕ))} (rotation : List (ℕ × ℕ)) → AreEliminable l first rotations → m ≡ stage l first rotations (length rotations) → IsExposed l m rotation
    → AreEliminable l first (rotations ++ rotation ∷ [])
eliminable_more {l} {first} {m} {rotations} rotation chain is x = record {
  exposed = λ k less. elim (eq_or_ne k (length rotations)) [
    | inl e ↦ rw (there k e, rotation_at-push_new rotations rotation k e) x
    | inr ne ↦ rw (stage_before l first rotations rotation k (omega (arith, length_push rotations rotation)), rotation_at-push_before rotations rotation k (omega (arith, length_push rotations rotation))) (chain.exposed k (omega (arith, length_push rotations rotation)))
  ];
}
  where
    there : (k : ℕ) → k ≡ length rotations → stage l first (rotations ++ rotation ∷ []) k ≡ m
    there k e = stage_before l first rotations rotation k (omega arith) ∙ ap (stage l first rotations) e ∙ sym is

-- rotations that can be eliminated lead from matching to matching
module _ {l : Lists} (h : IsMarket l) {first : Places} (f : IsMatching l first) {rotations : List (List (ℕ × ℕ))} (chain : AreEliminable l first rotations) where
  -- each stage is a matching
  pub stage_matching : (k : ℕ) → k ≤ length rotations → IsMatching l (stage l first rotations k)
  stage_matching zero g = f
  stage_matching (suc k) g = eliminated_matching h (stage_matching k (omega arith)) (chain.exposed k (omega arith))

  -- such rotations over lists are a way as functions
  pub way_along : Way (sides_of l h) (length rotations) (λ k. stand_of l (stage l first rotations k)) (λ k. cycle_of (rotation_at rotations k))
  way_along = record {
    fit = λ k g. fit_of h (stage_matching k g);
    exposed = λ k g. exposed_of h (stage_matching k (omega arith)) (chain.exposed k g);
    onward = λ k g. elim_of h (stage_matching k (omega arith)) (chain.exposed k g);
  }

-- predecessors
pub needs_of : {l : Lists} (h : IsMarket l) {early late : List (ℕ × ℕ)} → IsNeededBy l early late → Needs (sides_of l h) (cycle_of early) (cycle_of late)
needs_of h (inl w) = inl (record { at = w.pair; below = w.pair_in; at' = w.other; below' = w.other_in; who_is = w.same_proposer; has_is = w.same_reviewer })
needs_of h (inr w) = inr (record { at = w.pair; below = w.pair_in; at' = w.other; below' = w.other_in; behind = w.behind; before = w.before; gains = w.gains; loses = w.loses })

-- who is a predecessor as functions is one over lists
pub needs_back : {l : Lists} (h : IsMarket l) (early late : List (ℕ × ℕ)) → Needs (sides_of l h) (cycle_of early) (cycle_of late) → IsNeededBy l early late
needs_back h early late (inl w) = inl (record { pair = w.at; pair_in = w.below; other = w.at'; other_in = w.below'; same_proposer = w.who_is; same_reviewer = w.has_is })
needs_back h early late (inr w) = inr (record { pair = w.at; pair_in = w.below; other = w.at'; other_in = w.below'; behind = w.behind; before = w.before; gains = w.gains; loses = w.loses })

-- a closed set over lists is one as functions
pub closed_of : {l : Lists} (h : IsMarket l) {rotations : List (List (ℕ × ℕ))} {set : List Bool} → IsClosed l rotations set → Closed (sides_of l h) (length rotations) (λ k. cycle_of (rotation_at rotations k)) (IsMember set)
closed_of h {rotations} x i j a b member need = x.closed i j a b member (needs_back h (rotation_at rotations i) (rotation_at rotations j) need)

-- whether a rotation is in a set is decided
pub Decided-member : (set : List Bool) (k : ℕ) → Decided (IsMember set k)
Decided-member set k = go (is_member set k)
  where
    go : (b : Bool) → Decided (b ≡ true)
    go true = inl refl
    go false = inr (λ e. grind arith)
