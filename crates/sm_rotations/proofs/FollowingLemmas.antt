-- Following successors from one proposer to the next.
use Rattle.std.proofs.Common.{◌≡◌, ◌≢◌, ℕ, zero, suc, ◌+◌, ◌<◌, ◌≤◌, ◌⊎◌, inl, inr, arith, refl, sym, ap, ◌∙◌, List, [], ◌∷◌, ◌++◌, length, slice_index_or, Option, None, Some}
use Rattle.std.specs.Option.{option_map}
use Rattle.std.proofs.lemmas.List.{get_or_append_left, get_or_push, length_push}
use Rattle.std.proofs.lemmas.Option.{same_Some}
use Rattle.sm_market.specs.Lists.{Lists, entry, place_of, IsMarket}
use Rattle.sm_market.specs.Matching.{Places, held, IsMatching}
use Rattle.sm_market.specs.Pairing.{Paired, IsPairingOf}
use Rattle.sm_lists.proofs.Counting.{lt_or_le, eq_or_ne, Twice, pigeonhole}
use Rattle.sm_market.proofs.Core.{Pair, one_proposer, one_reviewer}
use Rattle.sm_market.proofs.PlaceLemmas.{place_of-entry}
use Rattle.sm_market.proofs.Bridge.{sides_of, stand_of}
use Rattle.sm_market.proofs.PairingLemmas.{held_in_range}
use Rattle.sm_theory.specs.Rotations.{IsSuccessor, IsLink, IsExposed, proposer_at, reviewer_at, target_at, next_in, IsNothingExposed, IsLowestExposed}
use Rattle.sm_theory.proofs.Core.Cycle.{Succ, succ_unique, turn, turn_in, turn_last, turn_more}
use Rattle.sm_theory.proofs.Bridge.Rotation.{exposed_of}
-- pairs and successors at their reviewers, passed on
pub use Rattle.sm_theory.proofs.Bridge.Rotation.{pair_of_held, succ_at}
use Rattle.sm_theory.proofs.Chains.Links.{exposed_of_links, successor_named}
use Rattle.sm_rotations.specs.Following.{IsStep, IsSuccessorWalk, IsRotationFrom, IsInNone}

module _ {l : Lists} (h : IsMarket l) {m : Places} (f : IsMatching l m) where
  -- a step along a rotation
  step_along : {other : List (ℕ × ℕ)} → IsExposed l m other → (j p r q : ℕ) → j < length other → proposer_at other j ≡ p → IsStep l m p r q → proposer_at other (next_in other j) ≡ q
  step_along {other} x j p r q inside is s =
      let y = exposed_of h f x in
      let one : Succ (sides_of l h) (stand_of l m) p (target_at other j) = rw is at (y.next j inside) in
      let same : target_at other j ≡ s.target = succ_unique one (succ_at h f p s.target s.next) in
      let here : Pair (sides_of l h) (stand_of l m) (proposer_at other (next_in other j)) s.target = rw same at (y.paired (turn (length other) j) (turn_in (length other) j inside)) in
      one_proposer here (pair_of_held h f q s.target s.has)

  -- the number j stands k numbers behind i round a cycle of n
  record Spot (n i k j : ℕ) : Type 0 where
    pub below : j < n
    pub is : (j ≡ i + k) ⊎ (j + n ≡ i + k)

  spot_next : {n i k j : ℕ} → k < n → i < n → Spot n i k j → Spot n i (k + 1) (turn n j)
  spot_next {n} {i} {k} {j} less inside w = elim (eq_or_ne (j + 1) n) [
    | inl e ↦ record { below = turn_in n j w.below; is = elim w.is [ inl x ↦ inr (omega (arith, turn_last n j e)) | inr x ↦ absurd (omega (arith, w.below)) ] }
    | inr e ↦ record { below = turn_in n j w.below; is = elim w.is [ inl x ↦ inl (omega (arith, turn_more n j e)) | inr x ↦ inr (omega (arith, turn_more n j e)) ] }
  ]

  spot_back : {n i j : ℕ} → i < n → Spot n i n j → j ≡ i
  spot_back inside w = elim w.is [ inl x ↦ absurd (omega (arith, w.below)) | inr x ↦ omega arith ]

  record Along (other : List (ℕ × ℕ)) (i k p : ℕ) : Type 0 where
    pub at : ℕ
    pub spot : Spot (length other) i k at
    pub is : proposer_at other at ≡ p

  -- where p is in an exposed rotation, the walk from p goes round it
  module _ {p : ℕ} {pairs : List (ℕ × ℕ)} {q : ℕ} (w : IsSuccessorWalk l m p pairs q) {other : List (ℕ × ℕ)} (x : IsExposed l m other) (i : ℕ) (inside : i < length other) (has : proposer_at other i ≡ p) where
    along : (k : ℕ) → k < length pairs → k ≤ length other → Along other i k (proposer_at pairs k)
    along zero less le = record { at = i; spot = record { below = inside; is = inl (omega arith) }; is = has ∙ sym (w.first less) }
    along (suc k) less le =
        let v = along k (omega arith) (omega arith) in
        let e : k + 1 ≡ suc k = omega arith in
        let s : IsStep l m (proposer_at pairs k) (reviewer_at pairs k) (proposer_at pairs (suc k)) = rw e at (w.steps k (omega arith)) in
        record { at = turn (length other) v.at; spot = rw e at (spot_next (omega arith) inside v.spot); is = step_along x v.at (proposer_at pairs k) (reviewer_at pairs k) (proposer_at pairs (suc k)) v.spot.below v.is s }

    along_last : (k : ℕ) → k ≡ length pairs → k ≤ length other → Along other i k q
    along_last zero e le = record { at = i; spot = record { below = inside; is = inl (omega arith) }; is = has ∙ sym (w.empty (sym e)) }
    along_last (suc k) e le =
        let v = along k (omega arith) (omega arith) in
        let one : k + 1 ≡ suc k = omega arith in
        record { at = turn (length other) v.at; spot = rw one at (spot_next (omega arith) inside v.spot); is = step_along x v.at (proposer_at pairs k) (reviewer_at pairs k) q v.spot.below v.is (w.last k (omega arith)) }

    -- the walk is no longer than the rotation
    pub not_past : length pairs < length other
    not_past = elim (lt_or_le (length pairs) (length other)) [
      | inl less ↦ less
      | inr more ↦ elim (eq_or_ne (length pairs) (length other)) [
        | inl e ↦
            let v = along_last (length other) (sym e) (omega arith) in
            absurd (w.still_away (omega arith) (sym v.is ∙ ap (proposer_at other) (spot_back inside v.spot) ∙ has))
        | inr e ↦
            let v = along (length other) (omega arith) (omega arith) in
            absurd (w.away (length other) (omega arith) (omega arith) (sym v.is ∙ ap (proposer_at other) (spot_back inside v.spot) ∙ has))
      ]
    ]

    -- q has a successor
    pub goes_on : ((i : ℕ) → ¬ IsSuccessor l m q i) → ⊥
    goes_on none =
        let v = along_last (length pairs) refl (omega (arith, not_past)) in
        let next = rw v.is at (x.next v.at v.spot.below) in
        none (place_of l.proposers q (target_at other v.at)) next

  -- a rotation has no more pairs than there are proposers
  pub not_longer : {other : List (ℕ × ℕ)} → IsExposed l m other → length other ≤ length l.proposers
  not_longer {other} x = elim (lt_or_le (length l.proposers) (length other)) [
    | inr k ↦ k
    | inl k ↦
        let w : Twice (proposer_at other) (length l.proposers) = pigeonhole (length l.proposers) (proposer_at other) (λ i less. held_in_range f.proposers (proposer_at other i) (place_of l.proposers (proposer_at other i) (reviewer_at other i)) (x.paired i (omega arith))) in
        absurd (x.distinct w.one w.two w.order (omega (arith, w.within)) w.same)
  ]

  -- the walk ends where there is no successor, or once it has gone on for as long as a rotation can
  pub in_none_at : {p : ℕ} {pairs : List (ℕ × ℕ)} {q : ℕ} → IsSuccessorWalk l m p pairs q → ((i : ℕ) → ¬ IsSuccessor l m q i) → IsInNone l m p
  in_none_at w none = record { absent = λ other x i inside has. goes_on w x i inside has none }

  -- no exposed rotation has a proposer whose walk is as long as there are proposers
  pub in_none_after : {p : ℕ} {pairs : List (ℕ × ℕ)} {q : ℕ} → IsSuccessorWalk l m p pairs q → length l.proposers ≤ length pairs → IsInNone l m p
  in_none_after w long = record { absent = λ other x i inside has. omega (arith, not_past w x i inside has, not_longer x) }

  -- the walk goes on, or comes back
  link_of_steps : {p r q r' q' : ℕ} → IsStep l m p r q → IsStep l m q r' q' → IsLink l m p r r'
  link_of_steps {p} {r} {q} {r'} s t =
      let same : s.target ≡ r' = one_reviewer (pair_of_held h f q s.target s.has) (pair_of_held h f q r' t.paired) in
      record { paired = s.paired; next = rw same at s.next }

  module _ {p : ℕ} {pairs : List (ℕ × ℕ)} {q : ℕ} (w : IsSuccessorWalk l m p pairs q) (r next : ℕ) (s : IsStep l m q r next) where
    old_at : (k : ℕ) → k < length pairs → slice_index_or (pairs ++ (q, r) ∷ []) k (0, 0) ≡ slice_index_or pairs k (0, 0)
    old_at k less = get_or_append_left pairs ((q, r) ∷ []) (0, 0) k less

    new_at : (k : ℕ) → k ≡ length pairs → slice_index_or (pairs ++ (q, r) ∷ []) k (0, 0) ≡ (q, r)
    new_at k e = get_or_push pairs (q, r) (0, 0) k (sym e)

    long : length (pairs ++ (q, r) ∷ []) ≡ length pairs + 1
    long = length_push pairs (q, r)

    old_who : (k : ℕ) → k < length pairs → proposer_at (pairs ++ (q, r) ∷ []) k ≡ proposer_at pairs k
    old_who k less = ap (λ pair. pair.0) (old_at k less)

    old_has : (k : ℕ) → k < length pairs → reviewer_at (pairs ++ (q, r) ∷ []) k ≡ reviewer_at pairs k
    old_has k less = ap (λ pair. pair.1) (old_at k less)

    new_who : (k : ℕ) → k ≡ length pairs → proposer_at (pairs ++ (q, r) ∷ []) k ≡ q
    new_who k e = ap (λ pair. pair.0) (new_at k e)

    new_has : (k : ℕ) → k ≡ length pairs → reviewer_at (pairs ++ (q, r) ∷ []) k ≡ r
    new_has k e = ap (λ pair. pair.1) (new_at k e)

    first_is : proposer_at (pairs ++ (q, r) ∷ []) 0 ≡ p
    first_is = elim (eq_or_ne 0 (length pairs)) [ inl e ↦ new_who 0 e ∙ w.empty (sym e) | inr e ↦ old_who 0 (omega arith) ∙ w.first (omega arith) ]

    steps_on : (k : ℕ) → k + 1 < length pairs + 1 → IsStep l m (proposer_at (pairs ++ (q, r) ∷ []) k) (reviewer_at (pairs ++ (q, r) ∷ []) k) (proposer_at (pairs ++ (q, r) ∷ []) (k + 1))
    steps_on k less = elim (eq_or_ne (k + 1) (length pairs)) [
      | inl e ↦ rw (old_who k (omega arith), old_has k (omega arith), new_who (k + 1) e) (w.last k e)
      | inr e ↦ rw (old_who k (omega arith), old_has k (omega arith), old_who (k + 1) (omega arith)) (w.steps k (omega arith))
    ]

    last_on : (k : ℕ) → k ≡ length pairs → IsStep l m (proposer_at (pairs ++ (q, r) ∷ []) k) (reviewer_at (pairs ++ (q, r) ∷ []) k) next
    last_on k e = rw (new_who k e, new_has k e) s

    away_on : (k : ℕ) → 0 < k → k < length pairs + 1 → proposer_at (pairs ++ (q, r) ∷ []) k ≢ p
    away_on k pos less e = elim (eq_or_ne k (length pairs)) [
      | inl x ↦ w.still_away (omega arith) (sym (new_who k x) ∙ e)
      | inr x ↦ w.away k pos (omega arith) (sym (old_who k (omega arith)) ∙ e)
    ]

    -- a step to another proposer than the first goes on
    pub walk_on : next ≢ p → IsSuccessorWalk l m p (pairs ++ (q, r) ∷ []) next
    walk_on ne = record {
      empty = λ e. absurd (omega (arith, long));
      first = λ _. first_is;
      steps = λ k less. steps_on k (omega (arith, long));
      last = λ k e. last_on k (omega (arith, long));
      away = λ k pos less. away_on k pos (omega (arith, long));
      still_away = λ _. ne;
    }

    -- a step back to the first closes an exposed rotation
    pub walk_back : next ≡ p → IsRotationFrom l m p (pairs ++ (q, r) ∷ [])
    walk_back back = record { exposed = exposed_of_links l m (pairs ++ (q, r) ∷ []) h f (omega (arith, long)) links (λ k pos less e. away_on k pos (omega (arith, long)) (e ∙ first_is)); begins = first_is }
      where
        step_at : (k : ℕ) → k < length pairs + 1 → IsStep l m (proposer_at (pairs ++ (q, r) ∷ []) k) (reviewer_at (pairs ++ (q, r) ∷ []) k) (proposer_at (pairs ++ (q, r) ∷ []) (next_in (pairs ++ (q, r) ∷ []) k))
        step_at k less = elim (eq_or_ne (k + 1) (length (pairs ++ (q, r) ∷ []))) [
          | inl e ↦ rw (turn_last (length (pairs ++ (q, r) ∷ [])) k e, first_is) (rw back at (last_on k (omega (arith, long))))
          | inr e ↦ rw (turn_more (length (pairs ++ (q, r) ∷ [])) k e) (steps_on k (omega (arith, long)))
        ]

        links : (k : ℕ) → k < length (pairs ++ (q, r) ∷ []) → IsLink l m (proposer_at (pairs ++ (q, r) ∷ []) k) (reviewer_at (pairs ++ (q, r) ∷ []) k) (target_at (pairs ++ (q, r) ∷ []) k)
        links k less = link_of_steps (step_at k (omega (arith, long))) (step_at (next_in (pairs ++ (q, r) ∷ []) k) (omega (arith, long, turn_in (length (pairs ++ (q, r) ∷ [])) k less)))

-- a step as it is read
pub step_read : {l : Lists} {m : Paired} (p place i q : ℕ) → IsMarket l → IsPairingOf l m → held m.places.proposers p ≡ Some place → IsSuccessor l m.places p i → held m.holders (entry l.proposers p i) ≡ Some q
    → IsStep l m.places p (entry l.proposers p place) q
step_read {l} {m} p place i q h made e x holder = record {
  paired = e ∙ ap Some (sym (place_of-entry h.proposers p place (made.matching.proposers.on_list p place e)));
  target = entry l.proposers p i;
  next = successor_named l m.places p i (entry l.proposers p i) h x refl;
  has = turn_back (held m.places.reviewers (entry l.proposers p i)) refl;
}
  where
    turn_back : (o : Option ℕ) → held m.places.reviewers (entry l.proposers p i) ≡ o → held m.places.proposers q ≡ Some (place_of l.proposers q (entry l.proposers p i))
    turn_back None none = let named = made.names (entry l.proposers p i) in absurd (no (sym holder ∙ named ∙ ap (option_map (entry l.reviewers (entry l.proposers p i))) none))
      where
        no : ◌≡◌ {A = Option ℕ} (Some q) None → ⊥
        no e = grind arith
    turn_back (Some k) some =
        let named = made.names (entry l.proposers p i) in
        let same : q ≡ entry l.reviewers (entry l.proposers p i) k = same_Some _ _ (sym holder ∙ named ∙ ap (option_map (entry l.reviewers (entry l.proposers p i))) some) in
        rw same (made.matching.reviewers.in_turn (entry l.proposers p i) k some)

-- where no lower proposer is in any, the exposed rotation from p is the lowest
pub lowest_of : {l : Lists} {m : Places} {p : ℕ} {pairs : List (ℕ × ℕ)} → ((q : ℕ) → q < p → IsInNone l m q) → IsRotationFrom l m p pairs → IsLowestExposed l m pairs
lowest_of {l} {m} {p} {pairs} before w = record {
  exposed = w.exposed;
  lowest = λ other x i inside. elim (lt_or_le (proposer_at other i) p) [
    | inr more ↦ omega (arith, w.begins)
    | inl less ↦ absurd ((before (proposer_at other i) less).absent other x i inside refl)
  ];
}

-- where no proposer is in any exposed rotation, nothing is exposed
pub nothing_of : {l : Lists} {m : Places} → IsMatching l m → ((q : ℕ) → q < length l.proposers → IsInNone l m q) → IsNothingExposed l m
nothing_of {l} {m} f all = record {
  none = λ other x.
      let p : ℕ = proposer_at other 0 in
      let inside = held_in_range f.proposers p (place_of l.proposers p (reviewer_at other 0)) (x.paired 0 x.not_empty) in
      (all p inside).absent other x 0 x.not_empty refl;
}
