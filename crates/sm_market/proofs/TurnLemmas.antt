-- Moving the proposers of a cycle, one after another.
use Rattle.std.proofs.Common.{◌≡◌, ◌≢◌, ℕ, ◌+◌, ◌<◌, inl, inr, arith, refl, sym, ap, subst, ◌∙◌, List, Option, Some, None, length, set}
use Rattle.std.specs.Option.{option_map}
use Rattle.std.proofs.lemmas.List.{get_or-set_same, get_or-set_other, length-set, ext_get_or}
use Rattle.std.proofs.lemmas.List.FromFn.{get_or-map-range_with_len, length-map-range_with_len}
use Rattle.sm_market.specs.Lists.{Lists, row, entry, place_of, IsMarket}
use Rattle.sm_market.specs.Matching.{held}
use Rattle.sm_market.specs.Pairing.{Paired, paired, IsPairingOf}
use Rattle.sm_market.specs.Cycles.{proposer_at, reviewer_at, target_at, next_in, place_after, places_after, CanTurn}
use Rattle.sm_lists.proofs.Counting.{lt_or_le}
use Rattle.sm_lists.proofs.PlaceLemmas.{entry-place_of}
use Rattle.sm_market.proofs.SeatLemmas.{same_place}
use Rattle.sm_market.proofs.PairingLemmas.{held_in_range, one_partner}
use Rattle.sm_market.proofs.CycleLemmas.{turn_in, turn_once, follows, among, AreDistinct, one_pair, after_in, after_out}

-- the proposers of the first i pairs have moved, and their new reviewers have them; all others hold what they held in m
pub record HasTurned (l : Lists) (m : Paired) (cycle : List (ℕ × ℕ)) (i : ℕ) (places reviewers holders : List (Option ℕ)) : Type 0 where
  pub places_each : length places ≡ length l.proposers
  pub reviewers_each : length reviewers ≡ length l.reviewers
  pub holders_each : length holders ≡ length l.reviewers
  pub moved : (j : ℕ) → j < i → held places (proposer_at cycle j) ≡ Some (place_of l.proposers (proposer_at cycle j) (target_at cycle j))
  pub still : (p : ℕ) → ((j : ℕ) → j < i → proposer_at cycle j ≡ p → ⊥) → held places p ≡ held m.places.proposers p
  pub seated : (j : ℕ) → j < i → held reviewers (target_at cycle j) ≡ Some (place_of l.reviewers (target_at cycle j) (proposer_at cycle j))
  pub has : (j : ℕ) → j < i → held holders (target_at cycle j) ≡ Some (proposer_at cycle j)
  pub unseated : (r : ℕ) → ((j : ℕ) → j < i → target_at cycle j ≡ r → ⊥) → held reviewers r ≡ held m.places.reviewers r
  pub kept : (r : ℕ) → ((j : ℕ) → j < i → target_at cycle j ≡ r → ⊥) → held holders r ≡ held m.holders r

-- nobody has moved yet
pub turn_start : {l : Lists} {m : Paired} (cycle : List (ℕ × ℕ)) → IsPairingOf l m → HasTurned l m cycle 0 m.places.proposers m.places.reviewers m.holders
turn_start cycle made = record {
  places_each = made.matching.proposers.one_each;
  reviewers_each = made.matching.reviewers.one_each;
  holders_each = made.one_each;
  moved = λ j k. absurd (omega arith);
  still = λ p _. refl;
  seated = λ j k. absurd (omega arith);
  has = λ j k. absurd (omega arith);
  unseated = λ r _. refl;
  kept = λ r _. refl;
}

module _ {l : Lists} {m : Paired} {cycle : List (ℕ × ℕ)} (market : IsMarket l) (made : IsPairingOf l m) (can : CanTurn l m.places cycle) where
  distinct : AreDistinct cycle
  distinct = record { distinct = can.distinct }

  -- the pair's reviewer is the one that its proposer has in m
  paired_entry : (i : ℕ) → i < length cycle → entry l.proposers (proposer_at cycle i) (place_of l.proposers (proposer_at cycle i) (reviewer_at cycle i)) ≡ reviewer_at cycle i
  paired_entry i a = entry-place_of l.proposers (proposer_at cycle i) (reviewer_at cycle i) (made.matching.proposers.on_list _ _ (can.paired i a))

  one_reviewer : (i j : ℕ) → i < length cycle → j < length cycle → reviewer_at cycle i ≡ reviewer_at cycle j → i ≡ j
  one_reviewer i j a b e = one_pair distinct i j a b
      (one_partner made.matching.proposers made.matching.reviewers (proposer_at cycle i) (proposer_at cycle j) _ _ (can.paired i a) (can.paired j b)
      (paired_entry i a ∙ e ∙ sym (paired_entry j b)))

  one_target : (i j : ℕ) → i < length cycle → j < length cycle → target_at cycle i ≡ target_at cycle j → i ≡ j
  one_target i j a b e = turn_once (length cycle) i j a b
      (one_reviewer (next_in cycle i) (next_in cycle j) (turn_in (length cycle) i a) (turn_in (length cycle) j b) e)

  -- the proposers of the cycle are those of the market
  pub in_range : (i : ℕ) → i < length cycle → proposer_at cycle i < length l.proposers
  in_range i a = held_in_range made.matching.proposers (proposer_at cycle i) _ (can.paired i a)

  target_entry : (i : ℕ) → i < length cycle → entry l.proposers (proposer_at cycle i) (place_of l.proposers (proposer_at cycle i) (target_at cycle i)) ≡ target_at cycle i
  target_entry i a = entry-place_of l.proposers (proposer_at cycle i) (target_at cycle i) (can.listed i a)

  -- the reviewers to which they move are those of the market
  pub target_in_range : (i : ℕ) → i < length cycle → target_at cycle i < length l.reviewers
  target_in_range i a = rw (target_entry i a) at (market.proposers.in_range (proposer_at cycle i) _ (can.listed i a))

  returned : (i : ℕ) → i < length cycle → place_of l.reviewers (target_at cycle i) (proposer_at cycle i) < length (row l.reviewers (target_at cycle i))
  returned i a = rw (target_entry i a) at (market.proposers.returned (proposer_at cycle i) _ (can.listed i a))

  -- the pair's proposer has not moved yet
  pub still_there : {i : ℕ} {places reviewers holders : List (Option ℕ)} → HasTurned l m cycle i places reviewers holders → i < length cycle
      → held places (proposer_at cycle i) ≡ Some (place_of l.proposers (proposer_at cycle i) (reviewer_at cycle i))
  still_there {i} t a = t.still (proposer_at cycle i) (λ j k e. can.distinct j i k a e) ∙ can.paired i a

  -- one more moves
  pub turn_step : {i : ℕ} {places reviewers holders : List (Option ℕ)} (p r place cross : ℕ) → HasTurned l m cycle i places reviewers holders → i < length cycle
      → p ≡ proposer_at cycle i → r ≡ target_at cycle i → place ≡ place_of l.proposers p r → cross ≡ place_of l.reviewers r p
      → HasTurned l m cycle (i + 1) (set places p (Some place)) (set reviewers r (Some cross)) (set holders r (Some p))
  turn_step {i} {places} {reviewers} {holders} p r place cross t a is_p is_r is_place is_cross = record {
    places_each = length-set places p (Some place) ∙ t.places_each;
    reviewers_each = length-set reviewers r (Some cross) ∙ t.reviewers_each;
    holders_each = length-set holders r (Some p) ∙ t.holders_each;
    moved = λ j k. elim (lt_or_le j i) [
      | inl lower ↦ other places p (proposer_at cycle j) (Some place) (λ e. can.distinct j i lower a (e ∙ is_p)) ∙ t.moved j lower
      | inr upper ↦ let last : j ≡ i = omega arith in rw (last, sym is_p, sym is_r, sym is_place) (same places p (Some place) there)
    ];
    still = λ q none. other places p q (Some place) (λ e. none i (omega arith) (sym is_p ∙ sym e)) ∙ t.still q (λ j k. none j (omega arith));
    seated = λ j k. elim (lt_or_le j i) [
      | inl lower ↦ other reviewers r (target_at cycle j) (Some cross) (apart j lower) ∙ t.seated j lower
      | inr upper ↦ let last : j ≡ i = omega arith in rw (last, sym is_p, sym is_r, sym is_cross) (same reviewers r (Some cross) (omega (arith, t.reviewers_each, inside)))
    ];
    has = λ j k. elim (lt_or_le j i) [
      | inl lower ↦ other holders r (target_at cycle j) (Some p) (apart j lower) ∙ t.has j lower
      | inr upper ↦ let last : j ≡ i = omega arith in rw (last, sym is_p, sym is_r) (same holders r (Some p) (omega (arith, t.holders_each, inside)))
    ];
    unseated = λ s none. other reviewers r s (Some cross) (λ e. none i (omega arith) (sym is_r ∙ sym e)) ∙ t.unseated s (λ j k. none j (omega arith));
    kept = λ s none. other holders r s (Some p) (λ e. none i (omega arith) (sym is_r ∙ sym e)) ∙ t.kept s (λ j k. none j (omega arith));
  }
    where
      there : p < length places
      there = omega (arith, t.places_each, in_range i a, is_p)

      inside : r < length l.reviewers
      inside = omega (arith, target_in_range i a, is_r)

      apart : (j : ℕ) → j < i → target_at cycle j ≢ r
      apart j lower e = let one : j ≡ i = one_target j i (omega arith) a (e ∙ is_r) in omega arith

      same : (xs : List (Option ℕ)) (k : ℕ) (x : Option ℕ) → k < length xs → held (set xs k x) k ≡ x
      same xs k x h = get_or-set_same xs k x None h

      other : (xs : List (Option ℕ)) (k j : ℕ) (x : Option ℕ) → j ≢ k → held (set xs k x) j ≡ held xs j
      other xs k j x h = get_or-set_other xs k j x None h

  module _ {places reviewers holders : List (Option ℕ)} (t : HasTurned l m cycle (length cycle) places reviewers holders) where
    -- all have moved
    pub turn_places : places ≡ places_after l m.places.proposers cycle
    turn_places = ext_get_or None places (places_after l m.places.proposers cycle) (t.places_each ∙ sym (length-map-range_with_len (place_after l m.places.proposers cycle) 0 (length l.proposers)))
        (λ p k. at p ∙ sym (get_or-map-range_with_len (place_after l m.places.proposers cycle) 0 (length l.proposers) p p None (omega (arith, t.places_each)) (omega arith)))
      where
        at : (p : ℕ) → held places p ≡ place_after l m.places.proposers cycle p
        at p = elim (among (proposer_at cycle) (length cycle) p) [
          | inl w ↦ subst (λ q. held places q ≡ place_after l m.places.proposers cycle q) w.holds (t.moved w.at w.below ∙ sym (after_in distinct l m.places.proposers w.at w.below))
          | inr none ↦ t.still p none ∙ sym (after_out l m.places.proposers cycle p none)
        ]

    -- whoever is not in the cycle has no reviewer of the cycle
    outside : (p i : ℕ) → ((j : ℕ) → j < length cycle → proposer_at cycle j ≡ p → ⊥) → held m.places.proposers p ≡ Some i → (j : ℕ) → j < length cycle → target_at cycle j ≡ entry l.proposers p i → ⊥
    outside p i none h j a e =
        let k : ℕ = next_in cycle j in
        let b : k < length cycle = turn_in (length cycle) j a in
        none k b (one_partner made.matching.proposers made.matching.reviewers (proposer_at cycle k) p _ i (can.paired k b) h (paired_entry k b ∙ e))

    -- and the other way round
    outside' : (r k : ℕ) → ((j : ℕ) → j < length cycle → target_at cycle j ≡ r → ⊥) → held m.places.reviewers r ≡ Some k → (j : ℕ) → j < length cycle → proposer_at cycle j ≡ entry l.reviewers r k → ⊥
    outside' r k none h j a e =
        let before = follows (length cycle) j a in
        let turn_back : held m.places.proposers (entry l.reviewers r k) ≡ Some (place_of l.proposers (entry l.reviewers r k) r) = made.matching.reviewers.in_turn r k h in
        let mine : held m.places.proposers (entry l.reviewers r k) ≡ Some (place_of l.proposers (entry l.reviewers r k) (reviewer_at cycle j)) = rw e at (can.paired j a) in
        let place : place_of l.proposers (entry l.reviewers r k) (reviewer_at cycle j) ≡ place_of l.proposers (entry l.reviewers r k) r = same_place mine turn_back in
        let is : reviewer_at cycle j ≡ r =
        sym (entry-place_of l.proposers (entry l.reviewers r k) (reviewer_at cycle j) (made.matching.proposers.on_list _ _ mine))
        ∙ ap (entry l.proposers (entry l.reviewers r k)) place
        ∙ entry-place_of l.proposers (entry l.reviewers r k) r (made.matching.proposers.on_list _ _ turn_back) in
        none before.at before.below (ap (reviewer_at cycle) before.is ∙ is)

    -- once all pairs are moved it is a matching again, with its holders
    pub turn_made : IsPairingOf l (paired places reviewers holders)
    turn_made = record {
      matching = record {
        proposers = record {
          one_each = t.places_each;
          on_list = λ p i h. elim (among (proposer_at cycle) (length cycle) p) [
            | inl w ↦ subst (λ q. held places q ≡ Some i → i < length (row l.proposers q)) w.holds (λ g. rw (same_place (t.moved w.at w.below) g) at (can.listed w.at w.below)) h
            | inr none ↦ made.matching.proposers.on_list p i (sym (t.still p none) ∙ h)
          ];
          in_turn = λ p i h. elim (among (proposer_at cycle) (length cycle) p) [
            | inl w ↦ subst (λ q. held places q ≡ Some i → held reviewers (entry l.proposers q i) ≡ Some (place_of l.reviewers (entry l.proposers q i) q)) w.holds
                (λ g. rw (sym (same_place (t.moved w.at w.below) g), target_entry w.at w.below) (t.seated w.at w.below)) h
            | inr none ↦ let old : held m.places.proposers p ≡ Some i = sym (t.still p none) ∙ h in
                t.unseated (entry l.proposers p i) (outside p i none old) ∙ made.matching.proposers.in_turn p i old
          ];
        };
        reviewers = record {
          one_each = t.reviewers_each;
          on_list = λ r k h. elim (among (target_at cycle) (length cycle) r) [
            | inl w ↦ subst (λ s. held reviewers s ≡ Some k → k < length (row l.reviewers s)) w.holds (λ g. rw (same_place (t.seated w.at w.below) g) at (returned w.at w.below)) h
            | inr none ↦ made.matching.reviewers.on_list r k (sym (t.unseated r none) ∙ h)
          ];
          in_turn = λ r k h. elim (among (target_at cycle) (length cycle) r) [
            | inl w ↦ subst (λ s. held reviewers s ≡ Some k → held places (entry l.reviewers s k) ≡ Some (place_of l.proposers (entry l.reviewers s k) s)) w.holds
                (λ g. rw (sym (same_place (t.seated w.at w.below) g), entry-place_of l.reviewers (target_at cycle w.at) (proposer_at cycle w.at) (returned w.at w.below)) (t.moved w.at w.below)) h
            | inr none ↦ let old : held m.places.reviewers r ≡ Some k = sym (t.unseated r none) ∙ h in
                t.still (entry l.reviewers r k) (outside' r k none old) ∙ made.matching.reviewers.in_turn r k old
          ];
        };
      };
      one_each = t.holders_each;
      names = λ r. elim (among (target_at cycle) (length cycle) r) [
        | inl w ↦ subst (λ s. held holders s ≡ option_map (entry l.reviewers s) (held reviewers s)) w.holds
            (t.has w.at w.below ∙ ap Some (sym (entry-place_of l.reviewers (target_at cycle w.at) (proposer_at cycle w.at) (returned w.at w.below))) ∙ ap (option_map (entry l.reviewers (target_at cycle w.at))) (sym (t.seated w.at w.below)))
        | inr none ↦ t.kept r none ∙ made.names r ∙ ap (option_map (entry l.reviewers r)) (sym (t.unseated r none))
      ];
    }
