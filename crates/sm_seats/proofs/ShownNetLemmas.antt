-- The net that is read off shown rotations, by reviewers, is the net of gains, predecessors and conditions by levels.
use Rattle.std.proofs.Common.{◌≡◌, ℕ, zero, suc, ◌+◌, ◌<◌, ◌≤◌, ◌⊎◌, inl, inr, arith, refl, sym, ap, ◌∙◌, Bool, true, false, not, ◌&&◌, ◌||◌, List, [], ◌∷◌, length, map, get_or, Option, None, Some, eqb-true, eq-eqb}
use Rattle.std.specs.Prelude.{◌==◌, if◌then◌else◌}
use Rattle.std.specs.List.{list_any, position_or_len}
use Rattle.std.proofs.lemmas.Bool.{false≢true, ltb-true, and_from, cases_Bool}
use Rattle.std.proofs.lemmas.List.Sums.{position_or_len_is, fails_before_first, passes_at_first, prefix_len-le-length}
use Rattle.sm_lists.specs.Rows.{place_on}
use Rattle.sm_lists.proofs.ResultLemmas.{same_bool}
use Rattle.sm_lists.proofs.Counting.{lt_or_le}
use Rattle.sm_lists.proofs.PlaceLemmas.{get_or-place_on, entry-place_of}
use Rattle.sm_agents.specs.Written.{Written, row as written_row, place_of as written_place_of}
use Rattle.sm_agents.specs.declared.kinds.Measure.{Measure}
use Rattle.sm_instance.specs.Ranks.{pair_weight}
use Rattle.sm_market.specs.Lists.{row, entry, place_of}
use Rattle.sm_market.specs.Matching.{Places, held, IsMatching}
use Rattle.sm_theory.specs.Rotations.{pair_of, proposer_at, is_moved, reviewer_before, reviewer_after, place_after, IsExposed, eliminated}
use Rattle.sm_theory.specs.Chains.{rotation_at, stage, IsCompleteChain}
use Rattle.sm_theory.specs.SecondNets.{second_net, second_net_of}
use Rattle.sm_theory.specs.Conditions.{level_at, has_level, moves_to, moves_off, entry_node as entry_by_level, exit_node as exit_by_level, forces as forces_level, forbids as forbids_level, leads_to_need, rise_of, fall_of, net_of}
use Rattle.sm_theory.proofs.Net.Tests.{and_parts}
use Rattle.sm_theory.proofs.Bridge.Places.{held_map, held_map_past}
use Rattle.sm_theory.proofs.Bridge.Chain.{stage_stable}
use Rattle.sm_seats.specs.SeatMarket.{seat_market}
use Rattle.sm_seats.specs.Seating.{seating_of, reviewer_of, written_place, levels_of}
use Rattle.sm_seats.specs.Correspondence.{IsSeating, leveled, weights_of}
use Rattle.sm_seats.proofs.SeatingLemmas.{level_is}
use Rattle.sm_seats.proofs.WrittenLemmas.{row-seating}
use Rattle.sm_seats.specs.Levels.{has_two_levels, seconds_by}
use Rattle.sm_theory.specs.Weights.{gain_of}
use Rattle.sm_seats.proofs.GainLemmas.{IsOnLists, exposed_on_lists, gain_at_is, second_gain_at_is}
use Rattle.sm_seats.specs.ShownNet.{is_at_seat_of, enters, leaves, entry_node, exit_node, forces, forbids, gain_shown, second_gain_shown, net_shown, second_net_shown}

-- the first places of two tests that are the same at each place
same_first : {X : Type 0} (t s : X → Bool) (xs : List X) (d : X) → ((k : ℕ) → k < length xs → t (get_or xs k d) ≡ s (get_or xs k d)) → position_or_len t xs ≡ position_or_len s xs
same_first t s xs d same =
    let most : position_or_len s xs ≤ length xs = prefix_len-le-length _ xs in
    position_or_len_is t xs (position_or_len s xs) d most
    (λ k less. same k (omega (arith, most)) ∙ fails_before_first s xs k d less)
    (λ less. same _ less ∙ passes_at_first s xs d less)

-- tests of mapped items
any_mapped : {X Y : Type 0} (f : X → Y) (t : Y → Bool) (s : X → Bool) → ((x : X) → s x ≡ t (f x)) → (xs : List X) → list_any s xs ≡ list_any t (map f xs)
any_mapped f t s same [] = refl
any_mapped f t s same (x ∷ xs) = (λ i. same x i || any_mapped f t s same xs i)

module _ {w : Written} (h : IsSeating w (seating_of w)) where
  -- a seat on p's list is of the level of the pair of p and r exactly where it is a seat of r
  level_of_seat : (p r i seat : ℕ) → i < length (row (seat_market w).proposers p) → entry (seat_market w).proposers p i ≡ seat
      → (level_at (levels_of (seating_of w)) p i == written_place_of w.proposers p r + 1) ≡ (reviewer_of (seating_of w) seat == r)
  level_of_seat p r i seat on is =
      let s = seating_of w in
      let mine : ℕ = reviewer_of s (entry (seat_market w).proposers p i) in
      let mine_is : mine ≡ reviewer_of s seat = ap (reviewer_of s) is in
      let there : written_place_of w.proposers p mine ≡ written_place s p i = ap (λ l. place_on l mine) (sym (row-seating w p)) in
      let listed : written_place s p i < length (written_row w.proposers p) = (let long = ap (λ (l : List ℕ). length l) (row-seating w p) in omega (arith, h.on_lists p i on, long)) in
      let level = level_is s p i on in
      same_bool (level_at (levels_of s) p i == written_place_of w.proposers p r + 1) (reviewer_of s seat == r)
      (λ e.
      let same = eqb-true _ _ e in
      let places : written_place_of w.proposers p mine ≡ written_place_of w.proposers p r = omega (arith, same, level, there) in
      eq-eqb _ r (sym mine_is ∙ sym (get_or-place_on (written_row w.proposers p) mine (omega (arith, there, listed)))
      ∙ ap (λ k. get_or (written_row w.proposers p) k 0) places ∙ get_or-place_on (written_row w.proposers p) r (omega (arith, there, listed, places))))
      (λ e.
      let places = ap (written_place_of w.proposers p) (mine_is ∙ eqb-true _ r e) in
      eq-eqb _ _ (omega (arith, level, there, places)))

  module _ {m : Places} (f : IsMatching (seat_market w) m) where
    -- a place that is held is of the level of the pair exactly where it is at a seat of r
    held_level : (p r : ℕ) → has_level (levels_of (seating_of w)) p (written_place_of w.proposers p r + 1) (held m.proposers p) ≡ is_at_seat_of (seating_of w) p r (held m.proposers p)
    held_level p r = go (held m.proposers p) refl
      where
        go : (o : Option ℕ) → held m.proposers p ≡ o → has_level (levels_of (seating_of w)) p (written_place_of w.proposers p r + 1) o ≡ is_at_seat_of (seating_of w) p r o
        go None e = refl
        go (Some i) e = level_of_seat p r i (entry (seat_market w).proposers p i) (f.proposers.on_list p i e) refl

    module _ {rotation : List (ℕ × ℕ)} (x : IsExposed (seat_market w) m rotation) (p : ℕ) (moved : pair_of rotation p < length rotation) where
      who : proposer_at rotation (pair_of rotation p) ≡ p
      who = eqb-true _ p (passes_at_first (λ (pair : ℕ × ℕ). pair.0 == p) rotation (0, 0) moved)

      -- whom a rotation moves holds the seat that it leaves
      holds : held m.proposers p ≡ Some (place_of (seat_market w).proposers p (reviewer_before rotation p))
      holds = rw who at (x.paired (pair_of rotation p) moved)

      on_before : place_of (seat_market w).proposers p (reviewer_before rotation p) < length (row (seat_market w).proposers p)
      on_before = f.proposers.on_list p _ holds

      on_after : place_of (seat_market w).proposers p (reviewer_after rotation p) < length (row (seat_market w).proposers p)
      on_after = rw who at (x.next (pair_of rotation p) moved).on_list

      level_before : (r : ℕ) → (level_at (levels_of (seating_of w)) p (place_of (seat_market w).proposers p (reviewer_before rotation p)) == written_place_of w.proposers p r + 1) ≡ (reviewer_of (seating_of w) (reviewer_before rotation p) == r)
      level_before r = level_of_seat p r _ (reviewer_before rotation p) on_before (entry-place_of (seat_market w).proposers p (reviewer_before rotation p) on_before)

      level_after : (r : ℕ) → (level_at (levels_of (seating_of w)) p (place_of (seat_market w).proposers p (reviewer_after rotation p)) == written_place_of w.proposers p r + 1) ≡ (reviewer_of (seating_of w) (reviewer_after rotation p) == r)
      level_after r = level_of_seat p r _ (reviewer_after rotation p) on_after (entry-place_of (seat_market w).proposers p (reviewer_after rotation p) on_after)

    -- p leaves the level of r by the rotation by which it leaves r
    leaves_level : {rotation : List (ℕ × ℕ)} → IsExposed (seat_market w) m rotation → (p r : ℕ)
        → moves_off (seat_market w) (levels_of (seating_of w)) p (written_place_of w.proposers p r + 1) rotation ≡ leaves (seating_of w) p r rotation
    leaves_level {rotation} x p r = go (cases_Bool (is_moved rotation p))
      where
        go : (is_moved rotation p ≡ true) ⊎ (is_moved rotation p ≡ false)
            → moves_off (seat_market w) (levels_of (seating_of w)) p (written_place_of w.proposers p r + 1) rotation ≡ leaves (seating_of w) p r rotation
        go (inl yes_) = let moved = ltb-true (pair_of rotation p) (length rotation) yes_ in (λ i. is_moved rotation p && (level_before x p moved r i && not (level_after x p moved r i)))
        go (inr no_) = ap (λ b. b && (level_at (levels_of (seating_of w)) p (place_of (seat_market w).proposers p (reviewer_before rotation p)) == written_place_of w.proposers p r + 1
            && not (level_at (levels_of (seating_of w)) p (place_of (seat_market w).proposers p (reviewer_after rotation p)) == written_place_of w.proposers p r + 1))) no_
            ∙ sym (ap (λ b. b && (reviewer_of (seating_of w) (reviewer_before rotation p) == r && not (reviewer_of (seating_of w) (reviewer_after rotation p) == r))) no_)

    -- by the rotation by which it enters r it comes to the level, and so it does by no other one that moves it there from another level
    enters_level : {rotation : List (ℕ × ℕ)} → IsExposed (seat_market w) m rotation → (p r : ℕ) → enters (seating_of w) p r rotation ≡ true
        → moves_to (seat_market w) (levels_of (seating_of w)) p (written_place_of w.proposers p r + 1) rotation ≡ true
    enters_level {rotation} x p r e =
        let both = and_parts (is_moved rotation p) _ e in
        let moved = ltb-true (pair_of rotation p) (length rotation) both.0 in
        and_from _ _ both.0 (level_after x p moved r ∙ (and_parts _ _ both.1).0)

    enters_there : {rotation : List (ℕ × ℕ)} → IsExposed (seat_market w) m rotation → (p r : ℕ) → is_at_seat_of (seating_of w) p r (held m.proposers p) ≡ false
        → moves_to (seat_market w) (levels_of (seating_of w)) p (written_place_of w.proposers p r + 1) rotation ≡ true → enters (seating_of w) p r rotation ≡ true
    enters_there {rotation} x p r other e =
        let both = and_parts (is_moved rotation p) _ e in
        let moved = ltb-true (pair_of rotation p) (length rotation) both.0 in
        let from : (reviewer_of (seating_of w) (reviewer_before rotation p) == r) ≡ false =
        sym (level_before x p moved r) ∙ sym (ap (has_level (levels_of (seating_of w)) p (written_place_of w.proposers p r + 1)) (holds x p moved)) ∙ held_level p r ∙ other in
        and_from _ _ both.0 (and_from _ _ (sym (level_after x p moved r) ∙ both.1) (ap not from))

    -- where it neither is at a seat of r nor comes to the level, it isn't at a seat of r afterwards
    still_elsewhere : {rotation : List (ℕ × ℕ)} → IsExposed (seat_market w) m rotation → (p r : ℕ) → is_at_seat_of (seating_of w) p r (held m.proposers p) ≡ false
        → moves_to (seat_market w) (levels_of (seating_of w)) p (written_place_of w.proposers p r + 1) rotation ≡ false
        → is_at_seat_of (seating_of w) p r (held (eliminated (seat_market w) m rotation).proposers p) ≡ false
    still_elsewhere {rotation} x p r other none = elim (lt_or_le p (length (seat_market w).proposers)) [
      | inr past ↦ ap (is_at_seat_of (seating_of w) p r) (held_map_past (seat_market w).proposers (place_after (seat_market w) m.proposers rotation) p past)
      | inl here ↦ ap (is_at_seat_of (seating_of w) p r) (held_map (seat_market w).proposers (place_after (seat_market w) m.proposers rotation) p here) ∙ go (cases_Bool (is_moved rotation p))
    ]
      where
        go : (is_moved rotation p ≡ true) ⊎ (is_moved rotation p ≡ false) → is_at_seat_of (seating_of w) p r (place_after (seat_market w) m.proposers rotation p) ≡ false
        go (inl yes_) =
            let moved = ltb-true (pair_of rotation p) (length rotation) yes_ in
            let to : ℕ = place_of (seat_market w).proposers p (reviewer_after rotation p) in
            let there = ap (reviewer_of (seating_of w)) (entry-place_of (seat_market w).proposers p (reviewer_after rotation p) (on_after x p moved)) in
            ap (λ b. is_at_seat_of (seating_of w) p r (if b then Some to else held m.proposers p)) yes_
            ∙ ap (λ k. k == r) there ∙ sym (level_after x p moved r) ∙ sym (ap (λ b. b && (level_at (levels_of (seating_of w)) p to == written_place_of w.proposers p r + 1)) yes_) ∙ none
        go (inr no_) = ap (λ b. is_at_seat_of (seating_of w) p r (if b then Some (place_of (seat_market w).proposers p (reviewer_after rotation p)) else held m.proposers p)) no_ ∙ other

  module _ {first : Places} {rotations : List (List (ℕ × ℕ))} (chain : IsCompleteChain (seat_market w) first rotations) where
    matching_at : (k : ℕ) → k ≤ length rotations → IsMatching (seat_market w) (stage (seat_market w) first rotations k)
    matching_at k fits = (stage_stable h.market chain k fits).matching

    module _ (p r : ℕ) where
      abbrev level : ℕ
      level = written_place_of w.proposers p r + 1

      abbrev comes : List (ℕ × ℕ) → Bool
      comes = moves_to (seat_market w) (levels_of (seating_of w)) p level

      -- where p begins elsewhere, it is elsewhere up to the first rotation by which it comes to the level
      elsewhere : is_at_seat_of (seating_of w) p r (held first.proposers p) ≡ false → (k : ℕ) → k ≤ position_or_len comes rotations → k ≤ length rotations
          → is_at_seat_of (seating_of w) p r (held (stage (seat_market w) first rotations k).proposers p) ≡ false
      elsewhere other zero before fits = other
      elsewhere other (suc k) before fits = still_elsewhere (matching_at k (omega arith)) (chain.exposed k fits) p r (elsewhere other k (omega arith) (omega arith)) (fails_before_first comes rotations k [] before)

      -- so it enters r by that rotation
      first_entry : is_at_seat_of (seating_of w) p r (held first.proposers p) ≡ false → position_or_len (enters (seating_of w) p r) rotations ≡ position_or_len comes rotations
      first_entry other =
          let most : position_or_len comes rotations ≤ length rotations = prefix_len-le-length _ rotations in
          position_or_len_is (enters (seating_of w) p r) rotations (position_or_len comes rotations) [] most
          (λ k less. not_entered k less (omega (arith, most)) (cases_Bool (enters (seating_of w) p r (rotation_at rotations k))))
          (λ less. enters_there (matching_at _ most) (chain.exposed _ less) p r (elsewhere other _ (omega arith) most) (passes_at_first comes rotations [] less))
        where
          not_entered : (k : ℕ) → k < position_or_len comes rotations → k < length rotations → (enters (seating_of w) p r (rotation_at rotations k) ≡ true) ⊎ (enters (seating_of w) p r (rotation_at rotations k) ≡ false)
              → enters (seating_of w) p r (rotation_at rotations k) ≡ false
          not_entered k less on (inr no_) = no_
          not_entered k less on (inl yes_) = absurd (false≢true (sym (fails_before_first comes rotations k [] less) ∙ enters_level (matching_at k (omega arith)) (chain.exposed k on) p r yes_))

      -- the nodes of a pair
      entry_is : entry_node (seating_of w) first rotations (p, r) ≡ entry_by_level (seat_market w) (levels_of (seating_of w)) first rotations p level
      entry_is = go (cases_Bool (is_at_seat_of (seating_of w) p r (held first.proposers p)))
        where
          begins : has_level (levels_of (seating_of w)) p level (held first.proposers p) ≡ is_at_seat_of (seating_of w) p r (held first.proposers p)
          begins = held_level (matching_at 0 (omega arith)) p r

          go : (is_at_seat_of (seating_of w) p r (held first.proposers p) ≡ true) ⊎ (is_at_seat_of (seating_of w) p r (held first.proposers p) ≡ false)
              → entry_node (seating_of w) first rotations (p, r) ≡ entry_by_level (seat_market w) (levels_of (seating_of w)) first rotations p level
          go (inl yes_) = ap (λ b. if b then 0 else suc (position_or_len (enters (seating_of w) p r) rotations)) yes_ ∙ sym (ap (λ b. if b then 0 else suc (position_or_len comes rotations)) (begins ∙ yes_))
          go (inr no_) = ap (λ b. if b then 0 else suc (position_or_len (enters (seating_of w) p r) rotations)) no_ ∙ ap suc (first_entry no_)
              ∙ sym (ap (λ b. if b then 0 else suc (position_or_len comes rotations)) (begins ∙ no_))

      exit_is : exit_node (seating_of w) rotations (p, r) ≡ exit_by_level (seat_market w) (levels_of (seating_of w)) rotations p level
      exit_is = ap suc (sym (same_first (moves_off (seat_market w) (levels_of (seating_of w)) p level) (leaves (seating_of w) p r) rotations []
          (λ k less. leaves_level (matching_at k (omega arith)) (chain.exposed k less) p r)))

    -- the edges of a pair
    abbrev with_level : ℕ × ℕ → ℕ × ℕ
    with_level pair = (pair.0, written_place_of w.proposers pair.0 pair.1 + 1)

    forced_is : (i j : ℕ) (pair : ℕ × ℕ) → forces (seating_of w) first rotations pair i j ≡ forces_level (seat_market w) (levels_of (seating_of w)) first rotations (with_level pair) i j
    forced_is i j pair = λ t. (i == 0 && j == entry_is pair.0 pair.1 t) || (i == exit_is pair.0 pair.1 t && j == suc (length rotations))

    forbidden_is : (i j : ℕ) (pair : ℕ × ℕ) → forbids (seating_of w) first rotations pair i j ≡ forbids_level (seat_market w) (levels_of (seating_of w)) first rotations (with_level pair) i j
    forbidden_is i j pair = λ t. i == entry_is pair.0 pair.1 t && j == exit_is pair.0 pair.1 t

    -- the gains that are shown are those by the weights of the places
    on_lists : (k : ℕ) → k < length rotations → IsOnLists (seat_market w) (rotation_at rotations k)
    on_lists k less = exposed_on_lists (matching_at k (omega arith)) (chain.exposed k less)

    gains_are : (by : Measure) (k : ℕ) → gain_shown by w rotations k ≡ gain_of (seat_market w) (weights_of by w (seating_of w)) (rotation_at rotations k)
    gains_are by = gain_at_is (pair_weight by w) (seating_of w) rotations on_lists

    second_gains_are : (by : Measure) → has_two_levels by w ≡ true → (k : ℕ) → second_gain_shown w rotations k ≡ gain_of (seat_market w) (seconds_by by w (seating_of w)) (rotation_at rotations k)
    second_gains_are by two = second_gain_at_is by w (seating_of w) two rotations on_lists

    -- The net as it is shown is the net by levels: the seats of one reviewer are those of one level on a proposer's list, and the first
    -- rotation that moves the proposer to one of them moves it from a seat of another reviewer.
    pub net_is_shown : (by : Measure) (needs : List (List ℕ)) → net_shown by w first rotations needs
        ≡ net_of (seat_market w) (levels_of (seating_of w)) (weights_of by w (seating_of w)) (leveled w w.forced) (leveled w w.forbidden) first rotations needs
    net_is_shown by needs = λ t. record {
      size = length rotations;
      supply = λ k. fall_of (gains_are by k t);
      drain = λ k. rise_of (gains_are by k t);
      unbounded = λ i j. not (i == j) && (not (i == 0 && j == suc (length rotations))
          && (leads_to_need needs i j || (forced_edges i j t || forbidden_edges i j t)));
    }
      where
        forced_edges : (i j : ℕ) → list_any (λ pair. forces (seating_of w) first rotations pair i j) w.forced ≡ list_any (λ c. forces_level (seat_market w) (levels_of (seating_of w)) first rotations c i j) (leveled w w.forced)
        forced_edges i j = any_mapped with_level (λ c. forces_level (seat_market w) (levels_of (seating_of w)) first rotations c i j) (λ pair. forces (seating_of w) first rotations pair i j) (forced_is i j) w.forced

        forbidden_edges : (i j : ℕ) → list_any (λ pair. forbids (seating_of w) first rotations pair i j) w.forbidden ≡ list_any (λ c. forbids_level (seat_market w) (levels_of (seating_of w)) first rotations c i j) (leveled w w.forbidden)
        forbidden_edges i j = any_mapped with_level (λ c. forbids_level (seat_market w) (levels_of (seating_of w)) first rotations c i j) (λ pair. forbids (seating_of w) first rotations pair i j) (forbidden_is i j) w.forbidden

    -- and in two levels so is the second net of a flow
    pub second_net_is_shown : (by : Measure) → has_two_levels by w ≡ true → (needs : List (List ℕ)) (flow : ℕ → ℕ → ℕ) → second_net_shown by w first rotations needs flow
        ≡ second_net_of (seat_market w) (levels_of (seating_of w)) (weights_of by w (seating_of w)) (seconds_by by w (seating_of w)) (leveled w w.forced) (leveled w w.forbidden) first rotations needs flow
    second_net_is_shown by two needs flow = λ t. second_net (net_is_shown by needs t) flow (λ k. second_gains_are by two k t)
