-- When a proposer has a level in the matching of a closed set: its entry to the level lies inside, and its exit outside.
use Rattle.std.proofs.Common.{◌≡◌, ◌≢◌, ℕ, zero, suc, ◌<◌, ◌≤◌, ◌⊎◌, inl, inr, arith, refl, sym, ap, ◌∙◌, Bool, true, false, List, [], length, Option, None, Some, eqb-true, eq-eqb, ne_eqb, lt-ltb, le-ltb, nat_lt}
use Rattle.std.specs.List.{position_or_len}
use Rattle.std.proofs.lemmas.Bool.{false≢true, and_from, false_from_ne_true, not_from_false, cases_Bool}
use Rattle.std.proofs.lemmas.List.{get_or_past}
use Rattle.sm_market.specs.Lists.{Lists, row, place_of, IsMarket}
use Rattle.sm_market.specs.Matching.{Places, held, standing}
use Rattle.sm_lists.proofs.Counting.{lt_or_le, eq_or_ne}
use Rattle.sm_market.proofs.Bridge.{stand_of, held_cases, held_at, standing-some}
use Rattle.sm_theory.specs.Rotations.{reviewer_at, target_at, pair_of}
use Rattle.sm_theory.specs.Chains.{rotation_at, stage, IsCompleteChain}
use Rattle.sm_theory.specs.ClosedSets.{is_member, IsMember, IsClosed, matching_of}
use Rattle.sm_theory.specs.Vectors.{AreLevels, HasLevel}
use Rattle.sm_theory.specs.Net.{is_in}
use Rattle.sm_theory.specs.Conditions.{level_at, has_level, moves_to, moves_off, entry_node, exit_node}
use Rattle.sm_theory.proofs.Core.Cycle.{Moves, moves_or_not}
use Rattle.sm_theory.proofs.Core.Chain.{Attained, Decided-moves, up_at, stay, rise, moved_to, initial, way_of}
use Rattle.sm_theory.proofs.Bridge.Places.{row_past}
use Rattle.sm_theory.proofs.Bridge.Rotation.{cycle_of, pair_at_is, no_pair}
use Rattle.sm_theory.proofs.Bridge.Chain.{chain_of, stage_stable, closed_of}
use Rattle.sm_theory.proofs.Bridge.Sets.{set_is_of, set_stable}
use Rattle.sm_theory.proofs.Net.Tests.{and_parts, not_parts, first_before, first_passes}

module _ {l : Lists} (h : IsMarket l) {first : Places} {rotations : List (List (ℕ × ℕ))} (chain : IsCompleteChain l first rotations) where
  -- where p stands at a stage, and whether a rotation moves it
  abbrev at_stage : ℕ → ℕ → ℕ
  at_stage k p = standing l.proposers (stage l first rotations k).proposers p

  abbrev Moved : ℕ → ℕ → Type 0
  Moved k p = Moves (cycle_of (rotation_at rotations k)) p

  -- a rotation moves p, from the place where it stands to that where it stands next
  record Turn (k p : ℕ) : Type 0 where
    pair : ℕ
    below : pair < length (rotation_at rotations k)
    pair_is : pair_of (rotation_at rotations k) p ≡ pair
    from : at_stage k p ≡ place_of l.proposers p (reviewer_at (rotation_at rotations k) pair)
    to : at_stage (suc k) p ≡ place_of l.proposers p (target_at (rotation_at rotations k) pair)

  turn_at : (k p : ℕ) → k < length rotations → Moved k p → Turn k p
  turn_at k p g w = record {
    pair = w.at;
    below = w.below;
    pair_is = rw w.holds at (pair_at_is h (stage_stable h chain k (omega arith)).matching (chain.exposed k g) w.at w.below);
    from = sym (rw w.holds at (((chain_of h chain).exposed k g).paired w.at w.below).place_is);
    to = rw w.holds at (((chain_of h chain).onward k g).moved w.at w.below);
  }

  module _ (levels : List (List ℕ)) (p level : ℕ) where
    record Comes (k : ℕ) : Type 0 where
      moves : Moved k p
      there : level_at levels p (at_stage (suc k) p) ≡ level

    record Leaves (k : ℕ) : Type 0 where
      moves : Moved k p
      here : level_at levels p (at_stage k p) ≡ level
      off : level_at levels p (at_stage (suc k) p) ≢ level

    none_moves : (k : ℕ) → k < length rotations → nat_lt (pair_of (rotation_at rotations k) p) (length (rotation_at rotations k)) ≡ true → Moved k p
    none_moves k g e = elim (moves_or_not (cycle_of (rotation_at rotations k)) p) [
      | inl w ↦ w
      | inr none ↦ absurd (false≢true (sym (le-ltb (length (rotation_at rotations k)) (length (rotation_at rotations k)) (omega arith))
          ∙ ap (λ n. nat_lt n (length (rotation_at rotations k))) (sym (no_pair h (stage_stable h chain k (omega arith)).matching (chain.exposed k g) p none)) ∙ e))
    ]

    comes_of : (k : ℕ) → k < length rotations → moves_to l levels p level (rotation_at rotations k) ≡ true → Comes k
    comes_of k g e =
        let parts = and_parts _ _ e in
        let w : Moved k p = none_moves k g parts.0 in
        let v = turn_at k p g w in
        record { moves = w; there = ap (level_at levels p) (v.to ∙ ap (λ i. place_of l.proposers p (target_at (rotation_at rotations k) i)) (sym v.pair_is)) ∙ eqb-true _ _ parts.1 }

    of_comes : (k : ℕ) → k < length rotations → Comes k → moves_to l levels p level (rotation_at rotations k) ≡ true
    of_comes k g w =
        let v = turn_at k p g w.moves in
        and_from _ _ (lt-ltb _ _ (rw v.pair_is v.below))
        (eq-eqb _ _ (ap (λ i. level_at levels p (place_of l.proposers p (target_at (rotation_at rotations k) i))) v.pair_is ∙ ap (level_at levels p) (sym v.to) ∙ w.there))

    leaves_of : (k : ℕ) → k < length rotations → moves_off l levels p level (rotation_at rotations k) ≡ true → Leaves k
    leaves_of k g e =
        let parts = and_parts _ _ e in
        let more = and_parts _ _ parts.1 in
        let w : Moved k p = none_moves k g parts.0 in
        let v = turn_at k p g w in
        record {
          moves = w;
          here = ap (level_at levels p) (v.from ∙ ap (λ i. place_of l.proposers p (reviewer_at (rotation_at rotations k) i)) (sym v.pair_is)) ∙ eqb-true _ _ more.0;
          off = λ x. false≢true (sym (not_parts _ more.1) ∙ eq-eqb _ _ (ap (λ i. level_at levels p (place_of l.proposers p (target_at (rotation_at rotations k) i))) v.pair_is ∙ ap (level_at levels p) (sym v.to) ∙ x));
        }

    of_leaves : (k : ℕ) → k < length rotations → Leaves k → moves_off l levels p level (rotation_at rotations k) ≡ true
    of_leaves k g w =
        let v = turn_at k p g w.moves in
        and_from _ _ (lt-ltb _ _ (rw v.pair_is v.below))
        (and_from _ _
        (eq-eqb _ _ (ap (λ i. level_at levels p (place_of l.proposers p (reviewer_at (rotation_at rotations k) i))) v.pair_is ∙ ap (level_at levels p) (sym v.from) ∙ w.here))
        (not_from_false _ (ne_eqb _ _ (λ x. w.off (ap (level_at levels p) (v.to ∙ ap (λ i. place_of l.proposers p (target_at (rotation_at rotations k) i)) (sym v.pair_is)) ∙ x)))))

    -- between a stage at the level and a later one off it some rotation takes p from the level
    record Crossing (s e : ℕ) : Type 0 where
      at : ℕ
      from : s ≤ at
      before : at < e
      leaves : Leaves at

    crossing : (s e : ℕ) → s ≤ e → e ≤ length rotations → level_at levels p (at_stage s p) ≡ level → level_at levels p (at_stage e p) ≢ level → Crossing s e
    crossing s zero x g on off = let e : 0 ≡ s = omega arith in absurd (off (ap (λ k. level_at levels p (at_stage k p)) e ∙ on))
    crossing s (suc e) x g on off = elim (eq_or_ne s (suc e)) [
      | inl same ↦ absurd (off (ap (λ k. level_at levels p (at_stage k p)) (sym same) ∙ on))
      | inr other ↦ elim (eq_or_ne (level_at levels p (at_stage e p)) level) [
        | inr there ↦ let w = crossing s e (omega arith) (omega arith) on there in record { at = w.at; from = w.from; before = omega (arith, w.before); leaves = w.leaves }
        | inl here ↦ elim (Decided-moves (cycle_of (rotation_at rotations e)) p) [
          | inl mv ↦ record { at = e; from = omega arith; before = omega arith; leaves = record { moves = mv; here = here; off = off } }
          | inr still ↦ absurd (off (ap (level_at levels p) (stay (way_of (chain_of h chain)) e p (omega arith) still) ∙ here))
        ]
      ]
    ]

    abbrev entering : ℕ
    entering = position_or_len (moves_to l levels p level) rotations

    abbrev leaving : ℕ
    leaving = position_or_len (moves_off l levels p level) rotations

    module _ (rising : AreLevels l levels) (set : List Bool) (closed : IsClosed l rotations set) where
      abbrev here : ℕ
      here = standing l.proposers (matching_of l first rotations set).proposers p

      in_range : (i : ℕ) → i < length (row l.proposers p) → p < length l.proposers
      in_range i g = elim (lt_or_le p (length l.proposers)) [ inl k ↦ k | inr k ↦ absurd (omega (arith, row_past l.proposers p k)) ]

      never_falls : (i j : ℕ) → i ≤ j → j < length (row l.proposers p) → level_at levels p i ≤ level_at levels p j
      never_falls i j x g = elim (eq_or_ne i j) [
        | inl e ↦ omega (arith, ap (level_at levels p) e)
        | inr e ↦ rising.rising p i j (omega arith) (omega (arith, rising.per_place p (in_range j g)))
      ]

      member_below : (k : ℕ) → IsMember set k → k < length rotations
      member_below k m = elim (lt_or_le k (length rotations)) [
        | inl a ↦ a
        | inr a ↦ absurd (false≢true (sym (get_or_past set k false (omega (arith, closed.one_each))) ∙ m))
      ]

      -- of the rotations that move p, those before a member are members
      earlier : (k j : ℕ) → IsMember set k → Moved k p → j ≤ k → Moved j p → IsMember set j
      earlier k j m mv le mv' = elim (eq_or_ne j k) [
        | inl e ↦ rw (sym e) at m
        | inr e ↦ initial (way_of (chain_of h chain)) (closed_of h closed) p k (member_below k m) m mv j (omega arith) mv'
      ]

      matched_after : (k : ℕ) → k < length rotations → Moved k p → at_stage (suc k) p < length (row l.proposers p)
      matched_after k g w = rw w.holds at (moved_to (way_of (chain_of h chain)) k w.at g w.below).matched

      record Has : Type 0 where
        inside : here < length (row l.proposers p)
        level_is : level_at levels p here ≡ level
        held_is : held (matching_of l first rotations set).proposers p ≡ Some here

      has_of : HasLevel levels (matching_of l first rotations set) p level → Has
      has_of w =
          let e = standing-some l.proposers (matching_of l first rotations set).proposers p w.place w.holds in
          record {
            inside = omega (arith, e, (set_stable h chain set closed).matching.proposers.on_list p w.place w.holds);
            level_is = ap (level_at levels p) e ∙ w.at_level;
            held_is = w.holds ∙ ap Some (sym e);
          }

      -- who has the level has its entry to it inside
      pub entry_inside : HasLevel levels (matching_of l first rotations set) p level → is_in set (entry_node l levels first rotations p level) ≡ true
      entry_inside w = go (cases_Bool (has_level levels p level (held first.proposers p)))
        where
          v : Has
          v = has_of w

          came : has_level levels p level (held first.proposers p) ≡ false → (here ≡ at_stage 0 p) ⊎ Attained (length rotations) (λ k. stand_of l (stage l first rotations k)) (λ k. cycle_of (rotation_at rotations k)) (IsMember set) (stand_of l (matching_of l first rotations set)) p → IsMember set entering
          came out (inl e) = elim (held_cases l.proposers first.proposers p) [
            | inl x ↦ absurd (omega (arith, e, x.standing_is, v.inside))
            | inr x ↦ absurd (false≢true (sym out ∙ ap (has_level levels p level) x.held_is ∙ eq-eqb _ _ (ap (level_at levels p) (sym x.standing_is ∙ sym e) ∙ v.level_is)))
          ]
          came out (inr x) =
              let le = first_before (moves_to l levels p level) rotations x.at [] (of_comes x.at x.below (record { moves = x.moves; there = ap (level_at levels p) (sym x.is) ∙ v.level_is })) in
              let lt : entering < length rotations = omega (arith, x.below) in
              earlier x.at entering x.member x.moves le (comes_of entering lt (first_passes (moves_to l levels p level) rotations [] lt)).moves

          go : (has_level levels p level (held first.proposers p) ≡ true) ⊎ (has_level levels p level (held first.proposers p) ≡ false) → is_in set (entry_node l levels first rotations p level) ≡ true
          go (inl e) = rw e refl
          go (inr e) = rw e (came e ((set_is_of h chain set).attained p))

      -- who has the level has its exit from it outside
      pub exit_outside : HasLevel levels (matching_of l first rotations set) p level → is_in set (exit_node l levels rotations p level) ≡ false
      exit_outside w = false_from_ne_true (is_member set leaving) (λ m.
          let v = has_of w in
          let lt = member_below leaving m in
          let x = leaves_of leaving lt (first_passes (moves_off l levels p level) rotations [] lt) in
          let low = (set_is_of h chain set).reach p leaving lt m x.moves in
          let up = up_at (way_of (chain_of h chain)) leaving p lt x.moves in
          x.off (omega (
            arith,
            x.here,
            v.level_is,
            never_falls (at_stage leaving p) (at_stage (suc leaving) p) (omega arith) (matched_after leaving lt x.moves),
            never_falls (at_stage (suc leaving) p) here low v.inside,
          )))

      -- a stage at the level, which the matching has reached
      record Start : Type 0 where
        stage_at : ℕ
        below : stage_at ≤ length rotations
        inside : at_stage stage_at p < length (row l.proposers p)
        level_is : level_at levels p (at_stage stage_at p) ≡ level
        reached : at_stage stage_at p ≤ here

      -- with the entry inside and the exit outside the proposer has the level
      pub level_between : is_in set (entry_node l levels first rotations p level) ≡ true → is_in set (exit_node l levels rotations p level) ≡ false → HasLevel levels (matching_of l first rotations set) p level
      level_between entry out = finish start ((set_is_of h chain set).attained p)
        where
          begins : (o : Option ℕ) → held first.proposers p ≡ o → has_level levels p level o ≡ true → Start
          begins None e f = absurd (false≢true f)
          begins (Some i) e f =
              let x = standing-some l.proposers first.proposers p i e in
              record {
                stage_at = 0;
                below = omega arith;
                inside = omega (arith, x, chain.from_best.stable.matching.proposers.on_list p i e);
                level_is = ap (level_at levels p) x ∙ eqb-true _ _ f;
                reached = (set_is_of h chain set).low p;
              }

          comes : IsMember set entering → Start
          comes m =
              let lt = member_below entering m in
              let x = comes_of entering lt (first_passes (moves_to l levels p level) rotations [] lt) in
              record {
                stage_at = suc entering;
                below = lt;
                inside = matched_after entering lt x.moves;
                level_is = x.there;
                reached = (set_is_of h chain set).reach p entering lt m x.moves;
              }

          start : Start
          start = elim (cases_Bool (has_level levels p level (held first.proposers p))) [
            | inl e ↦ begins (held first.proposers p) refl e
            | inr e ↦ comes (rw e at entry)
          ]

          holds : (i : ℕ) → here ≡ i → i < length (row l.proposers p) → level_at levels p i ≡ level → HasLevel levels (matching_of l first rotations set) p level
          holds i e g on = record {
            place = here;
            holds = held_at l.proposers (matching_of l first rotations set).proposers p (omega arith);
            at_level = ap (level_at levels p) e ∙ on;
          }

          finish : Start → (here ≡ at_stage 0 p) ⊎ Attained (length rotations) (λ k. stand_of l (stage l first rotations k)) (λ k. cycle_of (rotation_at rotations k)) (IsMember set) (stand_of l (matching_of l first rotations set)) p → HasLevel levels (matching_of l first rotations set) p level
          finish s (inl e) = holds (at_stage s.stage_at p) (omega (arith, e, s.reached, rise (way_of (chain_of h chain)) p 0 s.stage_at (omega arith) s.below)) s.inside s.level_is
          finish s (inr x) = elim (lt_or_le x.at s.stage_at) [
            | inl less ↦ holds (at_stage s.stage_at p) (omega (arith, x.is, s.reached, rise (way_of (chain_of h chain)) p (suc x.at) s.stage_at less s.below)) s.inside s.level_is
            | inr more ↦ elim (eq_or_ne (level_at levels p (at_stage (suc x.at) p)) level) [
              | inl on ↦ holds (at_stage (suc x.at) p) x.is (matched_after x.at x.below x.moves) on
              | inr off ↦
                  let c = crossing s.stage_at (suc x.at) (omega arith) x.below s.level_is off in
                  let lt : c.at < length rotations = omega (arith, c.before, x.below) in
                  let le = first_before (moves_off l levels p level) rotations c.at [] (of_leaves c.at lt c.leaves) in
                  let below : leaving < length rotations = omega arith in
                  let y = leaves_of leaving below (first_passes (moves_off l levels p level) rotations [] below) in
                  absurd (false≢true (sym out ∙ earlier x.at leaving x.member x.moves (omega (arith, le, c.before)) y.moves))
            ]
          ]
