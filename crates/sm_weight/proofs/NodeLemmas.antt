-- The nodes at which a proposer enters a level and leaves it, read of its moves.
use Rattle.std.proofs.Common.{◌≡◌, ℕ, zero, suc, ◌<◌, ◌≤◌, inl, inr, arith, refl, sym, ap, ◌∙◌, Bool, true, List, [], length, Option, None, Some, slice_index, slice_index_or, eqb-true, eq-eqb, ne_eqb, lt-ltb}
use Rattle.std.specs.List.{position_or_len}
use Rattle.std.proofs.lemmas.Bool.{false≢true, ltb-true, and_from, false_from_ne_true, not_from_false, cases_Bool}
use Rattle.std.proofs.lemmas.List.{get_or_read}
use Rattle.std.proofs.lemmas.List.Sums.{position_or_len_is}
use Rattle.sm_lists.proofs.Counting.{Decided-eq, Decided-and, Decided-not, search_below, lt_or_le, eq_or_ne}
use Rattle.sm_market.specs.Lists.{Lists, row, place_of, IsMarket}
use Rattle.sm_market.specs.Matching.{Places, held, standing}
use Rattle.sm_market.proofs.Bridge.{standing-some}
use Rattle.sm_theory.specs.Rotations.{target_at, reviewer_at, pair_of, DoesMove}
use Rattle.sm_theory.specs.Chains.{rotation_at, stage, IsCompleteChain}
use Rattle.sm_theory.specs.Vectors.{AreLevels}
use Rattle.sm_theory.specs.Conditions.{level_at, has_level, moves_to, moves_off, entry_node, exit_node}
use Rattle.sm_theory.proofs.Bridge.Chain.{stage_stable}
use Rattle.sm_theory.proofs.Chains.Sets.{moves_follow}
use Rattle.sm_theory.proofs.Net.Tests.{and_parts, not_parts}
use Rattle.sm_poset.specs.Moves.{rotation_of, place_to, AreMovesOf, GoDown}
use Rattle.sm_poset.proofs.ChainLemmas.{move_stands}
use Rattle.sm_weight.specs.Spans.{level_to, place_before, BeginsAt, IsFirstTo, IsEntryNode, LeadsOff, IsExit}

-- a first place of the level
begins_of : (levels : List (List ℕ)) (p level : ℕ) (first : Option ℕ) → has_level levels p level first ≡ true → BeginsAt (row levels p) first level
begins_of levels p level None e = false≢true e
begins_of levels p level (Some i) e = eqb-true _ _ e

of_begins : (levels : List (List ℕ)) (p level : ℕ) (first : Option ℕ) → BeginsAt (row levels p) first level → has_level levels p level first ≡ true
of_begins levels p level None w = absurd w
of_begins levels p level (Some i) w = eq-eqb _ _ w

module _ {l : Lists} (h : IsMarket l) {first : Places} {rotations : List (List (ℕ × ℕ))} (chain : IsCompleteChain l first rotations) {levels : List (List ℕ)} (rising : AreLevels l levels)
    (p : ℕ) {moves : List (ℕ × ℕ)} (are : AreMovesOf l rotations (length rotations) p moves) where
  abbrev stands : ℕ
  stands = standing l.proposers first.proposers p

  -- the move by a rotation that moves p
  record ByMove (k : ℕ) : Type 0 where
    at : ℕ
    there : at < length moves
    rotation : rotation_of moves at ≡ k
    place : place_to moves at ≡ place_of l.proposers p (target_at (rotation_at rotations k) (pair_of (rotation_at rotations k) p))

  by_move : (k : ℕ) → k < length rotations → pair_of (rotation_at rotations k) p < length (rotation_at rotations k) → ByMove k
  by_move k g mv =
      let i : ℕ = place_of l.proposers p (target_at (rotation_at rotations k) (pair_of (rotation_at rotations k) p)) in
      let c = are.all k i g (record { moved = mv; place = refl }) in
      let at : slice_index_or moves c.0 (0, 0) ≡ (k, i) = sym (get_or_read moves c.0 (k, i) c.1 (sym c.2) (0, 0)) in
      record { at = c.0; there = c.1; rotation = ap (λ x. x.0) at; place = ap (λ x. x.1) at }

  -- moves by earlier rotations come earlier
  earlier : (a b : ℕ) → a < length moves → b < length moves → rotation_of moves b < rotation_of moves a → b < a
  earlier a b x y less = elim (lt_or_le b a) [
    | inl k ↦ k
    | inr k ↦ elim (eq_or_ne a b) [
      | inl e ↦ absurd (let same = ap (rotation_of moves) e in omega arith)
      | inr ne ↦ absurd (omega (arith, are.rising a b (omega arith) y))
    ]
  ]

  -- the place from which a move leads
  from_is : (a : ℕ) → a < length moves
      → place_before stands moves a ≡ place_of l.proposers p (reviewer_at (rotation_at rotations (rotation_of moves a)) (pair_of (rotation_at rotations (rotation_of moves a)) p))
  from_is zero x = standing-some l.proposers first.proposers p _ ((moves_follow l first rotations p (rotation_of moves 0) h chain (are.sound 0 x) (are.each 0 x).moved).0 none)
    where
      none : (j : ℕ) → j < rotation_of moves 0 → DoesMove (rotation_at rotations j) p → ⊥
      none j less mv =
          let w = by_move j (omega (arith, are.sound 0 x)) mv in
          let lower = earlier 0 w.at x w.there (omega (arith, w.rotation)) in omega arith
  from_is (suc b) x =
      (are.each b (omega arith)).place
      ∙ ap (place_of l.proposers p) ((moves_follow l first rotations p (rotation_of moves (suc b)) h chain (are.sound (suc b) x) (are.each (suc b) x).moved).1 (rotation_of moves b) (are.rising b (suc b) (omega arith) x) (are.each b (omega arith)).moved none)
    where
      none : (j : ℕ) → rotation_of moves b < j → j < rotation_of moves (suc b) → DoesMove (rotation_at rotations j) p → ⊥
      none j more less mv =
          let w = by_move j (omega (arith, are.sound (suc b) x)) mv in
          let lower = earlier (suc b) w.at x w.there (omega (arith, w.rotation)) in
          let higher = earlier w.at b w.there (omega arith) (omega (arith, w.rotation)) in omega arith

  -- the level of a first place isn't above that of the first move
  pub rises_first : p < length l.proposers → GoDown l p moves → 0 < length moves → slice_index (row levels p) stands ≤ level_to (row levels p) moves 0
  rises_first less down x =
      let k : ℕ = rotation_of moves 0 in
      let up = chain.from_best.best (stage l first rotations (suc k)) (stage_stable h chain (suc k) (are.sound 0 x)) p in
      let at = move_stands h chain p k (place_to moves 0) (are.sound 0 x) (are.each 0 x) in
      elim (eq_or_ne stands (place_to moves 0)) [
        | inl same ↦ let e = ap (slice_index (row levels p)) same in omega arith
        | inr ne ↦ omega (arith, rising.rising p stands (place_to moves 0) (omega arith) (omega (arith, down.on_list 0 x, rising.per_place p less)))
      ]

  module _ (level sink node : ℕ) (last : sink ≡ suc (length rotations)) where
    abbrev comes : List (ℕ × ℕ) → Bool
    comes = moves_to l levels p level

    abbrev leaves : List (ℕ × ℕ) → Bool
    leaves = moves_off l levels p level

    -- a rotation leads to the level where its move does
    comes_of : (k : ℕ) (g : k < length rotations) → comes (rotation_at rotations k) ≡ true → (a : ℕ) × (a < length moves) × (rotation_of moves a ≡ k) × (level_to (row levels p) moves a ≡ level)
    comes_of k g e =
        let parts = and_parts _ _ e in
        let w = by_move k g (ltb-true _ _ parts.0) in
        (w.at, w.there, w.rotation, ap (level_at levels p) w.place ∙ eqb-true _ _ parts.1)

    of_comes : (a : ℕ) → a < length moves → level_to (row levels p) moves a ≡ level → comes (rotation_at rotations (rotation_of moves a)) ≡ true
    of_comes a x e = and_from _ _ (lt-ltb _ _ (are.each a x).moved) (eq-eqb _ _ (ap (level_at levels p) (sym (are.each a x).place) ∙ e))

    -- the node at which the moves come to the level is the entry of the net
    pub entry_is : IsEntryNode (row levels p) (held first.proposers p) moves level sink node → node ≡ entry_node l levels first rotations p level
    entry_is w = elim (cases_Bool (has_level levels p level (held first.proposers p))) [
      | inl e ↦ rw e (w.begins (begins_of levels p level (held first.proposers p) e))
      | inr e ↦ rw e (late (λ b. false≢true (sym e ∙ of_begins levels p level (held first.proposers p) b)))
    ]
      where
        late : (BeginsAt (row levels p) (held first.proposers p) level → ⊥) → node ≡ suc (position_or_len comes rotations)
        late out = elim (search_below (length moves) (λ a. level_to (row levels p) moves a ≡ level) (λ a _. Decided-eq (level_to (row levels p) moves a) level)) [
          | inl v ↦
              let one : IsFirstTo (row levels p) moves level v.at = record { there = v.below; leads = v.holds; earlier = v.earlier } in
              let at : position_or_len comes rotations ≡ rotation_of moves v.at = position_or_len_is comes rotations (rotation_of moves v.at) [] (omega (arith, are.sound v.at v.below))
              (λ k less. false_from_ne_true (comes (rotation_at rotations k)) (λ e. let c = comes_of k (omega (arith, are.sound v.at v.below)) e in v.earlier c.0 (earlier v.at c.0 v.below c.1 (omega (arith, c.2))) c.3))
              (λ _. of_comes v.at v.below v.holds) in
              omega (arith, w.comes out v.at one, at)
          | inr none ↦
              let at : position_or_len comes rotations ≡ length rotations = position_or_len_is comes rotations (length rotations) [] (omega arith)
              (λ k less. false_from_ne_true (comes (rotation_at rotations k)) (λ e. let c = comes_of k less e in none c.0 c.1 c.3))
              (λ less. absurd (omega arith)) in
              omega (arith, w.never out none, at, last)
        ]

    leaves_of : (k : ℕ) (g : k < length rotations) → leaves (rotation_at rotations k) ≡ true → (a : ℕ) × (a < length moves) × (rotation_of moves a ≡ k) × LeadsOff (row levels p) stands moves level a
    leaves_of k g e =
        let parts = and_parts _ _ e in
        let more = and_parts _ _ parts.1 in
        let w = by_move k g (ltb-true _ _ parts.0) in
        let from : place_before stands moves w.at ≡ place_of l.proposers p (reviewer_at (rotation_at rotations k) (pair_of (rotation_at rotations k) p)) =
        from_is w.at w.there ∙ ap (λ j. place_of l.proposers p (reviewer_at (rotation_at rotations j) (pair_of (rotation_at rotations j) p))) w.rotation in
        (w.at, w.there, w.rotation, (ap (level_at levels p) from ∙ eqb-true _ _ more.0, λ x. false≢true (sym (not_parts _ more.1) ∙ eq-eqb _ _ (ap (level_at levels p) (sym w.place) ∙ x))))

    of_leaves : (a : ℕ) → a < length moves → LeadsOff (row levels p) stands moves level a → leaves (rotation_at rotations (rotation_of moves a)) ≡ true
    of_leaves a x off = and_from _ _ (lt-ltb _ _ (are.each a x).moved) (and_from _ _
        (eq-eqb _ _ (ap (level_at levels p) (sym (from_is a x)) ∙ off.0))
        (not_from_false _ (ne_eqb _ _ (λ e. off.1 (ap (level_at levels p) (are.each a x).place ∙ e)))))

    -- the node at which the moves leave the level is the exit of the net
    pub exit_is : IsExit (row levels p) stands moves level sink node → node ≡ exit_node l levels rotations p level
    exit_is w = elim (search_below (length moves) (LeadsOff (row levels p) stands moves level) (λ a _. Decided-and (Decided-eq (slice_index (row levels p) (place_before stands moves a)) level) (Decided-not (Decided-eq (level_to (row levels p) moves a) level)))) [
      | inl v ↦
          let at : position_or_len leaves rotations ≡ rotation_of moves v.at = position_or_len_is leaves rotations (rotation_of moves v.at) [] (omega (arith, are.sound v.at v.below))
          (λ k less. false_from_ne_true (leaves (rotation_at rotations k)) (λ e. let c = leaves_of k (omega (arith, are.sound v.at v.below)) e in v.earlier c.0 (earlier v.at c.0 v.below c.1 (omega (arith, c.2))) c.3))
          (λ _. of_leaves v.at v.below v.holds) in
          omega (arith, w.leaves v.at v.below v.holds, at)
      | inr none ↦
          let at : position_or_len leaves rotations ≡ length rotations = position_or_len_is leaves rotations (length rotations) [] (omega arith)
          (λ k less. false_from_ne_true (leaves (rotation_at rotations k)) (λ e. let c = leaves_of k less e in none c.0 c.1 c.3))
          (λ less. absurd (omega arith)) in
          omega (arith, w.never none, at, last)
    ]
