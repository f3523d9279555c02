-- What is noted of rotations that are eliminated one after the other tells what each one needs.
use Rattle.std.proofs.Common.{◌≡◌, ℕ, suc, ◌+◌, ◌<◌, ◌≤◌, inl, inr, arith, refl, sym, ap, ◌∙◌, List, [], ◌∷◌, ◌++◌, length, Option, None, Some, IsSome}
use Rattle.std.proofs.lemmas.List.{length_push}
use Rattle.std.proofs.lemmas.Option.{same_Some}
use Rattle.sm_market.specs.Lists.{Lists, row, entry, place_of, IsMarket}
use Rattle.sm_market.specs.Matching.{Places, IsMatching}
use Rattle.sm_lists.proofs.Counting.{lt_or_le, eq_or_ne, Last}
use Rattle.sm_market.proofs.Core.{Pair}
use Rattle.sm_market.proofs.PlaceLemmas.{place_of-entry}
use Rattle.sm_lists.proofs.PlaceLemmas.{entry-place_of}
use Rattle.sm_market.proofs.Bridge.{sides_of, stand_of}
use Rattle.sm_theory.specs.Rotations.{proposer_at, reviewer_at, target_at, next_in}
use Rattle.sm_theory.specs.Chains.{rotation_at, stage, AreEliminable, IsNeededBy}
use Rattle.sm_theory.specs.Marks.{note_of, Moves, MovesOver, AreLastMoves, AreMarks, AreMoved, AreMarked, IsLastOf, IsPassedBy, IsFoundNeed}
use Rattle.sm_theory.proofs.Core.Cycle as CoreCycle
use Rattle.sm_theory.proofs.Core.Cycle.{Cycle, turn, turn_in, target, Exposed, moves_at}
use Rattle.sm_theory.proofs.Core.Chain.{rise, fall, up_at, moved_to, needs_lower, last_needed}
use Rattle.sm_theory.proofs.Bridge.Rotation.{cycle_of}
use Rattle.sm_theory.proofs.Bridge.Chain.{rotation_at-push_before, rotation_at-push_new, way_along, needs_of, needs_back}

-- a rotation that moves p over lists moves it as a cycle
pub moves_core : {rotation : List (ℕ × ℕ)} {p : ℕ} → Moves rotation (length rotation) p → CoreCycle.Moves (cycle_of rotation) p
moves_core {rotation} w = rw w.is at (moves_at (cycle_of rotation) w.pair w.pair_in)

-- who is noted is noted with a number
record IsNoted (o : Option ℕ) : Type 0 where
  pub number : ℕ
  pub is : o ≡ Some number

noted_number : (o : Option ℕ) → IsSome o → IsNoted o
noted_number None x = absurd (grind (arith, x))
noted_number (Some i) x = record { number = i; is = refl }

-- once all pairs of rotation j are noted, the notes are those of one rotation more
pub last_more : {rotations : List (List (ℕ × ℕ))} {j : ℕ} {before after : List (Option ℕ)} → AreLastMoves rotations j before → AreMoved (rotation_at rotations j) (length (rotation_at rotations j)) j before after → AreLastMoves rotations (j + 1) after
last_more {rotations} {j} {before} {after} a m = record {
  below = λ p i e. elim (m.only p) [
    | inl same ↦ let b = a.below p i (sym same ∙ e) in omega arith
    | inr w ↦ let x : j ≡ i = same_Some _ _ (sym w.0 ∙ e) in omega arith
  ];
  moves = λ p i e. elim (m.only p) [
    | inl same ↦ a.moves p i (sym same ∙ e)
    | inr w ↦ let x : j ≡ i = same_Some _ _ (sym w.0 ∙ e) in rw x at w.1
  ];
  last = λ p i k e less below w. elim (m.only p) [
    | inl same ↦ elim (eq_or_ne k j) [
      | inl x ↦
          let v : Moves (rotation_at rotations j) (length (rotation_at rotations j)) p = rw x at w in
          let now : note_of after p ≡ Some j = rw v.is at (m.moved v.pair v.pair_in) in
          let b = a.below p i (sym same ∙ e) in
          let y : j ≡ i = same_Some _ _ (sym now ∙ e) in omega arith
      | inr x ↦ a.last p i k (sym same ∙ e) less (omega arith) w
    ]
    | inr v ↦ let x : j ≡ i = same_Some _ _ (sym v.0 ∙ e) in omega arith
  ];
  noted = λ p i below w. elim (m.only p) [
    | inr v ↦ rw v.0 refl
    | inl same ↦ elim (eq_or_ne i j) [
      | inl x ↦
          let v : Moves (rotation_at rotations j) (length (rotation_at rotations j)) p = rw x at w in
          let now : note_of after p ≡ Some j = rw v.is at (m.moved v.pair v.pair_in) in
          rw now refl
      | inr x ↦ rw same (a.noted p i (omega arith) w)
    ]
  ];
}

module _ {l : Lists} (h : IsMarket l) {first : Places} (f : IsMatching l first) {rotations : List (List (ℕ × ℕ))} (chain : AreEliminable l first rotations) where
  -- no two rotations move a reviewer over one entry
  pub once_over : (p x i j : ℕ) → i < j → j < length rotations → MovesOver l (rotation_at rotations i) (length (rotation_at rotations i)) p x → MovesOver l (rotation_at rotations j) (length (rotation_at rotations j)) p x → ⊥
  once_over p x i j less inside w v =
      let ch = way_along h f chain in
      let r : ℕ = entry l.proposers p x in
      let new : Pair (sides_of l h) (stand_of l (stage l first rotations (suc i))) (proposer_at (rotation_at rotations i) w.pair) r = rw w.reviewer at (moved_to ch i w.pair (omega arith) w.pair_in) in
      let c : ℕ = length (rotation_at rotations j) in
      let old : Pair (sides_of l h) (stand_of l (stage l first rotations j)) (proposer_at (rotation_at rotations j) (next_in (rotation_at rotations j) v.pair)) r = rw v.reviewer at ((ch.exposed j inside).paired (turn c v.pair) (turn_in c v.pair v.pair_in)) in
      omega (arith, new.rank_is, old.rank_is, w.gains, v.loses, fall ch r (suc i) j (omega arith) (omega arith))

  -- once all pairs of rotation j are marked, the marks are those of one rotation more
  pub marks_more : {j : ℕ} {before after : List (List (Option ℕ))} → j < length rotations → AreMarks l rotations j before → AreMarked l (rotation_at rotations j) (length (rotation_at rotations j)) j before after → AreMarks l rotations (j + 1) after
  marks_more {j} {before} {after} inside a m = record {
    for_entries = m.for_entries;
    below = λ p x i e. elim (m.only p x) [
      | inl same ↦ let b = a.below p x i (sym same ∙ e) in omega arith
      | inr w ↦ let y : j ≡ i = same_Some _ _ (sym w.0 ∙ e) in omega arith
    ];
    moves = λ p x i e. elim (m.only p x) [
      | inl same ↦ a.moves p x i (sym same ∙ e)
      | inr w ↦ let y : j ≡ i = same_Some _ _ (sym w.0 ∙ e) in rw y at w.1
    ];
    all = λ p x i on below w. elim (eq_or_ne i j) [
      | inl e ↦ rw e (m.marked p x on (rw e at w))
      | inr e ↦ elim (m.only p x) [
        | inl same ↦ same ∙ a.all p x i on (omega arith) w
        | inr v ↦ absurd (once_over p x i j (omega arith) inside w v.1)
      ]
    ];
  }

  module _ {j : ℕ} (inside : j < length rotations) {notes : List (Option ℕ)} {marks : List (List (Option ℕ))} (a : AreLastMoves rotations j notes) (m : AreMarks l rotations j marks) where
    -- what is noted and marked is needed
    last_is_need : (i : ℕ) → IsLastOf (rotation_at rotations j) (length (rotation_at rotations j)) notes i → (i < length rotations) × IsNeededBy l (rotation_at rotations i) (rotation_at rotations j)
    last_is_need i w =
        let p : ℕ = proposer_at (rotation_at rotations j) w.pair in
        let below = a.below p i w.noted in
        let last : Last j (λ k. CoreCycle.Moves (cycle_of (rotation_at rotations k)) p) = record {
          at = i;
          below = below;
          holds = moves_core (a.moves p i w.noted);
          later = λ k more less v. a.last p i k w.noted more less (record { pair = v.at; pair_in = v.below; is = v.holds });
        } in
        (omega arith, needs_back h (rotation_at rotations i) (rotation_at rotations j) (last_needed (way_along h f chain) p j inside (moves_at (cycle_of (rotation_at rotations j)) w.pair w.pair_in) last))

    mark_is_need : (i : ℕ) → IsPassedBy l (rotation_at rotations j) (length (rotation_at rotations j)) marks i → (i < length rotations) × IsNeededBy l (rotation_at rotations i) (rotation_at rotations j)
    mark_is_need i w =
        let p : ℕ = proposer_at (rotation_at rotations j) w.pair in
        let x : ℕ = w.between.place in
        let below = m.below p x i w.between.marked in
        let v = m.moves p x i w.between.marked in
        let on : place_of l.proposers p (target_at (rotation_at rotations j) w.pair) < length (row l.proposers p) = ((chain.exposed j inside).next w.pair w.pair_in).on_list in
        let here : place_of l.proposers p (entry l.proposers p x) ≡ x = place_of-entry h.proposers p x (omega (arith, on, w.between.before)) in (
          omega arith,
          inr (record {
            pair = v.pair;
            pair_in = v.pair_in;
            other = w.pair;
            other_in = w.pair_in;
            behind = rw v.reviewer (rw here w.between.behind);
            before = rw v.reviewer (rw here w.between.before);
            gains = rw v.reviewer v.gains;
            loses = rw v.reviewer v.loses;
          }),
        )

    -- each rotation that is found is a predecessor of j
    pub found_is_need : (i : ℕ) → IsFoundNeed l (rotation_at rotations j) (length (rotation_at rotations j)) notes marks i → (i < length rotations) × IsNeededBy l (rotation_at rotations i) (rotation_at rotations j)
    found_is_need i (inl w) = last_is_need i w
    found_is_need i (inr w) = mark_is_need i w

    -- what is needed is noted or marked
    pub need_is_found : (i : ℕ) → i < length rotations → IsNeededBy l (rotation_at rotations i) (rotation_at rotations j) → IsFoundNeed l (rotation_at rotations j) (length (rotation_at rotations j)) notes marks i
    need_is_found i below (inl w) =
        let ch = way_along h f chain in
        let early : i < j = needs_lower ch i j below inside (needs_of h (inl w)) in
        let p : ℕ = proposer_at (rotation_at rotations j) w.other in
        let moves : Moves (rotation_at rotations i) (length (rotation_at rotations i)) p = record { pair = w.pair; pair_in = w.pair_in; is = w.same_proposer } in
        let n = noted_number (note_of notes p) (a.noted p i early moves) in
        let k : ℕ = n.number in
        let k_below = a.below p k n.is in
        let new : Pair (sides_of l h) (stand_of l (stage l first rotations (suc i))) p (reviewer_at (rotation_at rotations j) w.other) = rw (w.same_proposer, w.same_reviewer) at (moved_to ch i w.pair below w.pair_in) in
        let old = (ch.exposed j inside).paired w.other w.other_in in
        let same : k ≡ i = elim (lt_or_le i k) [
          | inl less ↦
              let up = up_at ch k p (omega arith) (moves_core (a.moves p k n.is)) in
              absurd (omega (arith, up, new.place_is, old.place_is, rise ch p (suc i) k (omega arith) (omega arith), rise ch p (suc k) j (omega arith) (omega arith)))
          | inr more ↦ elim (eq_or_ne k i) [ inl e ↦ e | inr e ↦ absurd (a.last p k i n.is (omega arith) early moves) ]
        ] in
        inl (record { pair = w.other; pair_in = w.other_in; noted = n.is ∙ ap Some same })
    need_is_found i below (inr w) =
        let ch = way_along h f chain in
        let early : i < j = needs_lower ch i j below inside (needs_of h (inr w)) in
        let p : ℕ = proposer_at (rotation_at rotations j) w.other in
        let r : ℕ = target_at (rotation_at rotations i) w.pair in
        let x : ℕ = place_of l.proposers p r in
        let next = (chain.exposed j inside).next w.other w.other_in in
        let on : x < length (row l.proposers p) = omega (arith, w.before, next.on_list) in
        let here : entry l.proposers p x ≡ r = entry-place_of l.proposers p r on in
        inr (record {
          pair = w.other;
          pair_in = w.other_in;
          between = record {
            place = x;
            behind = w.behind;
            before = w.before;
            marked = m.all p x i on early (record { pair = w.pair; pair_in = w.pair_in; reviewer = sym here; gains = rw here w.gains; loses = rw here w.loses });
          };
        })

-- one more rotation behind others
module _ {rotations : List (List (ℕ × ℕ))} (rotation : List (ℕ × ℕ)) where
  -- what is noted of the first n stays so
  pub last_longer : {n : ℕ} {notes : List (Option ℕ)} → n ≤ length rotations → AreLastMoves rotations n notes → AreLastMoves (rotations ++ rotation ∷ []) n notes
  last_longer {n} le a = record {
    below = a.below;
    moves = λ p i e. rw (rotation_at-push_before rotations rotation i (omega (arith, a.below p i e))) (a.moves p i e);
    last = λ p i k e more less w. a.last p i k e more less (rw (rotation_at-push_before rotations rotation k (omega arith)) at w);
    noted = λ p i less w. a.noted p i less (rw (rotation_at-push_before rotations rotation i (omega arith)) at w);
  }

  -- and so are their marks
  pub marks_longer : {l : Lists} {n : ℕ} {marks : List (List (Option ℕ))} → n ≤ length rotations → AreMarks l rotations n marks → AreMarks l (rotations ++ rotation ∷ []) n marks
  marks_longer {l} {n} le a = record {
    for_entries = a.for_entries;
    below = a.below;
    moves = λ p x i e. rw (rotation_at-push_before rotations rotation i (omega (arith, a.below p x i e))) (a.moves p x i e);
    all = λ p x i on less w. a.all p x i on less (rw (rotation_at-push_before rotations rotation i (omega arith)) at w);
  }

  -- once all its pairs are noted, the notes are those of all
  pub last_pushed : {before after : List (Option ℕ)} → AreLastMoves rotations (length rotations) before → AreMoved rotation (length rotation) (length rotations) before after
      → AreLastMoves (rotations ++ rotation ∷ []) (length (rotations ++ rotation ∷ [])) after
  last_pushed {before} {after} a m =
      let moved : AreMoved (rotation_at (rotations ++ rotation ∷ []) (length rotations)) (length (rotation_at (rotations ++ rotation ∷ []) (length rotations))) (length rotations) before after = rw (rotation_at-push_new rotations rotation (length rotations) refl) m in
      rw (sym (length_push rotations rotation)) at (last_more (last_longer (omega arith) a) moved)

  -- once they are marked, the marks are those of all
  pub marks_pushed : {l : Lists} → IsMarket l → {first : Places} → IsMatching l first → AreEliminable l first (rotations ++ rotation ∷ []) → {before after : List (List (Option ℕ))} → AreMarks l rotations (length rotations) before
      → AreMarked l rotation (length rotation) (length rotations) before after → AreMarks l (rotations ++ rotation ∷ []) (length (rotations ++ rotation ∷ [])) after
  marks_pushed {l} h f chain {before} {after} a m =
      let marked : AreMarked l (rotation_at (rotations ++ rotation ∷ []) (length rotations)) (length (rotation_at (rotations ++ rotation ∷ []) (length rotations))) (length rotations) before after = rw (rotation_at-push_new rotations rotation (length rotations) refl) m in
      rw (sym (length_push rotations rotation)) at (marks_more h f chain (omega (arith, length_push rotations rotation)) (marks_longer (omega arith) a) marked)
