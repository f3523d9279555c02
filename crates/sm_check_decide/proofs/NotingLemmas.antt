-- Rotations are noted, one after another.
use Rattle.std.proofs.Common.{◌≡◌, ◌≢◌, ℕ, ◌+◌, ◌-◌, ◌<◌, ◌⊎◌, inl, inr, arith, refl, sym, ap, ◌∙◌, List, [], ◌∷◌, ◌++◌, length, slice_index, Option, None, Some}
use Rattle.std.specs.List.{Contains}
use Rattle.std.proofs.lemmas.List.{length_push, get_or_default}
use Rattle.std.proofs.lemmas.Option.{same_Some}
use Rattle.sm_market.specs.Lists.{Lists, entry, place_of, IsMarket}
use Rattle.sm_market.specs.Matching.{Places, standing, IsMatching}
use Rattle.sm_lists.proofs.Counting.{eq_or_ne}
use Rattle.sm_lists.proofs.PlaceLemmas.{entry-place_of}
use Rattle.sm_market.proofs.Core.{Pair}
use Rattle.sm_market.proofs.Bridge.{sides_of, stand_of}
use Rattle.sm_theory.specs.Rotations.{IsExposed, proposer_at, reviewer_at, target_at, next_in}
use Rattle.sm_theory.proofs.Core.Cycle.{turn, turn_in}
use Rattle.sm_theory.proofs.Bridge.Rotation.{exposed_of}
use Rattle.sm_theory.specs.Chains.{rotation_at, stage, AreNeedsOf}
use Rattle.sm_theory.specs.Marks.{note_of, marks_of, mark_at, AreMarksFor, AreMoved, AreMarked, IsBetween, IsFoundNeed, Adds}
use Rattle.sm_theory.proofs.Bridge.Chain.{rotation_at-push_new, eliminable_more}
use Rattle.sm_theory.proofs.Chains.Marks.{last_longer, marks_longer, last_pushed, marks_pushed, found_is_need, need_is_found}
use Rattle.sm_theory.proofs.Chains.Marking.{adds_join, last_start, marks_start}
use Rattle.sm_check_decide.proofs.AmongLemmas.{all_among, apart_rising, as_many}
use Rattle.sm_check_decide.specs.Noting.{RotationNotes, AreNotesBelow, AreNoted}

-- what is noted and marked after one more rotation is below the next number
pub below_noted : {l : Lists} {rotation : List (ℕ × ℕ)} {n k j : ℕ} {last last' : List (Option ℕ)} {marks marks' : List (List (Option ℕ))}
    → AreNotesBelow j last marks → AreMoved rotation n j last last' → AreMarked l rotation k j marks marks' → AreNotesBelow (j + 1) last' marks'
below_noted {j = j} b v m = record {
  noted = λ p i e. elim (v.only p) [
    | inl same ↦ omega (arith, b.noted p i (sym same ∙ e))
    | inr w ↦ let x : j ≡ i = same_Some _ _ (sym w.0 ∙ e) in omega arith
  ];
  marked = λ p x i e. elim (m.only p x) [
    | inl same ↦ omega (arith, b.marked p x i (sym same ∙ e))
    | inr w ↦ let y : j ≡ i = same_Some _ _ (sym w.0 ∙ e) in omega arith
  ];
}

-- what the pairs of a rotation are found to need, pair by pair
module _ {l : Lists} {rotation : List (ℕ × ℕ)} {notes : List (Option ℕ)} {marks : List (List (Option ℕ))} {n : ℕ} where
  found_wider : {i : ℕ} → IsFoundNeed l rotation n notes marks i → IsFoundNeed l rotation (n + 1) notes marks i
  found_wider (inl w) = inl (record { pair = w.pair; pair_in = omega (arith, w.pair_in); noted = w.noted })
  found_wider (inr w) = inr (record { pair = w.pair; pair_in = omega (arith, w.pair_in); between = w.between })

  module _ (p from to : ℕ) (is : p ≡ proposer_at rotation n) (from_is : from ≡ place_of l.proposers p (reviewer_at rotation n)) (to_is : to ≡ place_of l.proposers p (target_at rotation n)) where
    -- what is found for one more pair: the note of its proposer, and the marks between the places of its move
    pub found_more : {xs ys zs ws : List ℕ} → Adds (λ i. IsFoundNeed l rotation n notes marks i) xs ys → Adds (λ i. note_of notes p ≡ Some i) ys zs → Adds (λ i. IsBetween (marks_of marks p) from to i) zs ws
        → Adds (λ i. IsFoundNeed l rotation (n + 1) notes marks i) xs ws
    found_more a b c = adds_join (λ i. IsFoundNeed l rotation (n + 1) notes marks i)
        (adds_join (λ i. IsFoundNeed l rotation n notes marks i ⊎ (note_of notes p ≡ Some i)) a b (λ i w. inl w) (λ i w. inr w) (λ i w. w))
        c
        forth
        (λ i w. inr (record { pair = n; pair_in = omega arith; between = rw (← is, ← from_is, ← to_is) w }))
        back
      where
        forth : (i : ℕ) → IsFoundNeed l rotation n notes marks i ⊎ (note_of notes p ≡ Some i) → IsFoundNeed l rotation (n + 1) notes marks i
        forth i (inl w) = found_wider w
        forth i (inr e) = inl (record { pair = n; pair_in = omega arith; noted = rw (← is) e })

        back : (i : ℕ) → IsFoundNeed l rotation (n + 1) notes marks i → (IsFoundNeed l rotation n notes marks i ⊎ (note_of notes p ≡ Some i)) ⊎ IsBetween (marks_of marks p) from to i
        back i (inl w) = elim (eq_or_ne w.pair n) [
          | inl e ↦ inl (inr (ap (note_of notes) (is ∙ ap (proposer_at rotation) (sym e)) ∙ w.noted))
          | inr e ↦ inl (inl (inl (record { pair = w.pair; pair_in = omega (arith, w.pair_in); noted = w.noted })))
        ]
        back i (inr w) = elim (eq_or_ne w.pair n) [
          | inl e ↦ inr (rw (from_is, to_is, is) (rw e at w.between))
          | inr e ↦ inl (inl (inr (record { pair = w.pair; pair_in = omega (arith, w.pair_in); between = w.between })))
        ]

-- one more rotation in the chain
module _ {l : Lists} {first : Places} {rotations : List (List (ℕ × ℕ))} (rotation : List (ℕ × ℕ)) (h : IsMarket l) {m : Places} {last last' : List (Option ℕ)} {marks marks' : List (List (Option ℕ))} {most j most' j' : ℕ} {old found : List ℕ}
    (a : AreNoted l first rotations (record { most = most; count = j; last = last; marks = marks; found = old })) (is : m ≡ stage l first rotations (length rotations)) (x : IsExposed l m rotation) where
  -- it is noted, and it is found what it needs
  pub noted_more : AreMoved rotation (length rotation) j last last' → AreMarked l rotation (length rotation) j marks marks' → Adds (λ i. IsFoundNeed l rotation (length rotation) last marks i) [] found → j' ≡ j + 1
      → AreNoted l first (rotations ++ rotation ∷ []) (record { most = most'; count = j'; last = last'; marks = marks'; found = found })
  noted_more moved marked adds count =
      let chain = eliminable_more rotation a.eliminable is x in
      let long : length rotations + 1 ≡ length (rotations ++ rotation ∷ []) = sym (length_push rotations rotation) in
      let new : rotation_at (rotations ++ rotation ∷ []) (length rotations) ≡ rotation = rotation_at-push_new rotations rotation (length rotations) refl in
      let inside : length rotations < length (rotations ++ rotation ∷ []) = omega arith in
      let before = last_longer rotation (omega arith) a.last in
      let before' = marks_longer rotation (omega arith) a.marks in
      let newest : length (rotations ++ rotation ∷ []) - 1 ≡ length rotations = omega arith in
      record {
        matching = a.matching;
        eliminable = chain;
        count = omega (arith, a.count);
        last = last_pushed rotation a.last (rw a.count at moved);
        marks = marks_pushed rotation h a.matching chain a.marks (rw a.count at marked);
        sound = λ i w. rw newest (elim (adds.only i w) [
          | inl none ↦ absurd (omega (arith, none.1))
          | inr is_found ↦ found_is_need h a.matching chain inside before before' i (rw new is_found)
        ]);
        all = λ i less need. adds.added i (rw new at (need_is_found h a.matching chain inside before before' i less (rw newest at need)));
      }

-- the place to which a proposer of an exposed rotation moves, and what it means for the next reviewer
module _ {l : Lists} (h : IsMarket l) {m : Places} (f : IsMatching l m) {rotation : List (ℕ × ℕ)} (x : IsExposed l m rotation) (i : ℕ) (inside : i < length rotation) where
  -- the proposer's own place is that of the reviewer that it leaves
  pub from_is : standing l.proposers m.proposers (proposer_at rotation i) ≡ place_of l.proposers (proposer_at rotation i) (reviewer_at rotation i)
  from_is = sym ((exposed_of h f x).paired i inside).place_is

  next_pair : Pair (sides_of l h) (stand_of l m) (proposer_at rotation (next_in rotation i)) (target_at rotation i)
  next_pair = (exposed_of h f x).paired (turn (length rotation) i) (turn_in (length rotation) i inside)

  -- the place of the next reviewer in the matching is that of the next proposer on its list
  pub worse_is : standing l.reviewers m.reviewers (target_at rotation i) ≡ place_of l.reviewers (target_at rotation i) (proposer_at rotation (next_in rotation i))
  worse_is = sym next_pair.rank_is

  -- the next reviewer likes the proposer more than its partner
  pub gains : place_of l.reviewers (target_at rotation i) (proposer_at rotation i) < standing l.reviewers m.reviewers (target_at rotation i)
  gains = ((exposed_of h f x).next i inside).takes

  -- the next reviewer stands on the proposer's list, at the place to which it moves
  pub lands_on : entry l.proposers (proposer_at rotation i) (place_of l.proposers (proposer_at rotation i) (target_at rotation i)) ≡ target_at rotation i
  lands_on = entry-place_of l.proposers (proposer_at rotation i) (target_at rotation i) (x.next i inside).on_list

-- nothing is noted at first
pub noted_none : {l : Lists} {first : Places} {last : List (Option ℕ)} {marks : List (List (Option ℕ))} (most : ℕ) → IsMatching l first → AreMarksFor l marks → ((p x : ℕ) → mark_at marks p x ≡ None) → ((p : ℕ) → note_of last p ≡ None)
    → AreNoted l first [] (record { most = most; count = 0; last = last; marks = marks; found = [] })
noted_none {last = last} most f for_entries unmarked unnoted = record {
  matching = f;
  eliminable = record { exposed = λ k less. absurd (omega arith) };
  count = refl;
  last = last_start [] last unnoted;
  marks = marks_start for_entries unmarked;
  sound = λ i w. absurd (omega (arith, w.1));
  all = λ i less need. absurd (omega arith);
}

-- which numbers are the needs of the newest rotation
module _ {l : Lists} {first : Places} {rotations : List (List (ℕ × ℕ))} {n : RotationNotes} (a : AreNoted l first rotations n) where
  -- numbers that rise, were found, and are as many as those that were found
  pub needs_of_found : (needs : List ℕ) → ((x y : ℕ) → x < y → y < length needs → slice_index needs x < slice_index needs y) → ((x : ℕ) → x < length needs → Contains n.found (slice_index needs x)) → length needs ≡ length n.found
      → AreNeedsOf l rotations (length rotations - 1) needs
  needs_of_found needs rising among as_long = record {
    rising = rising;
    sound = λ x less. (a.sound (slice_index needs x) (among x less)).0;
    each = λ x less. (a.sound (slice_index needs x) (among x less)).1;
    all = λ i less need. all_among needs n.found (apart_rising rising) among (omega (arith, as_long)) i (a.all i less need);
  }

  -- what the newest rotation needs has been found
  pub found_of_needs : {needs : List ℕ} → AreNeedsOf l rotations (length rotations - 1) needs → (x : ℕ) → x < length needs → Contains n.found (slice_index needs x)
  found_of_needs {needs} w x less = a.all (slice_index needs x) (w.sound x less) (w.each x less)

  -- numbers that were found once each are as many as the needs of the newest rotation
  pub as_long_as : {needs : List ℕ} → AreNeedsOf l rotations (length rotations - 1) needs → ((x y : ℕ) → x < y → y < length n.found → slice_index n.found x ≢ slice_index n.found y) → length needs ≡ length n.found
  as_long_as {needs} w apart = as_many needs n.found (apart_rising w.rising) (record { apart = apart }) (found_of_needs w)
      (λ k less. let s = a.sound (slice_index n.found k) (k, less, get_or_default n.found k (slice_index n.found k) 0 less) in w.all (slice_index n.found k) s.0 s.1)
