-- A chain that is noted grows rotation by rotation.
use Rattle.std.proofs.Common.{◌≡◌, ℕ, zero, suc, ◌+◌, ◌<◌, ◌≤◌, inl, inr, arith, refl, sym, ap, ◌∙◌, List, [], ◌∷◌, ◌++◌, length, Option, take, slice_index_or}
use Rattle.std.proofs.lemmas.List.{length_push, get_or_append_left, get_or_push, get_or_past, get_or-take, length-take-le, take_more}
use Rattle.sm_lists.proofs.Counting.{lt_or_le, eq_or_ne}
use Rattle.sm_market.specs.Lists.{Lists, row, IsMarket}
use Rattle.sm_market.specs.Matching.{Places, IsMatching}
use Rattle.sm_market.specs.Vectors.{rows_of}
use Rattle.sm_theory.specs.Rotations.{IsExposed, eliminated}
use Rattle.sm_theory.specs.Chains.{rotation_at, stage, AreEliminable}
use Rattle.sm_theory.proofs.Core.Chain.{needs_lower}
use Rattle.sm_theory.proofs.Bridge.Chain.{rotation_at-push_before, rotation_at-push_new, eliminable_more, way_along, needs_of}
use Rattle.sm_theory.proofs.Chains.Marks.{last_longer, marks_longer, last_pushed, marks_pushed}
use Rattle.sm_rotations.specs.Graph.{times, AreFollowers, AreAddedTo}
use Rattle.sm_rotations.specs.Marking.{AreLastMoves, AreMarks, AreMoved, AreMarked, IsFoundNeed, Adds}
use Rattle.sm_rotations.specs.Noting.{AreNoted}
use Rattle.sm_rotations.specs.declared.notes.Notes.{Notes}
use Rattle.sm_rotations.proofs.ChainLemmas.{followed, found_in_range}

-- one more rotation in the chain
module _ {l : Lists} {first m : Places} {rotations : List (List (ℕ × ℕ))} (chain : AreEliminable l first rotations) (is : m ≡ stage l first rotations (length rotations)) (rotation : List (ℕ × ℕ)) (x : IsExposed l m rotation) where
  longer : AreEliminable l first (rotations ++ rotation ∷ [])
  longer = eliminable_more rotation chain is x

  -- nobody of the chain needs the one behind it
  pub followers_longer : IsMarket l → IsMatching l first → {followers : List (List ℕ)} → AreFollowers l rotations (length rotations) followers → AreFollowers l (rotations ++ rotation ∷ []) (length rotations) (followers ++ [] ∷ [])
  followers_longer h f {followers} a = record {
    one_each = omega (arith, a.one_each, length_push rotations rotation, length_push followers []);
    sound = λ i j some. elim (lt_or_le i (length rotations)) [
      | inl less ↦
          let w = a.sound i j (rw (old i less) at some) in
          (w.0, omega (arith, length_push rotations rotation, less), rw (rotation_at-push_before rotations rotation i less, rotation_at-push_before rotations rotation j w.0) w.2)
      | inr more ↦ absurd (omega (arith, some, nobody i j more))
    ];
    all = λ i j below within need. elim (lt_or_le i (length rotations)) [
      | inl less ↦ rw (old i less) (a.all i j below less (rw (rotation_at-push_before rotations rotation i less, rotation_at-push_before rotations rotation j below) at need))
      | inr more ↦ absurd (omega (arith, needs_lower (way_along h f longer) i j within (omega (arith, length_push rotations rotation, below)) (needs_of h need)))
    ];
    once = λ i j. elim (lt_or_le i (length rotations)) [
      | inl less ↦ rw (old i less) (a.once i j)
      | inr more ↦ omega (arith, nobody i j more)
    ];
  }
    where
      old : (i : ℕ) → i < length rotations → row (followers ++ [] ∷ []) i ≡ row followers i
      old i less = get_or_append_left followers ([] ∷ []) [] i (omega (arith, a.one_each))

      empty : (i : ℕ) → length rotations ≤ i → row (followers ++ [] ∷ []) i ≡ []
      empty i more = elim (eq_or_ne i (length rotations)) [
        | inl e ↦ get_or_push followers [] [] i (omega (arith, a.one_each))
        | inr ne ↦ get_or_past (followers ++ [] ∷ []) i [] (omega (arith, length_push followers [], a.one_each))
      ]

      nobody : (i j : ℕ) → length rotations ≤ i → times (row (followers ++ [] ∷ []) i) j ≡ 0
      nobody i j more = ap (λ xs. times xs j) (empty i more)

  -- what is found for it are rotations of the chain, or itself
  pub found_within : (h : IsMarket l) → IsMatching l first → {notes : List (Option ℕ)} {marks : List (List (Option ℕ))} → AreLastMoves rotations (length rotations) notes → AreMarks l rotations (length rotations) marks
      → {found : List ℕ} → Adds (λ i. IsFoundNeed l rotation (length rotation) notes marks i) [] found → (a : ℕ) → a < length found → slice_index_or found a 0 < length rotations + 1
  found_within h f {notes} {marks} last marked {found} adds a less =
      let new : rotation_at (rotations ++ rotation ∷ []) (length rotations) ≡ rotation = rotation_at-push_new rotations rotation (length rotations) refl in
      let inside : length rotations < length (rotations ++ rotation ∷ []) = omega (arith, length_push rotations rotation) in
      omega (arith, length_push rotations rotation, found_in_range h f longer inside (last_longer rotation (omega arith) last) (marks_longer rotation (omega arith) marked) (rw new adds) a less)

  -- once it is noted and added to what is found for it, the longer chain is noted
  module _ (h : IsMarket l) {notes : Notes} (a : AreNoted l first rotations notes) {found : List ℕ} (adds : Adds (λ i. IsFoundNeed l rotation (length rotation) notes.last.items notes.marks i) [] found) where
    pub noted_more : (after : Notes) → AreMoved rotation (length rotation) (length rotations) notes.last.items after.last.items → AreMarked l rotation (length rotation) (length rotations) notes.marks after.marks
        → AreAddedTo (length rotations) found (rows_of notes.followers.items ++ [] ∷ []) (rows_of after.followers.items) → AreNoted l first (rotations ++ rotation ∷ []) after
    noted_more after moved marked added =
        let long : length rotations + 1 ≡ length (rotations ++ rotation ∷ []) = sym (length_push rotations rotation) in
        let new : rotation_at (rotations ++ rotation ∷ []) (length rotations) ≡ rotation = rotation_at-push_new rotations rotation (length rotations) refl in
        let inside : length rotations < length (rotations ++ rotation ∷ []) = omega arith in
        let before = last_longer rotation (omega arith) a.last in
        let before' = marks_longer rotation (omega arith) a.marks in
        record {
          matching = a.matching;
          eliminable = longer;
          one_each = moved.one_each ∙ a.one_each;
          last = last_pushed rotation a.last moved;
          marks = marks_pushed rotation h a.matching longer a.marks marked;
          followers = rw long at (followed h a.matching longer inside before before' (rw new adds) (followers_longer h a.matching a.followers) added);
        }

-- the stages of a chain that is cut off stay as they are
stage_front : (l : Lists) (first : Places) (xs : List (List (ℕ × ℕ))) (i k : ℕ) → k ≤ i → stage l first (take i xs) k ≡ stage l first xs k
stage_front l first xs i zero le = refl
stage_front l first xs i (suc k) le = ap (λ m. eliminated l m (rotation_at (take i xs) k)) (stage_front l first xs i k (omega arith)) ∙ ap (eliminated l (stage l first xs k)) (get_or-take i xs k [] (omega arith))

-- the rotations before one lead to the matching at which it is exposed
pub front_leads : (l : Lists) (first : Places) {m : Places} (xs : List (List (ℕ × ℕ))) (i : ℕ) → i ≤ length xs → m ≡ stage l first xs i → m ≡ stage l first (take i xs) (length (take i xs))
front_leads l first xs i le e = e ∙ sym (stage_front l first xs i i (omega arith)) ∙ ap (stage l first (take i xs)) (sym (length-take-le i xs le))

-- and with it they are one more
pub front_more : {l : Lists} {first : Places} {notes : Notes} (xs : List (List (ℕ × ℕ))) (i : ℕ) (rotation : List (ℕ × ℕ)) → i < length xs → rotation ≡ rotation_at xs i → AreNoted l first (take i xs ++ rotation ∷ []) notes → AreNoted l first (take (i + 1) xs) notes
front_more xs i rotation less is a =
    let more : take (i + 1) xs ≡ take i xs ++ rotation ∷ [] = take_more xs i [] less ∙ ap (λ (r : List (ℕ × ℕ)). take i xs ++ r ∷ []) (sym is) in
    rw more a
