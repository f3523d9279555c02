-- Where the successors of the proposers on the stack stand.
use Rattle.std.proofs.Common.{◌≡◌, ◌≢◌, ℕ, ◌+◌, ◌<◌, inl, inr, arith, sym, ap, ◌∙◌, List, [], ◌∷◌, ◌++◌, length, take, slice_index, Option, Bool}
use Rattle.std.proofs.lemmas.List.{get_or_append_left, get_or-take, length-take-le, length_push}
use Rattle.std.proofs.lemmas.Option.{same_Some}
use Rattle.sm_lists.proofs.Counting.{eq_or_ne}
use Rattle.sm_market.specs.Lists.{Lists, IsMarket}
use Rattle.sm_market.specs.Matching.{Places}
use Rattle.sm_market.specs.Stable.{IsStable}
use Rattle.sm_theory.specs.Rotations.{IsSuccessor, IsExposed, proposer_at, eliminated}
use Rattle.sm_rotations.specs.Footings.{AreTargetPlaces}
use Rattle.sm_rotations.specs.Walking.{spot_of, IsStack, AreStackPairs, IsTopTakenOff, AreFound}
use Rattle.sm_rotations.proofs.WalkLemmas.{place_kept}
use Rattle.sm_theory.proofs.Chains.Links.{successor_once}

-- with an empty stack there is none
pub found_start : {l : Lists} {m : Places} {stack : List ℕ} (n : ℕ) (from : List ℕ) → stack ≡ [] → AreFound l m stack n from
found_start n from none = rw none (record { each = λ k less. absurd (omega arith) })

-- while the top's is looked for, those of all others stay
module _ {l : Lists} {m : Places} {stack : List ℕ} {spots : List (Option ℕ)} (s : IsStack l m stack spots) {old new : List ℕ} (a : AreFound l m stack 1 old) (top : ℕ) (last : top + 1 ≡ length stack) {p : ℕ} (is : p ≡ slice_index stack top)
    (others : (q : ℕ) → q ≢ p → slice_index new q ≡ slice_index old q) where
  pub found_kept : AreFound l m stack 1 new
  found_kept = record { each = λ k less. rw (others (slice_index stack k) (apart k less)) (a.each k less) }
    where
      apart : (k : ℕ) → k + 1 < length stack → slice_index stack k ≢ p
      apart k less e =
          let same : k ≡ top = same_Some _ _ (sym (s.at k (omega arith)) ∙ ap (spot_of spots) (e ∙ is) ∙ s.at top (omega arith)) in
          omega (arith, same, last)

  -- once it is found it is there too
  pub found_all : IsSuccessor l m p (slice_index new p) → AreFound l m stack 0 new
  found_all x = record {
    each = λ k less. elim (eq_or_ne k top) [
      | inl e ↦ rw (e, ← is) x
      | inr ne ↦ found_kept.each k (omega (arith, less, last))
    ];
  }

-- without the top, all but the new top's are there
pub found_over : {l : Lists} {m : Places} {stack rest from : List ℕ} {before after : List (Option ℕ)} {old new : List Bool} → IsTopTakenOff stack rest before after old new → AreFound l m stack 1 from → AreFound l m rest 1 from
found_over x a = record { each = λ k less. rw (x.same k (omega (arith, less, x.short))) (a.each k (omega (arith, less, x.short, x.last))) }

-- and with one more on the stack
pub found_on : {l : Lists} {m : Places} {stack more from : List ℕ} (q : ℕ) → more ≡ stack ++ q ∷ [] → AreFound l m stack 0 from → AreFound l m more 1 from
found_on {stack = stack} q e a = rw e (record {
  each = λ k less.
      let inside : k < length stack = omega (arith, less, length_push stack q) in
      rw (get_or_append_left stack (q ∷ []) 0 k inside) (a.each k (omega (arith, inside)));
})

module _ {l : Lists} (h : IsMarket l) {m : Places} (s : IsStable l m) {stack from : List ℕ} {spots : List (Option ℕ)} {spot : ℕ} {pairs : List (ℕ × ℕ)} (k : IsStack l m stack spots) (a : AreStackPairs l m stack spot pairs) (x : IsExposed l m pairs) (w : AreFound l m stack 0 from) where
  -- below a rotation that is eliminated they stay
  pub found_back : {n : Places} {rest : List ℕ} → rest ≡ take spot stack → n ≡ eliminated l m pairs → AreFound l n rest 1 from
  found_back {n} {rest} cut is = rw (cut, is) (record {
    each = λ j less.
        let below : j + 1 < spot = omega (arith, less, length-take-le spot stack (omega (arith, a.as_many))) in
        rw (get_or-take spot stack j 0 (omega arith))
        (place_kept h s x (slice_index stack j) (slice_index stack (j + 1)) (apart j (omega arith)) (apart (j + 1) below) (k.next j (omega (arith, a.as_many))) (w.each j (omega (arith, a.as_many))));
  })
    where
      apart : (j : ℕ) → j < spot → (i : ℕ) → i < length pairs → proposer_at pairs i ≡ slice_index stack j → ⊥
      apart j less i within e =
          let same : spot + i ≡ j = same_Some _ _ (sym (k.at (spot + i) (omega (arith, a.as_many))) ∙ ap (spot_of spots) (sym (a.who i within) ∙ e) ∙ k.at j (omega (arith, a.as_many))) in
          omega (arith, same)

  -- those of a rotation are the places to which it moves its proposers
  pub found_places : length from ≡ length l.proposers → AreTargetPlaces l pairs from
  found_places long = record {
    one_each = long;
    each = λ i within.
        let there = w.each (spot + i) (omega (arith, a.as_many)) in
        successor_once (rw (← a.who i within) at there) (x.next i within);
  }
