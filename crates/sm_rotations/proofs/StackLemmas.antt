-- The steps of the walk: the top is finished, the walk goes on, or a rotation is taken off.
use Rattle.std.proofs.Common.{◌≡◌, ◌≢◌, ℕ, suc, ◌+◌, ◌<◌, ◌≤◌, inl, inr, arith, refl, sym, ap, ◌∙◌, Bool, true, false, List, [], ◌∷◌, ◌++◌, length, Option, Some, None, slice_index, set}
use Rattle.std.proofs.lemmas.List.{get_or_append_left, get_or_push, length_push, get_or-set_same, get_or-set_other, length-set}
use Rattle.std.proofs.lemmas.Option.{same_Some, none-some}
use Rattle.sm_market.specs.Lists.{Lists, IsMarket}
use Rattle.sm_market.specs.Matching.{Places, standing}
use Rattle.sm_market.specs.Stable.{IsStable, IsProposersBest}
use Rattle.sm_lists.proofs.Counting.{lt_or_le, eq_or_ne}
use Rattle.sm_theory.specs.Rotations.{IsExposed, proposer_at, eliminated}
use Rattle.sm_theory.specs.Chains.{stage, IsCompleteChain}
use Rattle.sm_market.proofs.Bridge.{stable_of}
use Rattle.sm_theory.proofs.Bridge.Places.{row_past}
use Rattle.sm_theory.proofs.Bridge.Rotation.{eliminated_stable}
use Rattle.sm_rotations.specs.Walking.{IsNext, IsAtWorst, IsStack, AreStackPairs, spot_of, is_finished, IsWalking, IsOnStack, AreTakenOff}
use Rattle.sm_rotations.proofs.WalkLemmas.{worst_kept, next_kept, all_worst}
use Rattle.sm_rotations.proofs.ChainingLemmas.{rotation_at-push_before, rotation_at-push_new, stage_before}

-- the stack without its top
module _ {l : Lists} {m : Places} {stack rest : List ℕ} {spots : List (Option ℕ)} (k : IsStack l m stack spots) (n : ℕ) (long : n + 1 ≡ length stack) (short : length rest ≡ n) (same : (j : ℕ) → j < n → slice_index rest j ≡ slice_index stack j) where
  -- without its top a stack is one still
  pub stack_popped : IsStack l m rest (set spots (slice_index stack n) None)
  stack_popped = record {
    spots_each = length-set spots (slice_index stack n) None ∙ k.spots_each;
    in_range = λ j less. rw (same j (omega arith)) (k.in_range j (omega arith));
    at = λ j less. rw (same j (omega arith)) (get_or-set_other spots (slice_index stack n) (slice_index stack j) None None (other j (omega arith)) ∙ k.at j (omega arith));
    inside = λ p j e. let old = before p j e in elim (eq_or_ne j n) [
      | inl is ↦ absurd (top p j e is)
      | inr ne ↦ omega (arith, k.inside p j old)
    ];
    only = λ p j e. let old = before p j e in elim (eq_or_ne j n) [
      | inl is ↦ absurd (top p j e is)
      | inr ne ↦ same j (omega (arith, k.inside p j old)) ∙ k.only p j old
    ];
    next = λ j less. rw (same j (omega arith), same (j + 1) (omega arith)) (k.next j (omega arith));
  }
    where
      other : (j : ℕ) → j < n → slice_index stack j ≢ slice_index stack n
      other j less e =
          let x : j ≡ n = same_Some _ _ (sym (k.at j (omega arith)) ∙ ap (spot_of spots) e ∙ k.at n (omega arith)) in omega arith

      before : (p j : ℕ) → spot_of (set spots (slice_index stack n) None) p ≡ Some j → spot_of spots p ≡ Some j
      before p j e = elim (eq_or_ne p (slice_index stack n)) [
        | inr ne ↦ sym (get_or-set_other spots (slice_index stack n) p None None ne) ∙ e
        | inl is ↦ absurd (none-some _ (sym (get_or-set_same spots (slice_index stack n) None None (omega (arith, k.in_range n (omega arith), k.spots_each))) ∙ ap (spot_of (set spots (slice_index stack n) None)) (sym is) ∙ e))
      ]

      top : (p j : ℕ) → spot_of (set spots (slice_index stack n) None) p ≡ Some j → j ≡ n → ⊥
      top p j e is =
          let at : slice_index stack n ≡ p = ap (slice_index stack) (sym is) ∙ k.only p j (before p j e) in
          none-some _ (sym (get_or-set_same spots (slice_index stack n) None None (omega (arith, k.in_range n (omega arith), k.spots_each))) ∙ ap (spot_of (set spots (slice_index stack n) None)) at ∙ e)

-- the stack with one more
pub stack_pushed : {l : Lists} {m : Places} {stack : List ℕ} {spots : List (Option ℕ)} → IsStack l m stack spots → (q : ℕ) → q < length l.proposers → spot_of spots q ≡ None
    → ((n : ℕ) → n + 1 ≡ length stack → IsNext l m (slice_index stack n) q) → IsStack l m (stack ++ q ∷ []) (set spots q (Some (length stack)))
stack_pushed {l} {m} {stack} {spots} k q inside fresh step = record {
  spots_each = length-set spots q (Some (length stack)) ∙ k.spots_each;
  in_range = λ j less. elim (eq_or_ne j (length stack)) [
    | inl e ↦ rw (new j e) inside
    | inr ne ↦ rw (old j (small j less ne)) (k.in_range j (small j less ne))
  ];
  at = λ j less. elim (eq_or_ne j (length stack)) [
    | inl e ↦ rw (new j e, e) here
    | inr ne ↦ rw (old j (small j less ne)) (get_or-set_other spots q (slice_index stack j) (Some (length stack)) None (apart j (small j less ne)) ∙ k.at j (small j less ne))
  ];
  inside = λ p j e. elim (eq_or_ne p q) [
    | inl is ↦ let x : length stack ≡ j = same_Some _ _ (sym here ∙ ap (spot_of (set spots q (Some (length stack)))) (sym is) ∙ e) in omega (arith, length_push stack q)
    | inr ne ↦ omega (arith, length_push stack q, k.inside p j (sym (get_or-set_other spots q p (Some (length stack)) None ne) ∙ e))
  ];
  only = λ p j e. elim (eq_or_ne p q) [
    | inl is ↦ let x : length stack ≡ j = same_Some _ _ (sym here ∙ ap (spot_of (set spots q (Some (length stack)))) (sym is) ∙ e) in new j (sym x) ∙ sym is
    | inr ne ↦ let y = sym (get_or-set_other spots q p (Some (length stack)) None ne) ∙ e in old j (k.inside p j y) ∙ k.only p j y
  ];
  next = λ j less. elim (eq_or_ne (j + 1) (length stack)) [
    | inl e ↦ rw (old j (omega arith), new (j + 1) e) (step j e)
    | inr ne ↦ let less' : j + 1 < length stack = small (j + 1) less ne in rw (old j (omega arith), old (j + 1) less') (k.next j less')
  ];
}
  where
    small : (j : ℕ) → j < length (stack ++ q ∷ []) → j ≢ length stack → j < length stack
    small j less ne = omega (arith, length_push stack q)

    old : (j : ℕ) → j < length stack → slice_index (stack ++ q ∷ []) j ≡ slice_index stack j
    old j less = get_or_append_left stack (q ∷ []) 0 j less

    new : (j : ℕ) → j ≡ length stack → slice_index (stack ++ q ∷ []) j ≡ q
    new j e = get_or_push stack q 0 j (sym e)

    here : spot_of (set spots q (Some (length stack))) q ≡ Some (length stack)
    here = get_or-set_same spots q (Some (length stack)) None (omega (arith, k.spots_each))

    apart : (j : ℕ) → j < length stack → slice_index stack j ≢ q
    apart j less e = none-some _ (sym fresh ∙ ap (spot_of spots) (sym e) ∙ k.at j less)

-- the stack below a rotation that is eliminated
pub stack_below : {l : Lists} (h : IsMarket l) {m : Places} (s : IsStable l m) {stack rest : List ℕ} {before after : List (Option ℕ)} {pairs : List (ℕ × ℕ)} (from : ℕ)
    → IsStack l m stack before → AreStackPairs l m stack from pairs → IsExposed l m pairs → AreTakenOff stack from before after
    → length rest ≡ from → ((j : ℕ) → j < from → slice_index rest j ≡ slice_index stack j) → IsStack l (eliminated l m pairs) rest after
stack_below {l} h {m} s {stack} {rest} {before} {after} {pairs} from k a x t short same = record {
  spots_each = t.one_each ∙ k.spots_each;
  in_range = λ j less. rw (same j (omega arith)) (k.in_range j (inside j (omega arith)));
  at = λ j less. rw (same j (omega arith)) (elim (t.only (slice_index stack j)) [
    | inl e ↦ e ∙ k.at j (inside j (omega arith))
    | inr w ↦ absurd (below j (omega arith) w.1)
  ]);
  inside = λ p j e. elim (lt_or_le j from) [ inl less ↦ omega arith | inr more ↦ absurd (none-some _ (sym (t.gone j more (k.inside p j (was p j e))) ∙ ap (spot_of after) (k.only p j (was p j e)) ∙ e)) ];
  only = λ p j e. elim (lt_or_le j from) [ inl less ↦ same j less ∙ k.only p j (was p j e) | inr more ↦ absurd (none-some _ (sym (t.gone j more (k.inside p j (was p j e))) ∙ ap (spot_of after) (k.only p j (was p j e)) ∙ e)) ];
  next = λ j less. rw (same j (omega arith), same (j + 1) (omega arith)) (next_kept h s x (slice_index stack j) (slice_index stack (j + 1)) (apart j (omega arith)) (apart (j + 1) (omega arith)) (k.next j (inside (j + 1) (omega arith))));
}
  where
    inside : (j : ℕ) → j < from → j < length stack
    inside j less = omega (arith, a.as_many)

    below : (j : ℕ) → j < from → IsOnStack stack from (slice_index stack j) → ⊥
    below j less w =
        let e : w.spot ≡ j = same_Some _ _ (sym (k.at w.spot w.inside) ∙ ap (spot_of before) w.is ∙ k.at j (inside j less)) in
        omega (arith, w.above)

    was : (p j : ℕ) → spot_of after p ≡ Some j → spot_of before p ≡ Some j
    was p j e = elim (t.only p) [ inl y ↦ sym y ∙ e | inr w ↦ absurd (none-some _ (sym w.0 ∙ e)) ]

    apart : (j : ℕ) → j < from → (i : ℕ) → i < length pairs → proposer_at pairs i ≡ slice_index stack j → ⊥
    apart j less i within e = below j less (record { spot = from + i; above = omega arith; inside = omega (arith, a.as_many); is = sym (a.who i within) ∙ e })

-- the walk
module _ {l : Lists} (h : IsMarket l) {first m : Places} {rotations : List (List (ℕ × ℕ))} {finished : List Bool} {stack : List ℕ} {spots : List (Option ℕ)} (w : IsWalking l first m rotations finished stack spots) where
  -- the top is finished
  pub walk_finishes : {rest : List ℕ} (n : ℕ) → n + 1 ≡ length stack → length rest ≡ n → ((j : ℕ) → j < n → slice_index rest j ≡ slice_index stack j) → IsAtWorst l m (slice_index stack n)
      → IsWalking l first m rotations (set finished (slice_index stack n) true) rest (set spots (slice_index stack n) None)
  walk_finishes n long short same worst = record {
    stable = w.stable;
    exposed = w.exposed;
    at_end = w.at_end;
    finished_each = length-set finished (slice_index stack n) true ∙ w.finished_each;
    at_worst = λ p e. elim (eq_or_ne p (slice_index stack n)) [
      | inl is ↦ rw is worst
      | inr ne ↦ w.at_worst p (sym (get_or-set_other finished (slice_index stack n) p true false ne) ∙ e)
    ];
    on_stack = stack_popped w.on_stack n long short same;
  }

  -- the walk goes on
  pub walk_goes_on : (q : ℕ) → q < length l.proposers → spot_of spots q ≡ None → ((n : ℕ) → n + 1 ≡ length stack → IsNext l m (slice_index stack n) q)
      → IsWalking l first m rotations finished (stack ++ q ∷ []) (set spots q (Some (length stack)))
  walk_goes_on q inside fresh step = record {
    stable = w.stable;
    exposed = w.exposed;
    at_end = w.at_end;
    finished_each = w.finished_each;
    at_worst = w.at_worst;
    on_stack = stack_pushed w.on_stack q inside fresh step;
  }

  -- a rotation is taken off and eliminated
  pub walk_takes_off : {rest : List ℕ} {after : List (Option ℕ)} {pairs : List (ℕ × ℕ)} {n : Places} (from : ℕ) → IsExposed l m pairs → AreStackPairs l m stack from pairs → AreTakenOff stack from spots after
      → length rest ≡ from → ((j : ℕ) → j < from → slice_index rest j ≡ slice_index stack j) → n ≡ eliminated l m pairs
      → IsWalking l first n (rotations ++ pairs ∷ []) finished rest after
  walk_takes_off {rest} {after} {pairs} {n} from x a t short same e = rw e (record {
    stable = eliminated_stable h w.stable x;
    exposed = λ k less. elim (eq_or_ne k (length rotations)) [
      | inl is ↦ rw (there k is, rotation_at-push_new rotations pairs k is) x
      | inr ne ↦ rw (stage_before l first rotations pairs k (omega (arith, length_push rotations pairs)), rotation_at-push_before rotations pairs k (omega (arith, length_push rotations pairs))) (w.exposed k (omega (arith, length_push rotations pairs)))
    ];
    at_end = ap (λ m. eliminated l m pairs) (sym (there (length rotations) refl)) ∙ ap (eliminated l (stage l first (rotations ++ pairs ∷ []) (length rotations))) (sym (rotation_at-push_new rotations pairs (length rotations) refl)) ∙ ap (stage l first (rotations ++ pairs ∷ [])) top;
    finished_each = w.finished_each;
    at_worst = λ p y. worst_kept h w.stable x p (w.at_worst p y);
    on_stack = stack_below h w.stable from w.on_stack a x t short same;
  })
    where
      top : suc (length rotations) ≡ length (rotations ++ pairs ∷ [])
      top = omega (arith, length_push rotations pairs)

      there : (k : ℕ) → k ≡ length rotations → stage l first (rotations ++ pairs ∷ []) k ≡ m
      there k is = stage_before l first rotations pairs k (omega arith) ∙ ap (stage l first rotations) is ∙ sym w.at_end

  -- once all are finished the chain is complete
  pub walk_whole : IsProposersBest l first → ((p : ℕ) → p < length l.proposers → is_finished finished p ≡ true) → IsCompleteChain l first rotations
  walk_whole best all = record {
    from_best = best;
    exposed = w.exposed;
    complete = λ other x. all_worst h w.stable worst other (rw w.at_end x);
  }
    where
      worst : (p : ℕ) → IsAtWorst l m p
      worst p = elim (lt_or_le p (length l.proposers)) [
        | inl less ↦ w.at_worst p (all p less)
        | inr more ↦ record { worst = λ n sn. none_past n sn p more }
      ]
        where
          none_past : (n : Places) → IsStable l n → (p : ℕ) → length l.proposers ≤ p → standing l.proposers n.proposers p ≤ standing l.proposers m.proposers p
          none_past n sn p more = omega (arith, (stable_of h sn).fit.left.within p, row_past l.proposers p more)
