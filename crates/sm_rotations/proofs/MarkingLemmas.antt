-- Collecting what is marked, in a list.
use Rattle.std.proofs.Common.{◌≡◌, ℕ, ◌+◌, ◌<◌, ◌⊎◌, inl, inr, arith, sym, ap, ◌∙◌, List, Option, Some}
use Rattle.sm_lists.proofs.Counting.{eq_or_ne}
use Rattle.sm_theory.specs.Rotations.{proposer_at}
-- writing and collecting, passed on
pub use Rattle.sm_theory.proofs.Chains.Marking.{marked_step, adds_join, adds_like, added_to_end, between_wider, between_split}
use Rattle.sm_rotations.specs.Marking.{note_of, marks_of, IsBetween, Adds}
use Rattle.sm_rotations.specs.Footings.{footing_at, IsFoundAlong}
use Rattle.sm_market.specs.declared.footing.Footing.{Footing}

-- what is marked at the next place, if anything, is added
pub between_more : {marks : List (Option ℕ)} {from to : ℕ} {mark : Option ℕ} {xs ys zs : List ℕ} → from < to → note_of marks to ≡ mark → Adds (λ i. IsBetween marks from to i) xs ys → Adds (λ i. mark ≡ Some i) ys zs
    → Adds (λ i. IsBetween marks from (to + 1) i) xs zs
between_more {marks} {from} {to} {ys = ys} {zs} low is a b =
    let here : Adds (λ i. note_of marks to ≡ Some i) ys zs = rw is b in
    adds_join (λ i. IsBetween marks from (to + 1) i) a here
    (λ i w. between_wider w)
    (λ i e. record { place = to; behind = low; before = omega arith; marked = e })
    between_split

-- what the pairs of a rotation are found to need, pair by pair
module _ {rotation : List (ℕ × ℕ)} {before after : List Footing} {notes : List (Option ℕ)} {marks : List (List (Option ℕ))} where
  found_wider : {n i : ℕ} → IsFoundAlong rotation before after n notes marks i → IsFoundAlong rotation before after (n + 1) notes marks i
  found_wider (inl w) = inl (record { pair = w.pair; pair_in = omega (arith, w.pair_in); noted = w.noted })
  found_wider (inr w) = inr (record { pair = w.pair; pair_in = omega (arith, w.pair_in); between = w.between })

  module _ {n : ℕ} (p : ℕ) (is : p ≡ proposer_at rotation n) {from to : ℕ} (from_is : from ≡ (footing_at before n).proposer) (to_is : to ≡ (footing_at after n).proposer) where
    -- what the proposer of one more pair is found to need is added
    pub found_more : {xs ys zs ws : List ℕ} → Adds (λ i. IsFoundAlong rotation before after n notes marks i) xs ys → Adds (λ i. note_of notes p ≡ Some i) ys zs → Adds (λ i. IsBetween (marks_of marks p) from to i) zs ws
        → Adds (λ i. IsFoundAlong rotation before after (n + 1) notes marks i) xs ws
    found_more a b c = adds_join (λ i. IsFoundAlong rotation before after (n + 1) notes marks i)
        (adds_join (λ i. IsFoundAlong rotation before after n notes marks i ⊎ (note_of notes p ≡ Some i)) a b (λ i w. inl w) (λ i w. inr w) (λ i w. w))
        c
        forth
        (λ i w. inr (record { pair = n; pair_in = omega arith; between = rw (← is, ← from_is, ← to_is) w }))
        back
      where
        forth : (i : ℕ) → IsFoundAlong rotation before after n notes marks i ⊎ (note_of notes p ≡ Some i) → IsFoundAlong rotation before after (n + 1) notes marks i
        forth i (inl w) = found_wider w
        forth i (inr e) = inl (record { pair = n; pair_in = omega arith; noted = rw (← is) e })

        back : (i : ℕ) → IsFoundAlong rotation before after (n + 1) notes marks i → (IsFoundAlong rotation before after n notes marks i ⊎ (note_of notes p ≡ Some i)) ⊎ IsBetween (marks_of marks p) from to i
        back i (inl w) = elim (eq_or_ne w.pair n) [
          | inl e ↦ inl (inr (ap (note_of notes) (is ∙ ap (proposer_at rotation) (sym e)) ∙ w.noted))
          | inr e ↦ inl (inl (inl (record { pair = w.pair; pair_in = omega (arith, w.pair_in); noted = w.noted })))
        ]
        back i (inr w) = elim (eq_or_ne w.pair n) [
          | inl e ↦ inr (rw (from_is, to_is, is) (rw e at w.between))
          | inr e ↦ inl (inl (inr (record { pair = w.pair; pair_in = omega (arith, w.pair_in); between = w.between })))
        ]
