-- Meet and join of stable matchings, over lists.
use Rattle.std.proofs.Common.{◌≡◌, ℕ, ◌<◌, ◌≤◌, inl, inr, arith, refl, sym, ◌∙◌, length, map, Option, None, Some, unwrap_or, min, max}
use Rattle.std.proofs.lemmas.List.FromFn.{length-map-range_with_len}
use Rattle.std.proofs.lemmas.Option.{same_Some, none-some}
use Rattle.sm_market.specs.Lists.{Lists, row, IsMarket}
use Rattle.sm_market.specs.Matching.{Places, held, standing}
use Rattle.sm_market.specs.Stable.{IsStable}
use Rattle.sm_lists.proofs.Counting.{lt_or_le}
use Rattle.sm_market.proofs.Core.{Stable}
use Rattle.sm_market.proofs.Bridge.{sides_of, stand_of, fit_of, stable_of}
use Rattle.sm_theory.specs.Lattice.{agents}
use Rattle.sm_theory.specs.Choices.{chosen, chosen_of}
use Rattle.sm_theory.specs.declared.choice.Choice.{Choice}
use Rattle.sm_theory.specs.declared.choice.Choice.TheVariants.{Better, Worse}
use Rattle.sm_theory.proofs.Core.Meet.{meet_stable, join_stable}
use Rattle.sm_theory.proofs.Bridge.Places.{held_map, held_map_past, standing_map, standing_map_past, row_past, seats_with, stable_with}

-- the lower of two standings, or the higher
abbrev pub chosen_standing : Choice → ℕ → ℕ → ℕ
chosen_standing Better a b = min a b
chosen_standing Worse a b = max a b

-- of two standings that are the same it is that one
same_standing : (choice : Choice) (a b n : ℕ) → a ≡ n → b ≡ n → chosen_standing choice a b ≡ n
same_standing Better a b n e f = omega arith
same_standing Worse a b n e f = omega arith

-- what the choice makes of standings, where no place is past the list
unwrap_chosen : (choice : Choice) (o q : Option ℕ) (n : ℕ) → unwrap_or o n ≤ n → unwrap_or q n ≤ n → unwrap_or (chosen choice o q) n ≡ chosen_standing choice (unwrap_or o n) (unwrap_or q n)
unwrap_chosen Better None q n h g = omega arith
unwrap_chosen Better (Some i) None n h g = omega arith
unwrap_chosen Better (Some i) (Some k) n h g = refl
unwrap_chosen Worse None q n h g = omega arith
unwrap_chosen Worse (Some i) None n h g = omega arith
unwrap_chosen Worse (Some i) (Some k) n h g = refl

-- the chosen one of two places on a list is on it
chosen_on : (choice : Choice) (o q : Option ℕ) (n i : ℕ) → ((k : ℕ) → o ≡ Some k → k < n) → ((k : ℕ) → q ≡ Some k → k < n) → chosen choice o q ≡ Some i → i < n
chosen_on Better None q n i h g e = g i e
chosen_on Better (Some j) None n i h g e = h i e
chosen_on Better (Some j) (Some k) n i h g e = let s : min j k ≡ i = same_Some _ _ e in omega (arith, h j refl, g k refl)
chosen_on Worse None q n i h g e = absurd (none-some _ e)
chosen_on Worse (Some j) None n i h g e = absurd (none-some _ e)
chosen_on Worse (Some j) (Some k) n i h g e = let s : max j k ≡ i = same_Some _ _ e in omega (arith, h j refl, g k refl)

module _ {l : Lists} (h : IsMarket l) {m n : Places} (hm : IsStable l m) (hn : IsStable l n) where
  -- a proposer stands at the chosen one of its two places: the better in a meet, and the worse in a join
  pub standing_chosen : (choice : Choice) (p : ℕ) → standing l.proposers (chosen_of choice l m n).proposers p ≡ chosen_standing choice (standing l.proposers m.proposers p) (standing l.proposers n.proposers p)
  standing_chosen choice p = elim (lt_or_le p (length l.proposers)) [
    | inl k ↦ standing_map l.proposers (λ p. chosen choice (held m.proposers p) (held n.proposers p)) p k
        ∙ unwrap_chosen choice (held m.proposers p) (held n.proposers p) (length (row l.proposers p)) ((fit_of h hm.matching).left.within p) ((fit_of h hn.matching).left.within p)
    | inr k ↦ standing_map_past l.proposers (λ p. chosen choice (held m.proposers p) (held n.proposers p)) p k
        ∙ sym (same_standing choice _ _ 0 (omega (arith, row_past l.proposers p k, (fit_of h hm.matching).left.within p)) (omega (arith, row_past l.proposers p k, (fit_of h hn.matching).left.within p)))
  ]

  -- the meet of two stable matchings is stable, and so is the join
  pub chosen_of_stable : (choice : Choice) → IsStable l (chosen_of choice l m n)
  chosen_of_stable choice = stable_with h (map (λ p. chosen choice (held m.proposers p) (held n.proposers p)) (agents l.proposers)) (length-map-range_with_len _ 0 (length l.proposers)) on (core choice)
    where
      on : (p i : ℕ) → held (chosen_of choice l m n).proposers p ≡ Some i → i < length (row l.proposers p)
      on p i e = elim (lt_or_le p (length l.proposers)) [
        | inl k ↦ chosen_on choice (held m.proposers p) (held n.proposers p) (length (row l.proposers p)) i (hm.matching.proposers.on_list p) (hn.matching.proposers.on_list p) (sym (held_map l.proposers (λ p. chosen choice (held m.proposers p) (held n.proposers p)) p k) ∙ e)
        | inr k ↦ absurd (none-some _ (sym (held_map_past l.proposers (λ p. chosen choice (held m.proposers p) (held n.proposers p)) p k) ∙ e))
      ]

      core : (choice : Choice) → Stable (sides_of l h) (stand_of l (chosen_of choice l m n))
      core Better = meet_stable (sides_of l h) (stand_of l m) (stand_of l n) (stand_of l (chosen_of Better l m n)) (stable_of h hm) (stable_of h hn) (seats_with h (chosen_of Better l m n).proposers) (standing_chosen Better)
      core Worse = join_stable (sides_of l h) (stand_of l m) (stand_of l n) (stand_of l (chosen_of Worse l m n)) (stable_of h hm) (stable_of h hn) (seats_with h (chosen_of Worse l m n).proposers) (standing_chosen Worse)
