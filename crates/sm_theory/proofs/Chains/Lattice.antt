-- The laws on meet and join, on pairs, and on levels.
use Rattle.std.proofs.Common.{◌≡◌, ℕ, ◌<◌, ◌⊎◌, inl, inr, arith, refl, sym, ap, ◌∙◌, List, length, Option, None, Some, unwrap_or, slice_index, slice_index_or}
use Rattle.std.proofs.lemmas.List.FromFn.{get_or-map-range_with_len}
use Rattle.std.proofs.lemmas.List.{get_or_past}
use Rattle.sm_market.specs.Lists.{Lists, row, entry, place_of}
use Rattle.sm_market.specs.Matching.{Places, held, standing}
use Rattle.sm_market.specs.Stable.{IsStable}
use Rattle.sm_lists.proofs.Counting.{lt_or_le}
use Rattle.sm_market.proofs.Core.{Pair}
use Rattle.sm_market.proofs.CoreLaws.{pair_law}
use Rattle.sm_market.proofs.PlaceLemmas.{place_of-entry}
use Rattle.sm_market.proofs.Bridge.{sides_of, stand_of, stable_of, held_at, standing-some}
use Rattle.sm_market.proofs.LawsProved.{pair_held}
use Rattle.sm_theory.specs.Choices.{chosen, chosen_of}
use Rattle.sm_theory.specs.declared.choice.Choice.{Choice}
use Rattle.sm_theory.specs.declared.choice.Choice.TheVariants.{Better, Worse}
use Rattle.sm_theory.specs.Vectors.{level_of, HasLevel, IsWithin, IsAllowed}
use Rattle.sm_theory.specs.Laws.{MeetIsStable, JoinIsStable, PairIsDivided, MeetKeepsBounds, LevelsDetermine}
use Rattle.sm_theory.specs.LawsListing.{JoinKeepsBounds}
use Rattle.sm_theory.proofs.Core.Levels.{no_better}
use Rattle.sm_theory.proofs.Bridge.Places.{held_map, held_map_past, row_past}
use Rattle.sm_theory.proofs.Bridge.Meet.{chosen_of_stable, standing_chosen}
use Rattle.sm_theory.proofs.Bridge.Chain.{stable_equal}

-- the meet of two stable matchings is stable, and each proposer is at the better of its places
pub meet_is_stable : MeetIsStable
meet_is_stable l m n h hm hn = (chosen_of_stable h hm hn Better, standing_chosen h hm hn Better)

-- their join is stable, and each proposer is at the worse of its places
pub join_is_stable : JoinIsStable
join_is_stable l m n h hm hn = (chosen_of_stable h hm hn Worse, standing_chosen h hm hn Worse)

-- of a pair in one matching alone, one agent prefers that matching and one the other
pub pair_is_divided : PairIsDivided
pair_is_divided l m n h hm hn p i e other = rw (standing-some l.proposers m.proposers p i e) at
    (pair_law (stable_of h hm) (stable_of h hn) (pair_held h hm p i e) apart)
  where
    here : place_of l.proposers p (entry l.proposers p i) ≡ i
    here = place_of-entry h.proposers p i (hm.matching.proposers.on_list p i e)

    apart : Pair (sides_of l h) (stand_of l n) p (entry l.proposers p i) → ⊥
    apart w = other (held_at l.proposers n.proposers p w.matched ∙ ap Some (sym w.place_is ∙ here))

-- the chosen one of two places is one of them
chosen_either : (choice : Choice) (o q : Option ℕ) → (chosen choice o q ≡ o) ⊎ (chosen choice o q ≡ q)
chosen_either Better None q = inr refl
chosen_either Better (Some i) None = inl refl
chosen_either Better (Some i) (Some k) = elim (lt_or_le i k) [ inl h ↦ inl (ap Some (omega arith)) | inr h ↦ inr (ap Some (omega arith)) ]
chosen_either Worse None q = inl refl
chosen_either Worse (Some i) None = inr refl
chosen_either Worse (Some i) (Some k) = elim (lt_or_le i k) [ inl h ↦ inr (ap Some (omega arith)) | inr h ↦ inl (ap Some (omega arith)) ]

-- the meet, or the join, of two stable matchings
module _ (choice : Choice) (l : Lists) (m n : Places) (hm : IsStable l m) (hn : IsStable l n) where
  -- it holds for each proposer what one of the two holds
  held_chosen : (p : ℕ) → (held (chosen_of choice l m n).proposers p ≡ held m.proposers p) ⊎ (held (chosen_of choice l m n).proposers p ≡ held n.proposers p)
  held_chosen p = elim (lt_or_le p (length l.proposers)) [
    | inl k ↦ elim (chosen_either choice (held m.proposers p) (held n.proposers p)) [
      | inl e ↦ inl (held_map l.proposers (λ p. chosen choice (held m.proposers p) (held n.proposers p)) p k ∙ e)
      | inr e ↦ inr (held_map l.proposers (λ p. chosen choice (held m.proposers p) (held n.proposers p)) p k ∙ e)
    ]
    | inr k ↦ inl (held_map_past l.proposers (λ p. chosen choice (held m.proposers p) (held n.proposers p)) p k ∙ sym (get_or_past m.proposers p None (omega (arith, hm.matching.proposers.one_each))))
  ]

  -- level bounds and what is allowed are kept
  keeps_within : (levels : List (List ℕ)) (low high : List ℕ) → IsWithin l levels low high m → IsWithin l levels low high n → IsWithin l levels low high (chosen_of choice l m n)
  keeps_within levels low high wm wn p k = elim (held_chosen p) [
    | inl e ↦ let e : standing l.proposers (chosen_of choice l m n).proposers p ≡ standing l.proposers m.proposers p = ap (λ o. unwrap_or o (length (row l.proposers p))) e in rw e (wm p k)
    | inr e ↦ let e : standing l.proposers (chosen_of choice l m n).proposers p ≡ standing l.proposers n.proposers p = ap (λ o. unwrap_or o (length (row l.proposers p))) e in rw e (wn p k)
  ]

  keeps_allowed : (levels : List (List ℕ)) (forced forbidden : List (ℕ × ℕ)) → IsAllowed levels forced forbidden m → IsAllowed levels forced forbidden n → IsAllowed levels forced forbidden (chosen_of choice l m n)
  keeps_allowed levels forced forbidden am an = record { holds = holds; avoids = avoids }
    where
      holds : (c : ℕ) → c < length forced → let (p, level) = slice_index_or forced c (0, 0) in HasLevel levels (chosen_of choice l m n) p level
      holds c k = elim (held_chosen (slice_index_or forced c (0, 0)).0) [
        | inl e ↦ let w = am.holds c k in record { place = w.place; holds = e ∙ w.holds; at_level = w.at_level }
        | inr e ↦ let w = an.holds c k in record { place = w.place; holds = e ∙ w.holds; at_level = w.at_level }
      ]

      avoids : (c : ℕ) → c < length forbidden → let (p, level) = slice_index_or forbidden c (0, 0) in ¬ HasLevel levels (chosen_of choice l m n) p level
      avoids c k w = elim (held_chosen (slice_index_or forbidden c (0, 0)).0) [
        | inl e ↦ am.avoids c k (record { place = w.place; holds = sym e ∙ w.holds; at_level = w.at_level })
        | inr e ↦ an.avoids c k (record { place = w.place; holds = sym e ∙ w.holds; at_level = w.at_level })
      ]

-- the meet keeps level bounds and what is allowed
pub meet_keeps_bounds : MeetKeepsBounds
meet_keeps_bounds l levels low high forced forbidden m n h hm hn wm wn am an = (keeps_within Better l m n hm hn levels low high wm wn, keeps_allowed Better l m n hm hn levels forced forbidden am an)

-- and so does the join
pub join_keeps_bounds : JoinKeepsBounds
join_keeps_bounds l levels low high forced forbidden m n h hm hn wm wn am an = (keeps_within Worse l m n hm hn levels low high wm wn, keeps_allowed Worse l m n hm hn levels forced forbidden am an)

-- where places of one level name reviewers with equal lists, a level vector determines its stable matching
pub levels_determine : LevelsDetermine
levels_determine l levels m n h seats hm hn same = stable_equal h hm hn (λ p. omega (arith, no_better (stable_of h hm) (stable_of h hn) alike p, no_better (stable_of h hn) (stable_of h hm) back p))
  where
    level : (p : ℕ) → p < length l.proposers → level_of l levels m p ≡ level_of l levels n p
    level p k = sym (get_or-map-range_with_len (level_of l levels m) 0 (length l.proposers) p p 0 k (omega arith)) ∙ ap (λ v. slice_index v p) same ∙ get_or-map-range_with_len (level_of l levels n) 0 (length l.proposers) p p 0 k (omega arith)

    alike : (q r x : ℕ) → Pair (sides_of l h) (stand_of l m) q r → Pair (sides_of l h) (stand_of l n) q x → (p : ℕ) → place_of l.reviewers r p ≡ place_of l.reviewers x p
    alike q r x mq nq p = ap (λ row. Rattle.std.specs.List.position_or_len (λ x. Rattle.std.specs.Prelude.◌==◌ x p) row) rows
      where
        inside : q < length l.proposers
        inside = elim (lt_or_le q (length l.proposers)) [ inl k ↦ k | inr k ↦ absurd (omega (arith, row_past l.proposers q k, mq.matched)) ]

        at_m : entry l.proposers q (standing l.proposers m.proposers q) ≡ r
        at_m = ap (entry l.proposers q) (sym mq.place_is) ∙ (sides_of l h).left.at_place q r (omega (arith, mq.place_is, mq.matched))

        at_n : entry l.proposers q (standing l.proposers n.proposers q) ≡ x
        at_n = ap (entry l.proposers q) (sym nq.place_is) ∙ (sides_of l h).left.at_place q x (omega (arith, nq.place_is, nq.matched))

        rows : row l.reviewers r ≡ row l.reviewers x
        rows = ap (row l.reviewers) (sym at_m) ∙ seats q (standing l.proposers m.proposers q) (standing l.proposers n.proposers q) mq.matched nq.matched (level q inside) ∙ ap (row l.reviewers) at_n

    back : (q r x : ℕ) → Pair (sides_of l h) (stand_of l n) q r → Pair (sides_of l h) (stand_of l m) q x → (p : ℕ) → place_of l.reviewers r p ≡ place_of l.reviewers x p
    back q r x nq mq p = sym (alike q x r mq nq p)
