-- The small instance of specs/Witnesses.antt.
use Rattle.std.proofs.Common.{◌≡◌, ℕ, zero, suc, ◌<◌, ◌∷◌, [], List, length, get_or, refl, sym, ap, subst, ◌∙◌, arith, inl, inr}
use Rattle.sm_lists.specs.Rows.{place_on}
use Rattle.sm_lists.proofs.Counting.{lt_or_le}
use Rattle.sm_lists.proofs.PlaceLemmas.{get_or-place_on}
use Rattle.sm_agents.specs.Written.{row, place_of, capacity_of, IsAcceptable}
use Rattle.sm_trim.specs.Ends.{IsFirstChoice, HasComers, MayReviewerEnd, HasRivals, MayProposerEnd}
use Rattle.sm_trim.specs.Witnesses.{crowded, ReviewersListEnds, ProposersListEnds, UnmatchedListStays}

both_list : {p r : ℕ} → place_of crowded.proposers p r < length (row crowded.proposers p) → place_of crowded.reviewers r p < length (row crowded.reviewers r) → IsAcceptable crowded p r
both_list h g = record { proposer_lists = h; reviewer_lists = g }

a_chooses_h : IsFirstChoice crowded 0 0
a_chooses_h = record { acceptable = both_list (omega arith) (omega arith); first = λ s less. absurd (omega arith) }

one_comer : MayReviewerEnd crowded 0 1
one_comer = record { comers = 0 ∷ []; counted = refl; distinct = λ i j less on. absurd (omega arith); first = first; before = before }
  where
    first : (i : ℕ) → i < 1 → IsFirstChoice crowded (get_or (0 ∷ []) i 0) 0
    first zero on = a_chooses_h
    first (suc i) on = absurd (omega arith)

    before : (i : ℕ) → i < 1 → place_of crowded.reviewers 0 (get_or (0 ∷ []) i 0) < 1
    before zero on = omega arith
    before (suc i) on = absurd (omega arith)

no_comer : MayReviewerEnd crowded 0 0 → ⊥
no_comer h = let c = h.counted in let b = h.before 0 (omega arith) in omega arith

pub reviewers_list_ends : ReviewersListEnds
reviewers_list_ends = (a_chooses_h, one_comer, no_comer)

nobody_dearer : MayProposerEnd crowded 0 1
nobody_dearer = record {
  reviewer = 0;
  acceptable = both_list (omega arith) (omega arith);
  before = omega arith;
  count = 0;
  few = omega arith;
  rivals = record { rivals = []; counted = refl; all = λ q a less. absurd (omega arith) };
}

-- to both hospitals a is dearer than anybody else
a_is_dearer : (r count p : ℕ) → count < capacity_of crowded.reviewers r → 0 < place_of crowded.reviewers r p → HasRivals crowded r (place_of crowded.reviewers r p) count → ⊥
a_is_dearer zero count p few behind h = let on = h.all 0 (both_list (omega arith) (omega arith)) behind in let c = h.counted in omega arith
a_is_dearer (suc zero) count p few behind h = let on = h.all 0 (both_list (omega arith) (omega arith)) behind in let c = h.counted in omega arith
a_is_dearer (suc (suc r)) count p few behind h = absurd (omega arith)

not_first : (list : List ℕ) (p : ℕ) → get_or list 0 0 ≡ 0 → 0 < p → place_on list p < length list → 0 < place_on list p
not_first list p first other on = elim (lt_or_le 0 (place_on list p)) [
  | inl less ↦ less
  | inr none ↦ (
      let here = get_or-place_on list p on in
      let start = ap (λ k. get_or list k 0) (let e : place_on list p ≡ 0 = omega arith in e) in
      absurd (omega arith))
]

behind_a : (r p : ℕ) → 0 < p → IsAcceptable crowded p r → 0 < place_of crowded.reviewers r p
behind_a zero p other a = not_first (row crowded.reviewers 0) p refl other a.reviewer_lists
behind_a (suc zero) p other a = not_first (row crowded.reviewers 1) p refl other a.reviewer_lists
behind_a (suc (suc r)) p other a = let lists = a.reviewer_lists in absurd (omega arith)

pub proposers_list_ends : ProposersListEnds
proposers_list_ends = (nobody_dearer, (λ h. let b = h.before in omega arith), (λ h. a_is_dearer h.reviewer h.count 1 h.few (behind_a h.reviewer 1 (omega arith) h.acceptable) h.rivals))

pub unmatched_list_stays : UnmatchedListStays
unmatched_list_stays end h = a_is_dearer h.reviewer h.count 2 h.few (behind_a h.reviewer 2 (omega arith) h.acceptable) h.rivals
