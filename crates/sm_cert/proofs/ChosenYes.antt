-- What a yes on an answer of `meet` and of `join` means.
use Rattle.std.proofs.Common.{◌≡◌, ℕ, ◌⊎◌, ◌||◌, ◌==◌, inl, inr, arith, refl, sym, ap, ◌∙◌, Bool, true, false, List, [], ◌∷◌, ◌++◌, length, take, codes, Option, Some, None, IsSome, subst}
use Rattle.std.specs.Prelude.{Contains, IfSome}
use Rattle.std.specs.List.{slice_get}
use Rattle.std.proofs.lemmas.Bool.{false≢true}
use Rattle.std.proofs.lemmas.List.Elements.{Contains-append_cases}
use Rattle.std.proofs.lemmas.Option.{same_Some}
use Rattle.sm_agents.specs.Written.{Written, place_of, lists_of}
use Rattle.sm_instance.specs.Matching.{held, IsAssignment}
use Rattle.sm_instance.specs.Stable.{IsStable}
use Rattle.sm_instance.specs.declared.inputs.Input.TheVariants.{Two}
use Rattle.sm_instance.proofs.CrossLemmas.{row-lists_of}
use Rattle.sm_market.specs.Lists.{place_of as place_in_rows}
use Rattle.sm_theory.specs.declared.choice.Choice.{Choice}
use Rattle.sm_theory.specs.declared.choice.Choice.TheVariants.{Better, Worse}
use Rattle.sm_holding.specs.Held.{partner_in, places_in, CanFollow}
use Rattle.sm_holding.specs.Chosen.{chosen_places, head_for}
use Rattle.sm_holding.proofs.ChoiceLemmas.{chosen_assigned}
use Rattle.sm_report.specs.Lines.{LineData}
use Rattle.sm_check_clauses.specs.declared.verdicts.Reason.TheVariants as reason
use Rattle.sm_check_forms.proofs.KeywordNumbers.{keyword_number}
use Rattle.sm_report.specs.Keywords.{keyword_of}
use Rattle.sm_check_forms.proofs.KeywordLayouts.{layouts_of, given_layout}
use Rattle.sm_check_clauses.specs.Said.{pair_in, pairs_in, left_in, lefts_in, right_in, rights_in}
use Rattle.sm_check_clauses.specs.Pairs.{IsWanted, AreAllThere}
use Rattle.sm_check_clauses.specs.Judging.{answer, Clauses}
use Rattle.sm_check_forms.specs.Laws.{closing_of}
use Rattle.sm_cert.specs.Yes.{GetsYes, ArePairsOf, IsChosen, MeetYes, JoinYes}
use Rattle.sm_check_answers.proofs.ChosenLemmas.{of_clauses}
use Rattle.sm_cert.proofs.GroupLemmas.{Tells, Begins, Parted, parted_behind, said_then}
use Rattle.sm_cert.proofs.SolveYes.{free_pairs}
use Rattle.sm_cert.proofs.YesLines.{IsRight, right_two, at_closing, said_above, each_line, grown}
use Rattle.sm_cert.proofs.YesPairs.{only_one, AreGiven, none_given, one_given, given_there, same_place, same_places}

-- The pairs of a matching that is wanted.
module _ (w : Written) (wanted : List (Option ℕ)) (on_lists : IsAssignment w wanted) where
  abbrev rows : List (List ℕ)
  rows = lists_of w.proposers

  -- pairs of the wanted matching, in which no proposer stands twice
  pub record AreWanted (pairs : List (ℕ × ℕ)) : Type 0 where
    pub given : AreGiven rows pairs
    pub in_matching : (p r : ℕ) → Contains pairs (p, r) → held wanted p ≡ Some (place_of w.proposers p r)

  -- no pairs are such
  pub none_wanted : AreWanted []
  none_wanted = record { given = none_given rows; in_matching = λ p r c. absurd (let l = c.1 in omega arith) }

  -- with one more that is wanted they are still such
  pub one_wanted : (pairs : List (ℕ × ℕ)) (x : ℕ × ℕ) → AreWanted pairs → IsWanted w wanted pairs x → AreWanted (pairs ++ x ∷ [])
  one_wanted pairs x k f = record {
    given =
        let on = on_lists.on_lists x.0 (place_of w.proposers x.0 x.1) f.in_matching in
        let place = same_places w x.0 x.1 in
        let long = ap (λ (list : List ℕ). length list) (row-lists_of w.proposers x.0) in
        one_given rows pairs x k.given (omega arith) f.once;
    in_matching = λ p r c. elim (Contains-append_cases pairs (x ∷ []) (p, r) c) [
      | inl had ↦ k.in_matching p r had
      | inr now ↦ subst (λ (y : ℕ × ℕ). held wanted y.0 ≡ Some (place_of w.proposers y.0 y.1)) (only_one now) f.in_matching
    ];
  }

  -- where each matched proposer stands in one, they are the pairs of the matching
  pub all_wanted : (pairs : List (ℕ × ℕ)) → AreWanted pairs → AreAllThere wanted pairs → ArePairsOf rows wanted pairs
  all_wanted pairs k all = record {
    each = λ p r. (λ c. k.in_matching p r c ∙ ap (λ (i : ℕ). Some i) (sym (same_places w p r)), λ e. back p r e);
    once = k.given.apart;
  }
    where
      back : (p r : ℕ) → held wanted p ≡ Some (place_in_rows rows p r) → Contains pairs (p, r)
      back p r e = go (partner_in pairs p) refl (all p (subst IsSome (sym e) refl))
        where
          go : (o : Option ℕ) → partner_in pairs p ≡ o → IsSome (partner_in pairs p) → Contains pairs (p, r)
          go None is some = absurd (let none = subst IsSome is some in cc)
          go (Some s) is some =
              let c = given_there pairs p s is in
              let same : place_of w.proposers p s ≡ place_in_rows rows p r = same_Some _ _ (sym (k.in_matching p s c) ∙ e) in
              subst (λ z. Contains pairs (p, z)) (same_place rows p r s (k.given.listed p s c) (same_places w p s ∙ same)) c

-- The two matchings stand before the pairs.

given_words : ℕ → Bool
given_words n = (n == 18) || (n == 19)

abbrev is_up_to_rights : LineData → Bool
is_up_to_rights (LineData.Answer head) = true
is_up_to_rights (LineData.LeftPair p r) = true
is_up_to_rights (LineData.RightPair p r) = true
is_up_to_rights _ = false

tells : Tells given_words is_up_to_rights
unfolding given_words
tells = record { other = refl; same = same }
  where
    same : (x : LineData) → (is_up_to_rights x ≡ given_words (keyword_number (keyword_of x))) ⊎ (keyword_number (keyword_of x) ≡ 21)
    same (LineData.Answer head) = inr refl
    same _ = inl refl

begins : Begins given_words given_layout
unfolding given_words
begins = inl (refl, inl (refl, inr ((refl, refl), ((refl, refl), tt))))

no_left : (x : LineData) → is_up_to_rights x ≡ false → left_in x ≡ None
no_left (LineData.LeftPair p r) e = absurd (false≢true (sym e))
no_left _ e = refl

no_right : (x : LineData) → is_up_to_rights x ≡ false → right_in x ≡ None
no_right (LineData.RightPair p r) e = absurd (false≢true (sym e))
no_right _ e = refl

one_layout : (choice : Choice) (w : Written) → layouts_of (Two w) (head_for choice) ≡ given_layout ∷ []
one_layout Better w = refl
one_layout Worse w = refl

closing_so : (choice : Choice) → closing_of (head_for choice) ≡ codes "end" ∷ []
closing_so Better = refl
closing_so Worse = refl

module _ (choice : Choice) (w : Written) (lines : List LineData) (p : Parted is_up_to_rights lines) (k : ℕ) where
  abbrev Wants : List (ℕ × ℕ) → List (ℕ × ℕ) → ℕ × ℕ → Type 0
  Wants lefts rights pair = IsWanted w (chosen_places choice w (places_in w lefts) (places_in w rights)) (pairs_in (take k lines)) pair

  same_wanted : (line : LineData) → slice_get lines k ≡ Some line → IfSome (pair_in line) (Wants (lefts_in (take k lines)) (rights_in (take k lines)))
      → IfSome (pair_in line) (Wants (lefts_in lines) (rights_in lines))
  same_wanted (LineData.Pair a b) e f =
      subst (λ (rights : List (ℕ × ℕ)). Wants (lefts_in lines) rights (a, b)) (said_then p right_in no_right k (LineData.Pair a b) e refl)
      (subst (λ (lefts : List (ℕ × ℕ)). Wants lefts (rights_in (take k lines)) (a, b)) (said_then p left_in no_left k (LineData.Pair a b) e refl) f)
  same_wanted _ e f = tt

  wanted_at : (r : IsRight (answer w (head_for choice)) lines) → IfSome (slice_get lines k) (λ line. IfSome (pair_in line) (Wants (lefts_in lines) (rights_in lines)))
  wanted_at r = go (slice_get lines k) refl (r.holds k reason.WrongPair)
    where
      go : (o : Option LineData) → slice_get lines k ≡ o → IfSome o (λ line. Clauses (answer w (head_for choice)) (take k lines) line reason.WrongPair)
          → IfSome o (λ line. IfSome (pair_in line) (Wants (lefts_in lines) (rights_in lines)))
      go None e h = tt
      go (Some line) e h = same_wanted line e (of_clauses choice w (take k lines) line reason.WrongPair h).1.0

chosen_yes : (choice : Choice) (w : Written) (lines : List LineData) → GetsYes (Two w) (head_for choice) lines → IsChosen choice w (lefts_in lines) (rights_in lines) (pairs_in lines)
chosen_yes choice w lines g =
    let r = right_two {w = w} {head = head_for choice} (closing_so choice) g in
    let p : Parted is_up_to_rights lines = parted_behind tells {w = w} {head = head_for choice} given_layout (one_layout choice w) begins refl g in
    let lefts : lefts_in r.front ≡ lefts_in lines = said_above left_in r refl in
    let rights : rights_in r.front ≡ rights_in lines = said_above right_in r refl in
    let pairs : pairs_in r.front ≡ pairs_in lines = said_above pair_in r refl in
    let both = (of_clauses choice w r.front LineData.End reason.Blocked (at_closing r reason.Blocked)).0 refl in
    let there = (of_clauses choice w r.front LineData.End reason.WrongPair (at_closing r reason.WrongPair)).1.1 refl in
    let left = subst (λ (ps : List (ℕ × ℕ)). IsStable w (places_in w ps)) lefts both.0 in
    let right = subst (λ (ps : List (ℕ × ℕ)). IsStable w (places_in w ps)) rights both.1 in
    let wanted = chosen_places choice w (places_in w (lefts_in lines)) (places_in w (rights_in lines)) in
    let on_lists : IsAssignment w wanted = chosen_assigned choice w (places_in w (lefts_in lines)) (places_in w (rights_in lines)) left.matching.assigned right.matching.assigned in
    let all : AreAllThere wanted (pairs_in lines) =
    subst (λ (ps : List (ℕ × ℕ)). AreAllThere wanted ps) pairs
    (subst (λ (ps : List (ℕ × ℕ)). AreAllThere (chosen_places choice w (places_in w (lefts_in lines)) (places_in w ps)) (pairs_in r.front)) rights
    (subst (λ (ps : List (ℕ × ℕ)). AreAllThere (chosen_places choice w (places_in w ps) (places_in w (rights_in r.front))) (pairs_in r.front)) lefts there)) in
    record {
      left = places_in w (lefts_in lines);
      right = places_in w (rights_in lines);
      left_stable = left;
      right_stable = right;
      left_written = free_pairs w left_in lines
          (λ k. each_line r reason.NotAMatching {Q = λ above line. IfSome (left_in line) (CanFollow w (lefts_in above))} (λ above line h. (of_clauses choice w above line reason.NotAMatching h).0.0) k);
      right_written = free_pairs w right_in lines
          (λ k. each_line r reason.NotAMatching {Q = λ above line. IfSome (right_in line) (CanFollow w (rights_in above))} (λ above line h. (of_clauses choice w above line reason.NotAMatching h).0.1) k);
      written = all_wanted w wanted on_lists (pairs_in lines)
          (grown pair_in (AreWanted w wanted on_lists) (IsWanted w wanted) lines (none_wanted w wanted on_lists) (one_wanted w wanted on_lists) (λ k. wanted_at choice w lines p k r)) all;
    }

-- the law of a yes on `meet`
pub meet_yes : MeetYes
meet_yes w lines g = chosen_yes Better w lines g

-- the law of a yes on `join`
pub join_yes : JoinYes
join_yes w lines g = chosen_yes Worse w lines g
