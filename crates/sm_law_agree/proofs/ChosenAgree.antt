-- The right answers of `meet` and of `join` get a yes.
use Rattle.std.proofs.Common.{◌≡◌, ℕ, ◌&&◌, refl, sym, ap, ◌∙◌, Bool, true, List, [], ◌∷◌, ◌++◌, length, map, Option, subst}
use Rattle.std.specs.List.{list_all}
use Rattle.sm_agents.specs.Written.{Written, entry}
use Rattle.sm_instance.specs.Matching.{IsAssignment}
use Rattle.sm_agents.specs.Sound.{IsInstance}
use Rattle.sm_instance.specs.Stable.{IsStable}
use Rattle.sm_instance.specs.declared.inputs.Input.TheVariants.{Two}
use Rattle.sm_theory.specs.declared.choice.Choice.{Choice}
use Rattle.sm_theory.specs.declared.choice.Choice.TheVariants.{Better, Worse}
use Rattle.sm_report.specs.Heads.{HeadData}
use Rattle.sm_report.specs.Lines.{LineData}
use Rattle.sm_holding.specs.Held.{places_in, CanFollow}
use Rattle.sm_holding.specs.Chosen.{chosen_places}
use Rattle.sm_holding.proofs.ChoiceLemmas.{chosen_assigned}
use Rattle.sm_answer_given.specs.Chosen.{chosen_lines}
use Rattle.sm_answer_given.proofs.ChosenLemmas.{lines_sound}
use Rattle.sm_report.specs.declared.keywords.Keyword.TheVariants as keyword
use Rattle.sm_check_forms.specs.declared.layouts.LayoutPart.TheVariants.{One, Many}
use Rattle.sm_check_forms.proofs.KeywordLayouts.{is_whole, opening_of, closing, given_layout}
use Rattle.sm_check_forms.specs.Forms.{fits}
use Rattle.sm_check_clauses.specs.declared.verdicts.Reason.{Reason}
use Rattle.sm_check_clauses.specs.declared.verdicts.Reason.TheVariants as reason
use Rattle.sm_check_clauses.specs.Said.{pair_in, pairs_in, left_in, lefts_in, right_in, rights_in}
use Rattle.sm_check_clauses.specs.Pairs.{IsWanted, AreAllThere, ChosenHold}
use Rattle.sm_check_clauses.proofs.LinewiseLemmas.{AllHold, all_hold, hold_append, no_end}
use Rattle.sm_law_agree.specs.Agree.{GetYes, MeetAgrees, JoinAgrees}
use Rattle.sm_check_clauses.proofs.AnswerLemmas.{said_same}
use Rattle.sm_law_agree.proofs.LineLemmas.{Held, pass_append, has_word, has_other, is_whole-group, yes_of}
use Rattle.sm_law_agree.proofs.PairLemmas.{AreBelow, free_below, all_below, wanted_pair, all_wanted, lines_with, Above, pairs_hold, pairs_pass}

-- The clauses.

module _ (choice : Choice) (w : Written) where
  abbrev C : List LineData → LineData → Reason → Type 0
  C above line why = ChosenHold choice w (lefts_in above) (rights_in above) (pairs_in above) line why

  abbrev wanted_in : List LineData → List (Option ℕ)
  wanted_in above = chosen_places choice w (places_in w (lefts_in above)) (places_in w (rights_in above))

  left_holds : (above : List LineData) (p r : ℕ) → CanFollow w (lefts_in above) (p, r) → (why : Reason) → C above (LineData.LeftPair p r) why
  left_holds above p r free reason.NotAMatching = ((free, tt), tt)
  left_holds above p r free reason.Blocked = ((λ e. no_end e), tt)
  left_holds above p r free reason.WrongPair = (tt, (tt, (λ e. no_end e)))
  left_holds above p r free _ = (tt, tt)

  right_holds : (above : List LineData) (p r : ℕ) → CanFollow w (rights_in above) (p, r) → (why : Reason) → C above (LineData.RightPair p r) why
  right_holds above p r free reason.NotAMatching = ((tt, free), tt)
  right_holds above p r free reason.Blocked = ((λ e. no_end e), tt)
  right_holds above p r free reason.WrongPair = (tt, (tt, (λ e. no_end e)))
  right_holds above p r free _ = (tt, tt)

  pair_holds : (above : List LineData) (p r : ℕ) → IsWanted w (wanted_in above) (pairs_in above) (p, r) → (why : Reason) → C above (LineData.Pair p r) why
  pair_holds above p r wanted reason.NotAMatching = ((tt, tt), tt)
  pair_holds above p r wanted reason.Blocked = ((λ e. no_end e), tt)
  pair_holds above p r wanted reason.WrongPair = (tt, (wanted, (λ e. no_end e)))
  pair_holds above p r wanted _ = (tt, tt)

  head_holds : (head : HeadData) (why : Reason) → C [] (LineData.Answer head) why
  head_holds head reason.NotAMatching = ((tt, tt), tt)
  head_holds head reason.Blocked = ((λ e. no_end e), tt)
  head_holds head reason.WrongPair = (tt, (tt, (λ e. no_end e)))
  head_holds head _ = (tt, tt)

  end_holds : (above : List LineData) → IsStable w (places_in w (lefts_in above)) → IsStable w (places_in w (rights_in above)) → AreAllThere (wanted_in above) (pairs_in above)
      → (why : Reason) → C above LineData.End why
  end_holds above left right there reason.NotAMatching = ((tt, tt), tt)
  end_holds above left right there reason.Blocked = ((λ _. (left, right)), tt)
  end_holds above left right there reason.WrongPair = (tt, (tt, (λ _. there)))
  end_holds above left right there _ = (tt, tt)

  module _ (i : IsInstance w) (m n : List (Option ℕ)) (left : IsStable w m) (right : IsStable w n) (head : HeadData) where
    abbrev count : ℕ
    count = length w.proposers

    abbrev chosen : List (Option ℕ)
    chosen = chosen_places choice w m n

    assigned : IsAssignment w chosen
    assigned = chosen_assigned choice w m n left.matching.assigned right.matching.assigned

    abbrev lefts : List LineData
    lefts = lines_with LineData.LeftPair w m

    abbrev rights : List LineData
    rights = lines_with LineData.RightPair w n

    abbrev pairs : List LineData
    pairs = lines_with LineData.Pair w chosen

    abbrev lines : List LineData
    lines = LineData.Answer head ∷ (lefts ++ (rights ++ (pairs ++ LineData.End ∷ [])))

    -- what is known behind the head, the left pairs and the right pairs
    abbrev NoneBehind : List LineData → Type 0
    NoneBehind above = (rights_in above ≡ []) × (pairs_in above ≡ [])

    abbrev LeftsBehind : List LineData → Type 0
    LeftsBehind above = AreBelow w m count (lefts_in above) × (pairs_in above ≡ [])

    abbrev BothBehind : List LineData → Type 0
    BothBehind above = AreBelow w m count (lefts_in above) × AreBelow w n count (rights_in above)

    lefts_hold : Held C (Above C w m left_in LineData.LeftPair (λ p r. refl) NoneBehind count) (LineData.Answer head ∷ []) lefts
    lefts_hold =
        pairs_hold C w m left_in LineData.LeftPair (λ p r. refl) NoneBehind
        (λ above p r k. (said_same right_in above (LineData.LeftPair p r) refl ∙ k.0, said_same pair_in above (LineData.LeftPair p r) refl ∙ k.1))
        (λ above p j k e. left_holds above p (entry w.proposers p j) (free_below k.0 left.matching j e)) (LineData.Answer head ∷ []) refl (refl, refl)

    rights_hold : Held C (Above C w n right_in LineData.RightPair (λ p r. refl) LeftsBehind count) (LineData.Answer head ∷ lefts) rights
    rights_hold =
        pairs_hold C w n right_in LineData.RightPair (λ p r. refl) LeftsBehind
        (λ above p r k. (subst (AreBelow w m count) (sym (said_same left_in above (LineData.RightPair p r) refl)) k.0, said_same pair_in above (LineData.RightPair p r) refl ∙ k.1))
        (λ above p j k e. right_holds above p (entry w.proposers p j) (free_below k.0 right.matching j e))
        (LineData.Answer head ∷ lefts) lefts_hold.1.1.0 (lefts_hold.1.0, lefts_hold.1.1.1)

    -- the two matchings that are said
    left_is : (above : List LineData) → AreBelow w m count (lefts_in above) → places_in w (lefts_in above) ≡ m
    left_is above k = all_below k i.proposer_entries left.matching.assigned

    right_is : (above : List LineData) → AreBelow w n count (rights_in above) → places_in w (rights_in above) ≡ n
    right_is above k = all_below k i.proposer_entries right.matching.assigned

    chosen_is : (above : List LineData) → BothBehind above → chosen ≡ wanted_in above
    chosen_is above k = ap (λ x. chosen_places choice w x n) (sym (left_is above k.0)) ∙ ap (chosen_places choice w (places_in w (lefts_in above))) (sym (right_is above k.1))

    pairs_are : Held C (Above C w chosen pair_in LineData.Pair (λ p r. refl) BothBehind count) ((LineData.Answer head ∷ lefts) ++ rights) pairs
    pairs_are =
        pairs_hold C w chosen pair_in LineData.Pair (λ p r. refl) BothBehind
        (λ above p r k. (
          subst (AreBelow w m count) (sym (said_same left_in above (LineData.Pair p r) refl)) k.0,
          subst (AreBelow w n count) (sym (said_same right_in above (LineData.Pair p r) refl)) k.1,
        ))
        (λ above p j k e.
        pair_holds above p (entry w.proposers p j)
        (subst (λ x. IsWanted w x (pairs_in above) (p, entry w.proposers p j)) (chosen_is above k.1) (wanted_pair i chosen assigned (pairs_in above) p j k.0 e)))
        ((LineData.Answer head ∷ lefts) ++ rights) rights_hold.1.1.1 (rights_hold.1.1.0, rights_hold.1.0)

    ends : (why : Reason) → C (((LineData.Answer head ∷ lefts) ++ rights) ++ pairs) LineData.End why
    ends =
        let above = ((LineData.Answer head ∷ lefts) ++ rights) ++ pairs in
        let k = pairs_are.1 in
        end_holds above (subst (IsStable w) (sym (left_is above k.1.0)) left) (subst (IsStable w) (sym (right_is above k.1.1)) right)
        (subst (λ x. AreAllThere x (pairs_in above)) (chosen_is above k.1) (all_wanted i chosen assigned (pairs_in above) k.0))

    -- all clauses hold at the lines of a right answer
    pub all : AllHold C [] lines
    all = (
      head_holds head,
      hold_append C (LineData.Answer head ∷ []) lefts (rights ++ (pairs ++ LineData.End ∷ [])) lefts_hold.0
          (hold_append C (LineData.Answer head ∷ lefts) rights (pairs ++ LineData.End ∷ []) rights_hold.0
          (hold_append C ((LineData.Answer head ∷ lefts) ++ rights) pairs (LineData.End ∷ []) pairs_are.0 (ends, tt))),
    )

    -- their form
    passing : (test : LineData → Bool) → ((p r : ℕ) → test (LineData.Pair p r) ≡ true) → test LineData.End ≡ true → list_all test (pairs ++ LineData.End ∷ []) ≡ true
    passing test each end = pass_append test pairs (LineData.End ∷ []) (pairs_pass LineData.Pair w chosen test each) (ap (λ t. t && true) end)

    -- the lines behind the head are of their form
    pub behind_fits : list_all (fits (Two w)) (lefts ++ (rights ++ (pairs ++ LineData.End ∷ []))) ≡ true
    behind_fits =
        pass_append (fits (Two w)) lefts (rights ++ (pairs ++ LineData.End ∷ [])) (pairs_pass LineData.LeftPair w m (fits (Two w)) (λ p r. refl))
        (pass_append (fits (Two w)) rights (pairs ++ LineData.End ∷ []) (pairs_pass LineData.RightPair w n (fits (Two w)) (λ p r. refl)) (passing (fits (Two w)) (λ p r. refl) refl))

    -- they are a whole answer
    pub placed : is_whole (given_layout ∷ []) (map opening_of (lefts ++ (rights ++ (pairs ++ LineData.End ∷ [])))) ≡ true
    placed =
        is_whole-group keyword.Left (Many keyword.Right) (Many keyword.Pair ∷ closing) lefts (rights ++ (pairs ++ LineData.End ∷ []))
        (pairs_pass LineData.LeftPair w m (has_word keyword.Left) (λ p r. refl))
        (pass_append (has_other keyword.Left) rights (pairs ++ LineData.End ∷ []) (pairs_pass LineData.RightPair w n (has_other keyword.Left) (λ p r. refl)) (passing (has_other keyword.Left) (λ p r. refl) refl))
        (is_whole-group keyword.Right (Many keyword.Pair) closing rights (pairs ++ LineData.End ∷ []) (pairs_pass LineData.RightPair w n (has_word keyword.Right) (λ p r. refl))
        (passing (has_other keyword.Right) (λ p r. refl) refl)
        (is_whole-group keyword.Pair (One keyword.End) [] pairs (LineData.End ∷ []) (pairs_pass LineData.Pair w chosen (has_word keyword.Pair) (λ p r. refl)) refl refl))

module _ (w : Written) (i : IsInstance w) (m n : List (Option ℕ)) (left : IsStable w m) (right : IsStable w n) where
  -- the right answer of `meet` gets a yes
  pub meet_yes : GetYes (Two w) (chosen_lines Better w m n)
  meet_yes =
      yes_of (Two w) (chosen_lines Better w m n) (lines_sound Better w m n (Two w) refl i left.matching.assigned right.matching.assigned)
      (behind_fits Better w i m n left right HeadData.Meet) (placed Better w i m n left right HeadData.Meet)
      (all_hold (C Better w) (chosen_lines Better w m n) (all Better w i m n left right HeadData.Meet))

  -- the right answer of `join` gets a yes
  pub join_yes : GetYes (Two w) (chosen_lines Worse w m n)
  join_yes =
      yes_of (Two w) (chosen_lines Worse w m n) (lines_sound Worse w m n (Two w) refl i left.matching.assigned right.matching.assigned)
      (behind_fits Worse w i m n left right HeadData.Join) (placed Worse w i m n left right HeadData.Join)
      (all_hold (C Worse w) (chosen_lines Worse w m n) (all Worse w i m n left right HeadData.Join))

-- the law for `meet`
pub meet_agrees : MeetAgrees
meet_agrees w texts answer i a = subst (GetYes (Two w)) (sym a.shows) (meet_yes w i (places_in w a.left) (places_in w a.right) a.first.stable a.second.stable)

-- the law for `join`
pub join_agrees : JoinAgrees
join_agrees w texts answer i a = subst (GetYes (Two w)) (sym a.shows) (join_yes w i (places_in w a.left) (places_in w a.right) a.first.stable a.second.stable)
