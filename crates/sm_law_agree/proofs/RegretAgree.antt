-- A right answer of `regret` gets a yes, where there is a matching.
use Rattle.std.proofs.Common.{◌≡◌, ℕ, zero, suc, ◌+◌, ◌<◌, ◌≤◌, ◌^◌, arith, refl, sym, ap, ◌∙◌, true, List, [], ◌∷◌, ◌++◌, length, map, fold, max, slice_index_or, Option, Some, None, subst}
use Rattle.std.specs.List.{list_all, range_with_len, All}
use Rattle.std.proofs.lemmas.List.Elements.{All-append, All-cons}
use Rattle.sm_agents.specs.Written.{Written, entry}
use Rattle.sm_instance.specs.Matching.{held, IsMatching}
use Rattle.sm_agents.specs.Sound.{IsInstance}
use Rattle.sm_instance.specs.Stable.{IsStable}
use Rattle.sm_instance.specs.Allowed.{IsAllowed}
use Rattle.sm_instance.specs.Ranks.{worse_rank, regret_of}
use Rattle.sm_instance.specs.declared.inputs.Input.TheVariants.{Two}
use Rattle.sm_instance.proofs.AcceptLemmas.{proposer_row_fits}
use Rattle.sm_instance.proofs.PlaceLemmas.{length-row-le-others}
use Rattle.sm_instance.proofs.RankLemmas.{fold_below_more}
use Rattle.sm_report.specs.Heads.{HeadData}
use Rattle.sm_report.specs.Lines.{LineData}
use Rattle.sm_report.specs.Sound.{IsLineOf}
use Rattle.sm_answer.proofs.AnswerLemmas.{one_all, lines_all}
use Rattle.sm_answer.specs.MatchingLines.{pair_line}
use Rattle.sm_answer.proofs.LineLemmas.{end_sound, pair_sound}
use Rattle.sm_answer_pairs.specs.RegretAnswer.{regret_lines}
use Rattle.sm_report.specs.declared.keywords.Keyword.TheVariants as keyword
use Rattle.sm_check_forms.specs.declared.layouts.LayoutPart.TheVariants.{One}
use Rattle.sm_check_forms.proofs.KeywordLayouts.{is_whole, is_placed}
use Rattle.sm_check_forms.specs.Forms.{fits}
use Rattle.sm_holding.specs.Held.{places_in, CanFollow}
use Rattle.sm_check_clauses.specs.declared.verdicts.Reason.{Reason}
use Rattle.sm_check_clauses.specs.declared.verdicts.Reason.TheVariants as reason
use Rattle.sm_check_clauses.specs.Said.{pair_in, pairs_in, regret_in, first_said}
use Rattle.sm_check_clauses.specs.Judging.{answer, Clauses}
use Rattle.sm_check_clauses.proofs.LinewiseLemmas.{AllHold, all_hold, hold_append, no_end}
use Rattle.sm_law_agree.specs.Agree.{GetYes, RegretAgrees}
use Rattle.sm_check_clauses.proofs.AnswerLemmas.{said_same}
use Rattle.sm_law_agree.proofs.LineLemmas.{Held, pass_append, has_word, is_whole-group, yes_of}
use Rattle.sm_law_agree.proofs.PairLemmas.{free_below, all_below, lines_with, Above, pairs_hold, pairs_pass}

-- A regret is a small number.

bounded : (f : ℕ → ℕ) (bound k : ℕ) → ((p : ℕ) → f p ≤ bound) → fold max 0 (map f (range_with_len 0 k)) ≤ bound
bounded f bound zero each = omega arith
bounded f bound (suc k) each =
    let e : suc k ≡ k + 1 = omega arith in
    let s = ap (λ n. fold max 0 (map f (range_with_len 0 n))) e ∙ fold_below_more max 0 f k in
    omega (arith, s, bounded f bound k each, each k)

regret_small : {w : Written} (places : List (Option ℕ)) → IsInstance w → IsMatching w places → regret_of w places < 2 ^ 32
regret_small {w} places i m =
    let low = bounded (λ p. worse_rank w p (held places p)) 4097 (length w.proposers) (λ p. go p (held places p) refl) in
    omega (arith, low)
  where
    go : (p : ℕ) (o : Option ℕ) → held places p ≡ o → worse_rank w p o ≤ 4097
    go p None e = omega arith
    go p (Some k) e =
        let r = entry w.proposers p k in
        let on = m.assigned.on_lists p k e in
        let back = (m.acceptable p k e).reviewer_lists in
        omega (arith, on, proposer_row_fits i p, back, length-row-le-others i.reviewer_entries r, i.limits.proposers)

-- The clauses.

module _ (w : Written) where
  abbrev C : List LineData → LineData → Reason → Type 0
  C = Clauses (answer w HeadData.Regret)

  head_holds : (above : List LineData) (why : Reason) → C above (LineData.Answer HeadData.Regret) why
  head_holds above reason.NotAMatching = tt
  head_holds above reason.Blocked = λ e. no_end e
  head_holds above reason.NotAllowed = λ e. no_end e
  head_holds above reason.WrongRegret = λ e. no_end e
  head_holds above _ = tt

  regret_holds : (above : List LineData) (n : ℕ) (why : Reason) → C above (LineData.Regret n) why
  regret_holds above n reason.NotAMatching = tt
  regret_holds above n reason.Blocked = λ e. no_end e
  regret_holds above n reason.NotAllowed = λ e. no_end e
  regret_holds above n reason.WrongRegret = λ e. no_end e
  regret_holds above n _ = tt

  pair_holds : (above : List LineData) (p r : ℕ) → CanFollow w (pairs_in above) (p, r) → (why : Reason) → C above (LineData.Pair p r) why
  pair_holds above p r free reason.NotAMatching = free
  pair_holds above p r free reason.Blocked = λ e. no_end e
  pair_holds above p r free reason.NotAllowed = λ e. no_end e
  pair_holds above p r free reason.WrongRegret = λ e. no_end e
  pair_holds above p r free _ = tt

  end_holds : (above : List LineData) → IsStable w (places_in w (pairs_in above)) → IsAllowed w (places_in w (pairs_in above))
      → first_said 0 regret_in above ≡ regret_of w (places_in w (pairs_in above)) → (why : Reason) → C above LineData.End why
  end_holds above stable allowed regret reason.NotAMatching = tt
  end_holds above stable allowed regret reason.Blocked = λ _. stable
  end_holds above stable allowed regret reason.NotAllowed = λ _. allowed
  end_holds above stable allowed regret reason.WrongRegret = λ _. regret
  end_holds above stable allowed regret _ = tt

  module _ (places : List (Option ℕ)) (i : IsInstance w) (stable : IsStable w places) (allowed : IsAllowed w places) where
    abbrev front : List LineData
    front = LineData.Answer HeadData.Regret ∷ LineData.Regret (regret_of w places) ∷ []

    abbrev pairs : List LineData
    pairs = lines_with LineData.Pair w places

    -- the regret is said
    abbrev IsSaid : List LineData → Type 0
    IsSaid above = first_said 0 regret_in above ≡ regret_of w places

    pairs_are : Held C (Above C w places pair_in LineData.Pair (λ p r. refl) IsSaid (length w.proposers)) front pairs
    pairs_are =
        pairs_hold C w places pair_in LineData.Pair (λ p r. refl) IsSaid
        (λ above p r k. ap (λ (ns : List ℕ). slice_index_or ns 0 0) (said_same regret_in above (LineData.Pair p r) refl) ∙ k)
        (λ above p j k e. pair_holds above p (entry w.proposers p j) (free_below k.0 stable.matching j e)) front refl refl

    same : places_in w (pairs_in (front ++ pairs)) ≡ places
    same = all_below pairs_are.1.0 i.proposer_entries stable.matching.assigned

    every : AllHold C [] (regret_lines w places)
    every = (
      head_holds [],
      (
        regret_holds (LineData.Answer HeadData.Regret ∷ []) (regret_of w places),
        hold_append C front pairs (LineData.End ∷ []) pairs_are.0 (
          end_holds (front ++ pairs) (subst (IsStable w) (sym same) stable) (subst (IsAllowed w) (sym same) allowed) (pairs_are.1.1 ∙ ap (regret_of w) (sym same)),
          tt,
        ),
      ),
    )

    sound : All (IsLineOf (Two w)) (regret_lines w places)
    sound =
        let P = IsLineOf (Two w) in
        let rest = pairs ++ LineData.End ∷ [] in
        All-cons P (LineData.Answer HeadData.Regret) (LineData.Regret (regret_of w places) ∷ rest) (record { printable = tt; seats = λ k d l. absurd (omega arith); numbers = tt; head = tt })
        (All-cons P (LineData.Regret (regret_of w places)) rest (record { printable = tt; seats = λ k d l. absurd (omega arith); numbers = regret_small places i stable.matching; head = tt })
        (All-append P pairs (LineData.End ∷ []) (lines_all P (pair_line w places) (pair_sound w places stable.matching) 0 (length w.proposers)) (one_all P LineData.End (end_sound (Two w)))))

    fitting : list_all (fits (Two w)) (regret_lines w places) ≡ true
    fitting = pass_append (fits (Two w)) pairs (LineData.End ∷ []) (pairs_pass LineData.Pair w places (fits (Two w)) (λ p r. refl)) refl

    placed : is_placed is_whole (Two w) (regret_lines w places) ≡ true
    placed = is_whole-group keyword.Pair (One keyword.End) [] pairs (LineData.End ∷ []) (pairs_pass LineData.Pair w places (has_word keyword.Pair) (λ p r. refl)) refl refl

    -- the lines of the regret and of the pairs get a yes
    pub regret_yes : GetYes (Two w) (regret_lines w places)
    regret_yes = yes_of (Two w) (regret_lines w places) sound fitting placed (all_hold C (regret_lines w places) every)

-- the law for `regret`
pub regret_agrees : RegretAgrees
regret_agrees w lines i a = subst (GetYes (Two w)) (sym a.shows) (regret_yes w a.places i a.least.stable a.least.allowed)
