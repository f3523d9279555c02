-- A right answer of `solve` over an instance with two sides gets a yes.
use Rattle.std.proofs.Common.{◌≡◌, ℕ, refl, sym, true, List, [], ◌∷◌, length, Option, Some, subst}
use Rattle.std.specs.List.{list_all}
use Rattle.sm_agents.specs.Written.{Written, entry}
use Rattle.sm_agents.specs.Sound.{IsInstance}
use Rattle.sm_instance.specs.Stable.{IsStable, IsBestOf}
use Rattle.sm_instance.specs.declared.inputs.Input.TheVariants.{Two}
use Rattle.sm_agents.specs.declared.kinds.Side.{Side}
use Rattle.sm_agents.specs.declared.kinds.Side.TheVariants.{Proposers, Reviewers}
use Rattle.sm_report.specs.Heads.{HeadData}
use Rattle.sm_report.specs.Lines.{LineData}
use Rattle.sm_answer_solve.specs.Solution.{solve_lines}
use Rattle.sm_answer_solve.proofs.SolutionLemmas.{solve_sound}
use Rattle.sm_report.specs.declared.keywords.Keyword.TheVariants as keyword
use Rattle.sm_check_forms.specs.declared.layouts.LayoutPart.TheVariants.{One}
use Rattle.sm_check_forms.proofs.KeywordLayouts.{is_whole, is_placed}
use Rattle.sm_check_forms.specs.Forms.{fits}
use Rattle.sm_holding.specs.Held.{places_in, CanFollow}
use Rattle.sm_check_clauses.specs.declared.verdicts.Reason.{Reason}
use Rattle.sm_check_clauses.specs.declared.verdicts.Reason.TheVariants as reason
use Rattle.sm_check_clauses.specs.Said.{pair_in, pairs_in}
use Rattle.sm_check_clauses.specs.Judging.{answer, Clauses}
use Rattle.sm_check_clauses.proofs.LinewiseLemmas.{AllHold, all_hold, hold_append, no_end}
use Rattle.sm_law_agree.specs.Agree.{GetYes, SolveAgrees}
use Rattle.sm_law_agree.proofs.LineLemmas.{Held, pass_append, has_word, is_whole-group, yes_of}
use Rattle.sm_law_agree.proofs.PairLemmas.{free_below, all_below, lines_with, Above, pairs_hold, pairs_pass}

module _ (w : Written) (side : Side) where
  head_holds : (above : List LineData) (why : Reason) → Clauses (answer w (HeadData.Solve (Some side))) above (LineData.Answer (HeadData.Solve (Some side))) why
  head_holds above reason.NotAMatching = tt
  head_holds above reason.Blocked = λ e. no_end e
  head_holds above reason.NotBest = λ e. no_end e
  head_holds above _ = tt

  pair_holds : (above : List LineData) (p r : ℕ) → CanFollow w (pairs_in above) (p, r) → (why : Reason) → Clauses (answer w (HeadData.Solve (Some side))) above (LineData.Pair p r) why
  pair_holds above p r free reason.NotAMatching = free
  pair_holds above p r free reason.Blocked = λ e. no_end e
  pair_holds above p r free reason.NotBest = λ e. no_end e
  pair_holds above p r free _ = tt

  end_holds : (above : List LineData) → IsStable w (places_in w (pairs_in above)) → IsBestOf side w (places_in w (pairs_in above))
      → (why : Reason) → Clauses (answer w (HeadData.Solve (Some side))) above LineData.End why
  end_holds above stable best reason.NotAMatching = tt
  end_holds above stable best reason.Blocked = λ _. stable
  end_holds above stable best reason.NotBest = λ _. best
  end_holds above stable best _ = tt

stable_of : (side : Side) (w : Written) (places : List (Option ℕ)) → IsBestOf side w places → IsStable w places
stable_of Proposers w places b = b.stable
stable_of Reviewers w places b = b.stable

module _ {w : Written} (side : Side) (places : List (Option ℕ)) (i : IsInstance w) (best : IsBestOf side w places) where
  stable : IsStable w places
  stable = stable_of side w places best

  abbrev head : LineData
  head = LineData.Answer (HeadData.Solve (Some side))

  abbrev pairs : List LineData
  pairs = lines_with LineData.Pair w places

  abbrev C : List LineData → LineData → Reason → Type 0
  C = Clauses (answer w (HeadData.Solve (Some side)))

  abbrev Nothing : List LineData → Type 0
  Nothing above = Unit {0}

  front : Held C (Above C w places pair_in LineData.Pair (λ p r. refl) Nothing (length w.proposers)) (head ∷ []) pairs
  front =
      pairs_hold C w places pair_in LineData.Pair (λ p r. refl) Nothing (λ above p r k. tt)
      (λ above p i k e. pair_holds w side above p (entry w.proposers p i) (free_below k.0 stable.matching i e)) (head ∷ []) refl tt

  same : places_in w (pairs_in (head ∷ pairs)) ≡ places
  same = all_below front.1.0 i.proposer_entries stable.matching.assigned

  ends : (why : Reason) → C (head ∷ pairs) LineData.End why
  ends = end_holds w side (head ∷ pairs) (subst (IsStable w) (sym same) stable) (subst (IsBestOf side w) (sym same) best)

  all : AllHold C [] (solve_lines side w places)
  all = (head_holds w side [], hold_append C (head ∷ []) pairs (LineData.End ∷ []) front.0 (ends, tt))

  fitting : list_all (fits (Two w)) (solve_lines side w places) ≡ true
  fitting = pass_append (fits (Two w)) pairs (LineData.End ∷ []) (pairs_pass LineData.Pair w places (fits (Two w)) (λ p r. refl)) refl

  placed : is_placed is_whole (Two w) (solve_lines side w places) ≡ true
  placed = is_whole-group keyword.Pair (One keyword.End) [] pairs (LineData.End ∷ []) (pairs_pass LineData.Pair w places (has_word keyword.Pair) (λ p r. refl)) refl refl

  -- the lines of the pairs of a side's best matching get a yes
  pub solve_yes : GetYes (Two w) (solve_lines side w places)
  solve_yes = yes_of (Two w) (solve_lines side w places) (solve_sound w places side i stable.matching) fitting placed (all_hold C (solve_lines side w places) all)

-- the law for `solve` over two sides
pub solve_agrees : SolveAgrees
solve_agrees w side lines i s = subst (GetYes (Two w)) (sym s.shows) (solve_yes side s.places i s.best)
