-- An answer of `solve` that gets a yes is a right one, but for the order of its pairs.
use Rattle.std.proofs.Common.{◌≡◌, ℕ, refl, sym, ap, ◌∙◌, true, List, [], ◌∷◌, ◌++◌, length, map, Option, Some, subst}
use Rattle.std.proofs.lemmas.Bool.{false≢true}
use Rattle.sm_agents.specs.Written.{Written}
use Rattle.sm_instance.specs.Stable.{IsStable, IsBestOf}
use Rattle.sm_agents.specs.Sound.{IsInstance}
use Rattle.sm_agents.specs.declared.kinds.Side.{Side}
use Rattle.sm_agents.specs.declared.kinds.Side.TheVariants.{Proposers, Reviewers}
use Rattle.sm_report.specs.Heads.{HeadData}
use Rattle.sm_report.specs.Lines.{LineData}
use Rattle.sm_report.specs.declared.keywords.Keyword.TheVariants as keyword
use Rattle.sm_answer.specs.Lines.{lines_from}
use Rattle.sm_answer.specs.MatchingLines.{pair_line}
use Rattle.sm_answer_solve.specs.Solution.{IsSolution, solve_lines}
use Rattle.sm_check_forms.proofs.KeywordLayouts.{begins, is_whole, closing, solve_layout, opening_of}
use Rattle.sm_check_clauses.specs.Said.{pair_in, pairs_in}
use Rattle.sm_cert.specs.Yes.{IsSideBest, SolveYes}
use Rattle.sm_cert.proofs.YesLines.{by_head}
use Rattle.sm_law_yes.specs.Reordered.{IsReordered, IsRightButForOrder}
use Rattle.sm_law_yes.specs.Reordered.IsReordered.{kept}
use Rattle.sm_law_yes.specs.YesIsRight.{SolveIsRight}
use Rattle.sm_law_yes.proofs.ReorderLemmas.{reordered_before}
use Rattle.sm_law_yes.proofs.LineGroups.{grouped, closes, IsLineFor, ended, pairs_written}
use Rattle.sm_law_yes.proofs.PairLines.{written_in_order}

-- the line of a pair
abbrev pub pair_data : ℕ × ℕ → LineData
pair_data pair = LineData.Pair pair.0 pair.1

-- a line with this keyword is that of a pair
pub read_pair : (y : LineData) → begins (opening_of y) keyword.Pair ≡ true → IsLineFor pair_data pair_in y
read_pair (LineData.Pair p r) e = record { thing = (p, r); says = refl; is = refl }
read_pair _ e = absurd (false≢true e)

-- pairs and the closing line are the lines of the pairs that they say
pub pairs_and_end : (rest : List LineData) → is_whole (solve_layout ∷ []) (map opening_of rest) ≡ true → rest ≡ map pair_data (pairs_in rest) ++ LineData.End ∷ []
pairs_and_end rest placed =
    let g = grouped keyword.Pair closing rest placed in
    let ends = closes g.rest g.whole in
    g.is ∙ ap (λ (ls : List LineData). g.group ++ ls) ends
    ∙ ap (λ (ls : List LineData). ls ++ LineData.End ∷ []) (pairs_written pair_in keyword.Pair pair_data read_pair g.group g.words)
    ∙ ap (λ (pairs : List (ℕ × ℕ)). map pair_data pairs ++ LineData.End ∷ []) (sym (ended pair_in g (ap pairs_in ends)))

stable_of : (side : Side) {w : Written} {places : List (Option ℕ)} → IsBestOf side w places → IsStable w places
stable_of Proposers b = b.stable
stable_of Reviewers b = b.stable

behind_head : (w : Written) (side : Side) (rest : List LineData) → IsInstance w → is_whole (solve_layout ∷ []) (map opening_of rest) ≡ true → IsSideBest w side (pairs_in rest)
    → IsRightButForOrder (IsSolution side w) (LineData.Answer (HeadData.Solve (Some side)) ∷ rest)
behind_head w side rest i placed b =
    let stable : IsStable w b.places = stable_of side b.best in
    let ordered = written_in_order pair_data (λ x y. refl) (λ x. refl) w b.places (pairs_in rest) i stable.matching.assigned b.written in
    record {
      answer = solve_lines side w b.places;
      right = record { places = b.places; best = b.best; shows = refl };
      reordered = kept (LineData.Answer (HeadData.Solve (Some side)))
          (subst (λ (ls : List LineData). IsReordered ls (lines_from (pair_line w b.places) 0 (length w.proposers) ++ LineData.End ∷ [])) (sym (pairs_and_end rest placed))
          (reordered_before ordered (LineData.End ∷ [])));
    }

-- the law of `solve` over two sides
pub solve_is_right : SolveYes → SolveIsRight
solve_is_right meaning w side lines i g =
    by_head (λ (ls : List LineData). IsSideBest w side (pairs_in ls) → IsRightButForOrder (IsSolution side w) ls) g
    (λ rest placed _ b. behind_head w side rest i placed b) (meaning w side lines g)
