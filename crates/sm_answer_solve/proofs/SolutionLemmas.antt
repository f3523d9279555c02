-- The lines of the answer of `solve`.
use Rattle.std.proofs.Common.{◌≡◌, ◌≢◌, ℕ, ◌-◌, List, [], ◌∷◌, ◌++◌, Option, Some, length, refl, sym, ap, subst, arith}
use Rattle.std.specs.List.{All}
use Rattle.std.proofs.lemmas.List.Elements.{All-append, All-cons}
use Rattle.sm_answer.specs.Lines.{lines_from}
use Rattle.sm_answer.specs.MatchingLines.{matching_line, pair_line}
use Rattle.sm_answer.specs.declared.matching_lines.PairWord.TheVariants as word
use Rattle.sm_answer.proofs.AnswerLemmas.{lines_all}
use Rattle.sm_answer.proofs.LineLemmas.{pair_sound, end_sound}
use Rattle.sm_agents.specs.Written.{Written}
use Rattle.sm_agents.specs.Sound.{IsInstance}
use Rattle.sm_instance.specs.Matching.{IsMatching}
use Rattle.sm_instance.specs.Stable.{IsBestOf}
use Rattle.sm_instance.specs.declared.inputs.Input.{Input}
use Rattle.sm_instance.specs.declared.inputs.Input.TheVariants.{Two}
use Rattle.sm_agents.specs.declared.kinds.Kind.{Kind}
use Rattle.sm_agents.specs.declared.kinds.Kind.TheVariants.{Marriage, Hospitals, Roommates}
use Rattle.sm_agents.specs.declared.kinds.Side.{Side}
use Rattle.sm_agents.specs.declared.kinds.Side.TheVariants.{Proposers, Reviewers}
use Rattle.sm_report.specs.Heads.{HeadData}
use Rattle.sm_report.specs.Lines.{LineData}
use Rattle.sm_report.specs.Sound.{IsLineOf, NamesSide}
use Rattle.sm_answer_solve.specs.Solution.{solve_lines, IsSolution}
use Rattle.sm_answer_solve.specs.SolutionGiven.{solution_given}

-- a best matching is a matching
best_matching : (side : Side) (w : Written) (places : List (Option ℕ)) → IsBestOf side w places → IsMatching w places
best_matching Proposers w places best = best.stable.matching
best_matching Reviewers w places best = best.stable.matching

-- `solve` names a side where the instance has two
names_side : (kind : Kind) (side : Side) → kind ≢ Roommates → NamesSide kind (Some side)
names_side Marriage side two = refl
names_side Hospitals side two = refl
names_side Roommates side two = absurd (two refl)

-- the answer of `solve` has lines of the instance alone
pub solve_sound : (w : Written) (places : List (Option ℕ)) (side : Side) → IsInstance w → IsMatching w places → All (IsLineOf (Two w)) (solve_lines side w places)
solve_sound w places side h m =
    let P = IsLineOf (Two w) in
    All-cons P (LineData.Answer (HeadData.Solve (Some side))) (lines_from (pair_line w places) 0 (length w.proposers) ++ (LineData.End ∷ []))
    (record { printable = tt; seats = λ k d l. absurd (omega arith); numbers = tt; head = names_side w.kind side h.two_sided })
    (All-append P (lines_from (pair_line w places) 0 (length w.proposers)) (LineData.End ∷ [])
    (lines_all P (pair_line w places) (pair_sound w places m) 0 (length w.proposers))
    (All-cons P LineData.End [] (end_sound (Two w)) (λ k d l. absurd (omega arith))))

-- the lines that are given are those of the answer
given_is : (side : Side) (w : Written) (places : List (Option ℕ)) → solution_given side w places ≡ solve_lines side w places
given_is side w places =
    let count : length w.proposers - 0 ≡ length w.proposers = omega arith in
    ap (λ n. LineData.Answer (HeadData.Solve (Some side)) ∷ (lines_from (matching_line word.Pair w places) 0 n ++ (LineData.End ∷ []))) count

-- they are a right answer
pub solution_right : (side : Side) (w : Written) (places : List (Option ℕ)) → IsBestOf side w places → IsSolution side w (solution_given side w places)
solution_right side w places best = record { places = places; best = best; shows = given_is side w places }

-- and lines of the instance
pub solution_sound : (input : Input) (side : Side) {w : Written} (places : List (Option ℕ)) → IsInstance w → input ≡ Two w → IsBestOf side w places → All (IsLineOf input) (solution_given side w places)
solution_sound input side {w} places i two best =
    subst (λ (x : Input). All (IsLineOf x) (solution_given side w places)) (sym two)
    (subst (All (IsLineOf (Two w))) (sym (given_is side w places)) (solve_sound w places side i (best_matching side w places best)))
