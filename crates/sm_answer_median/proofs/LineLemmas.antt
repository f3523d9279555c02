-- The lines of the answer of `median`.
use Rattle.std.proofs.Common.{◌≡◌, ℕ, ◌-◌, List, [], ◌∷◌, ◌++◌, length, Option, sym, ap, ◌∙◌, arith, subst}
use Rattle.std.specs.List.{All}
use Rattle.std.proofs.lemmas.List.Elements.{All-append, All-cons}
use Rattle.sm_answer.specs.Lines.{lines_from}
use Rattle.sm_answer.specs.MatchingLines.{pair_line}
use Rattle.sm_answer.proofs.AnswerLemmas.{one_all, lines_all}
use Rattle.sm_answer.proofs.LineLemmas.{end_sound, pair_sound}
use Rattle.sm_agents.specs.Written.{Written}
use Rattle.sm_instance.specs.declared.inputs.Input.{Input}
use Rattle.sm_instance.specs.declared.inputs.Input.TheVariants.{Two}
use Rattle.sm_report.specs.Heads.{HeadData}
use Rattle.sm_report.specs.Lines.{LineData}
use Rattle.sm_report.specs.Sound.{IsLineOf}
use Rattle.sm_answer_median.specs.MedianAnswer.{IsMedianAnswer, median_lines}
use Rattle.sm_answer_median.specs.Found.{IsMedianOfSome}

-- the lines as they are given
abbrev pub median_given : Written → ℕ → List (Option ℕ) → List LineData
median_given w listed places =
    (LineData.Answer HeadData.Median ∷ []) ++ ((LineData.Listed listed ∷ []) ++ (lines_from (pair_line w places) 0 (length w.proposers - 0) ++ (LineData.End ∷ [])))

given_is : (w : Written) (listed : ℕ) (places : List (Option ℕ)) → median_given w listed places ≡ median_lines w listed places
given_is w listed places =
    let count : length w.proposers - 0 ≡ length w.proposers = omega arith in
    ap (λ n. LineData.Answer HeadData.Median ∷ LineData.Listed listed ∷ (lines_from (pair_line w places) 0 n ++ LineData.End ∷ [])) count

module _ {w : Written} {listed : ℕ} {places : List (Option ℕ)} (m : IsMedianOfSome w listed places) where
  -- they are a right answer
  pub median_right : IsMedianAnswer w (median_given w listed places)
  median_right = record { vectors = m.vectors; places = places; median = m.median; shows = given_is w listed places ∙ ap (λ n. median_lines w n places) m.count }

  -- and lines of the instance
  pub median_sound : (input : Input) → input ≡ Two w → All (IsLineOf input) (median_given w listed places)
  median_sound input two =
      let P = IsLineOf (Two w) in
      let rest = lines_from (pair_line w places) 0 (length w.proposers) in
      subst (λ (i : Input). All (IsLineOf i) (median_given w listed places)) (sym two)
      (subst (All P) (sym (given_is w listed places))
      (All-cons P (LineData.Answer HeadData.Median) (LineData.Listed listed ∷ (rest ++ LineData.End ∷ [])) (record { printable = tt; seats = λ k d l. absurd (omega arith); numbers = tt; head = tt })
      (All-cons P (LineData.Listed listed) (rest ++ LineData.End ∷ []) (record { printable = tt; seats = λ k d l. absurd (omega arith); numbers = omega (arith, m.count, m.median.all.limited); head = tt })
      (All-append P rest (LineData.End ∷ []) (lines_all P (pair_line w places) (pair_sound w places m.median.stable.matching) 0 (length w.proposers))
      (one_all P LineData.End (end_sound (Two w)))))))
