-- Giving the lines of rotations with their gains.
use Rattle.std.proofs.Common.{◌≡◌, ℕ, suc, ◌+◌, ◌-◌, ◌<◌, ◌≤◌, nat_lt, drop, true, false, cond, List, [], ◌∷◌, ◌++◌, Some, None, Ok, length, sym, ap, ◌∙◌, arith}
use Rattle.std.specs.List.{flat_map, range_with_len}
use Rattle.std.proofs.lemmas.Bool.Decides.{nat_tests}
use Rattle.sm_report.specs.Lines.{LineData, line_of}
use Rattle.sm_report.specs.declared.lines.Line.{Line}
use Rattle.sm_answer.specs.Giving.{GivesNext}
use Rattle.sm_answer.proofs.AnswerLemmas.{gave_first, gave_none}
use Rattle.sm_seats.specs.Seating.{Seating}
use Rattle.sm_answer_rotations.specs.RotationLines.{needs_line, rotation_line}
use Rattle.sm_answer_weight.specs.WeightAnswer.{in_two}
use Rattle.sm_answer_weight.specs.Given.{GainedRows, gain_line, second_gain_line, row_lines, lines_of_gained, gained_left, most_gained}
use Rattle.sm_answer_weight.specs.declared.gained_lines.RotationPart.{RotationPart}
use Rattle.sm_answer_weight.specs.declared.gained_lines.RotationPart.TheVariants.{Pairs, Needs, Gain, SecondGain}

module _ (s : Seating) (rows : GainedRows) (k : ℕ) where
  abbrev later : List LineData
  later = lines_of_gained s rows (k + 1)

  abbrev seconds : List LineData
  seconds = in_two rows.two (second_gain_line rows.second_gains k ∷ [])

  gained_first : k < length rows.rotations → lines_of_gained s rows k ≡ row_lines s rows k ++ later
  gained_first here = let count : length rows.rotations - k ≡ suc (length rows.rotations - (k + 1)) = omega arith in ap (λ n. flat_map (row_lines s rows) (range_with_len k n)) count

  -- a second gain is left where there is the rotation
  second_left : k < length rows.rotations → gained_left SecondGain s rows k ≡ second_gain_line rows.second_gains k ∷ later
  second_left here =
      let is : nat_lt k (length rows.rotations) ≡ true = grind (arith, nat_tests) in
      ap (λ t. cond t (second_gain_line rows.second_gains k ∷ later) []) is

  pub pairs_given : (line : Line) → k < length rows.rotations → line_of line ≡ rotation_line s rows.rotations k
      → GivesNext (λ rest. rest ≡ gained_left Pairs s rows k) (λ rest. rest ≡ gained_left Needs s rows k)
      (most_gained Pairs (length rows.rotations - k)) (most_gained Needs (length rows.rotations - k)) (Ok (Some line))
  pairs_given line here is =
      let all = gained_first here in
      gave_first _ _ line _ _ (all ∙ ap (λ t. t ∷ needs_line rows.needs k ∷ gain_line rows.gains k ∷ (seconds ++ later)) (sym is)
      ∙ ap (λ t. line_of line ∷ t) (sym (ap (drop 1) all))) (omega arith)

  pub needs_given : (line : Line) → k < length rows.rotations → line_of line ≡ needs_line rows.needs k
      → GivesNext (λ rest. rest ≡ gained_left Needs s rows k) (λ rest. rest ≡ gained_left Gain s rows k)
      (most_gained Needs (length rows.rotations - k)) (most_gained Gain (length rows.rotations - k)) (Ok (Some line))
  needs_given line here is =
      let all = gained_first here in
      gave_first _ _ line _ _ (ap (drop 1) all ∙ ap (λ t. t ∷ gain_line rows.gains k ∷ (seconds ++ later)) (sym is)
      ∙ ap (λ t. line_of line ∷ t) (sym (ap (drop 2) all))) (omega arith)

  -- the line of its gain is given, and in one level the next rotation follows
  pub gain_given : (line : Line) → k < length rows.rotations → rows.two ≡ false → line_of line ≡ gain_line rows.gains k
      → GivesNext (λ rest. rest ≡ gained_left Gain s rows k) (λ rest. rest ≡ gained_left Pairs s rows (k + 1))
      (most_gained Gain (length rows.rotations - k)) (most_gained Pairs (length rows.rotations - (k + 1))) (Ok (Some line))
  gain_given line here one is =
      gave_first _ _ line _ _ (ap (drop 2) (gained_first here) ∙ ap (λ t. t ∷ (seconds ++ later)) (sym is)
      ∙ ap (λ two. line_of line ∷ (in_two two (second_gain_line rows.second_gains k ∷ []) ++ later)) one) (omega arith)

  -- and in two levels its second gain
  pub gain_before_second : (line : Line) → k < length rows.rotations → rows.two ≡ true → line_of line ≡ gain_line rows.gains k
      → GivesNext (λ rest. rest ≡ gained_left Gain s rows k) (λ rest. rest ≡ gained_left SecondGain s rows k)
      (most_gained Gain (length rows.rotations - k)) (most_gained SecondGain (length rows.rotations - k)) (Ok (Some line))
  gain_before_second line here two is =
      gave_first _ _ line _ _ (ap (drop 2) (gained_first here) ∙ ap (λ t. t ∷ (seconds ++ later)) (sym is)
      ∙ ap (λ two. line_of line ∷ (in_two two (second_gain_line rows.second_gains k ∷ []) ++ later)) two
      ∙ ap (λ t. line_of line ∷ t) (sym (second_left here))) (omega arith)

  pub second_given : (line : Line) → k < length rows.rotations → line_of line ≡ second_gain_line rows.second_gains k
      → GivesNext (λ rest. rest ≡ gained_left SecondGain s rows k) (λ rest. rest ≡ gained_left Pairs s rows (k + 1))
      (most_gained SecondGain (length rows.rotations - k)) (most_gained Pairs (length rows.rotations - (k + 1))) (Ok (Some line))
  second_given line here is = gave_first _ _ line _ _ (second_left here ∙ ap (λ t. t ∷ later) (sym is)) (omega arith)

  -- behind the last rotation nothing more is given
  pub gained_over : (part : RotationPart) (n : ℕ) → length rows.rotations ≤ k
      → GivesNext (λ rest. rest ≡ gained_left part s rows k) (λ rest. rest ≡ gained_left part s rows k) n n (Ok None)
  gained_over part n over =
      let count : length rows.rotations - k ≡ 0 = omega arith in
      let none : lines_of_gained s rows k ≡ [] = ap (λ n. flat_map (row_lines s rows) (range_with_len k n)) count in
      gave_none (gained_left part s rows k) n (by_part part none)
    where
      past : nat_lt k (length rows.rotations) ≡ false
      past = grind (arith, nat_tests)

      by_part : (part : RotationPart) → lines_of_gained s rows k ≡ [] → gained_left part s rows k ≡ []
      by_part Pairs none = none
      by_part Needs none = ap (drop 1) none
      by_part Gain none = ap (drop 2) none
      by_part SecondGain none = ap (λ t. cond t (second_gain_line rows.second_gains k ∷ later) []) past
