use Rattle.std.proofs.Common.{◌≡◌, map, take}
use Rattle.std.specs.List.{All}
use Rattle.sm_tally.specs.Fold.{shown_as}
use Rattle.sm_report.specs.Lines.{line_of}
use Rattle.sm_report.specs.Sound.{AreNumbers}
use Rattle.sm_answer_survey.specs.SurveyAnswer.{tally_line}
use Rattle.sm_answer_survey.proofs.tally_lines.lines_of_tallies.Given as goal

-- the lines so far
abbrev pub invariant-loop-tally : goal.invariant-loop-tally
invariant-loop-tally g l = record {
  shown : map line_of l.lines.items
      ≡ map tally_line
      (map (λ b. shown_as ((goal.Tally-dyn g (b.vtable, b.value)).kind b.value) ((goal.Tally-dyn g (b.vtable, b.value)).shown b.value)) (take l.tally-index l.tallies));
  numbered : All AreNumbers (map line_of l.lines.items);
}
