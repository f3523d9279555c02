use Rattle.std.proofs.Common.{◌≡◌, ◌+◌, ◌<◌, ◌^◌, length, drop}
use Rattle.sm_text.specs.Lines.{lines, texts_from}
use Rattle.sm_check_forms.specs.Taking.{lines_in}
use Rattle.sm_check_forms.proofs.TakingLemmas.{AreTaken}
use Rattle.sm_check_forms.proofs.reading.read_answer.Given as goal

-- the texts so far are those of the lines so far
abbrev pub invariant-lines : goal.invariant-lines
invariant-lines l = record {
  taken : AreTaken l.input (texts_from l.answer 0) l.taken (texts_from l.answer l.at);
  number : l.number ≡ length (lines_in l.taken);
  few : l.number + length (lines (drop l.at l.answer)) < 2 ^ 32;
}

abbrev pub decreases-lines : goal.decreases-lines
decreases-lines l = length (lines (drop l.at l.answer))
