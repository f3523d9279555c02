use Rattle.std.proofs.Common.{◌≡◌, ◌+◌, ◌<◌, ◌^◌, length, drop}
use Rattle.sm_text.specs.Lines.{lines, texts_from}
use Rattle.sm_answer_given.specs.Taking.{AreInTurn, lines_so_far}
use Rattle.sm_answer_given.proofs.ReadingLemmas.{AreTaken}
use Rattle.sm_answer_given.proofs.reading.read_pairs.Given as goal

-- the texts so far are those of the lines so far
abbrev pub invariant-lines : goal.invariant-lines
invariant-lines l = record {
  taken : AreTaken l.input (texts_from l.bytes l.from) l.pairs (texts_from l.bytes l.at);
  in_turn : AreInTurn l.pairs;
  number : l.number ≡ l.first_line + length (lines_so_far l.pairs);
  few : l.number + length (lines (drop l.at l.bytes)) < 2 ^ 32;
}

abbrev pub decreases-lines : goal.decreases-lines
decreases-lines l = length (lines (drop l.at l.bytes))
