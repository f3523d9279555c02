use Rattle.std.proofs.Common.{◌≡◌, ◌+◌, ◌<◌, ◌^◌, length, drop}
use Rattle.sm_text.specs.Lines.{lines}
use Rattle.sm_serve.specs.Refusals.{first_saying}
use Rattle.sm_serve.proofs.behind.first_saying.Given as goal

-- the search from here finds what it finds from the start
abbrev pub invariant-lines : goal.invariant-lines
invariant-lines l = record {
  same : first_saying l.line_number (lines (drop l.at l.bytes)) ≡ first_saying l.number (lines (drop l.from l.bytes));
  few : l.line_number + length (lines (drop l.at l.bytes)) < 2 ^ 32;
}

abbrev pub decreases-lines : goal.decreases-lines
decreases-lines l = length (lines (drop l.at l.bytes))
