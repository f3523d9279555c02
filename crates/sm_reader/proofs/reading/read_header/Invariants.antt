use Rattle.std.proofs.Common.{◌≡◌, ◌+◌, ◌-◌, ◌≤◌, length, drop}
use Rattle.sm_text.specs.Lines.{lines}
use Rattle.sm_reader.specs.InstanceText.{before_header}
use Rattle.sm_reader.proofs.reading.read_header.Given as goal

-- the text means what the lines from here on do, and there are no more lines than bytes
abbrev pub invariant-lines : goal.invariant-lines
invariant-lines l = record {
  means : before_header l.line l.at (lines (drop l.at l.bytes)) ≡ before_header 1 0 (lines l.bytes);
  first : 1 ≤ l.line;
  fits : l.line ≤ l.at + 1;
  within : l.at ≤ length l.bytes;
}

abbrev pub decreases-lines : goal.decreases-lines
decreases-lines l = length l.bytes - l.at
