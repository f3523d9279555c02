use Rattle.std.proofs.Common.{◌≡◌, ◌+◌, ◌-◌, ◌≤◌, length, drop}
use Rattle.sm_text.specs.Lines.{lines}
use Rattle.sm_text.proofs.lines.line_count.Given as goal

-- the lines so far, and those that are left
abbrev pub invariant-loop-line : goal.invariant-loop-line
invariant-loop-line l = record {
  counted : l.count + length (lines (drop l.from l.bytes)) ≡ length (lines l.bytes);
  few : l.count ≤ l.from;
  within : l.from ≤ length l.bytes;
}

abbrev pub decreases-loop-line : goal.decreases-loop-line
decreases-loop-line l = length l.bytes - l.from
