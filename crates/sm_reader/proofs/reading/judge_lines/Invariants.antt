use Rattle.std.proofs.Common.{◌≡◌, ◌+◌, ◌-◌, ◌≤◌, length, drop}
use Rattle.sm_text.specs.Lines.{lines}
use Rattle.sm_agents.specs.Named.{nothing}
use Rattle.sm_reader.specs.InstanceText.{behind_header}
use Rattle.sm_reader.specs.Draft.{said_of, IsDraft}
use Rattle.sm_reader.specs.Right.{IsRight}
use Rattle.sm_reader.proofs.reading.judge_lines.Given as goal

-- the text means what the lines from here on do after what is said, which is right, and there are no more lines than bytes
abbrev pub invariant-lines : goal.invariant-lines
invariant-lines l = record {
  means : behind_header l.header.kind l.header.format l.header.line (said_of l.header.kind l.draft) l.line l.at (lines (drop l.at l.bytes))
      ≡ behind_header l.header.kind l.header.format l.header.line nothing (l.header.line + 1) l.header.next (lines (drop l.header.next l.bytes));
  draft : IsDraft l.header.kind l.line l.draft;
  right : IsRight l.header.kind (said_of l.header.kind l.draft);
  fits : l.line ≤ l.at + 1;
  within : l.at ≤ length l.bytes;
}

abbrev pub decreases-lines : goal.decreases-lines
decreases-lines l = length l.bytes - l.at
