use Rattle.std.proofs.Common.{◌+◌, ◌∙◌, drop, arith}
use Rattle.sm_text.specs.Lines.{lines}
use Rattle.sm_agents.specs.Named.{nothing}
use Rattle.sm_reader.specs.InstanceText.{behind_header, ended}
use Rattle.sm_reader.specs.Draft.{said_of}
use Rattle.sm_reader.specs.Reading.{IsFaultOf}
use Rattle.sm_reader.proofs.ReadingLemmas.{ended_ok, ended_err, same_fault}
use Rattle.sm_reader.proofs.ResultLemmas.{on_err}
use Rattle.sm_reader.proofs.reading.read_lines.Goals as goal

pub judge_lines-requires-clause-said : goal.judge_lines-requires-clause-said
judge_lines-requires-clause-said c = c.in_ok-draft.ensures.said c.args.header.kind

pub judge_lines-requires-clause-draft : goal.judge_lines-requires-clause-draft
judge_lines-requires-clause-draft c = c.in_ok-draft.ensures.draft c.args.header.kind (c.args.header.line + 1) (omega (arith, c.requires.headed.first))

pub finished-requires : goal.finished-requires
finished-requires c = c.in-Ok.ensures.ends.ready

pub returns-in_err-input-in-Ok-clause-fault : goal.returns-in_err-input-in-Ok-clause-fault
returns-in_err-input-in-Ok-clause-fault c =
    let h = c.args.header in
    let ends = c.in-Ok.ensures.ends in
    let end = c.in-Ok.end in
    let new = c.judge_lines.new.draft in
    let meaning = behind_header h.kind h.format h.line nothing (h.line + 1) h.next (lines (drop h.next c.args.bytes.now)) in
    let f = c.in_err-input-in-Ok.field-0.0 in
    on_err (IsFaultOf meaning) c.from_residual-in_err-input-in-Ok.result f c.from_residual-in_err-input-in-Ok.ensures.1
    (same_fault meaning (ended h.kind h.line (said_of h.kind new) end.rest end.rest_line) f ends.means
    (ended_err h.kind h.line new end.rest end.rest_line f c.in_err-input-in-Ok.ensures.fault))

pub returns-in_ok-input-in-Ok-clause-read : goal.returns-in_ok-input-in-Ok-clause-read
returns-in_ok-input-in-Ok-clause-read c =
    let h = c.args.header in
    let ends = c.in-Ok.ensures.ends in
    let end = c.in-Ok.end in
    ends.means ∙ ended_ok h.kind h.line c.judge_lines.new.draft end.rest end.rest_line c.in_ok-input-in-Ok.input c.in_ok-input-in-Ok.ensures.finished
