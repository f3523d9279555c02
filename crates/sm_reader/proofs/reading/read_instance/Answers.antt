use Rattle.std.proofs.Common.{◌≡◌, ◌+◌, ◌∙◌, arith, drop, Ok}
use Rattle.sm_text.specs.Lines.{lines}
use Rattle.sm_agents.specs.Named.{nothing}
use Rattle.sm_reader.specs.InstanceText.{instance_text, read_of, IsTextFault, before_header, behind_header}
use Rattle.sm_reader.proofs.ReadingLemmas.{instance_text-too_long, instance_text-short, text_fault}
use Rattle.sm_reader.proofs.ResultLemmas.{on_err, if_ok, if_err}
use Rattle.sm_reader.proofs.reading.read_instance.Goals as goal

pub returns-then-bytes-gt-MOST_BYTES-clause-fault : goal.returns-then-bytes-gt-MOST_BYTES-clause-fault
returns-then-bytes-gt-MOST_BYTES-clause-fault c = instance_text-too_long c.args.bytes.now (omega arith)

pub returns-in_err-header-clause-fault : goal.returns-in_err-header-clause-fault
returns-in_err-header-clause-fault c =
    let bytes = c.args.bytes.now in
    let f = c.in_err-header.field-0.0 in
    on_err (IsTextFault bytes) c.from_residual.result f c.from_residual.ensures.1
    (text_fault bytes (before_header 1 0 (lines bytes)) f (instance_text-short bytes (omega arith)) c.in_err-header.ensures.fault)

pub returns-clause-read : goal.returns-clause-read
returns-clause-read c =
    let bytes = c.args.bytes.now in
    let headed = c.in_ok-header.ensures.header in
    if_ok _ (λ read. instance_text bytes ≡ Ok (read_of read)) c.read_lines.result c.read_lines.ensures.read
    (λ read e. instance_text-short bytes (omega arith) ∙ headed.means ∙ e)

pub returns-clause-fault : goal.returns-clause-fault
returns-clause-fault c =
    let bytes = c.args.bytes.now in
    let headed = c.in_ok-header.ensures.header in
    let h = c.in_ok-header.header in
    if_err _ (IsTextFault bytes) c.read_lines.result c.read_lines.ensures.fault
    (λ f e. text_fault bytes (behind_header h.kind h.format h.line nothing (h.line + 1) h.next (lines (drop h.next bytes))) f (instance_text-short bytes (omega arith) ∙ headed.means) e)
