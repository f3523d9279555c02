use Rattle.sm_instance_lines.specs.Printed.{lines_of}
use Rattle.sm_instance_lines.proofs.GivingLemmas.{line_given}
use Rattle.sm_instance_lines.proofs.PlainLemmas.{lines_plain}
use Rattle.sm_instance_lines.proofs.giving.InstanceLinesLines.put_next.Goals as goal

pub returns : goal.returns
returns c =
    let s = c.args.self.now in
    line_given (lines_of s.input.now) s.count s.next _ _ c.in_ok-put_text_at.field-0 (lines_plain s.input.now c.kind-kind.ensures.sound) s.counted c.if-self.false c.in_ok-put_text_at.ensures
