use Rattle.sm_report.specs.Lines.{line_of}
use Rattle.sm_check_forms.proofs.TakingLemmas.{takes_text}
use Rattle.sm_check_forms.proofs.reading.take_text.Goals as goal

pub returns-in_ok-take-in-Ok : goal.returns-in_ok-take-in-Ok
returns-in_ok-take-in-Ok c =
    takes_text c.args.input.now c.requires.input c.args.taken.now c.take.new.self (line_of c.in-Ok.line) c.args.text.now c.in_ok-take-in-Ok.field-0 c.in-Ok.ensures.line c.in_ok-take-in-Ok.ensures
