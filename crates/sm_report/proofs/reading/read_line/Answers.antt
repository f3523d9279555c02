use Rattle.std.proofs.Common.{◌∙◌, ap, sym, option_map}
use Rattle.sm_report.specs.Lines.{line_of}
use Rattle.sm_report.specs.Meanings.{line_in}
use Rattle.sm_text.specs.Slices.{texts_of}
use Rattle.sm_report.proofs.ReadLemmas.{read_has_text, none_has_text}
use Rattle.sm_report.proofs.reading.read_line.Goals as goal

pub returns-in-Some-clause-line : goal.returns-in-Some-clause-line
returns-in-Some-clause-line c =
    let input = c.args.input.now in
    read_has_text input c.kind.ensures.sound c.args.text.now (line_of c.in-Some.line)
    (ap (line_in input) (sym (ap texts_of c.deref.ensures.value ∙ c.in_ok-fields.ensures)) ∙ c.in_ok-line.ensures ∙ ap (option_map line_of) c.in-Some.is)

pub returns-clause-fault : goal.returns-clause-fault
returns-clause-fault c =
    let input = c.args.input.now in
    none_has_text input c.kind.ensures.sound c.args.text.now
    (ap (line_in input) (sym (ap texts_of c.deref.ensures.value ∙ c.in_ok-fields.ensures)) ∙ c.in_ok-line.ensures ∙ ap (option_map line_of) c.in-None.is)
