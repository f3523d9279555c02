use Rattle.std.proofs.Common.{arith, map}
use Rattle.std.proofs.lemmas.List.{length-map}
use Rattle.sm_text.specs.Lines.{lines, content}
use Rattle.sm_report.specs.Lines.{line_of}
use Rattle.sm_check_forms.specs.Forms.{IsMisplaced}
use Rattle.sm_text.proofs.LineLemmas.{length-lines-le}
use Rattle.sm_cert.proofs.CheckLemmas.{as_many, own_lines, misplaced_within}
use Rattle.sm_cert.proofs.checking.read_lines.Goals as goal

pub read_answer-requires-clause-few : goal.read_answer-requires-clause-few
read_answer-requires-clause-few c = omega (arith, c.requires.short, length-lines-le c.args.answer.now)

pub returns-in-Ok-clause-few : goal.returns-in-Ok-clause-few
returns-in-Ok-clause-few c =
    let bytes = c.args.answer.now in
    let items = c.in-Ok.lines.items in
    let many = as_many c.args.input.now (map content (lines bytes)) (map line_of items) c.in-Ok.ensures.lines in
    let read = length-map items line_of in
    let texts = length-map (lines bytes) content in
    omega (arith, many, read, texts, length-lines-le bytes, c.requires.short, c.requires.first_line)

pub returns-in-Ok-clause-own : goal.returns-in-Ok-clause-own
returns-in-Ok-clause-own c = own_lines c.args.input.now (map content (lines c.args.answer.now)) (map line_of c.in-Ok.lines.items) c.in-Ok.ensures.lines

pub overflow_add-result : goal.overflow_add-result
overflow_add-result c =
    let misplaced : IsMisplaced c.args.input.now (map content (lines c.args.answer.now)) c.in-Err-Misplaced.k =
    rw c.in-Err-Misplaced.field-0-is at c.in-Err-Misplaced.ensures.fault in
    let within = misplaced_within misplaced in
    let texts = length-map (lines c.args.answer.now) content in
    omega (arith, within, texts, c.requires.short, c.requires.first_line, length-lines-le c.args.answer.now)
