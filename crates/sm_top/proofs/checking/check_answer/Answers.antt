use Rattle.std.proofs.Common.{arith}
use Rattle.sm_reader.specs.InstanceText.{read_of}
use Rattle.sm_text.proofs.LineLemmas.{length-lines-le}
use Rattle.sm_serve.proofs.BehindLemmas.{rest_line_le}
use Rattle.sm_top.proofs.CheckLemmas.{too_many_there, seats_refused, text_refused, check_accepted, wrote_verdict}
use Rattle.sm_top.proofs.checking.check_answer.Goals as goal

pub check-requires-clause-first_line : goal.check-requires-clause-first_line
check-requires-clause-first_line g c =
    let bytes = c.args.bytes.now in
    omega (arith, rest_line_le bytes (read_of c.args.read.now) c.requires.short c.requires.text, length-lines-le bytes, c.requires.short)

pub returns-in-Ok-clause-leaves : goal.returns-in-Ok-clause-leaves
returns-in-Ok-clause-leaves g c tallies =
    let bytes = c.args.bytes.now in
    let read = read_of c.args.read.now in
    let judged = rw c.text_from-answer.ensures at c.in-Ok.ensures.judged in
    let wrote = rw c.status_by.ensures at c.write.ensures in
    wrote_verdict tallies bytes read c.in-Ok.verdict _ _ _ _ _ _ (check_accepted bytes read c.requires.accepted c.in-Ok.ensures.few) judged c.verdict_lines-lines.ensures.right wrote

pub returns-in-Err-BadAnswer-clause-stop : goal.returns-in-Err-BadAnswer-clause-stop
returns-in-Err-BadAnswer-clause-stop g c =
    let bytes = c.args.bytes.now in
    let read = read_of c.args.read.now in
    let fault = rw (c.in-Err-BadAnswer.field-0-is, c.text_from-answer.ensures) at c.in-Err-BadAnswer.ensures.fault in
    rw c.in-Err-BadAnswer.field-0-is (text_refused bytes read c.in-Err-BadAnswer.line c.requires.accepted fault.0 fault.1)

pub right_line-line-requires : goal.right_line-line-requires
right_line-line-requires g c =
    let many = rw c.in-Err-TooManySeats.field-0-is at c.in-Err-TooManySeats.ensures.fault in
    rw c.in-Err-TooManySeats.field-0-is (too_many_there c.args.read.now.input c.in-Err-TooManySeats.r many)

pub returns-in-Err-TooManySeats-clause-stop : goal.returns-in-Err-TooManySeats-clause-stop
returns-in-Err-TooManySeats-clause-stop g c =
    let many = rw c.in-Err-TooManySeats.field-0-is at c.in-Err-TooManySeats.ensures.fault in
    let at = rw c.in-Err-TooManySeats.field-0-is at c.right_line-line.ensures in
    seats_refused c.args.bytes.now (read_of c.args.read.now) c.in-Err-TooManySeats.r c.right_line-line.result c.requires.accepted many at
