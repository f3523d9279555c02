use Rattle.std.proofs.Common.{refl}
use Rattle.sm_report.specs.Lines.{line_of}
use Rattle.sm_answer.proofs.AnswerLemmas.{next_printable, line_put, none_printed}
use Rattle.sm_answer.proofs.printed.PrintedLines.put_next.Goals as goal

pub put_text-requires : goal.put_text-requires
put_text-requires g c =
    let gave = rw c.in-Some.is at c.in_ok-line.ensures in
    next_printable _ _ _ (line_of c.in-Some.line) _ _ c.requires gave

pub returns-in_ok-put_text-in-Some : goal.returns-in_ok-put_text-in-Some
returns-in_ok-put_text-in-Some g c =
    let gave = rw c.in-Some.is at c.in_ok-line.ensures in
    line_put _ _ _ (line_of c.in-Some.line) _ _ _ _ c.kind-kind.ensures.sound c.requires gave c.in_ok-put_text-in-Some.ensures.ok

pub returns-in-None : goal.returns-in-None
returns-in-None g c =
    let over = rw c.in-None.is at c.in_ok-line.ensures in
    (none_printed _ _ c.requires over.none_left, refl)
