use Rattle.std.proofs.Common.{◌∙◌, refl}
use Rattle.std.proofs.lemmas.Result.{err_from_is_err_and}
use Rattle.sm_answer.proofs.WritingLemmas.{wrote_nothing, wrote_front, wrote_part, one_more_written}
use Rattle.sm_answer.proofs.writing.write.Goals as goal

pub returns-in_err-writer-clause-wrote : goal.returns-in_err-writer-clause-wrote
returns-in_err-writer-clause-wrote g c =
    let e = err_from_is_err_and c.from_residual.result c.from_residual.ensures.1 in
    rw (e.1, e.2) (wrote_nothing _ _ (g.K.Sink.faults c.args.sink.now) c.requires)

pub returns-in_err-put_next-clause-wrote : goal.returns-in_err-put_next-clause-wrote
returns-in_err-put_next-clause-wrote g c =
    let e = err_from_is_err_and c.from_residual-in_err-put_next.result c.from_residual-in_err-put_next.ensures.1 in
    rw (e.1, e.2) (wrote_front _ _ _ _ _ _ c.lines.invariant)

pub returns-in_err-put_byte-clause-wrote : goal.returns-in_err-put_byte-clause-wrote
returns-in_err-put_byte-clause-wrote g c =
    let e = err_from_is_err_and c.from_residual-in_err-put_byte.result c.from_residual-in_err-put_byte.ensures.1 in
    rw (e.1, e.2) (wrote_front _ _ _ _ _ _ c.lines.invariant)

pub returns-in-Failed-clause-wrote : goal.returns-in-Failed-clause-wrote
returns-in-Failed-clause-wrote g c =
    let gave = rw c.if-not-branch.false at c.in_ok-put_next.ensures in
    wrote_part _ _ _ _ _ _ _ c.bytes.result.now _ _ _ _ _ _ c.lines.invariant gave c.clear.ensures.empty
    (c.bytes.ensures ∙ c.in_ok-put_byte.ensures.ok) c.in-Failed.ensures.taken (c.in-Failed.ensures.failed refl)

pub lines-preserved : goal.lines-preserved
lines-preserved g c =
    let gave = rw c.if-not-branch.false at c.in_ok-put_next.ensures in
    one_more_written _ _ _ _ _ _ _ c.bytes.result.now _ _ _ _ _ _ c.lines.invariant gave c.clear.ensures.empty
    (c.bytes.ensures ∙ c.in_ok-put_byte.ensures.ok) c.in-Done.ensures.taken c.in-Done.ensures.later
