use Rattle.std.proofs.Common.{refl}
use Rattle.std.proofs.lemmas.Result.{err_from_is_err_and}
use Rattle.sm_words.specs.Jobs.{job_of}
use Rattle.sm_serve.proofs.RunLemmas.{stops_for}
use Rattle.sm_top.proofs.RunLemmas.{read_too_long, read_ungiven, served_given}
use Rattle.sm_top.proofs.running.read_and_answer.Goals as goal

pub returns-in_err-bytes-clause-served : goal.returns-in_err-bytes-clause-served
returns-in_err-bytes-clause-served g c =
    let e = err_from_is_err_and c.from_residual.result c.from_residual.ensures.1 in
    rw (e.1, e.2) (refl, stops_for _ _ _ _ _ _ c.in_err-bytes.field-0.0 (λ word h. h) (read_too_long (job_of c.args.job.now) c.args.form c.requires.reads _ _) (λ rose. record { reading = c.requires.reads; rose = rose }) c.in_err-bytes.ensures.stop)

pub returns-in_err-text-clause-served : goal.returns-in_err-text-clause-served
returns-in_err-text-clause-served g c =
    let job = job_of c.args.job.now in
    let e = err_from_is_err_and c.from_residual-in_err-text.result c.from_residual-in_err-text.ensures.1 in
    rw (e.1, e.2) (refl, stops_for _ _ _ _ _ _ c.in_err-text.field-0.0 (λ word h. h) (λ refusal. read_ungiven job c.args.form c.requires.reads _ _ c.in_ok-bytes.bytes.items refusal c.in_ok-bytes.ensures.whole) (λ h. absurd h) c.in_err-text.ensures.stop)

pub returns-clause-served : goal.returns-clause-served
returns-clause-served g c =
    served_given _ (job_of c.args.job.now) c.args.form g.S.Source.left g.S.Source.faults g.K.Sink.held g.K.Sink.faults c.args.source.now _ c.args.sink.now _ c.in_ok-bytes.bytes.items c.in_ok-text.text.items c.answer.result c.in_ok-bytes.ensures.whole c.in_ok-text.ensures.text c.answer.ensures.leaves c.answer.ensures.stop
