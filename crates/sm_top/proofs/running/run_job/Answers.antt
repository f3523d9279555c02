use Rattle.sm_words.specs.Jobs.{job_of}
use Rattle.sm_words.specs.Takes.{reads_input}
use Rattle.sm_serve.specs.Steps.{IsRefusal, IsReadFault}
use Rattle.sm_serve.proofs.RunLemmas.{plain_stop}
use Rattle.sm_top.specs.Steps.{IsRefusedFrom}
use Rattle.sm_top.proofs.RunLemmas.{answers_served, answers_stopped}
use Rattle.sm_top.proofs.running.run_job.Goals as goal

pub returns-in-Ok-clause-runs : goal.returns-in-Ok-clause-runs
returns-in-Ok-clause-runs g c words meaning = answers_served _ words (job_of c.args.job.now) c.args.form meaning g.S.Source.left g.S.Source.faults g.K.Sink.held g.K.Sink.faults c.args.source.now _ c.args.sink.now _ c.in-Ok.status c.in-Ok.ensures.served c.in-Ok.ensures.drains

pub say_stop-requires : goal.say_stop-requires
say_stop-requires g c =
    let job = job_of c.args.job.now in
    plain_stop (λ word. ⊥) (IsRefusal (reads_input job) (IsRefusedFrom job c.args.form) _ _) (IsReadFault (reads_input job) _ _) c.in-Err.stop c.in-Err.ensures.served.1

pub returns-in-Err-clause-runs : goal.returns-in-Err-clause-runs
returns-in-Err-clause-runs g c words meaning =
    let says = rw c.in-Err.ensures.served.0 at c.say_stop.ensures in
    answers_stopped _ words (job_of c.args.job.now) c.args.form meaning g.S.Source.left g.S.Source.faults g.K.Sink.held g.K.Sink.faults c.args.source.now _ c.args.sink.now _ c.in-Err.stop c.say_stop.result c.in-Err.ensures.served.1 says c.in-Err.ensures.drains
