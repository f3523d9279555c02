use Rattle.std.proofs.Common.{[]}
use Rattle.sm_words.specs.Words.{texts}
use Rattle.sm_top.proofs.RunLemmas.{answers_faulty, answers_unread, answers_accepted}
use Rattle.sm_top.proofs.running.run.Goals as goal

pub returns-in-Ok-clause-answer : goal.returns-in-Ok-clause-answer
returns-in-Ok-clause-answer g c = (c.run_job.ensures.runs (texts c.args.words.now) c.in-Ok.ensures.job).answer

pub returns-in-Ok-clause-accepted : goal.returns-in-Ok-clause-accepted
returns-in-Ok-clause-accepted g c =
    answers_accepted _ (texts c.args.words.now) (g.S.Source.left c.args.source.now) _ _ _ c.run_job.result (c.run_job.ensures.runs (texts c.args.words.now) c.in-Ok.ensures.job).answer

pub returns-in-Ok-clause-read_fault : goal.returns-in-Ok-clause-read_fault
returns-in-Ok-clause-read_fault g c = (c.run_job.ensures.runs (texts c.args.words.now) c.in-Ok.ensures.job).read_fault

pub returns-in-Ok-clause-write_fault : goal.returns-in-Ok-clause-write_fault
returns-in-Ok-clause-write_fault g c = (c.run_job.ensures.runs (texts c.args.words.now) c.in-Ok.ensures.job).write_fault

pub returns-in-Ok-clause-source_later : goal.returns-in-Ok-clause-source_later
returns-in-Ok-clause-source_later g c = (c.run_job.ensures.runs (texts c.args.words.now) c.in-Ok.ensures.job).source_later

pub returns-in-Ok-clause-sink_later : goal.returns-in-Ok-clause-sink_later
returns-in-Ok-clause-sink_later g c = (c.run_job.ensures.runs (texts c.args.words.now) c.in-Ok.ensures.job).sink_later

pub returns-in-Err-Usage-clause-answer : goal.returns-in-Err-Usage-clause-answer
returns-in-Err-Usage-clause-answer g c =
    let fault = rw c.in-Err-Usage.field-0-is at c.in-Err-Usage.ensures.fault in
    (answers_faulty _ (texts c.args.words.now) c.in-Err-Usage.word fault g.S.Source.left g.S.Source.faults g.K.Sink.held g.K.Sink.faults c.args.source.now c.args.sink.now _ c.say_stop.result c.say_stop.ensures).answer

pub returns-in-Err-Usage-clause-accepted : goal.returns-in-Err-Usage-clause-accepted
returns-in-Err-Usage-clause-accepted g c =
    let fault = rw c.in-Err-Usage.field-0-is at c.in-Err-Usage.ensures.fault in
    answers_accepted [] (texts c.args.words.now) (g.S.Source.left c.args.source.now) _ _ _ c.say_stop.result
    (answers_faulty [] (texts c.args.words.now) c.in-Err-Usage.word fault g.S.Source.left g.S.Source.faults g.K.Sink.held g.K.Sink.faults c.args.source.now c.args.sink.now _ c.say_stop.result c.say_stop.ensures).answer

pub returns-in-Err-Usage-clause-write_fault : goal.returns-in-Err-Usage-clause-write_fault
returns-in-Err-Usage-clause-write_fault g c =
    let fault = rw c.in-Err-Usage.field-0-is at c.in-Err-Usage.ensures.fault in
    (answers_faulty [] (texts c.args.words.now) c.in-Err-Usage.word fault g.S.Source.left g.S.Source.faults g.K.Sink.held g.K.Sink.faults c.args.source.now c.args.sink.now _ c.say_stop.result c.say_stop.ensures).write_fault

pub returns-in-Err-Usage-clause-read_fault : goal.returns-in-Err-Usage-clause-read_fault
returns-in-Err-Usage-clause-read_fault g c =
    let fault = rw c.in-Err-Usage.field-0-is at c.in-Err-Usage.ensures.fault in
    (answers_faulty [] (texts c.args.words.now) c.in-Err-Usage.word fault g.S.Source.left g.S.Source.faults g.K.Sink.held g.K.Sink.faults c.args.source.now c.args.sink.now _ c.say_stop.result c.say_stop.ensures).read_fault

pub returns-clause-answer : goal.returns-clause-answer
returns-clause-answer g c = (answers_unread _ (texts c.args.words.now) g.S.Source.left g.S.Source.faults g.K.Sink.held g.K.Sink.faults c.args.source.now c.args.sink.now).answer
