use Rattle.std.proofs.Common.{true}
use Rattle.sm_words.specs.Words.{texts}
use Rattle.sm_serve.specs.Steps.{IsRefusal, IsReadFault}
use Rattle.sm_serve.proofs.RunLemmas.{plain_stop}
use Rattle.sm_trim_top.specs.Trimmed.{IsRefused}
use Rattle.sm_trim_top.proofs.RunLemmas.{some_words, no_words, trims_served, trims_stopped, trims_faulty, trims_taken}
use Rattle.sm_trim_top.proofs.running.run.Goals as goal

pub returns-then-not-is_empty-clause-answer : goal.returns-then-not-is_empty-clause-answer
returns-then-not-is_empty-clause-answer g c =
    (trims_faulty (texts c.args.words.now) (some_words c.args.words.now c.is_empty.result c.is_empty.ensures c.if-not-is_empty.true) g.S.Source.left g.S.Source.faults g.K.Sink.held g.K.Sink.faults c.args.source.now c.args.sink.now _ c.say_stop.result c.say_stop.ensures).answer

pub returns-then-not-is_empty-clause-read_fault : goal.returns-then-not-is_empty-clause-read_fault
returns-then-not-is_empty-clause-read_fault g c =
    (trims_faulty (texts c.args.words.now) (some_words c.args.words.now c.is_empty.result c.is_empty.ensures c.if-not-is_empty.true) g.S.Source.left g.S.Source.faults g.K.Sink.held g.K.Sink.faults c.args.source.now c.args.sink.now _ c.say_stop.result c.say_stop.ensures).read_fault

pub returns-then-not-is_empty-clause-write_fault : goal.returns-then-not-is_empty-clause-write_fault
returns-then-not-is_empty-clause-write_fault g c =
    (trims_faulty (texts c.args.words.now) (some_words c.args.words.now c.is_empty.result c.is_empty.ensures c.if-not-is_empty.true) g.S.Source.left g.S.Source.faults g.K.Sink.held g.K.Sink.faults c.args.source.now c.args.sink.now _ c.say_stop.result c.say_stop.ensures).write_fault

pub returns-then-not-is_empty-clause-taken : goal.returns-then-not-is_empty-clause-taken
returns-then-not-is_empty-clause-taken g c =
    trims_taken (texts c.args.words.now) (g.S.Source.left c.args.source.now) _ _ _ c.say_stop.result (trims_faulty (texts c.args.words.now) (some_words c.args.words.now c.is_empty.result c.is_empty.ensures c.if-not-is_empty.true) g.S.Source.left g.S.Source.faults g.K.Sink.held g.K.Sink.faults c.args.source.now c.args.sink.now _ c.say_stop.result c.say_stop.ensures).answer

pub returns-in-Ok-clause-answer : goal.returns-in-Ok-clause-answer
returns-in-Ok-clause-answer g c =
    (trims_served (texts c.args.words.now) (no_words c.args.words.now c.is_empty.result c.is_empty.ensures c.if-not-is_empty.false) g.S.Source.left g.S.Source.faults g.K.Sink.held g.K.Sink.faults c.args.source.now _ c.args.sink.now _ c.in-Ok.status c.in-Ok.ensures.served c.in-Ok.ensures.drains).answer

pub returns-in-Ok-clause-read_fault : goal.returns-in-Ok-clause-read_fault
returns-in-Ok-clause-read_fault g c =
    (trims_served (texts c.args.words.now) (no_words c.args.words.now c.is_empty.result c.is_empty.ensures c.if-not-is_empty.false) g.S.Source.left g.S.Source.faults g.K.Sink.held g.K.Sink.faults c.args.source.now _ c.args.sink.now _ c.in-Ok.status c.in-Ok.ensures.served c.in-Ok.ensures.drains).read_fault

pub returns-in-Ok-clause-write_fault : goal.returns-in-Ok-clause-write_fault
returns-in-Ok-clause-write_fault g c =
    (trims_served (texts c.args.words.now) (no_words c.args.words.now c.is_empty.result c.is_empty.ensures c.if-not-is_empty.false) g.S.Source.left g.S.Source.faults g.K.Sink.held g.K.Sink.faults c.args.source.now _ c.args.sink.now _ c.in-Ok.status c.in-Ok.ensures.served c.in-Ok.ensures.drains).write_fault

pub returns-in-Ok-clause-source_later : goal.returns-in-Ok-clause-source_later
returns-in-Ok-clause-source_later g c =
    (trims_served (texts c.args.words.now) (no_words c.args.words.now c.is_empty.result c.is_empty.ensures c.if-not-is_empty.false) g.S.Source.left g.S.Source.faults g.K.Sink.held g.K.Sink.faults c.args.source.now _ c.args.sink.now _ c.in-Ok.status c.in-Ok.ensures.served c.in-Ok.ensures.drains).source_later

pub returns-in-Ok-clause-sink_later : goal.returns-in-Ok-clause-sink_later
returns-in-Ok-clause-sink_later g c =
    (trims_served (texts c.args.words.now) (no_words c.args.words.now c.is_empty.result c.is_empty.ensures c.if-not-is_empty.false) g.S.Source.left g.S.Source.faults g.K.Sink.held g.K.Sink.faults c.args.source.now _ c.args.sink.now _ c.in-Ok.status c.in-Ok.ensures.served c.in-Ok.ensures.drains).sink_later

pub returns-in-Ok-clause-taken : goal.returns-in-Ok-clause-taken
returns-in-Ok-clause-taken g c =
    trims_taken (texts c.args.words.now) (g.S.Source.left c.args.source.now) _ _ _ c.in-Ok.status (trims_served (texts c.args.words.now) (no_words c.args.words.now c.is_empty.result c.is_empty.ensures c.if-not-is_empty.false) g.S.Source.left g.S.Source.faults g.K.Sink.held g.K.Sink.faults c.args.source.now _ c.args.sink.now _ c.in-Ok.status c.in-Ok.ensures.served c.in-Ok.ensures.drains).answer

pub returns-in-Ok-clause-untouched : goal.returns-in-Ok-clause-untouched
returns-in-Ok-clause-untouched g c =
    λ some. absurd (let none = (no_words c.args.words.now c.is_empty.result c.is_empty.ensures c.if-not-is_empty.false) in cc)

pub returns-in-Err-clause-answer : goal.returns-in-Err-clause-answer
returns-in-Err-clause-answer g c =
    let says = rw c.in-Err.ensures.served.0 at c.say_stop-in-Err.ensures in
    (trims_stopped (texts c.args.words.now) (no_words c.args.words.now c.is_empty.result c.is_empty.ensures c.if-not-is_empty.false) g.S.Source.left g.S.Source.faults g.K.Sink.held g.K.Sink.faults c.args.source.now _ c.args.sink.now _ c.in-Err.stop c.say_stop-in-Err.result c.in-Err.ensures.served.1 says c.in-Err.ensures.drains).answer

pub returns-in-Err-clause-read_fault : goal.returns-in-Err-clause-read_fault
returns-in-Err-clause-read_fault g c =
    let says = rw c.in-Err.ensures.served.0 at c.say_stop-in-Err.ensures in
    (trims_stopped (texts c.args.words.now) (no_words c.args.words.now c.is_empty.result c.is_empty.ensures c.if-not-is_empty.false) g.S.Source.left g.S.Source.faults g.K.Sink.held g.K.Sink.faults c.args.source.now _ c.args.sink.now _ c.in-Err.stop c.say_stop-in-Err.result c.in-Err.ensures.served.1 says c.in-Err.ensures.drains).read_fault

pub returns-in-Err-clause-write_fault : goal.returns-in-Err-clause-write_fault
returns-in-Err-clause-write_fault g c =
    let says = rw c.in-Err.ensures.served.0 at c.say_stop-in-Err.ensures in
    (trims_stopped (texts c.args.words.now) (no_words c.args.words.now c.is_empty.result c.is_empty.ensures c.if-not-is_empty.false) g.S.Source.left g.S.Source.faults g.K.Sink.held g.K.Sink.faults c.args.source.now _ c.args.sink.now _ c.in-Err.stop c.say_stop-in-Err.result c.in-Err.ensures.served.1 says c.in-Err.ensures.drains).write_fault

pub returns-in-Err-clause-source_later : goal.returns-in-Err-clause-source_later
returns-in-Err-clause-source_later g c =
    let says = rw c.in-Err.ensures.served.0 at c.say_stop-in-Err.ensures in
    (trims_stopped (texts c.args.words.now) (no_words c.args.words.now c.is_empty.result c.is_empty.ensures c.if-not-is_empty.false) g.S.Source.left g.S.Source.faults g.K.Sink.held g.K.Sink.faults c.args.source.now _ c.args.sink.now _ c.in-Err.stop c.say_stop-in-Err.result c.in-Err.ensures.served.1 says c.in-Err.ensures.drains).source_later

pub returns-in-Err-clause-sink_later : goal.returns-in-Err-clause-sink_later
returns-in-Err-clause-sink_later g c =
    let says = rw c.in-Err.ensures.served.0 at c.say_stop-in-Err.ensures in
    (trims_stopped (texts c.args.words.now) (no_words c.args.words.now c.is_empty.result c.is_empty.ensures c.if-not-is_empty.false) g.S.Source.left g.S.Source.faults g.K.Sink.held g.K.Sink.faults c.args.source.now _ c.args.sink.now _ c.in-Err.stop c.say_stop-in-Err.result c.in-Err.ensures.served.1 says c.in-Err.ensures.drains).sink_later

pub returns-in-Err-clause-taken : goal.returns-in-Err-clause-taken
returns-in-Err-clause-taken g c =
    let says = rw c.in-Err.ensures.served.0 at c.say_stop-in-Err.ensures in
    trims_taken (texts c.args.words.now) (g.S.Source.left c.args.source.now) _ _ _ c.say_stop-in-Err.result (trims_stopped (texts c.args.words.now) (no_words c.args.words.now c.is_empty.result c.is_empty.ensures c.if-not-is_empty.false) g.S.Source.left g.S.Source.faults g.K.Sink.held g.K.Sink.faults c.args.source.now _ c.args.sink.now _ c.in-Err.stop c.say_stop-in-Err.result c.in-Err.ensures.served.1 says c.in-Err.ensures.drains).answer

pub returns-in-Err-clause-untouched : goal.returns-in-Err-clause-untouched
returns-in-Err-clause-untouched g c =
    λ some. absurd (let none = (no_words c.args.words.now c.is_empty.result c.is_empty.ensures c.if-not-is_empty.false) in cc)

pub say_stop-requires-in-Err : goal.say_stop-requires-in-Err
say_stop-requires-in-Err g c =
    plain_stop (λ word. ⊥) (IsRefusal true IsRefused _ _) (IsReadFault true _ _) c.in-Err.stop c.in-Err.ensures.served.1
