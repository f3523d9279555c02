use Rattle.std.proofs.Common.{◌∙◌, sym}
use Rattle.std.proofs.lemmas.Result.{err_from_is_err_and}
use Rattle.sm_reader.specs.InstanceText.{read_of}
use Rattle.sm_words.specs.Jobs.{job_of}
use Rattle.sm_top.specs.Outcome.{IsOwnRefusal, IsRefused, by_job}
use Rattle.sm_serve.proofs.RunLemmas.{stops_for, err_stops_for}
use Rattle.sm_top.proofs.RefusingLemmas.{few_lines}
use Rattle.sm_top.proofs.KindLemmas.{two_refused, two_accepted, two_not_taken}
use Rattle.sm_top.proofs.performing.perform.Goals as goal

pub returns-in_err-given-in-Two-clause-stop : goal.returns-in_err-given-in-Two-clause-stop
returns-in_err-given-in-Two-clause-stop g c =
    let e = err_from_is_err_and c.from_residual.result c.from_residual.ensures.1 in
    let two = c.in_err-given-in-Two.ensures.instance.two_sided in
    rw (e.1, e.2) (stops_for _ _ _ _ _ _ c.in_err-given-in-Two.field-0.0 (λ word h. h) (λ refusal too. two_refused (job_of c.args.job.now) c.args.bytes.items (read_of c.args.reading.now.read.now) c.in-Two.instance refusal c.requires.reads (sym c.takes_rooms_alone.ensures ∙ c.if-takes_rooms_alone.false) c.in-Two.is two c.requires.accepted too) (λ h. h) c.in_err-given-in-Two.ensures.stop)

pub returns-then-takes_rooms_alone-clause-stop : goal.returns-then-takes_rooms_alone-clause-stop
returns-then-takes_rooms_alone-clause-stop g c =
    rw c.refuse_sides.ensures.refused (two_not_taken (job_of c.args.job.now) c.args.bytes.items (read_of c.args.reading.now.read.now) c.in-Two.instance c.requires.reads (sym c.takes_rooms_alone.ensures ∙ c.if-takes_rooms_alone.true) c.in-Two.is c.refuse_sides.ensures.sides.two_sided c.requires.accepted)

pub perform_on_two-requires-clause-few : goal.perform_on_two-requires-clause-few
perform_on_two-requires-clause-few g c = λ takes.
    let given = c.in_ok-given-in-Two.ensures in
    let job = job_of c.args.job.now in
    let ok = two_accepted job c.args.bytes.items (read_of c.args.reading.now.read.now) c.in-Two.instance c.requires.reads (sym c.takes_rooms_alone.ensures ∙ c.if-takes_rooms_alone.false) c.in-Two.is given.instance.two_sided c.requires.accepted given.none in
    let kept = c.deref.ensures.value ∙ c.text_for-behind.ensures takes in
    rw (given.read, kept) (few_lines job c.args.bytes.items (read_of c.args.reading.now.read.now) c.requires.short ok)

pub returns-in-Two-clause-leaves : goal.returns-in-Two-clause-leaves
returns-in-Two-clause-leaves g c =
    let given = c.in_ok-given-in-Two.ensures in
    let job = job_of c.args.job.now in
    let bytes = c.args.bytes.items in
    let ok = two_accepted job bytes (read_of c.args.reading.now.read.now) c.in-Two.instance c.requires.reads (sym c.takes_rooms_alone.ensures ∙ c.if-takes_rooms_alone.false) c.in-Two.is given.instance.two_sided c.requires.accepted given.none in
    rw (← given.form) (c.perform_on_two.ensures.leaves bytes (λ takes. c.deref.ensures.value ∙ c.text_for-behind.ensures takes) (rw given.read ok))

pub returns-in-Two-clause-stop : goal.returns-in-Two-clause-stop
returns-in-Two-clause-stop g c =
    let given = c.in_ok-given-in-Two.ensures in
    let job = job_of c.args.job.now in
    let bytes = c.args.bytes.items in
    let read = read_of c.args.reading.now.read.now in
    let ok = two_accepted job bytes read c.in-Two.instance c.requires.reads (sym c.takes_rooms_alone.ensures ∙ c.if-takes_rooms_alone.false) c.in-Two.is given.instance.two_sided c.requires.accepted given.none in
    let stop = c.perform_on_two.ensures.stop bytes (λ takes. c.deref.ensures.value ∙ c.text_for-behind.ensures takes) in
    err_stops_for (λ word. ⊥) (λ word. ⊥) (IsOwnRefusal job bytes read) (IsRefused job bytes) ⊥ ⊥ c.perform_on_two.result (λ word h. h) (λ refusal own. by_job read ok own) (λ h. h) (rw given.read at stop)

pub returns-clause-leaves : goal.returns-clause-leaves
returns-clause-leaves g c = c.perform_on_persons.ensures.leaves c.args.bytes.items _ c.requires.accepted

pub returns-clause-stop : goal.returns-clause-stop
returns-clause-stop g c = c.perform_on_persons.ensures.stop c.args.bytes.items c.requires.accepted

pub perform_on_two-requires-clause-form : goal.perform_on_two-requires-clause-form
perform_on_two-requires-clause-form g c = rw c.in_ok-given-in-Two.ensures.form c.requires.form
