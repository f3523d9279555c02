use Rattle.std.proofs.lemmas.Result.{err_from_is_err_and}
use Rattle.sm_serve.proofs.RunLemmas.{stops_for}
use Rattle.sm_trim_top.specs.Taking.{IsUntaken}
use Rattle.sm_trim_top.specs.Trimmed.{IsRefused, untaken}
use Rattle.sm_trim_top.proofs.TakingLemmas.{few_trimmed, many_refused}
use Rattle.sm_trim_top.proofs.trimming.trim.Goals as goal

pub returns-in_err-instance-clause-stop : goal.returns-in_err-instance-clause-stop
returns-in_err-instance-clause-stop c =
    let bytes = c.args.bytes.items in
    let e = err_from_is_err_and c.from_residual.result c.from_residual.ensures.1 in
    rw (e.1, e.2) (stops_for (λ _. ⊥) (λ _. ⊥) (IsUntaken bytes) (IsRefused bytes) ⊥ ⊥ c.in_err-instance.field-0.0 (λ word h. h) (λ refusal why. untaken why) (λ h. h) (rw c.deref-2.ensures.value at c.in_err-instance.ensures.stop))

pub returns-clause-input : goal.returns-clause-input
returns-clause-input c =
    let taken = rw c.deref-2.ensures.value at c.in_ok-instance.ensures.taken in
    few_trimmed c.args.bytes.items c.in_ok-kept.kept (record { whole = c.in_ok-instance.instance; taken = taken; trimmed = c.in_ok-kept.ensures.trimmed; far = c.in_ok-kept.ensures.far }) c.with_few_seats.result c.with_few_seats.ensures.input

pub returns-clause-stop : goal.returns-clause-stop
returns-clause-stop c =
    let taken = rw c.deref-2.ensures.value at c.in_ok-instance.ensures.taken in
    many_refused c.args.bytes.items c.in_ok-kept.kept (record { whole = c.in_ok-instance.instance; taken = taken; trimmed = c.in_ok-kept.ensures.trimmed; far = c.in_ok-kept.ensures.far }) c.with_few_seats.result c.with_few_seats.ensures.stop
