use Rattle.std.proofs.Common.{refl}
use Rattle.std.proofs.lemmas.Result.{err_from_is_err_and}
use Rattle.sm_serve.proofs.RunLemmas.{stops_for}
use Rattle.sm_trim_top.proofs.RunLemmas.{read_too_long, read_refused, served_trimmed}
use Rattle.sm_trim_top.proofs.running.serve.Goals as goal

pub returns-in_err-bytes-clause-served : goal.returns-in_err-bytes-clause-served
returns-in_err-bytes-clause-served g c =
    let e = err_from_is_err_and c.from_residual.result c.from_residual.ensures.1 in
    rw (e.1, e.2) (refl, stops_for _ _ _ _ _ _ c.in_err-bytes.field-0.0 (λ word h. h) (read_too_long _ _) (λ rose. record { reading = refl; rose = rose }) c.in_err-bytes.ensures.stop)

pub returns-in_err-input-clause-served : goal.returns-in_err-input-clause-served
returns-in_err-input-clause-served g c =
    let e = err_from_is_err_and c.from_residual-in_err-input.result c.from_residual-in_err-input.ensures.1 in
    rw (e.1, e.2) (refl, stops_for _ _ _ _ _ _ c.in_err-input.field-0.0 (λ word h. h) (λ refusal. read_refused _ _ c.in_ok-bytes.bytes.items refusal c.in_ok-bytes.ensures.whole) (λ h. absurd h) c.in_err-input.ensures.stop)

pub returns-clause-served : goal.returns-clause-served
returns-clause-served g c =
    served_trimmed _ c.in_ok-input.input _ _ _ _ _ _ c.in_ok-bytes.bytes.items c.write.result c.in_ok-bytes.ensures.whole c.in_ok-input.ensures.input c.instance_lines.ensures.right c.write.ensures
