use Rattle.std.proofs.Common.{◌-◌, ◌∷◌, length, take, drop, decimal, slice_index}
use Rattle.sm_report.proofs.PutLemmas.{items_put, items_broken, vector_is}
use Rattle.sm_report.proofs.fields.put_vector.Goals as goal

pub returns-in_err-put_behind_comma : goal.returns-in_err-put_behind_comma
returns-in_err-put_behind_comma c =
    let v = c.args.vector.now in
    items_broken (decimal (slice_index v 0)) (λ n. 44 ∷ decimal n) (take (length v - 1) (drop 1 v)) c.loop-number.number-index 0
    c.in_err-put_behind_comma.field-0.0 _ c.from_residual-in_err-put_behind_comma.ensures.0 c.loop-number-test.true
    (vector_is v c.in-len1-up.len_at_least) c.loop-number.invariant c.in_err-put_behind_comma.ensures

pub returns : goal.returns
returns c =
    let v = c.args.vector.now in
    items_put (decimal (slice_index v 0)) (λ n. 44 ∷ decimal n) (take (length v - 1) (drop 1 v)) c.loop-number.number-index
    c.loop-number-test.false (vector_is v c.in-len1-up.len_at_least) c.loop-number.invariant
