use Rattle.std.proofs.Common.{ℕ, List, ◌++◌, ap, ◌∙◌, refl}
use Rattle.std.proofs.lemmas.Result.{err_from_is_err_and}
use Rattle.sm_json.specs.Wrapping.{wrapped}
use Rattle.sm_json.proofs.ArrayLemmas.{wrapped_front, wrapped_whole, wrapped_unclosed, wrapped_part, one_more_wrapped}
use Rattle.sm_json.proofs.writing.write_wrapped.Goals as goal

pub returns-in_err-put_next-clause-wrote : goal.returns-in_err-put_next-clause-wrote
returns-in_err-put_next-clause-wrote g c =
    let e = err_from_is_err_and c.from_residual-in_err-put_next.result c.from_residual-in_err-put_next.ensures.1 in
    rw (e.1, e.2) (wrapped_front _ _ _ _ _ _ _ c.lines.invariant)

pub returns-in_err-wrap-clause-wrote : goal.returns-in_err-wrap-clause-wrote
returns-in_err-wrap-clause-wrote g c =
    let e = err_from_is_err_and c.from_residual-in_err-wrap.result c.from_residual-in_err-wrap.ensures.1 in
    rw (e.1, e.2) (wrapped_front _ _ _ _ _ _ _ c.lines.invariant)

pub returns-in-Done-clause-wrote : goal.returns-in-Done-clause-wrote
returns-in-Done-clause-wrote g c =
    let over = rw c.if-not-branch.true at c.in_ok-put_next.ensures in
    wrapped_whole _ _ _ _ _ _ _ _ _ c.lines.invariant over.0 refl c.in-Done.ensures.taken

pub returns-in-Failed-clause-wrote : goal.returns-in-Failed-clause-wrote
returns-in-Failed-clause-wrote g c =
    let over = rw c.if-not-branch.true at c.in_ok-put_next.ensures in
    wrapped_unclosed _ _ _ _ _ _ _ _ _ _ c.lines.invariant over.0 refl c.in-Failed.ensures.taken (c.in-Failed.ensures.failed refl)

pub lines-preserved : goal.lines-preserved
lines-preserved g c =
    let gave = rw c.if-not-branch.false at c.in_ok-put_next.ensures in
    let is = c.bytes-in-lines.ensures ∙ c.in_ok-wrap.ensures.ok
    ∙ ap (λ (t : List ℕ). t ++ wrapped c.lines.first c.bytes.result.now) c.clear-in-lines.ensures.empty ∙ ap (wrapped c.lines.first) c.bytes.ensures in
    one_more_wrapped _ _ _ _ _ _ _ _ c.bytes-in-lines.result.now _ _ _ _ _ _ c.lines.invariant gave c.clear.ensures.empty is c.in-Done-put.ensures.taken c.in-Done-put.ensures.later

pub returns-in-Failed-put-clause-wrote : goal.returns-in-Failed-put-clause-wrote
returns-in-Failed-put-clause-wrote g c =
    let gave = rw c.if-not-branch.false at c.in_ok-put_next.ensures in
    let is = c.bytes-in-lines.ensures ∙ c.in_ok-wrap.ensures.ok
    ∙ ap (λ (t : List ℕ). t ++ wrapped c.lines.first c.bytes.result.now) c.clear-in-lines.ensures.empty ∙ ap (wrapped c.lines.first) c.bytes.ensures in
    wrapped_part _ _ _ _ _ _ _ _ c.bytes-in-lines.result.now _ _ _ _ _ _ c.lines.invariant gave c.clear.ensures.empty is c.in-Failed-put.ensures.taken (c.in-Failed-put.ensures.failed refl)
