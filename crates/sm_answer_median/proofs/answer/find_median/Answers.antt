use Rattle.std.proofs.Common.{◌≡◌, ◌∙◌, List, Vec, ℕ, length, sym, subst, arith}
use Rattle.std.specs.declared.alloc.Global.{Global}
use Rattle.sm_lists.proofs.ResultLemmas.{take-append_at_length}
use Rattle.sm_agents.proofs.FaultLemmas.{on_err}
use Rattle.sm_market.specs.Vectors.{rows_of}
use Rattle.sm_answer_median.specs.Found.{IsMedianFault}
use Rattle.sm_answer_median.specs.RankCounts.{IsMedianCounted}
use Rattle.sm_answer_median.proofs.MedianLemmas.{median_counted, none_allowed}
use Rattle.sm_answer_median.proofs.answer.find_median.Goals as goal

pub returns-in_err-listed-clause-fault : goal.returns-in_err-listed-clause-fault
returns-in_err-listed-clause-fault c =
    let w = c.args.instance.now in
    let fault = c.in_err-listed.field-0.0 in
    on_err (IsMedianFault w) fault c.from_residual-in_err-listed.result c.from_residual-in_err-listed.ensures.1 (subst (IsMedianFault w) (sym c.in_err-listed.ensures.fault.0) c.in_err-listed.ensures.fault.1)

pub returns-then-listed-eq0-clause-found : goal.returns-then-listed-eq0-clause-found
returns-then-listed-eq0-clause-found c = none_allowed c.in_ok-listed.ensures.all c.if-listed-eq0.true

pub middle_places-requires : goal.middle_places-requires
middle_places-requires c =
    let new = c.count_listed.new.counts in
    let long : length new ≡ length c.deref_mut.result.now = (let same = c.count_listed.auto.counts in omega (arith, same)) in
    let kept : c.deref.result.now ≡ new = c.deref.ensures.value ∙ take-append_at_length c.in_ok-counts.counts.len new _ (long ∙ c.deref_mut.ensures.len) in
    subst (λ (rows : List (Vec ℕ Global)). IsMedianCounted c.args.instance.now c.in_ok-listed.listed (rows_of rows)) (sym kept)
    (median_counted c.in_ok-lister.ensures c.in_ok-listed.ensures.all (omega (arith, c.if-listed-eq0.false)))
