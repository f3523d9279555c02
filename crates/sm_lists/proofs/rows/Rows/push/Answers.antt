use Rattle.std.proofs.Common.{ap, length, ◌∙◌}
use Rattle.sm_lists.proofs.ResultLemmas.{on_err}
use Rattle.sm_lists.proofs.SpanLemmas.{rows_in_more, rows_in_pushed}
use Rattle.sm_lists.proofs.rows.Rows.push.Goals as goal

pub returns-in_err-push-clause-kept : goal.returns-in_err-push-clause-kept
returns-in_err-push-clause-kept c =
    on_err c.from_residual-in_err-push.result
    (rw (← c.self.view_is)
    (rw (c.in_err-push.ensures.items, c.in_ok-span.ensures.added)
    (rows_in_more c.self.inside.entries.items c.args.list.now c.self.inside.spans.items c.self.invariant)))

pub returns-clause-pushed : goal.returns-clause-pushed
returns-clause-pushed c =
    let entries = c.self.inside.entries.items in
    let spans = c.self.inside.spans.items in
    let e = c.in_ok-span.ensures in
    rw (← c.self.view_is)
    (rw (c.in_ok-push.ensures.items, e.added)
    (rows_in_pushed entries c.args.list.now spans c.in_ok-span.span c.self.invariant e.start (e.end ∙ ap length e.added)))
