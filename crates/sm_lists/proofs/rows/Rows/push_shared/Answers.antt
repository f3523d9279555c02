use Rattle.std.proofs.Common.{ap, length, ◌∙◌}
use Rattle.sm_lists.proofs.ResultLemmas.{on_err}
use Rattle.sm_lists.proofs.SpanLemmas.{resized_is, rows_in_more, rows_in_shared, spans_shared}
use Rattle.sm_lists.proofs.rows.Rows.push_shared.Goals as goal

pub returns-in_err-resize-clause-kept : goal.returns-in_err-resize-clause-kept
returns-in_err-resize-clause-kept c =
    on_err c.from_residual-in_err-resize.result
    (rw (← c.self.view_is)
    (rw (c.in_err-resize.ensures.items, c.in_ok-span.ensures.added)
    (rows_in_more c.self.inside.entries.items c.args.list.now c.self.inside.spans.items c.self.invariant)))

pub invariant_of-self-2 : goal.invariant_of-self-2
invariant_of-self-2 c =
    let e = c.in_ok-span.ensures in
    rw (c.in_ok-resize.ensures.items ∙ resized_is c.self.inside.spans c.len.result c.args.count c.in_ok-span.span c.len.ensures, e.added)
    (spans_shared c.self.inside.entries.items c.args.list.now c.self.inside.spans.items c.in_ok-span.span c.args.count c.self.invariant e.start (e.end ∙ ap length e.added))

pub returns-clause-pushed : goal.returns-clause-pushed
returns-clause-pushed c =
    let e = c.in_ok-span.ensures in
    rw (← c.self.view_is)
    (rw (c.in_ok-resize.ensures.items ∙ resized_is c.self.inside.spans c.len.result c.args.count c.in_ok-span.span c.len.ensures, e.added)
    (rows_in_shared c.self.inside.entries.items c.args.list.now c.self.inside.spans.items c.in_ok-span.span c.args.count c.self.invariant e.start (e.end ∙ ap length e.added)))
