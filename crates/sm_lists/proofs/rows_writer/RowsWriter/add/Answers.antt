use Rattle.std.proofs.Common.{length, replicate}
use Rattle.sm_lists.specs.Spans.{AreSpans}
use Rattle.sm_lists.proofs.SpanLemmas.{rows_in_more}
use Rattle.sm_lists.proofs.rows_writer.RowsWriter.add.Goals as goal

pub returns-clause-lists : goal.returns-clause-lists
returns-clause-lists c =
    let s = c.self.inside in
    rw (← c.self.view_is) (rw c.in_ok-extend_from_slice.ensures.items (rows_in_more s.entries.items c.args.piece.now s.spans.items c.self.invariant.placed))

pub returns-clause-crosses : goal.returns-clause-crosses
returns-clause-crosses c =
    let s = c.self.inside in
    let placed : AreSpans (length s.crosses) s.spans.items = rw c.self.invariant.as_many c.self.invariant.placed in
    rw (← c.self.view_is) (rw c.in_default.ensures.added (rows_in_more s.crosses (replicate (length c.args.piece.now) c.args.cross) s.spans.items placed))
