use Rattle.std.proofs.Common.{◌≡◌, length, drop, arith}
use Rattle.std.proofs.lemmas.List.{length-map}
use Rattle.sm_lists.proofs.ResultLemmas.{take-append_at_length}
use Rattle.sm_lists.proofs.RowLemmas.{row_read}
use Rattle.sm_market.specs.Lists.{row}
use Rattle.sm_market.specs.Vectors.{rows_of}
use Rattle.sm_rotations.proofs.CountedLemmas.{counts_more, counts_room}
use Rattle.sm_rotations.proofs.graph.counts.Goals as goal

pub count-requires-clause-in_range : goal.count-requires-clause-in_range
count-requires-clause-in_range c =
    let read : c.deref.result.now ≡ row (rows_of c.args.lists.now) c.loop-list.list-index = row_read c.args.lists.now c.loop-list.list-index c.list-item.result c.deref.result.now c.loop-list-test.true c.list-item.is c.deref.ensures.value in
    let long : length (rows_of c.args.lists.now) ≡ length c.args.lists.now = length-map c.args.lists.now (λ v. v.items) in
    rw (read, c.deref_mut.ensures.value) (λ a less. omega (arith, c.requires.in_range c.loop-list.list-index a less, c.loop-list.invariant.one_each, long))

pub count-requires-clause-room : goal.count-requires-clause-room
count-requires-clause-room c =
    let read : c.deref.result.now ≡ row (rows_of c.args.lists.now) c.loop-list.list-index = row_read c.args.lists.now c.loop-list.list-index c.list-item.result c.deref.result.now c.loop-list-test.true c.list-item.is c.deref.ensures.value in
    rw (read, c.deref_mut.ensures.value) (λ j. omega (arith, counts_room c.loop-list.invariant c.requires.once j, c.requires.once c.loop-list.list-index j, c.requires.few, c.loop-list-test.true))

pub loop-list-preserved : goal.loop-list-preserved
loop-list-preserved c =
    let read : c.deref.result.now ≡ row (rows_of c.args.lists.now) c.loop-list.list-index = row_read c.args.lists.now c.loop-list.list-index c.list-item.result c.deref.result.now c.loop-list-test.true c.list-item.is c.deref.ensures.value in
    let counted = rw (read, c.deref_mut.ensures.value) at c.count.ensures in
    let same = c.count.auto.counts in
    rw (take-append_at_length c.loop-list.counts.len c.count.new.counts (drop (length c.count.new.counts) c.loop-list.counts.items) (omega (arith, c.deref_mut.ensures.len)))
    (counts_more c.loop-list.invariant counted)
