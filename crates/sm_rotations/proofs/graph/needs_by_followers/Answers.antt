use Rattle.std.proofs.Common.{◌≡◌, length, drop, ap, arith}
use Rattle.std.proofs.lemmas.List.{length-map}
use Rattle.sm_lists.proofs.ResultLemmas.{take-append_at_length}
use Rattle.sm_market.specs.Lists.{row}
use Rattle.sm_market.specs.Vectors.{rows_of}
use Rattle.sm_lists.proofs.RowLemmas.{row_read}
use Rattle.sm_rotations.proofs.TurnedBackLemmas.{back_more}
use Rattle.sm_rotations.proofs.graph.needs_by_followers.Goals as goal

pub add_once-requires-clause-in_range : goal.add_once-requires-clause-in_range
add_once-requires-clause-in_range c = λ a less.
    let read : c.deref.result.now ≡ row (rows_of c.args.followers.now) c.loop-i.i = row_read c.args.followers.now c.loop-i.i c.index-followers-i.result c.deref.result.now c.loop-i-test.true c.index-followers-i.is c.deref.ensures.value in
    let long : length (rows_of c.loop-i.needs.items) ≡ length c.loop-i.needs.items = length-map c.loop-i.needs.items (λ v. v.items) in
    let as_many : length (rows_of c.args.followers.now) ≡ length c.args.followers.now = length-map c.args.followers.now (λ v. v.items) in
    let each = c.loop-i.invariant.one_each in
    let less' = rw read at less in
    rw read (omega (arith, c.requires.in_range c.loop-i.i a less', ap length c.deref_mut.ensures.value))

pub loop-i-preserved : goal.loop-i-preserved
loop-i-preserved c =
    let read : c.deref.result.now ≡ row (rows_of c.args.followers.now) c.loop-i.i = row_read c.args.followers.now c.loop-i.i c.index-followers-i.result c.deref.result.now c.loop-i-test.true c.index-followers-i.is c.deref.ensures.value in
    let noted = rw (read, c.deref_mut.ensures.value) at c.in_ok-add_once.ensures in
    let same = c.add_once.auto.lists in
    rw (take-append_at_length c.loop-i.needs.len c.add_once.new.lists (drop (length c.add_once.new.lists) c.loop-i.needs.items) (omega (arith, c.deref_mut.ensures.len)))
    (back_more c.loop-i.invariant noted)

pub returns : goal.returns
returns c =
    let e : c.loop-i.i ≡ length c.args.followers.now = omega (arith, c.loop-i.auto.i-end, c.loop-i-test.false) in
    rw e at c.loop-i.invariant
