use Rattle.std.proofs.Common.{◌≡◌, ◌<◌, ◌≤◌, [], length, sym, ap, arith}
use Rattle.sm_report.specs.Fields.{spaced}
use Rattle.sm_report.specs.Items.{each_of}
use Rattle.sm_report.proofs.PutLemmas.{items_put, items_broken, puts_same}
use Rattle.sm_report.proofs.ItemLemmas.{fields_of_items-none, flat_map-each_of}
use Rattle.sm_report.proofs.items.put_items.Goals as goal

pub returns-then-count-eq0 : goal.returns-then-count-eq0
returns-then-count-eq0 c =
    let input = c.args.input.now in
    let count = c.item_count-count.ensures input in
    let none : length (each_of input c.args.items) ≡ 0 = omega (arith, count, c.if-count-eq0.true) in
    puts_same (ap spaced (sym (fields_of_items-none input c.args.items none))) c.put_field.ensures

pub returns-in_err-put_item : goal.returns-in_err-put_item
returns-in_err-put_item c =
    let input = c.args.input.now in
    let xs = each_of input c.args.items in
    let count = c.item_count-count.ensures input in
    let below : c.loop-i.i < length xs = omega (arith, count, c.loop-i-test.true) in
    let some : 0 < length xs = omega arith in
    items_broken [] spaced xs c.loop-i.i [] c.in_err-put_item.field-0.0 _ c.from_residual.ensures.0
    below (flat_map-each_of input c.args.items some) c.loop-i.invariant c.in_err-put_item.ensures

pub returns : goal.returns
returns c =
    let input = c.args.input.now in
    let xs = each_of input c.args.items in
    let count = c.item_count-count.ensures input in
    let past : length xs ≤ c.loop-i.i = omega (arith, count, c.loop-i-test.false) in
    let some : 0 < length xs = omega (arith, count, c.if-count-eq0.false) in
    items_put [] spaced xs c.loop-i.i past (flat_map-each_of input c.args.items some) c.loop-i.invariant
