use Rattle.std.proofs.Common.{ℕ, ◌≡◌, List, get_or, ap, arith}
use Rattle.std.proofs.lemmas.List.{length-map}
use Rattle.sm_lists.specs.Rows.{entry, rows_of}
use Rattle.sm_room.proofs.EntryLemmas.{walk_step}
use Rattle.sm_room.proofs.entries.check_list.Goals as goal

pub loop-i-preserved : goal.loop-i-preserved
loop-i-preserved c =
    let i = c.loop-i.i in
    let y = get_or c.list_at-list.result.now i 0 in
    let is : y ≡ entry (rows_of c.args.lists.now) c.args.x i = ap (λ (s : List ℕ). get_or s i 0) c.list_at-list.ensures in
    let same = length-map c.args.lists.now (λ v. v.items) in
    walk_step c.loop-i.invariant y is (omega arith) c.if-met-y.false
