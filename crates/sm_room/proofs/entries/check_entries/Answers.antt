use Rattle.std.proofs.Common.{arith}
use Rattle.std.proofs.lemmas.List.{length-map}
use Rattle.sm_lists.specs.Rows.{rows_of}
use Rattle.sm_lists.proofs.RowLemmas.{row_in_range}
use Rattle.sm_room.proofs.EntryLemmas.{room_lists}
use Rattle.sm_room.proofs.entries.check_entries.Goals as goal

pub returns-clause-sound : goal.returns-clause-sound
returns-clause-sound c =
    let rows = rows_of c.args.lists.now in
    let long = length-map c.args.lists.now (λ v. v.items) in
    room_lists (λ x i on. let lt = row_in_range rows x i on in c.loop-x.invariant.sound x i (omega arith) on)
