use Rattle.std.proofs.Common.{◌<◌, sym, length}
use Rattle.sm_answer_rotations.proofs.rotation_lines.rotation_line.Goals as goal
use Rattle.sm_rotations.proofs.NeedsLemmas.{pairs_read}

pub seated_pairs-requires : goal.seated_pairs-requires
seated_pairs-requires c =
    let rows = c.args.rows.now in
    let here : c.args.k < length rows.rotations.now = c.requires in
    let items = pairs_read rows.rotations.now c.args.k c.index-rows-k.result here c.index-rows-k.is in
    rw (c.deref.ensures.value, sym c.index-rows-k.is, items) (rows.named c.args.k)
