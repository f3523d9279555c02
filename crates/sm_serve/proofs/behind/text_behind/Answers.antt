use Rattle.std.proofs.Common.{drop, length-drop, arith}
use Rattle.sm_reader.specs.InstanceText.{read_of}
use Rattle.sm_text.proofs.LineLemmas.{length-lines-le}
use Rattle.sm_serve.proofs.BehindLemmas.{rest_line_le}
use Rattle.sm_serve.proofs.behind.text_behind.Goals as goal

pub first_saying-requires : goal.first_saying-requires
first_saying-requires c =
    let bytes = c.args.bytes.now in
    let read = c.args.read.now in
    omega (arith, rest_line_le bytes (read_of read) c.requires.short c.requires.read, length-lines-le bytes, length-lines-le (drop read.rest bytes), length-drop read.rest bytes, c.requires.short)
