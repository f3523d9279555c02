use Rattle.std.proofs.Common.{◌-◌, length, arith}
use Rattle.std.proofs.lemmas.Grind.{common_steps}
use Rattle.sm_text.proofs.LineLemmas.{without_last_at, without_last_kept}
use Rattle.sm_text.proofs.lines.without_last.Goals as goal

pub returns-in-len1-up : goal.returns-in-len1-up
returns-in-len1-up c =
    let bytes = c.args.bytes.now in
    let last = without_last_at c.args.b bytes (length bytes - 1) (omega arith) in
    grind (arith, common_steps)

pub returns-in_default-2 : goal.returns-in_default-2
returns-in_default-2 c = without_last_kept c.args.b c.args.bytes.now c.in-len1-up.len_at_least c.if-last-b.false
