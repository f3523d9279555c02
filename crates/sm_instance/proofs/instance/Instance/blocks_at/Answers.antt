use Rattle.std.proofs.Common.{arith}
use Rattle.sm_instance.proofs.BlockLemmas.{blocks_by}
use Rattle.sm_instance.proofs.AcceptLemmas.{lt_true, true_lt}
use Rattle.sm_instance.proofs.instance.Instance.blocks_at.Goals as goal

pub returns-then-back-limit : goal.returns-then-back-limit
returns-then-back-limit c =
    let both = blocks_by c.standing.ensures.instance c.args.p c.args.place c.in-Some.back c.args.limit c.requires.on_list c.in-Some.ensures.cross c.requires.limit in
    let stands = c.standing.ensures.standing in
    (λ t. both.0 c.if-back-limit.true (let lt = true_lt c.args.place c.standing.result t in omega arith), λ h. let lt = (both.1 h).1 in lt_true c.args.place c.standing.result (omega arith))
