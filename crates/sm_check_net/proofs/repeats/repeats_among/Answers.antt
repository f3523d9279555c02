use Rattle.std.proofs.Common.{sym, subst, Bool, true, List, ◌+◌, set}
use Rattle.sm_check_net.proofs.RepeatLemmas.{AreMet, one_met}
use Rattle.sm_check_net.proofs.repeats.repeats_among.Goals as goal

pub loop-line-preserved : goal.loop-line-preserved
loop-line-preserved c = subst (λ (xs : List Bool). AreMet c.args.lines.now c.args.ends.now (set c.loop-line.met.items c.place_of-k.result true) xs (c.loop-line.line-index + 1)) (sym c.in_ok-push.ensures.items)
    (one_met c.loop-line.line-index c.place_of-k.result _ c.loop-line.invariant c.loop-line-test.true c.place_of-k.ensures c.index.ensures)
