use Rattle.std.proofs.Common.{◌≡◌, ℕ, length, subst, arith}
use Rattle.sm_check_decide.proofs.PartyLemmas.{AreBefore, before_all}
use Rattle.sm_check_decide.proofs.partitions.predecessors.Goals as goal

pub returns : goal.returns
returns c =
    let e : c.loop-x.x ≡ length c.args.next.now = omega arith in
    before_all (subst (λ (x : ℕ). AreBefore c.args.next.now x c.loop-x.before.items) e c.loop-x.invariant)
