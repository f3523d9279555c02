use Rattle.std.proofs.Common.{arith}
use Rattle.sm_lists.proofs.OrderLemmas.{each_once_long}
use Rattle.sm_agents.proofs.AgentLemmas.{length-agents}
use Rattle.sm_instance.proofs.instance.Instance.reorder.Goals as goal

pub copy_from_slice-requires : goal.copy_from_slice-requires
copy_from_slice-requires c =
    let kept = each_once_long c.self.invariant.instance.order in
    let given = each_once_long (c.in_ok-is_each_once.ensures.0 c.if-not-branch.false) in
    omega (arith, kept, given, length-agents c.self.inside.proposers.items, c.len.ensures, c.self.inside.order.ok.0)
