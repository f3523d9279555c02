use Rattle.std.proofs.Common.{◌-◌}
use Rattle.sm_check_net.proofs.ReachLemmas.{IsFollowing}
use Rattle.sm_check_net.proofs.reaching.follow.Given as goal

abbrev pub invariant-nodes : goal.invariant-nodes
invariant-nodes l = IsFollowing l.fn.trail.bound l.steps l.trail l.next

abbrev pub decreases-nodes : goal.decreases-nodes
decreases-nodes l = l.fn.trail.bound - l.next
