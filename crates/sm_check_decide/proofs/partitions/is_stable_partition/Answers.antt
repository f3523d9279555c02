use Rattle.std.proofs.Common.{ℕ, ◌<◌, ◌↔◌, length, get_or, IsTrue, rules}
use Rattle.sm_check_decide.specs.Rooms.{ArePredecessors, PrefersSuccessor, IsUnblockedAt}
use Rattle.sm_check_decide.proofs.PartyLemmas.{partition_decided}
use Rattle.sm_check_decide.proofs.partitions.is_stable_partition.Goals as goal

pub returns : goal.returns
returns c =
    let p : ArePredecessors c.args.next.now c.in-Some.before.items = rw c.in-Some.is at c.in_ok-before.ensures in
    let t : IsTrue c.prefer_successors.result = search rules in
    let prefer : (x : ℕ) → x < length c.args.lists.now → PrefersSuccessor c.args.lists.now x (get_or c.args.next.now x 0) (get_or c.in-Some.before.items x 0) =
    rw c.deref.ensures.value at (c.prefer_successors.ensures.0 t) in
    let w : IsTrue c.is_unblocked.result ↔ IsUnblockedAt c.args.lists.now c.in_ok-standings.standings.items = rw c.deref-3.ensures.value at c.is_unblocked.ensures in
    partition_decided p c.requires.one_each c.in_ok-standings.ensures c.requires.in_range prefer c.is_unblocked.result w
