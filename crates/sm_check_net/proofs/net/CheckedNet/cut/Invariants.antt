use Rattle.std.proofs.Common.{◌≡◌, ◌*◌, ◌≤◌}
use Rattle.std.specs.Prelude.{if◌then◌else◌}
use Rattle.sm_lists.specs.Sums.{sum_to}
use Rattle.sm_theory.specs.ClosedSets.{is_member}
use Rattle.sm_check_net.specs.CheckedNets.{net_of_parts}
use Rattle.sm_check_net.proofs.net.CheckedNet.cut.Given as goal

abbrev pub invariant-loop-k : goal.invariant-loop-k
invariant-loop-k l = record {
  sum : l.cut ≡ sum_to (λ k. if is_member l.set k then (net_of_parts l.self).drain k else (net_of_parts l.self).supply k) l.k;
  small : l.cut ≤ l.k * 18446744073709551615;
}
