use Rattle.std.proofs.Common.{◌≤◌}
use Rattle.sm_check_net.proofs.ReachLemmas.{IsGoing}
use Rattle.sm_check_net.proofs.reaching.step_from.Given as goal

abbrev pub invariant-loop-k : goal.invariant-loop-k
invariant-loop-k l = record {
  going : IsGoing l.steps l.from l.initial.k l.k l.fn.trail l.trail;
  come : l.initial.k ≤ l.k;
}
