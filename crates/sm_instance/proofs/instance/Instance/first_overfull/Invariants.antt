use Rattle.std.proofs.Common.{◌≤◌}
use Rattle.sm_agents.specs.Written.{capacity_of}
use Rattle.sm_instance.specs.Namings.{asked}
use Rattle.sm_instance.proofs.LoadLemmas.{IsCounted}
use Rattle.sm_instance.proofs.instance.Instance.first_overfull.Given as goal

-- the load so far, which the capacity isn't below
abbrev pub invariant-loop-e : goal.invariant-loop-e
invariant-loop-e l = record {
  counted : IsCounted l.self l.a.places.items l.r (asked l.namings) l.e l.load;
  within : l.load ≤ capacity_of l.self.reviewers l.r;
}
