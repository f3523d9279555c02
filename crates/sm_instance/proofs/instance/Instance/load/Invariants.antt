use Rattle.std.proofs.Common.{◌≤◌}
use Rattle.sm_instance.specs.Namings.{asked}
use Rattle.sm_instance.proofs.LoadLemmas.{IsCounted}
use Rattle.sm_instance.proofs.instance.Instance.load.Given as goal

-- the load so far
abbrev pub invariant-loop-e : goal.invariant-loop-e
invariant-loop-e l = record {
  counted : IsCounted l.self l.a.places.items l.r (asked l.namings) l.e l.load;
  few : l.load ≤ l.e;
}
