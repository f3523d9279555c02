use Rattle.sm_make.proofs.InstanceLemmas.{cycles_are_instance, two_are_instance}
use Rattle.sm_make.proofs.making.cycle.Goals as goal

pub two-requires : goal.two-requires
two-requires c = two_are_instance c.in_ok-proposers.ensures c.in_ok-reviewers.ensures (cycles_are_instance c.args.size c.requires)
