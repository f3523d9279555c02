use Rattle.sm_theory.proofs.Bridge.Chain.{eliminable_of}
use Rattle.sm_poset.proofs.poset.Poset.of.Goals as goal

pub needs-requires-clause-eliminable : goal.needs-requires-clause-eliminable
needs-requires-clause-eliminable c = eliminable_of c.requires.printed.chain
