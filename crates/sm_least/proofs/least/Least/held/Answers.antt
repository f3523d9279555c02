use Rattle.std.proofs.Common.{sym, subst, List, Bool}
use Rattle.sm_theory.specs.ClosedSets.{IsClosed}
use Rattle.sm_theory.specs.Values.{rotations_of}
use Rattle.sm_least.specs.Searches.{Search}
use Rattle.sm_least.proofs.SearchLemmas.{closed_for}
use Rattle.sm_least.proofs.least.Least.held.Goals as goal

pub returns-clause-closed : goal.returns-clause-closed
returns-clause-closed c =
    subst (λ (s : Search). IsClosed s.poset.lists s.poset.rotations c.set.result.now.members.items) c.self.view_is
    (subst (λ (C : List Bool). IsClosed c.self.inside.parts.market.value (rotations_of c.self.inside.parts.chain.value.rotations.items) C) (sym c.set.ensures) (closed_for _ c.self.invariant.board c.self.invariant.closed))
