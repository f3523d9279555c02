use Rattle.std.proofs.Common.{subst}
use Rattle.sm_market.specs.Vectors.{rows_of}
use Rattle.sm_poset.specs.Posets.{RotationPoset}
use Rattle.sm_poset.specs.Kept.{IsKept}
use Rattle.sm_poset.specs.Moves.{moves_in}
use Rattle.sm_poset.proofs.poset.Poset.all_moves.Goals as goal

pub returns : goal.returns
returns c =
    let kept = subst (λ (poset : RotationPoset). IsKept poset (rows_of c.self.inside.digraph.value.needs.items) (moves_in c.self.inside.digraph.value.moves.items) c.self.inside.leaders.items) c.self.view_is c.self.invariant in
    rw (c.deref.ensures.value, c.as_ref.ensures) kept.moves_are
