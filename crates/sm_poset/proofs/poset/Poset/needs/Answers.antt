use Rattle.std.proofs.Common.{◌≡◌, ◌<◌, length, sym, subst, arith}
use Rattle.std.proofs.lemmas.List.{length-map}
use Rattle.sm_market.specs.Lists.{row}
use Rattle.sm_market.specs.Vectors.{rows_of}
use Rattle.sm_theory.specs.Chains.{AreNeedsOf}
use Rattle.sm_poset.specs.Posets.{RotationPoset}
use Rattle.sm_poset.specs.Kept.{IsKept}
use Rattle.sm_poset.specs.Moves.{moves_in}
use Rattle.sm_lists.proofs.RowLemmas.{row_read}
use Rattle.sm_poset.proofs.poset.Poset.needs.Goals as goal

pub returns : goal.returns
returns c =
    let kept = subst (λ (poset : RotationPoset). IsKept poset (rows_of c.self.inside.digraph.value.needs.items) (moves_in c.self.inside.digraph.value.moves.items) c.self.inside.leaders.items) c.self.view_is c.self.invariant in
    let there : c.args.rotation < length c.self.inside.digraph.value.needs.items = omega (arith, kept.needs_each, length-map c.self.inside.digraph.value.needs.items (λ v. v.items)) in
    let same : c.deref.result.now ≡ row (rows_of c.self.inside.digraph.value.needs.items) c.args.rotation = row_read c.self.inside.digraph.value.needs.items c.args.rotation c.index.result.now c.deref.result.now there (rw c.as_ref.ensures at c.index.ensures) c.deref.ensures.value in
    subst (AreNeedsOf c.args.self.now.lists c.args.self.now.rotations c.args.rotation) (sym same) (kept.needs_are c.args.rotation c.requires)
