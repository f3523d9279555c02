use Rattle.std.proofs.Common.{◌≡◌, ◌<◌, length, sym, subst, ◌∙◌, arith}
use Rattle.std.proofs.lemmas.List.{length-map}
use Rattle.sm_market.specs.Vectors.{rows_of}
use Rattle.sm_poset.specs.Posets.{RotationPoset}
use Rattle.sm_poset.specs.Moves.{AreMovesOf, moves_in, moves_at}
use Rattle.sm_poset.specs.Kept.{IsKept}
use Rattle.sm_poset.proofs.ReadLemmas.{moves_read}
use Rattle.sm_poset.proofs.MoveLemmas.{go_down}
use Rattle.sm_poset.proofs.poset.Poset.moves.Goals as goal

pub returns-clause-moves : goal.returns-clause-moves
returns-clause-moves c =
    let kept = subst (λ (poset : RotationPoset). IsKept poset (rows_of c.self.inside.digraph.value.needs.items) (moves_in c.self.inside.digraph.value.moves.items) c.self.inside.leaders.items) c.self.view_is c.self.invariant in
    let there : c.args.p < length c.self.inside.digraph.value.moves.items = omega (arith, kept.moves_are.one_each, length-map c.self.inside.digraph.value.moves.items (λ v. v.items)) in
    let same : c.deref.result.now ≡ moves_at (moves_in c.self.inside.digraph.value.moves.items) c.args.p = c.deref.ensures.value ∙ moves_read c.self.inside.digraph.value.moves.items c.args.p c.index.result.now there (rw c.as_ref.ensures at c.index.ensures) in
    subst (AreMovesOf c.args.self.now.lists c.args.self.now.rotations (length c.args.self.now.rotations) c.args.p) (sym same) (kept.moves_are.of c.args.p c.requires)

pub returns-clause-down : goal.returns-clause-down
returns-clause-down c =
    let kept = subst (λ (poset : RotationPoset). IsKept poset (rows_of c.self.inside.digraph.value.needs.items) (moves_in c.self.inside.digraph.value.moves.items) c.self.inside.leaders.items) c.self.view_is c.self.invariant in
    go_down kept.chain.market kept.chain.printed.chain (returns-clause-moves c)
