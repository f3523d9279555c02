use Rattle.std.proofs.Common.{◌≡◌, ◌∙◌, sym, ap, subst}
use Rattle.sm_market.specs.Lists.{Lists}
use Rattle.sm_market.specs.Vectors.{rows_of}
use Rattle.sm_poset.specs.Posets.{RotationPoset}
use Rattle.sm_poset.specs.Kept.{IsKept}
use Rattle.sm_poset.specs.Moves.{moves_in}
use Rattle.sm_poset.proofs.SetLemmas.{IsSetOf, reached_set, reached_set_is}
use Rattle.sm_poset.proofs.poset.Poset.set_of.Goals as goal

pub returns : goal.returns
returns c =
    let kept = subst (λ (poset : RotationPoset). IsKept poset (rows_of c.self.inside.digraph.value.needs.items) (moves_in c.self.inside.digraph.value.moves.items) c.self.inside.leaders.items) c.self.view_is c.self.invariant in
    let lists_are : c.self.inside.market.value ≡ c.args.self.now.lists = ap (λ (poset : RotationPoset). poset.lists) c.self.view_is in
    let items_are : c.in_ok-reached.field-0.items ≡ reached_set c.args.self.now.lists c.args.m.now.places c.self.inside.leaders.items =
    c.in_ok-reached.ensures ∙ ap (λ (l : Lists). reached_set l c.args.m.now.places c.deref.result.now) c.as_ref.ensures ∙ ap (reached_set c.self.inside.market.value c.args.m.now.places) c.deref.ensures.value ∙ ap (λ (l : Lists). reached_set l c.args.m.now.places c.self.inside.leaders.items) lists_are in
    let w = subst (IsSetOf c.args.self.now.lists c.args.self.now.first.places c.args.m.now.places c.args.self.now.rotations) (sym items_are)
    (reached_set_is kept.chain.market kept.chain.printed.chain c.requires.stable c.self.inside.leaders.items kept.leaders_are) in
    record { closed = w.closed; matching = w.matching; one = w.one }
