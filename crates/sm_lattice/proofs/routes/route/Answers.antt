use Rattle.std.proofs.Common.{◌≡◌, ◌∙◌, ap, List, Bool, Vec, IfOk, length, map, subst, sym}
use Rattle.std.specs.declared.alloc.Global.{Global}
use Rattle.sm_lists.proofs.ResultLemmas.{IfOk-both}
use Rattle.sm_theory.specs.ClosedSets.{matching_of}
use Rattle.sm_theory.specs.declared.step.Step.{Step}
use Rattle.sm_theory.specs.Routes.{IsShortestRoute, sets_along, steps_between}
use Rattle.sm_theory.proofs.Routes.Shortest.{steps_are_shortest}
use Rattle.sm_lattice.proofs.routes.route.Goals as goal

pub returns-clause-shortest : goal.returns-clause-shortest
returns-clause-shortest c =
    let poset = c.args.poset.now in
    let left = c.args.left.now.members.items in
    let right = c.args.right.now.members.items in
    let chain = c.chain-chain.ensures.poset.printed.chain in
    let law = steps_are_shortest poset.lists poset.first.places poset.rotations left right c.chain-chain.ensures.poset.market chain c.requires.left c.requires.right in
    let told : IfOk c.steps_of.result (λ steps. steps.items ≡ steps_between left right (length left)) = rw (c.deref.ensures.value, c.deref-2.ensures.value) at c.steps_of.ensures in
    IfOk-both c.steps_of.result _ _ _
    (λ (steps : Vec Step Global) is _.
    let same : steps.items ≡ steps_between left right (length poset.rotations) = is ∙ ap (steps_between left right) (c.requires.left.one_each) in
    subst (λ (xs : List Step). IsShortestRoute poset.lists (matching_of poset.lists poset.first.places poset.rotations left)
    (map (matching_of poset.lists poset.first.places poset.rotations) (sets_along left xs))
    (matching_of poset.lists poset.first.places poset.rotations right)) (sym same) law.1)
    told told
