use Rattle.std.proofs.Common.{◌≡◌, ℕ, arith, sym, ap, ◌∙◌, subst, List, length, false, ℤ}
use Rattle.std.proofs.lemmas.List.{length-map}
use Rattle.sm_market.specs.Vectors.{rows_of}
use Rattle.sm_theory.specs.declared.rotations.Rotation.{Rotation}
use Rattle.sm_theory.specs.Net.{Net, sink_of, IsUnbounded, IsReachable}
use Rattle.sm_theory.specs.Conditions.{allows_nothing}
use Rattle.sm_theory.specs.Chains.{AreNeeds}
use Rattle.sm_weight.specs.declared.edges.Edge.{Edge}
use Rattle.sm_weight.specs.Edges.{AreEdges}
use Rattle.sm_weight.specs.Second.{AreCutsFound}
use Rattle.sm_weight.specs.Sizes.{weights_in}
use Rattle.sm_weight.specs.Lightest.{poset_net}
use Rattle.sm_weight.proofs.LightestLemmas.{nothing_by_pair, nothing_by_path, lightest_found}
use Rattle.sm_weight.proofs.weighing.with_second_gains.Goals.{After-deref-3}
use Rattle.sm_weight.proofs.weighing.with_second_gains.Goals as goal

pub returns-then-allows_nothing : goal.returns-then-allows_nothing
returns-then-allows_nothing c = λ seconds second.
    nothing_by_pair c.chain.ensures.poset c.requires.levels (weights_in c.args.weights.now) seconds c.args.conditions.now.forced.items c.args.conditions.now.forbidden.items c.all_needs-needs.ensures (sym c.allows_nothing.ensures ∙ c.if-allows_nothing.true)

-- some matching may be allowed
allowed : (c : After-deref-3) → allows_nothing c.args.poset.now.lists (rows_of c.args.levels.now) c.args.conditions.now.forced.items c.args.conditions.now.forbidden.items c.args.poset.now.first.places c.args.poset.now.rotations ≡ false
allowed c = sym c.allows_nothing.ensures ∙ c.if-allows_nothing.false

-- the net has a node for each rotation
size_is : (c : After-deref-3) → length c.args.poset.now.rotations ≡ c.len-size.result
size_is c =
    let values = c.chain.result.now.rotations.items in
    omega (arith, c.len-size.ensures, length-map values (λ (r : Rotation). r.pairs.items), ap (λ (r : List (List (ℕ × ℕ))). length r) c.chain.ensures.rotations)

-- the net of the poset, whichever lists of needs it is made from
abbrev net_by : After-deref-3 → List (List ℕ) → Net
net_by c needs = poset_net c.args.poset.now (rows_of c.args.levels.now) (weights_in c.args.weights.now) c.args.conditions.now.forced.items c.args.conditions.now.forbidden.items needs

-- the edges are those of that net
edges_by : (c : After-deref-3) (needs : List (List ℕ)) → AreNeeds c.args.poset.now.lists c.args.poset.now.rotations needs → AreEdges (net_by c needs) c.deref-2.result.now
edges_by c needs are =
    subst (λ (es : List Edge). AreEdges (net_by c needs) es) (sym c.deref-2.ensures.value)
    (c.in_ok-edges.ensures.edges (weights_in c.args.weights.now) (c.deref.ensures.value ∙ c.in_ok-first_gains.ensures.gains) (allowed c) needs are)

pub least_cuts-requires-clause-nodes : goal.least_cuts-requires-clause-nodes
least_cuts-requires-clause-nodes c =
    let at = (goal.at.least_cuts-requires-clause-nodes c).After-deref-3 in
    let size = size_is at in
    let here = edges_by at (rows_of c.all_needs-needs.result.now) c.all_needs-needs.ensures in
    (λ e less. let w = here.nodes e less in (omega (arith, w.0, size), omega (arith, w.1, size)))

pub least_cuts-requires-clause-each : goal.least_cuts-requires-clause-each
least_cuts-requires-clause-each c =
    let size = size_is (goal.at.least_cuts-requires-clause-each c).After-deref-3 in
    omega (arith, size, ap (λ (gs : List ℤ). length gs) c.deref-3.ensures.value, c.requires.each)

pub returns-in-None : goal.returns-in-None
returns-in-None c = λ seconds second.
    let at = (goal.at.returns-in-None c).After-deref-3 in
    let needs = rows_of c.all_needs-needs.result.now in
    let found = c.in_ok-least_cuts.ensures (net_by at needs) (size_is at) (edges_by at needs c.all_needs-needs.ensures) in
    let path : IsReachable (IsUnbounded (net_by at needs)) 0 (sink_of (net_by at needs)) = rw c.in-None.is at found in
    nothing_by_path c.chain.ensures.poset c.requires.levels (weights_in c.args.weights.now) seconds c.args.conditions.now.forced.items c.args.conditions.now.forbidden.items c.all_needs-needs.ensures path

pub returns-in-Some : goal.returns-in-Some
returns-in-Some c = λ seconds second.
    let at = (goal.at.returns-in-Some c).After-deref-3 in
    let each : (needs : List (List ℕ)) → AreNeeds c.args.poset.now.lists c.args.poset.now.rotations needs → AreCutsFound (net_by at needs) c.args.second_gains.items c.in-Some.found =
    (λ needs are. let found = c.in_ok-least_cuts.ensures (net_by at needs) (size_is at) (edges_by at needs are) in
    let two : AreCutsFound (net_by at needs) c.deref-3.result.now c.in-Some.found = rw c.in-Some.is at found in
    subst (λ (gs : List ℤ). AreCutsFound (net_by at needs) gs c.in-Some.found) c.deref-3.ensures.value two) in
    lightest_found c.chain.ensures.poset c.requires.levels (weights_in c.args.weights.now) seconds c.args.conditions.now.forced.items c.args.conditions.now.forbidden.items c.in_ok-first_gains.first_gains c.args.second_gains c.in-Some.found c.all_needs-needs.ensures (allowed at) c.in_ok-first_gains.ensures.gains second each
