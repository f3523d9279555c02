use Rattle.std.proofs.Common.{◌≡◌, ℕ, suc, ◌++◌, arith, sym, ap, ◌∙◌, subst, List, Vec, length}
use Rattle.std.specs.declared.alloc.Global.{Global}
use Rattle.std.specs.List.{flat_map}
use Rattle.std.proofs.lemmas.List.{length-map}
use Rattle.sm_lists.specs.Sums.{sum_to}
use Rattle.sm_market.specs.Lists.{row}
use Rattle.sm_market.specs.Vectors.{rows_of}
use Rattle.sm_lists.proofs.ResultLemmas.{IfOk-more}
use Rattle.sm_weight.specs.declared.edges.Edge.{Edge}
use Rattle.sm_weight.specs.Edges.{AreMerged, room_total}
use Rattle.sm_weight.specs.Net.{joined, need_edges, gain_edges, forced_edges, forbidden_edges, raw_edges}
use Rattle.sm_weight.proofs.NetLemmas.{edges_are}
use Rattle.sm_weight.proofs.ShortLemmas.{raw_few, raw_small}
use Rattle.sm_weight.proofs.CountLemmas.{needs_few}
use Rattle.sm_weight.proofs.net.net_edges.Goals.{In_ok-add_forbidden}
use Rattle.sm_weight.proofs.net.net_edges.Goals as goal

pub most_edges-requires-clause-needs : goal.most_edges-requires-clause-needs
most_edges-requires-clause-needs c =
    let kept = rows_of c.args.needs.now in
    let market = c.sink-sink.ensures.poset in
    let few = needs_few market.market market.printed.chain market.limits c.requires.needs in
    let same : sum_to (λ k. length (row kept k)) (length c.args.needs.now) ≡ sum_to (λ k. length (row kept k)) (length c.args.poset.now.rotations) = ap (sum_to (λ k. length (row kept k))) (sym (length-map c.args.needs.now (λ (v : Vec ℕ Global). v.items)) ∙ c.requires.needs.one_each) in
    omega (arith, few, same)

-- all edges, before those that say the same are made one
abbrev all_edges : In_ok-add_forbidden → List Edge
all_edges c =
    raw_edges c.args.poset.now.lists (rows_of c.args.levels.now) c.args.conditions.now.forced.items c.args.conditions.now.forbidden.items c.args.poset.now.first.places c.args.poset.now.rotations (rows_of c.args.needs.now) c.args.gains.now

are_added : (c : In_ok-add_forbidden) → c.add_forbidden.new.edges.items ≡ all_edges c
are_added c =
    let poset = c.args.poset.now in
    let levels = rows_of c.args.levels.now in
    let forced = c.args.conditions.now.forced.items in
    let forbidden = c.args.conditions.now.forbidden.items in
    let kept = rows_of c.args.needs.now in
    let sink = c.sink-sink.ensures.sink in
    let many : length c.args.needs.now ≡ length kept = sym (length-map c.args.needs.now (λ (v : Vec ℕ Global). v.items)) in
    c.in_ok-add_forbidden.ensures
    ∙ ap (λ (pairs : List (ℕ × ℕ)). c.add_forced.new.edges.items ++ flat_map (forbidden_edges poset.lists levels poset.first.places poset.rotations) pairs) c.deref-2.ensures.value
    ∙ ap (λ (es : List Edge). es ++ flat_map (forbidden_edges poset.lists levels poset.first.places poset.rotations) forbidden)
    (c.in_ok-add_forced.ensures
    ∙ ap (λ (pairs : List (ℕ × ℕ)). c.add_gains.new.edges.items ++ flat_map (forced_edges poset.lists levels poset.first.places poset.rotations) pairs) c.deref.ensures.value
    ∙ ap (λ (es : List Edge). es ++ flat_map (forced_edges poset.lists levels poset.first.places poset.rotations) forced)
    (c.in_ok-add_gains.ensures
    ∙ ap (λ (n : ℕ). c.add_needs.new.edges.items ++ joined (gain_edges n c.args.gains.now) (length c.args.gains.now)) sink
    ∙ ap (λ (es : List Edge). es ++ joined (gain_edges (suc (length poset.rotations)) c.args.gains.now) (length c.args.gains.now))
    (c.in_ok-add_needs.ensures ∙ ap (λ (es : List Edge). es ++ joined (need_edges kept) (length c.args.needs.now)) c.in_ok-edges.ensures.items ∙ ap (joined (need_edges kept)) many)))

pub returns-clause-edges : goal.returns-clause-edges
returns-clause-edges c =
    let poset = c.args.poset.now in
    let levels = rows_of c.args.levels.now in
    let forced = c.args.conditions.now.forced.items in
    let forbidden = c.args.conditions.now.forbidden.items in
    let kept = rows_of c.args.needs.now in
    IfOk-more c.merged.result _ _ (λ once w weights gains allowed needs are.
    edges_are poset.lists levels weights forced forbidden poset.first.places poset.rotations needs allowed c.args.gains.now gains kept are c.requires.needs once.items
    (subst (λ (es : List Edge). AreMerged es once.items) (are_added (goal.at.returns-clause-edges c).In_ok-add_forbidden) w)) c.merged.ensures

pub returns-clause-few : goal.returns-clause-few
returns-clause-few c =
    let poset = c.args.poset.now in
    let kept = rows_of c.args.needs.now in
    let market = c.sink-sink.ensures.poset in
    let raw = are_added (goal.at.returns-clause-few c).In_ok-add_forbidden in
    let short = raw_few poset.lists (rows_of c.args.levels.now) c.args.conditions.now.forced.items c.args.conditions.now.forbidden.items poset.first.places poset.rotations kept c.args.gains.now in
    let few = needs_few market.market market.printed.chain market.limits c.requires.needs in
    let same : sum_to (λ k. length (row kept k)) (length kept) ≡ sum_to (λ k. length (row kept k)) (length poset.rotations) = ap (sum_to (λ k. length (row kept k))) c.requires.needs.one_each in
    IfOk-more c.merged.result _ _ (λ once w. omega (arith, w.short, ap length raw, short, few, same, market.few, c.requires.few, c.requires.gains)) c.merged.ensures

pub returns-clause-small : goal.returns-clause-small
returns-clause-small c =
    let poset = c.args.poset.now in
    let raw = are_added (goal.at.returns-clause-small c).In_ok-add_forbidden in
    let light = raw_small poset.lists (rows_of c.args.levels.now) c.args.conditions.now.forced.items c.args.conditions.now.forbidden.items poset.first.places poset.rotations (rows_of c.args.needs.now) c.args.gains.now in
    IfOk-more c.merged.result _ _ (λ once w. omega (arith, w.small, ap room_total raw, light, c.requires.small)) c.merged.ensures
