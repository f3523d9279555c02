use Rattle.std.proofs.Common.{◌≡◌, ◌∙◌, ap, codes, map, false}
use Rattle.std.specs.List.{zip}
use Rattle.serde_json.specs.Data.{string, no_members, put}
use Rattle.serde_json.specs.View.{view, members_view}
use Rattle.sm_agents.specs.Vectors.{agents_of}
use Rattle.sm_instance_lines.specs.Names.{said_agent, said_weight}
use Rattle.sm_json.specs.Parts.{has_capacities}
use Rattle.sm_json.specs.Making.{array_of, agent_json, weight_json, put_if}
use Rattle.sm_agents.specs.Kinds.{kind_name}
use Rattle.sm_json.proofs.MakeLemmas.{sides_are_put}
use Rattle.sm_json.proofs.making.sides_and_weights.Goals as goal

pub returns : goal.returns
returns c =
    let kind = c.args.kind in
    let left = agents_of c.args.proposers.now in
    let right = agents_of c.args.reviewers.now in
    let m0 = members_view c.new-members.result.entries in
    let m1 = members_view c.put_weights.new.members.entries in
    let m2 = members_view c.put.new.map.entries in
    let m3 = members_view c.put-2.new.map.entries in
    let m4 = members_view c.put-3.new.map.entries in
    let e0 : m0 ≡ no_members = ap members_view c.new-members.ensures.empty in
    let e1 : m1 ≡ put_if (codes "weights") weight_json (map (said_weight left right) (zip c.args.instance.now.weights c.args.instance.now.seconds)) m0 = c.in_ok-put_weights.ensures in
    let h2 : c.has_capacities.result ≡ has_capacities kind = c.has_capacities.ensures in
    let v2 : view c.in_ok-list.list ≡ array_of (agent_json c.has_capacities.result) (map (said_agent left) right) = c.in_ok-list.ensures in
    let e2 : m2 ≡ put (codes "reviewers") (view c.in_ok-list.list) m1 = c.in_ok-put.ensures.ok in
    let v3 : view c.in_ok-list-2.list ≡ array_of (agent_json false) (map (said_agent right) left) = c.in_ok-list-2.ensures in
    let e3 : m3 ≡ put (codes "proposers") (view c.in_ok-list-2.list) m2 = c.in_ok-put-2.ensures.ok in
    let v4 : view c.in_ok-kind.kind ≡ string (kind_name kind) = c.in_ok-kind.ensures in
    let e4 : m4 ≡ put (codes "kind") (view c.in_ok-kind.kind) m3 = c.in_ok-put-3.ensures.ok in
    sides_are_put kind left right (zip c.args.instance.now.weights c.args.instance.now.seconds) m0 m1 m2 m3 m4 (view c.in_ok-kind.kind) (view c.in_ok-list-2.list) (view c.in_ok-list.list)
    e0 e1 (v2 ∙ ap (λ t. array_of (agent_json t) (map (said_agent left) right)) h2) e2 v3 e3 v4 e4
