use Rattle.std.proofs.Common.{◌∙◌, map}
use Rattle.serde_json.specs.View.{view, members_view}
use Rattle.serde_json.specs.declared.value.Value.{Array}
use Rattle.sm_agents.specs.Vectors.{agents_of}
use Rattle.sm_instance_lines.specs.Names.{said_pair}
use Rattle.sm_json.specs.Making.{pair_json}
use Rattle.sm_json.proofs.MakeLemmas.{made_all, array_through, put_made, some_mapped}
use Rattle.sm_json.proofs.making.put_pairs.Goals as goal

pub returns : goal.returns
returns c =
    let said = said_pair (agents_of c.args.proposers.now) (agents_of c.args.reviewers.now) in
    let all = c.args.pairs.now in
    let list = c.loop-pair.list in
    let made = made_all (λ x. pair_json (said x)) all c.loop-pair.pair-index list c.loop-pair-test.false c.loop-pair.invariant ∙ array_through pair_json said all in
    put_made (c.args.key.now) pair_json (map said all) (members_view c.args.members.now.entries) (members_view c.put.new.map.entries) (view (Array list)) c.put.result
    (some_mapped said all c.is_empty.result c.is_empty.ensures c.if-is_empty.false) made c.put.ensures.ok
