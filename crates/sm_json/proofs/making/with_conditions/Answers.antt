use Rattle.std.proofs.Common.{◌≡◌, ◌∙◌, ap, codes, map}
use Rattle.serde_json.specs.Data.{object}
use Rattle.serde_json.specs.View.{members_view}
use Rattle.serde_json.proofs.Views.{view-Object}
use Rattle.sm_agents.specs.Vectors.{agents_of}
use Rattle.sm_instance_lines.specs.Names.{said_pair}
use Rattle.sm_json.specs.Making.{pair_json, put_if}
use Rattle.sm_json.proofs.making.with_conditions.Goals as goal

pub returns : goal.returns
returns c =
    let said = said_pair (agents_of c.args.proposers.now) (agents_of c.args.reviewers.now) in
    let m0 = members_view c.args.members.entries in
    let m1 = members_view c.put_pairs.new.members.entries in
    let m2 = members_view c.put_pairs-2.new.members.entries in
    let e1 : m1 ≡ put_if (codes "forced") pair_json (map said c.args.forced.now) m0 = c.in_ok-put_pairs.ensures in
    let e2 : m2 ≡ put_if (codes "forbidden") pair_json (map said c.args.forbidden.now) m1 = c.in_ok-put_pairs-2.ensures in
    view-Object c.put_pairs-2.new.members ∙ ap object (e2 ∙ ap (put_if (codes "forbidden") pair_json (map said c.args.forbidden.now)) e1)
