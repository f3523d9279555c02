use Rattle.std.proofs.Common.{codes, Some, ap}
use Rattle.serde_json.specs.View.{view}
use Rattle.serde_json.specs.Find.{get}
use Rattle.sm_json.specs.declared.agents.Role.TheVariants.{Proposer}
use Rattle.sm_json.specs.JsonText.{json_header}
use Rattle.sm_json.specs.Adding.{joined}
use Rattle.sm_json.specs.Roles.{with_end, agents_added}
use Rattle.sm_json.specs.Reading.{asks_second, items_added, two_added}
use Rattle.sm_json.proofs.AddLemmas.{adds_then, adds_same}
use Rattle.sm_json.proofs.reading.put_sides.Goals as goal

pub returns : goal.returns
returns c =
    adds_same c.args.into.now.bytes c.put_last.new.into.bytes (joined (Some (with_end (json_header (asks_second (get (codes "weights") (view c.args.value.now)) (get (codes "order") (view c.args.value.now))) c.args.kind))) (joined (agents_added Proposer (view c.args.proposers.now)) (joined (agents_added c.args.role (view c.args.reviewers.now)) (joined (items_added (view c.args.value.now)) (Some (codes "end\n")))))) (two_added c.args.kind (view c.args.value.now) (view c.args.proposers.now) (view c.args.reviewers.now)) c.put_last.result
    (ap (λ role. joined (Some (with_end (json_header (asks_second (get (codes "weights") (view c.args.value.now)) (get (codes "order") (view c.args.value.now))) c.args.kind))) (joined (agents_added Proposer (view c.args.proposers.now)) (joined (agents_added role (view c.args.reviewers.now)) (joined (items_added (view c.args.value.now)) (Some (codes "end\n")))))) c.requires)
    (adds_then c.args.into.now.bytes c.put_head.new.into.bytes c.put_last.new.into.bytes (Some (with_end (json_header (asks_second (get (codes "weights") (view c.args.value.now)) (get (codes "order") (view c.args.value.now))) c.args.kind))) (joined (agents_added Proposer (view c.args.proposers.now)) (joined (agents_added c.args.role (view c.args.reviewers.now)) (joined (items_added (view c.args.value.now)) (Some (codes "end\n"))))) c.put_last.result c.in_ok-put_head.ensures
    (adds_then c.put_head.new.into.bytes c.put_agents.new.into.bytes c.put_last.new.into.bytes (agents_added Proposer (view c.args.proposers.now)) (joined (agents_added c.args.role (view c.args.reviewers.now)) (joined (items_added (view c.args.value.now)) (Some (codes "end\n")))) c.put_last.result c.in_ok-put_agents.ensures
    (adds_then c.put_agents.new.into.bytes c.put_agents-2.new.into.bytes c.put_last.new.into.bytes (agents_added c.args.role (view c.args.reviewers.now)) (joined (items_added (view c.args.value.now)) (Some (codes "end\n"))) c.put_last.result c.in_ok-put_agents-2.ensures
    (adds_then c.put_agents-2.new.into.bytes c.put_items.new.into.bytes c.put_last.new.into.bytes (items_added (view c.args.value.now)) (Some (codes "end\n")) c.put_last.result c.in_ok-put_items.ensures
    (c.put_last.ensures)))))
