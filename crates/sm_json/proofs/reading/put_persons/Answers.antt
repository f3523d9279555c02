use Rattle.std.proofs.Common.{codes, Some, false}
use Rattle.serde_json.specs.View.{view}
use Rattle.sm_json.specs.declared.agents.Role.TheVariants.{Proposer}
use Rattle.sm_agents.specs.declared.kinds.Kind.TheVariants.{Roommates}
use Rattle.sm_json.specs.JsonText.{json_header}
use Rattle.sm_json.specs.Adding.{joined}
use Rattle.sm_json.specs.Roles.{with_end, agents_added}
use Rattle.sm_json.proofs.AddLemmas.{adds_then}
use Rattle.sm_json.proofs.reading.put_persons.Goals as goal

pub returns : goal.returns
returns c =
    adds_then c.args.into.now.bytes c.put_room_head.new.into.bytes c.put_last.new.into.bytes (Some (with_end (json_header false Roommates))) (joined (agents_added Proposer (view c.args.persons.now)) (Some (codes "end\n"))) c.put_last.result c.in_ok-put_room_head.ensures
    (adds_then c.put_room_head.new.into.bytes c.put_agents.new.into.bytes c.put_last.new.into.bytes (agents_added Proposer (view c.args.persons.now)) (Some (codes "end\n")) c.put_last.result c.in_ok-put_agents.ensures
    (c.put_last.ensures))
