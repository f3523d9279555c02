use Rattle.std.proofs.Common.{Some, ◌++◌}
use Rattle.serde_json.specs.View.{view}
use Rattle.sm_json.specs.Adding.{joined}
use Rattle.sm_json.specs.Roles.{word_of, places_added, list_added}
use Rattle.sm_json.proofs.AddLemmas.{adds_then}
use Rattle.sm_json.proofs.agents.put_parts.Goals as goal

pub returns : goal.returns
returns c =
    adds_then c.args.into.now.bytes c.put_named.new.into.bytes c.put_list.new.into.bytes (Some (word_of c.args.role ++ c.args.name.now)) (joined (places_added c.args.role (view c.args.value.now)) (list_added (view c.args.list.now))) c.put_list.result c.in_ok-put_named.ensures
    (adds_then c.put_named.new.into.bytes c.put_places.new.into.bytes c.put_list.new.into.bytes (places_added c.args.role (view c.args.value.now)) (list_added (view c.args.list.now)) c.put_list.result c.in_ok-put_places.ensures
    (c.put_list.ensures))
