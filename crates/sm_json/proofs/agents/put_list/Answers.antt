use Rattle.std.proofs.Common.{codes, Some, [], ◌∷◌}
use Rattle.serde_json.specs.View.{view}
use Rattle.sm_text.specs.Lines.{LF}
use Rattle.sm_json.specs.Adding.{joined}
use Rattle.sm_json.specs.Roles.{names_added}
use Rattle.sm_json.proofs.AddLemmas.{adds_then}
use Rattle.sm_json.proofs.agents.put_list.Goals as goal

pub returns : goal.returns
returns c =
    adds_then c.args.into.now.bytes c.put_colon.new.into.bytes c.put_end.new.into.bytes (Some (codes ":")) (joined (names_added (view c.args.value.now)) (Some (LF ∷ []))) c.put_end.result c.in_ok-put_colon.ensures
    (adds_then c.put_colon.new.into.bytes c.put_names.new.into.bytes c.put_end.new.into.bytes (names_added (view c.args.value.now)) (Some (LF ∷ [])) c.put_end.result c.in_ok-put_names.ensures
    (c.put_end.ensures))
