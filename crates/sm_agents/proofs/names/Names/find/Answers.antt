use Rattle.std.proofs.Common.{ap, ◌∙◌, position}
use Rattle.std.specs.Str.{bytes_eq}
use Rattle.indexmap.specs.IndexSet.{keys}
use Rattle.sm_agents.proofs.NameLemmas.{position-texts}
use Rattle.sm_agents.proofs.names.Names.find.Goals as goal

pub returns-in-Some-clause-number : goal.returns-in-Some-clause-number
returns-in-Some-clause-number c =
    c.in-Some.ensures.index ∙ position-texts c.args.name.now (keys c.self.inside.names) ∙ ap (position (bytes_eq c.args.name.now)) c.self.view_is

pub returns-in-None-clause-number : goal.returns-in-None-clause-number
returns-in-None-clause-number c =
    c.in-None.ensures.index ∙ position-texts c.args.name.now (keys c.self.inside.names) ∙ ap (position (bytes_eq c.args.name.now)) c.self.view_is
