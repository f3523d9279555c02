use Rattle.std.proofs.Common.{ap, ◌∙◌, is_some}
use Rattle.std.specs.Str.{bytes_eq}
use Rattle.sm_keys.proofs.PositionLemmas.{is_some-position}
use Rattle.sm_keys.proofs.names.Names.knows.Goals as goal

pub returns : goal.returns
returns c = c.is_some.ensures ∙ ap is_some c.find.ensures ∙ is_some-position (bytes_eq c.args.name.now) c.args.self.now.declared
