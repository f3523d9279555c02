use Rattle.std.proofs.Common.{sym, ap, ◌∙◌}
use Rattle.sm_seats.specs.Levels.{has_two_levels}
use Rattle.sm_agents.proofs.NonzeroLemmas.{any_is}
use Rattle.sm_seats.proofs.two_levels.has_two_levels.Goals as goal

pub returns-in-Given : goal.returns-in-Given
returns-in-Given c = any_is c.args.instance.now.seconds c.has_seconds.result c.has_seconds.ensures ∙ ap (λ by. has_two_levels by c.args.instance.now) (sym c.in-Given.is)
