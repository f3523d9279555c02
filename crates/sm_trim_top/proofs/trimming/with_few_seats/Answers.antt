use Rattle.std.proofs.Common.{refl, ap}
use Rattle.std.specs.Option.{option_map}
use Rattle.sm_text.specs.declared.refusal.RefusalKind.TheVariants.{TooManySeats}
use Rattle.sm_agents.specs.Written.{agent_at}
use Rattle.sm_trim_top.proofs.trimming.with_few_seats.Goals as goal

pub returns-in-Ok-clause-input : goal.returns-in-Ok-clause-input
returns-in-Ok-clause-input c = (refl, ap (option_map (λ r. (TooManySeats, (agent_at c.args.kept.reviewers r).line))) c.in-Ok.ensures.none)
