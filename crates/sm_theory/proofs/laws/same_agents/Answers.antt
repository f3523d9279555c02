use Rattle.sm_market.proofs.LawsProved.{same_agents}
use Rattle.sm_theory.proofs.laws.same_agents.Goals as goal

pub returns : goal.returns
returns c = same_agents
