use Rattle.sm_theory.proofs.Weighing.Regrets.{regret_by_bound}
use Rattle.sm_theory.proofs.laws.regret_by_bound.Goals as goal

pub returns : goal.returns
returns c = regret_by_bound
