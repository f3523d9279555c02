use Rattle.sm_theory.proofs.Chains.Lattice.{levels_determine}
use Rattle.sm_theory.proofs.laws.levels_determine.Goals as goal

pub returns : goal.returns
returns c = levels_determine
