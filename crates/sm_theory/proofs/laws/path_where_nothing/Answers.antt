use Rattle.sm_theory.proofs.Weighing.Lightest.{path_where_nothing}
use Rattle.sm_theory.proofs.laws.path_where_nothing.Goals as goal

pub returns : goal.returns
returns c = path_where_nothing
