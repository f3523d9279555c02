use Rattle.sm_board.proofs.BoardSets.{gates_mean_conditions}
use Rattle.sm_board.proofs.laws.gates_mean_conditions.Goals as goal

pub returns : goal.returns
returns c = gates_mean_conditions
