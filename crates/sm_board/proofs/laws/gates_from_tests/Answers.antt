use Rattle.sm_board.proofs.BoardSets.{gates_from_tests}
use Rattle.sm_board.proofs.laws.gates_from_tests.Goals as goal

pub returns : goal.returns
returns c = gates_from_tests
