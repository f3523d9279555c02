use Rattle.sm_board.proofs.WitnessBoard.{two_board_is}
use Rattle.sm_board.proofs.witnesses.two_board.Goals as goal

pub returns : goal.returns
returns c = two_board_is
