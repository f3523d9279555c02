use Rattle.sm_board.proofs.BoardBridge.{board_is_board}
use Rattle.sm_board.proofs.laws.board_is_board.Goals as goal

pub returns : goal.returns
returns c = board_is_board
