use Rattle.sm_board.proofs.BoardSets.{board_shows_sets}
use Rattle.sm_board.proofs.laws.board_shows_sets.Goals as goal

pub returns : goal.returns
returns c = board_shows_sets
