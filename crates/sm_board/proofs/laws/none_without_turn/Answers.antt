use Rattle.sm_board.proofs.WalkLemmas.{none_without_turn}
use Rattle.sm_board.proofs.laws.none_without_turn.Goals as goal

pub returns : goal.returns
returns c = none_without_turn
