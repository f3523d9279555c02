use Rattle.sm_board.proofs.WalkBridge.{walk_is_next}
use Rattle.sm_board.proofs.laws.walk_is_next.Goals as goal

pub returns : goal.returns
returns c = walk_is_next
