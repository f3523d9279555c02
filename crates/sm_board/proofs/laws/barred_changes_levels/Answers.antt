use Rattle.sm_board.proofs.GrowLemmas.{barred_changes_levels}
use Rattle.sm_board.proofs.laws.barred_changes_levels.Goals as goal

pub returns : goal.returns
returns c = barred_changes_levels
