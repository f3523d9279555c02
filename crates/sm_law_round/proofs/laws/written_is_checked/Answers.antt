use Rattle.sm_law_round.proofs.RoundLemmas.{written_is_checked}
use Rattle.sm_law_round.proofs.laws.written_is_checked.Goals as goal

pub returns : goal.returns
returns c = written_is_checked
