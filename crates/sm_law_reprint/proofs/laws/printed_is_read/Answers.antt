use Rattle.sm_law_reprint.proofs.ReprintLemmas.{printed_is_read}
use Rattle.sm_law_reprint.proofs.laws.printed_is_read.Goals as goal

pub returns : goal.returns
returns c = printed_is_read
