use Rattle.sm_law_trim.proofs.ReadLemmas.{trimmed_read}
use Rattle.sm_law_trim.proofs.laws.trimmed_is_read.Goals as goal

pub returns : goal.returns
returns c = trimmed_read
