use Rattle.sm_law_reprint.proofs.JsonLemmas.{json_is_read}
use Rattle.sm_law_reprint.proofs.laws.json_is_read.Goals as goal

pub returns : goal.returns
returns c = json_is_read
