use Rattle.sm_law_trim.proofs.ReadLemmas.{read_alike}
use Rattle.sm_law_trim.proofs.laws.trimmed_answers.Goals as goal

pub returns : goal.returns
returns c = read_alike
