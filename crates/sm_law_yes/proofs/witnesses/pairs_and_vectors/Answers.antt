use Rattle.sm_law_yes.proofs.PermutedLines.{pairs_and_vectors}
use Rattle.sm_law_yes.proofs.witnesses.pairs_and_vectors.Goals as goal

pub returns : goal.returns
returns c = pairs_and_vectors
