use Rattle.sm_law_yes.proofs.PermutedLines.{reordered_is_permuted}
use Rattle.sm_law_yes.proofs.laws.reordered_is_permuted.Goals as goal

pub returns : goal.returns
returns c = reordered_is_permuted
