use Rattle.std.proofs.Common.{sym}
use Rattle.std.proofs.lemmas.List.Sorted.{list_any-IsPermutation}
use Rattle.sm_check_net.proofs.PairLemmas.{ordered_of}
use Rattle.sm_check_net.proofs.pairs.Pairs.of.Goals as goal

pub invariant_of-result : goal.invariant_of-result
invariant_of-result c = ordered_of c.sort_unstable.new.self.items c.sort_unstable.ensures.sorted

pub returns-clause-same : goal.returns-clause-same
returns-clause-same c i j = sym (list_any-IsPermutation _ _ _ c.sort_unstable.ensures.permutation)
