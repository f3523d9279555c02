use Rattle.std.proofs.Common.{sym, subst, List}
use Rattle.sm_lists.proofs.ResultLemmas.{IfOk-more}
use Rattle.sm_weight.specs.declared.edges.Edge.{Edge}
use Rattle.sm_weight.specs.Edges.{AreMerged, AreEdgesInOrder}
use Rattle.sm_weight.proofs.EdgeLemmas.{in_order, merged_of}
use Rattle.sm_weight.proofs.edges.merged.Goals as goal

pub each_once-requires : goal.each_once-requires
each_once-requires c = subst AreEdgesInOrder (sym c.deref.ensures.value) (in_order c.sort_unstable.new.self.items c.sort_unstable.ensures.sorted)

pub returns : goal.returns
returns c = IfOk-more c.each_once.result _ _ (λ once w. merged_of c.sort_unstable.ensures.permutation (subst (λ (xs : List Edge). AreMerged xs once.items) c.deref.ensures.value w)) c.each_once.ensures
