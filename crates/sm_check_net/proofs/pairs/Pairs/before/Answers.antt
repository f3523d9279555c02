use Rattle.std.proofs.Common.{rules, subst, sym, ◌∙◌}
use Rattle.std.proofs.lemmas.List.Sorted.{IsPartitionPoint-from_clause}
use Rattle.sm_check_net.specs.Pairs.{AreOrdered, IsParted}
use Rattle.sm_check_net.proofs.PairLemmas.{comes_before, parted_before, parted_of}
use Rattle.sm_check_net.proofs.pairs.Pairs.before.Goals as goal

pub returns-clause-parted : goal.returns-clause-parted
returns-clause-parted c =
    let i = c.args.from in
    let j = c.args.to in
    let pairs = c.deref.result.now in
    let ordered : AreOrdered pairs = subst (λ xs. AreOrdered xs) (sym c.deref.ensures.value) c.self.invariant in
    subst (λ xs. IsParted xs (i, j) c.partition_point.result) (c.deref.ensures.value ∙ c.self.view_is)
    (parted_of pairs i j _ c.partition_point.ensures.bound
    (IsPartitionPoint-from_clause (comes_before i j) pairs _ c.partition_point.ensures.partitioned (parted_before pairs i j ordered) (λ a r q k. search rules)))
