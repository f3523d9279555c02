use Rattle.std.proofs.Common.{◌+◌, length, ◌∙◌, arith}
use Rattle.std.proofs.lemmas.List.FromFn.{fill_by_all}
use Rattle.sm_instance.specs.Matching.{standing}
use Rattle.sm_instance.proofs.instance.Instance.rank_vector.Goals as goal

pub returns : goal.returns
returns c =
    let count = c.proposer_count-p-end.ensures.count in
    fill_by_all (λ p. standing c.args.self.now c.args.a.now.places.items p + 1) c.loop-p.into (length c.args.self.now.proposers) 0 (c.loop-p.auto.into ∙ c.requires.one_each) (λ k l. c.loop-p.invariant k (omega arith))
