use Rattle.std.proofs.Common.{length, IsTrue, refl, ap, arith}
use Rattle.sm_instance.specs.Matching.{is_at}
use Rattle.sm_agents.proofs.ItemLemmas.{forbidden_in_range, all_pairs}
use Rattle.sm_instance.proofs.instance.Instance.holds_no_forbidden.Goals as goal

pub is_at-requires-clause-in_range : goal.is_at-requires-clause-in_range
is_at-requires-clause-in_range c =
    let long = ap length c.forbidden-forbidden.ensures.pairs in
    rw c.forbidden-forbidden.ensures.pairs (forbidden_in_range c.forbidden-forbidden.ensures.instance c.loop-n.n (omega arith)).proposer

pub returns : goal.returns
returns c =
    let long = ap length c.forbidden-forbidden.ensures.pairs in
    (λ _. all_pairs (λ pair. ¬ IsTrue (is_at c.args.self.now c.args.a.now.places.items pair.0 pair.1)) c.args.self.now.forbidden c.loop-n.n (omega arith) (rw c.forbidden-forbidden.ensures.pairs at c.loop-n.invariant), λ _. refl)
