use Rattle.std.proofs.Common.{refl, arith, subst, sym, ◌∙◌}
use Rattle.sm_trim.specs.Cutting.{AreNextEnds}
use Rattle.sm_trim.proofs.RoundLemmas.{settled_ends, last_ends}
use Rattle.sm_trim.proofs.rounds.ends_of.Goals as goal

pub returns-then-are_same-2 : goal.returns-then-are_same-2
returns-then-are_same-2 c = settled_ends c.loop-rounds.invariant.ends c.loop-rounds.invariant.few
    (subst (λ x. AreNextEnds c.args.instance.now x c.loop-rounds.ends.reviewers.items c.in_ok-next.next.proposers.items c.in_ok-next.next.reviewers.items) c.as_slice.ensures.value
    (subst (λ x. AreNextEnds c.args.instance.now c.as_slice.result.now x c.in_ok-next.next.proposers.items c.in_ok-next.next.reviewers.items) c.as_slice-in-loop-rounds.ensures.value c.in_ok-next.ensures))
    (sym c.deref.ensures.value ∙ c.if-are_same.ensures.0 refl ∙ c.deref-in-loop-rounds.ensures.value)
    (sym c.deref-then-are_same.ensures.value ∙ c.if-are_same-2.ensures.0 refl ∙ c.deref-then-are_same-2.ensures.value)

pub returns : goal.returns
returns c = last_ends c.loop-rounds.invariant.ends (omega (arith, c.loop-rounds.invariant.few, c.loop-rounds-test.false))
