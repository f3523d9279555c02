use Rattle.std.proofs.Common.{arith, ◌∙◌}
use Rattle.sm_trim.proofs.SweepLemmas.{rivals_none, few_at_end, few_when_full}
use Rattle.sm_trim.proofs.proposers.end_behind.Goals as goal

pub loop-place-init : goal.loop-place-init
loop-place-init c = record {
  may = c.requires.may;
  rivals = rivals_none c.requires.ends c.requires.instance c.args.r;
  behind = λ p a less. absurd (omega (arith, less));
  no_later = λ p. omega arith;
  within = omega arith;
}

pub returns-then-count-capacity-clause-few : goal.returns-then-count-capacity-clause-few
returns-then-count-capacity-clause-few c = few_when_full c.requires.ends c.requires.instance _ c.args.r c.loop-place.place c.loop-place.count c.loop-place.invariant.behind c.loop-place.invariant.rivals
    (c.if-count-capacity.true ∙ c.capacity-capacity.ensures.capacity)

pub returns-clause-few : goal.returns-clause-few
returns-clause-few c = few_at_end c.requires.ends c.requires.instance _ c.args.r (λ p a less. c.loop-place.invariant.behind p a (omega (arith, less, c.loop-place-test.false)))
