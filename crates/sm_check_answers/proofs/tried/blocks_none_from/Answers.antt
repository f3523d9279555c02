use Rattle.std.proofs.Common.{arith, refl}
use Rattle.std.proofs.lemmas.Bool.{false≢true}
use Rattle.sm_check_answers.proofs.TriedLemmas.{none_to, not_none}
use Rattle.sm_instance.proofs.BlockLemmas.{standing-le}
use Rattle.sm_check_answers.proofs.tried.blocks_none_from.Goals as goal

pub returns-then-blocks_at : goal.returns-then-blocks_at
returns-then-blocks_at c = (
  λ t. absurd (false≢true t),
  λ none. absurd (not_none c.standing-place-end.ensures.instance c.args.p c.args.from c.loop-place.place c.loop-place.auto.place
      (omega (arith, c.loop-place-test.true, c.standing-place-end.ensures.standing, standing-le c.requires.assignment c.args.p)) (c.if-blocks_at.ensures.0 refl) none),
)

pub returns : goal.returns
returns c = (
  λ t. none_to c.args.p c.args.from c.standing-place-end.result c.standing-place-end.ensures.standing
      (λ k le lt. c.loop-place.invariant k le (omega (arith, lt, c.loop-place-test.false))),
  λ none. refl,
)
