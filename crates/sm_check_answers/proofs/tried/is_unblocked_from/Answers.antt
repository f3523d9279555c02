use Rattle.std.proofs.Common.{arith, refl}
use Rattle.std.proofs.lemmas.Bool.{false≢true}
use Rattle.sm_agents.specs.Written.{entry}
use Rattle.sm_instance.proofs.PlaceLemmas.{place_of-le-at}
use Rattle.sm_check_answers.proofs.TriedLemmas.{unblocked_to, not_unblocked}
use Rattle.sm_check_answers.proofs.tried.is_unblocked_from.Goals as goal

pub blocks_back-requires-clause-gains : goal.blocks_back-requires-clause-gains
blocks_back-requires-clause-gains c =
    let q = entry c.args.instance.now.reviewers c.args.r c.loop-place.place in
    let to = c.min-to.ensures in
    c.requires.limit.gains q (omega (arith, to, c.loop-place-test.true, place_of-le-at c.args.instance.now.reviewers c.args.r q c.loop-place.place refl))

pub returns-then-blocks_back : goal.returns-then-blocks_back
returns-then-blocks_back c =
    let to = c.min-to.ensures in (
      λ t. absurd (false≢true t),
      λ none. absurd (not_unblocked c.requires.instance c.args.r c.args.from c.loop-place.place c.loop-place.auto.place
          (omega (arith, to, c.loop-place-test.true, c.reviewer_len.ensures.length)) (c.if-blocks_back.ensures.0 refl) none),
    )

pub returns : goal.returns
returns c =
    let to = c.min-to.ensures in (
      λ t. unblocked_to c.args.r c.args.from c.args.limit c.min-to.result c.requires.limit (omega (arith, to, c.reviewer_len.ensures.length))
          (λ k le lt. c.loop-place.invariant k le (omega (arith, lt, c.loop-place-test.false))),
      λ none. refl,
    )
