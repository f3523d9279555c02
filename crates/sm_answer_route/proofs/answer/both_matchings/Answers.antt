use Rattle.sm_answer.proofs.AnswerLemmas.{same_some, joined_some, joined_is}
use Rattle.sm_answer.specs.declared.matching_lines.PairWord.TheVariants as word
use Rattle.sm_answer_route.proofs.RouteLemmas.{pairs_given}
use Rattle.sm_answer_route.proofs.answer.both_matchings.Goals as goal

pub returns-clause-all : goal.returns-clause-all
returns-clause-all c = joined_is _ _ _ _ (pairs_given word.Left c.args.instance.now c.args.given.now.left.places.items) (pairs_given word.Right c.args.instance.now c.args.given.now.right.places.items)

pub returns-clause-some : goal.returns-clause-some
returns-clause-some c = joined_some _ _ (same_some _) (same_some _)
