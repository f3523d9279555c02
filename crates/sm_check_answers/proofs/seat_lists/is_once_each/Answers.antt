use Rattle.std.proofs.Common.{arith, refl}
use Rattle.std.proofs.lemmas.Bool.{false≢true}
use Rattle.sm_check_answers.proofs.SeatListLemmas.{one_each_of, not_once}
use Rattle.sm_check_answers.proofs.seat_lists.is_once_each.Goals as goal

pub returns-then-times-k-ne1 : goal.returns-then-times-k-ne1
returns-then-times-k-ne1 c = λ owners k. ((λ e. absurd (false≢true e)), (λ all. absurd (not_once k c.loop-k.k c.loop-k-test.true (λ e. c.if-times-k-ne1.true e) all)))

pub returns : goal.returns
returns c = λ owners k. ((λ _. one_each_of k (λ a less. c.loop-k.invariant a (omega arith))), (λ _. refl))
