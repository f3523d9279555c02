use Rattle.sm_answer.proofs.AnswerLemmas.{rest_in_front, rest_behind, gave_in_front, given_behind}
use Rattle.sm_answer.proofs.answer.ThenAnswer.next.Goals as goal

pub next-requires : goal.next-requires
next-requires g c = rest_in_front _ _ c.requires

pub next-requires-in-None : goal.next-requires-in-None
next-requires-in-None g c = rest_behind _ _ c.requires

pub returns-in-Some : goal.returns-in-Some
returns-in-Some g c =
    let gave = rw c.in-Some.is at c.in_ok-line.ensures in
    gave_in_front _ _ _ (g.B.Answer.gives c.args.self.now.second) _ _ (g.B.Answer.most c.args.self.now.second) c.requires gave

pub returns-in-None : goal.returns-in-None
returns-in-None g c =
    let over = rw c.in-None.is at c.in_ok-line.ensures in
    given_behind _ _ (g.B.Answer.gives c.args.self.now.second) (g.B.Answer.gives c.next-in-None.new.self) _ _ _ _ c.next-in-None.result over c.next-in-None.ensures
