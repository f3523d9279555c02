use Rattle.std.proofs.Common.{sym, ◌∙◌}
use Rattle.std.proofs.lemmas.Bool.{false≢true}
use Rattle.sm_check_roommates.proofs.CoupleLemmas.{end_holds, end_fails}
use Rattle.sm_check_roommates.proofs.couples.end_fault.Goals as goal

pub returns-then-branch : goal.returns-then-branch
returns-then-branch c = λ persons pairs is k. end_holds k persons is (c.in_ok-is_room_stable.ensures.0 c.if-branch.true)

pub returns : goal.returns
returns c = λ persons pairs is k. end_fails k persons is (λ s. false≢true (sym c.if-branch.false ∙ c.in_ok-is_room_stable.ensures.1 s))
