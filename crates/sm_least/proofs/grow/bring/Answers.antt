use Rattle.std.proofs.Common.{sym, subst, Bool, List}
use Rattle.sm_board.specs.Board.{IsInside}
use Rattle.sm_least.specs.Steps.{HasRotation}
use Rattle.sm_board.proofs.GrowLemmas.{inside_more}
use Rattle.sm_least.proofs.StepLemmas.{grows_more, broken_back}
use Rattle.sm_least.proofs.grow.bring.Goals as goal

entered_inside : (c : goal.After-close) → (D : List Bool) → HasRotation c.args.course.now.board c.args.x D → IsInside c.args.held.now.set D → IsInside c.enter.new.held.set D
entered_inside c D d inside = subst (λ (s : List Bool). IsInside s D) (sym (c.enter.ensures.entered c.if-enter.true)) (inside_more c.args.held.now.set D c.args.x inside d.has)

pub returns-then-enter-clause-grows : goal.returns-then-enter-clause-grows
returns-then-enter-clause-grows c = grows_more c.enter.ensures.grows c.close.ensures.grows

pub returns-then-enter-clause-in_all : goal.returns-then-enter-clause-in_all
returns-then-enter-clause-in_all c = λ D d inside. c.close.ensures.in_all D d.closed (entered_inside c D d inside)

pub returns-then-enter-clause-barred : goal.returns-then-enter-clause-barred
returns-then-enter-clause-barred c = λ e D d inside. broken_back c.enter.ensures.grows.more (c.close.ensures.barred e D d.closed (entered_inside c D d inside))
