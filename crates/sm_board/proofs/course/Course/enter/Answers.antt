use Rattle.std.proofs.Common.{◌≡◌, arith, ap, subst, ◌∙◌, slice_index, slice_index_or}
use Rattle.std.proofs.lemmas.List.{get_or_default}
use Rattle.sm_board.specs.Board.{Board}
use Rattle.sm_board.specs.Courses.{Course, IsHeld}
use Rattle.sm_board.proofs.CourseLemmas.{grows_enter}
use Rattle.sm_board.proofs.course.Course.enter.Goals as goal

pub returns-clause-grows : goal.returns-clause-grows
returns-clause-grows c =
    let e : c.index.result.now ≡ slice_index c.args.self.now.first c.args.x =
    c.index.ensures ∙ ap (λ (t : Course). slice_index_or t.first c.args.x c.index.result.now) c.self.view_is ∙ get_or_default c.args.self.now.first c.args.x c.index.result.now 0 (omega (arith, c.requires.number, c.board-board.ensures.course.first_each)) in
    let held : IsHeld c.args.self.now.board c.enter.new.self = subst (λ (b : Board). IsHeld b c.enter.new.self) c.board-board.ensures.board c.enter.ensures.held in
    grows_enter c.args.x c.board-board.ensures.course c.requires.held held c.requires.number c.enter.ensures.member c.enter.ensures.logged (omega (arith, c.if-index-bar.false))
