use Rattle.std.proofs.Common.{◌∙◌, ap, subst}
use Rattle.sm_board.specs.Walks.{vector}
use Rattle.sm_lister.specs.Listers.{Lister, IsNextOf, IsAtEnd, IsChangedFrom}
use Rattle.sm_lister.proofs.NextLemmas.{next_found, none_found, cursor_is, vector_at}
use Rattle.sm_lister.specs.Walking.{cursor_of}
use Rattle.sm_lister.proofs.lister.Lister.advance.Goals as goal

pub returns-clause-next : goal.returns-clause-next
returns-clause-next c = λ yes.
    let r = c.advance-self-inside.ensures.reached yes in
    let v = vector c.self.inside.parts.course.board c.advance-self-inside.new.held.set in
    (v, cursor_is c.advance-self-inside.new.walk (c.advance-self-inside.ensures.given yes) r.vector_is, subst (λ (s : Lister). IsNextOf s v) c.self.view_is (next_found c.self.invariant.going (cursor_of c.self.inside.walk) c.advance-self-inside.new.held.set r.fits r.first))

pub returns-clause-none : goal.returns-clause-none
returns-clause-none c = λ no. (
  subst (λ (s : Lister). IsAtEnd s) c.self.view_is (none_found c.self.invariant.going (cursor_of c.self.inside.walk) (c.advance-self-inside.ensures.none no)),
  c.advance-self-inside.ensures.same no ∙ ap (λ (s : Lister). s.cursor) c.self.view_is,
)

pub returns-clause-changed : goal.returns-clause-changed
returns-clause-changed c = λ yes v at.
    let walk = c.advance-self-inside.new.walk in
    subst (λ (s : Lister). IsChangedFrom walk.changed_from s.cursor v) c.self.view_is
    (subst (IsChangedFrom walk.changed_from (cursor_of c.self.inside.walk)) (vector_at walk (c.advance-self-inside.ensures.given yes) at) (c.advance-self-inside.ensures.reached yes).changed)
