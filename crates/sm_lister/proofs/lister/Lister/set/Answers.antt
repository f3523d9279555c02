use Rattle.std.proofs.Common.{◌≡◌, ◌∙◌, true, Some, ap, sym, subst}
use Rattle.sm_theory.specs.ClosedSets.{IsClosed}
use Rattle.sm_lister.specs.Listers.{Lister, vector_of}
use Rattle.sm_lister.proofs.NextLemmas.{fits_closed, vector_shown}
use Rattle.sm_lister.proofs.lister.Lister.set.Goals as goal

here : (c : goal.After-set) → c.self.inside.here ≡ true
here c = ap (λ (s : Lister). s.here) c.self.view_is ∙ c.requires

pub returns-clause-closed : goal.returns-clause-closed
returns-clause-closed c =
    let closed = fits_closed c.self.invariant.going c.self.inside.parts.held.set (c.self.invariant.fits (here c)) in
    subst (λ (s : Lister). IsClosed s.poset.lists s.poset.rotations c.set.result.now.members.items) c.self.view_is
    (subst (IsClosed _ _) (sym c.set.ensures) closed)

pub returns-clause-vector : goal.returns-clause-vector
returns-clause-vector c =
    let shown = vector_shown c.self.invariant.going c.self.inside.parts.held.set (c.self.invariant.fits (here c)) in
    subst (λ C. c.args.self.now.cursor ≡ Some (vector_of c.args.self.now C)) (sym c.set.ensures)
    (subst (λ (s : Lister). s.cursor ≡ Some (vector_of s c.self.inside.parts.held.set)) c.self.view_is (c.self.invariant.reached (here c) ∙ ap Some shown))
