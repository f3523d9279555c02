use Rattle.std.proofs.Common.{ℕ, sym, ap, subst, length}
use Rattle.sm_theory.specs.Vectors.{AreInRange}
use Rattle.sm_least.specs.Searches.{Search}
use Rattle.sm_least.proofs.SearchLemmas.{best_unbounded, none_unbounded}
use Rattle.sm_least.proofs.least.Least.best_allowed.Goals as goal

pub returns-clause-found : goal.returns-clause-found
returns-clause-found c = λ yes.
    let in_range = subst (λ (n : ℕ). AreInRange n c.args.conditions.now.forced.items) (ap (λ (s : Search). length s.poset.lists.proposers) (sym c.self.view_is)) c.requires.forced in
    best_unbounded c.set_unbounded.new.self c.find.new.held.set c.self.invariant.board in_range c.board.ensures.board c.set_unbounded.ensures.open (c.find.ensures.least yes)

pub returns-clause-none : goal.returns-clause-none
returns-clause-none c = λ no.
    let in_range = subst (λ (n : ℕ). AreInRange n c.args.conditions.now.forced.items) (ap (λ (s : Search). length s.poset.lists.proposers) (sym c.self.view_is)) c.requires.forced in
    none_unbounded c.set_unbounded.new.self c.self.invariant.board in_range c.board.ensures.board c.set_unbounded.ensures.open (c.find.ensures.none no)
