use Rattle.std.proofs.Common.{◌≡◌, arith, sym, ap, subst, length}
use Rattle.sm_theory.specs.ClosedSets.{IsClosed, matching_of}
use Rattle.sm_theory.specs.Vectors.{level_vector_of}
use Rattle.sm_least.specs.Searches.{Search}
use Rattle.sm_least.proofs.SearchLemmas.{vector_for, proposers_for}
use Rattle.sm_least.proofs.least.Least.levels_of.Goals as goal

pub returns : goal.returns
returns c =
    let members = c.args.set.now.members.items in
    let closed = subst (λ (s : Search). IsClosed s.poset.lists s.poset.rotations members) (sym c.self.view_is) c.requires.closed in
    let are = rw (c.board.ensures.board, c.deref.ensures.value) at c.write_levels.ensures.levels in
    let many = ap (λ (s : Search). length s.poset.lists.proposers) c.self.view_is in
    subst (λ (s : Search). c.write_levels.new.into ≡ level_vector_of s.poset.lists s.levels (matching_of s.poset.lists s.poset.first.places s.poset.rotations members)) c.self.view_is
    (vector_for members c.write_levels.new.into c.self.invariant.board closed
    (omega (arith, c.write_levels.ensures.level_each, c.requires.level_each, proposers_for c.self.invariant.board, many)) are)
