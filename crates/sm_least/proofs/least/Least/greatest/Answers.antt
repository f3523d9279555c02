use Rattle.std.proofs.Common.{◌≡◌, sym, subst, ◌∙◌}
use Rattle.sm_market.specs.Vectors.{rows_of}
use Rattle.sm_theory.specs.ClosedSets.{matching_of}
use Rattle.sm_theory.specs.Weights.{regret_of}
use Rattle.sm_least.specs.Searches.{Search}
use Rattle.sm_least.specs.StayRanks.{AreStayRanks}
use Rattle.sm_least.proofs.SearchLemmas.{board_made, closed_for}
use Rattle.sm_least.proofs.BelowLemmas.{ranked_for, greatest_of-regret_of, at_stays}
use Rattle.sm_least.proofs.least.Least.greatest.Goals as goal

pub greatest_rank-requires-clause-ranked : goal.greatest_rank-requires-clause-ranked
greatest_rank-requires-clause-ranked c =
    let ranks = (subst (λ (s : Search). AreStayRanks s.poset.lists s.levels s.course.board c.args.ranks.now) (sym c.self.view_is) c.requires).places in
    rw (c.board.ensures.board, c.deref.ensures.value) (ranked_for c.self.invariant.board ranks)

pub greatest_rank-requires-clause-now : goal.greatest_rank-requires-clause-now
greatest_rank-requires-clause-now c =
    rw (c.board.ensures.board, c.levels.ensures) (at_stays c.self.invariant.held (board_made c.self.invariant.board))

pub returns : goal.returns
returns c =
    let ranks = (subst (λ (s : Search). AreStayRanks s.poset.lists s.levels s.course.board c.args.ranks.now) (sym c.self.view_is) c.requires).places in
    let is = rw (c.board.ensures.board, c.deref.ensures.value, c.levels.ensures) at c.greatest_rank.ensures in
    subst (λ (s : Search). c.greatest_rank.result ≡ regret_of s.poset.lists (rows_of c.args.ranks.now.places.now) (matching_of s.poset.lists s.poset.first.places s.poset.rotations s.held.set)) c.self.view_is
    (is ∙ greatest_of-regret_of c.self.inside.parts.held.set c.self.inside.parts.held.levels c.self.invariant.board ranks (closed_for c.self.inside.parts.held.set c.self.invariant.board c.self.invariant.closed) c.self.invariant.held.now_is)
