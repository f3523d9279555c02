use Rattle.std.proofs.Common.{sym, ap, subst, ◌∙◌}
use Rattle.sm_market.specs.Vectors.{rows_of}
use Rattle.sm_theory.specs.Regrets.{AreRanks}
use Rattle.sm_least.specs.Regrets.{ranks_along}
use Rattle.sm_least.specs.Searches.{Search}
use Rattle.sm_least.proofs.BelowLemmas.{ranked_for}
use Rattle.sm_least.proofs.least.Least.stay_ranks.Goals as goal

pub along_stays-requires-clause-ranked : goal.along_stays-requires-clause-ranked
along_stays-requires-clause-ranked c =
    let ranks = subst (λ (s : Search). AreRanks s.poset.lists s.levels (rows_of c.args.ranks.now)) (sym c.self.view_is) c.requires in
    rw (c.board.ensures.board, c.deref.ensures.value) (ranked_for c.self.invariant.board ranks)

pub returns-clause-ranks : goal.returns-clause-ranks
returns-clause-ranks c =
    let stays = rw (c.board.ensures.board, c.deref.ensures.value) at c.in_ok-stays.ensures in
    record {
      places = c.requires;
      stays = stays ∙ ap (λ (s : Search). ranks_along s.course.board s.levels (rows_of c.args.ranks.now)) c.self.view_is;
    }
