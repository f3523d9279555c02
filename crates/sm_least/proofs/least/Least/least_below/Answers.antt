use Rattle.std.proofs.Common.{◌≡◌, ℕ, arith, sym, ap, ◌∙◌, subst, List, length}
use Rattle.sm_market.specs.Vectors.{rows_of}
use Rattle.sm_theory.specs.Vectors.{AreInRange}
use Rattle.sm_board.specs.Board.{Board}
use Rattle.sm_least.specs.Regrets.{ranks_along, AreForStays, AreOpenUpTo}
use Rattle.sm_least.specs.Searches.{Search}
use Rattle.sm_least.specs.StayRanks.{AreStayRanks}
use Rattle.sm_least.proofs.RegretLemmas.{for_stays}
use Rattle.sm_least.proofs.BelowLemmas.{best_below, none_below}
use Rattle.sm_least.proofs.least.Least.least_below.Goals as goal

pub shut_above-requires-clause-few : goal.shut_above-requires-clause-few
shut_above-requires-clause-few c = omega (arith, c.self.invariant.course.few, ap (λ (b : Board). length b.leaves) c.board-board.ensures.board)

pub shut_above-requires-clause-ranks : goal.shut_above-requires-clause-ranks
shut_above-requires-clause-ranks c =
    let given = subst (λ (s : Search). AreStayRanks s.poset.lists s.levels s.course.board c.args.ranks.now) (sym c.self.view_is) c.requires.ranks in
    let levels = rows_of c.self.inside.parts.levels.items in
    let ranks = rows_of c.args.ranks.now.places.now in
    let along : c.args.ranks.now.stays ≡ ranks_along c.board-board.result.now levels ranks = given.stays ∙ ap (λ (b : Board). ranks_along b levels ranks) (sym c.board-board.ensures.board) in
    subst (AreForStays c.board-board.result.now) (sym along) (for_stays c.board-board.result.now levels ranks)

pub returns-clause-found : goal.returns-clause-found
returns-clause-found c = λ yes.
    let in_range = subst (λ (n : ℕ). AreInRange n c.args.conditions.now.forced.items) (ap (λ (s : Search). length s.poset.lists.proposers) (sym c.self.view_is)) c.requires.forced in
    let given = subst (λ (s : Search). AreStayRanks s.poset.lists s.levels s.course.board c.args.ranks.now) (sym c.self.view_is) c.requires.ranks in
    let levels = rows_of c.self.inside.parts.levels.items in
    let ranks = rows_of c.args.ranks.now.places.now in
    let along : c.args.ranks.now.stays ≡ ranks_along c.board-board.result.now levels ranks = given.stays ∙ ap (λ (b : Board). ranks_along b levels ranks) (sym c.board-board.ensures.board) in
    let opened = subst (λ (xs : List (List ℕ)). AreOpenUpTo c.board-board.result.now xs c.args.bound c.set_unbounded.new.self c.shut_above.new.self) along c.shut_above.ensures.open in
    best_below c.set_unbounded.new.self c.shut_above.new.self c.self.invariant.board in_range given.places c.board-board.ensures.board c.set_unbounded.ensures.open opened c.find.new.held.set (c.find.ensures.least yes)

pub returns-clause-none : goal.returns-clause-none
returns-clause-none c = λ no.
    let in_range = subst (λ (n : ℕ). AreInRange n c.args.conditions.now.forced.items) (ap (λ (s : Search). length s.poset.lists.proposers) (sym c.self.view_is)) c.requires.forced in
    let given = subst (λ (s : Search). AreStayRanks s.poset.lists s.levels s.course.board c.args.ranks.now) (sym c.self.view_is) c.requires.ranks in
    let levels = rows_of c.self.inside.parts.levels.items in
    let ranks = rows_of c.args.ranks.now.places.now in
    let along : c.args.ranks.now.stays ≡ ranks_along c.board-board.result.now levels ranks = given.stays ∙ ap (λ (b : Board). ranks_along b levels ranks) (sym c.board-board.ensures.board) in
    let opened = subst (λ (xs : List (List ℕ)). AreOpenUpTo c.board-board.result.now xs c.args.bound c.set_unbounded.new.self c.shut_above.new.self) along c.shut_above.ensures.open in
    none_below c.set_unbounded.new.self c.shut_above.new.self c.self.invariant.board in_range given.places c.board-board.ensures.board c.set_unbounded.ensures.open opened (c.find.ensures.none no)
