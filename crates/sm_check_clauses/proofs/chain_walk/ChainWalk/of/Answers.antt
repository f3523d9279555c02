use Rattle.std.proofs.Common.{refl, sym, ap, subst, ◌∙◌, List, [], Vec}
use Rattle.std.specs.declared.alloc.Global.{Global}
use Rattle.sm_market.specs.Pairing.{Paired, IsPairingOf}
use Rattle.sm_check_net.specs.declared.moves.Move.{Move}
use Rattle.sm_check_net.specs.Moves.{moves_in}
use Rattle.sm_check_clauses.specs.Walks.{AreChainMoves}
use Rattle.sm_check_clauses.proofs.WalkLemmas.{no_moves}
use Rattle.sm_check_clauses.proofs.chain_walk.ChainWalk.of.Goals as goal

pub returns-clause-walk : goal.returns-clause-walk
returns-clause-walk c = record {
  market = c.entry_count.ensures.market;
  best = c.requires.best;
  first_made = subst (IsPairingOf c.args.market.now) (sym c.in_ok-kept.ensures) c.requires.made;
  first_is = ap (λ (m : Paired). m.places) c.in_ok-kept.ensures;
  moves = subst (λ (items : List (Vec Move Global)). AreChainMoves c.args.market.now [] (moves_in items)) (sym c.new-moves.ensures.items) (no_moves c.args.market.now);
  made = c.requires.made;
  reached = refl;
  stable = c.requires.best.stable;
  search = c.in_ok-search.ensures c.args.first.places;
  notes = c.in_ok-notes.ensures.notes;
  most = c.in_ok-notes.ensures.most ∙ c.entry_count.ensures.count;
  noted = c.in_ok-notes.ensures.none c.args.first.places c.requires.best.stable.matching;
}
