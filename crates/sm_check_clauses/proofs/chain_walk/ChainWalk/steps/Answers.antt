use Rattle.std.proofs.Common.{refl, sym, ap, subst, ◌∙◌, ◌++◌, ◌∷◌, [], Vec}
use Rattle.std.specs.declared.alloc.Global.{Global}
use Rattle.std.proofs.lemmas.List.{map_push}
use Rattle.sm_check_net.specs.declared.moves.Move.{Move}
use Rattle.sm_check_net.specs.Moves.{moves_in}
use Rattle.sm_check_clauses.specs.Walks.{AreChainMoves}
use Rattle.sm_check_clauses.proofs.WalkLemmas.{room, moves_more, stepped}
use Rattle.sm_check_clauses.proofs.chain_walk.ChainWalk.steps.Goals as goal

pub note-requires-clause-room : goal.note-requires-clause-room
note-requires-clause-room c = room c.requires.is_walk c.args.rotation.now.pairs.items (c.if-not-is_lowest_exposed.ensures.decided.0 refl).exposed

pub returns : goal.returns
returns c = λ first rotations k.
    stepped k c.args.rotation.now.pairs.items _ refl
    (subst (AreChainMoves c.args.market.now (rotations ++ c.args.rotation.now.pairs.items ∷ []))
    (sym (ap moves_in c.in_ok-push.ensures.items ∙ map_push (λ (v : Vec Move Global). v.items) c.args.self.now.moves.items c.in_ok-moves.moves))
    (moves_more k.moves c.args.rotation.now.pairs.items c.in_ok-moves.moves.items c.in_ok-moves.ensures.moves c.in_ok-moves.ensures.on_lists)) (c.if-not-is_lowest_exposed.ensures.decided.0 refl) c.go_on.ensures c.eliminate.ensures.made c.eliminate.ensures.moved (c.eliminate.ensures.stable k.stable)
    c.in_ok-note.ensures.notes c.in_ok-note.ensures.most (c.in_ok-note.ensures.noted first rotations k.noted k.reached) refl
