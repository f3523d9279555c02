use Rattle.std.proofs.Common.{ℕ, ap, refl, List, map}
use Rattle.sm_market.specs.Vectors.{rows_of}
use Rattle.sm_poset.specs.Moves.{moves_in}
use Rattle.sm_board.specs.Board.{firsts}
use Rattle.sm_board.proofs.MakeLemmas.{board_for}
use Rattle.sm_board.proofs.make.make_board.Goals as goal

pub returns : goal.returns
returns c =
    let shared = c.in_ok-chain.ensures in
    board_for (rows_of c.in_ok-chain.digraph.value.needs.items) (moves_in c.in_ok-chain.digraph.value.moves.items) _ _ _ _ c.chain-chain.ensures.poset c.requires
    shared.needs.one_each
    shared.needs.each
    shared.moves
    (ap (λ (rs : List (List (ℕ × ℕ))). map (λ rotation. firsts rotation) rs) shared.rotations)
    refl
    (rw (c.deref.ensures.value, c.as_ref.ensures) at c.in_ok-stay_levels.ensures)
    c.in_ok-matched.ensures
