use Rattle.std.proofs.Common.{◌≡◌, ℕ, ◌<◌, arith, sym, ap, ◌∙◌, List, Vec, length, map}
use Rattle.std.specs.declared.alloc.Global.{Global}
use Rattle.std.proofs.lemmas.List.{length-map}
use Rattle.sm_market.specs.Lists.{row}
use Rattle.sm_poset.specs.Moves.{moves_in, moves_at}
use Rattle.sm_lists.proofs.RowLemmas.{vector_read}
use Rattle.sm_board.specs.Board.{Board, firsts}
use Rattle.sm_board.proofs.PairLemmas.{mapped_row}
use Rattle.sm_board.proofs.board.Board.moves.Goals as goal

pub returns : goal.returns
returns c =
    let vectors = c.self.inside.digraph.value.moves.items in
    let leaves : map (λ moves. firsts moves) (moves_in vectors) ≡ c.args.self.now.leaves = ap (λ (b : Board). b.leaves) c.self.view_is in
    let less : c.args.p < length vectors = omega (arith, c.requires, ap length leaves, length-map (moves_in vectors) (λ moves. firsts moves), length-map vectors (λ v. v.items)) in
    let own : c.deref.result.now ≡ moves_at (moves_in vectors) c.args.p = c.deref.ensures.value ∙ ap (λ (v : Vec (ℕ × ℕ) Global). v.items) (rw c.as_ref.ensures at c.index.ensures) ∙ vector_read vectors c.args.p c.index.result.now less in
    ap (λ (moves : List (ℕ × ℕ)). firsts moves) own ∙ sym (mapped_row (moves_in vectors) c.args.p) ∙ ap (λ (rows : List (List ℕ)). row rows c.args.p) leaves
