use Rattle.std.proofs.Common.{◌≡◌, ℕ, ◌<◌, arith, sym, ap, ◌∙◌, List, length, map}
use Rattle.std.proofs.lemmas.List.{length-map}
use Rattle.sm_market.specs.Lists.{row}
use Rattle.sm_theory.specs.Chains.{rotation_at}
use Rattle.sm_theory.specs.Values.{rotations_of}
use Rattle.sm_rotations.proofs.NeedsLemmas.{pairs_read, as_many}
use Rattle.sm_board.specs.Board.{Board, firsts}
use Rattle.sm_board.proofs.PairLemmas.{mapped_row}
use Rattle.sm_board.proofs.board.Board.pairs.Goals as goal

pub returns : goal.returns
returns c =
    let rotations = c.self.inside.chain.value.rotations.items in
    let movers : map (λ rotation. firsts rotation) (rotations_of rotations) ≡ c.args.self.now.movers = ap (λ (b : Board). b.movers) c.self.view_is in
    let less : c.args.x < length rotations = omega (arith, c.requires, ap length movers, length-map (rotations_of rotations) (λ rotation. firsts rotation), as_many rotations) in
    let own : c.deref.result.now ≡ rotation_at (rotations_of rotations) c.args.x = c.deref.ensures.value ∙ pairs_read rotations c.args.x c.index.result.now less (rw c.as_ref.ensures at c.index.ensures) in
    ap (λ (pairs : List (ℕ × ℕ)). firsts pairs) own ∙ sym (mapped_row (rotations_of rotations) c.args.x) ∙ ap (λ (rows : List (List ℕ)). row rows c.args.x) movers
