use Rattle.std.proofs.Common.{◌≡◌, ℕ, arith, ap, sym, ◌∙◌, List, length, slice_index}
use Rattle.std.proofs.lemmas.List.{length-map}
use Rattle.sm_poset.specs.Moves.{rotation_of}
use Rattle.sm_board.specs.Board.{leave, members_in}
use Rattle.sm_board.proofs.BoardLemmas.{stays_in}
use Rattle.sm_board.proofs.PairLemmas.{first_of_pairs}
use Rattle.sm_least.proofs.least.write_levels.Goals as goal

pub count_members-stay-requires : goal.count_members-stay-requires
count_members-stay-requires c = λ a less.
    let moves = c.moves.result.now in
    let e : rotation_of moves a ≡ leave c.args.board.now c.loop-p.p a = sym (first_of_pairs moves a) ∙ ap (λ (xs : List ℕ). slice_index xs a) c.moves.ensures in
    let long = length-map moves (λ m. m.0) in
    omega (arith, e, c.requires.board.in_range c.loop-p.p a (omega (arith, less, long, ap length c.moves.ensures)), c.requires.one_each)

pub level-requires-clause-stay : goal.level-requires-clause-stay
level-requires-clause-stay c =
    omega (arith, c.count_members-stay.ensures, ap (members_in c.args.members.now) c.moves.ensures, stays_in c.requires.board c.args.members.now c.loop-p.p (omega (arith, c.loop-p-test.true, c.loop-p.invariant.level_each, c.requires.level_each)))
