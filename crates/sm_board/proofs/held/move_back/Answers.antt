use Rattle.std.proofs.Common.{ℕ, ◌-◌, ◌<◌, arith, refl, length, slice_index}
use Rattle.sm_market.specs.Lists.{row}
use Rattle.sm_board.specs.Board.{stay_level}
use Rattle.sm_board.proofs.PairLemmas.{first_at, firsts_many}
use Rattle.sm_board.proofs.HeldLemmas.{mover_in, moved_back_more}
use Rattle.sm_board.proofs.held.move_back.Goals as goal

pub bounds-at-p : goal.bounds-at-p
bounds-at-p c =
    let i : ℕ = c.loop-p.p-index in
    let movers = row c.args.board.now.movers c.args.x in
    let less : i < length movers = omega (arith, c.loop-p-test.true, firsts_many c.pairs-p-items.result.now c.pairs-p-items.ensures) in
    let e = first_at c.pairs-p-items.result.now i c.pairs-p-items.ensures in
    let in_it = mover_in c.requires.board c.args.x i less in
    omega (arith, e, in_it, c.loop-p.invariant.at_each, c.requires.at_each)

pub overflow_sub-at : goal.overflow_sub-at
overflow_sub-at c =
    let i : ℕ = c.loop-p.p-index in
    let movers = row c.args.board.now.movers c.args.x in
    let less : i < length movers = omega (arith, c.loop-p-test.true, firsts_many c.pairs-p-items.result.now c.pairs-p-items.ensures) in
    let e = first_at c.pairs-p-items.result.now i c.pairs-p-items.ensures in
    let in_it = mover_in c.requires.board c.args.x i less in
    let own = c.loop-p.invariant.stays (slice_index movers i) (λ a k. c.requires.board.movers_once c.args.x a i k less) in
    rw e (omega (arith, own.0, (c.requires.some i less).0, (c.requires.some i less).1))

pub set_stay-requires-clause-proposer : goal.set_stay-requires-clause-proposer
set_stay-requires-clause-proposer c =
    let i : ℕ = c.loop-p.p-index in
    let movers = row c.args.board.now.movers c.args.x in
    let less : i < length movers = omega (arith, c.loop-p-test.true, firsts_many c.pairs-p-items.result.now c.pairs-p-items.ensures) in
    let e = first_at c.pairs-p-items.result.now i c.pairs-p-items.ensures in
    let in_it = mover_in c.requires.board c.args.x i less in
    omega (arith, e, in_it)

pub set_stay-requires-clause-stay : goal.set_stay-requires-clause-stay
set_stay-requires-clause-stay c =
    let i : ℕ = c.loop-p.p-index in
    let movers = row c.args.board.now.movers c.args.x in
    let less : i < length movers = omega (arith, c.loop-p-test.true, firsts_many c.pairs-p-items.result.now c.pairs-p-items.ensures) in
    let e = first_at c.pairs-p-items.result.now i c.pairs-p-items.ensures in
    let in_it = mover_in c.requires.board c.args.x i less in
    let own = c.loop-p.invariant.stays (slice_index movers i) (λ a k. c.requires.board.movers_once c.args.x a i k less) in
    rw e (omega (arith, own.0, (c.requires.some i less).0, (c.requires.some i less).1))

pub loop-p-preserved : goal.loop-p-preserved
loop-p-preserved c =
    let i : ℕ = c.loop-p.p-index in
    let movers = row c.args.board.now.movers c.args.x in
    let less : i < length movers = omega (arith, c.loop-p-test.true, firsts_many c.pairs-p-items.result.now c.pairs-p-items.ensures) in
    let e = first_at c.pairs-p-items.result.now i c.pairs-p-items.ensures in
    let in_it = mover_in c.requires.board c.args.x i less in
    rw (c.set_stay.ensures.stay, c.set_stay.ensures.level, e)
    (moved_back_more c.args.x i (stay_level c.args.board.now (slice_index movers i) (slice_index c.loop-p.at (slice_index movers i) - 1)) c.requires.board less (omega (arith, c.requires.at_each)) (omega (arith, c.requires.now_each)) (omega (arith, (c.requires.some i less).0)) c.loop-p.invariant refl)
