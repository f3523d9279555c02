use Rattle.std.proofs.Common.{rules, ◌≡◌, ℕ, ◌-◌, ◌∙◌, arith, ap, Vec, length, slice_index, replicate}
use Rattle.std.specs.declared.alloc.Global.{Global}
use Rattle.std.proofs.lemmas.List.{length-map, get_or-replicate}
use Rattle.sm_market.specs.Lists.{row}
use Rattle.sm_board.specs.Board.{stay_level}
use Rattle.sm_board.proofs.BoardLemmas.{never_falls}
use Rattle.sm_least.proofs.gates.fill_unbounded.Goals as goal

pub returns-clause-open : goal.returns-clause-open
returns-clause-open c =
    let b = c.args.board.now in
    let board = c.requires.board in
    let lowest : c.fill.new.self ≡ replicate (length c.args.low.now) 0 = c.fill.ensures.after (search rules) in
    let top = rw c.all_levels.ensures at c.write_highest.ensures.highest in
    let many = length-map c.all_levels.result.now (λ (v : Vec ℕ Global). v.items) in
    let all = ap length c.all_levels.ensures in
    record {
      low = c.fill.new.self;
      high = c.write_highest.new.high;
      wide = λ p a less few.
          let low : slice_index c.fill.new.self p ≡ 0 = ap (λ xs. slice_index xs p) lowest ∙ get_or-replicate (length c.args.low.now) p 0 0 (omega (arith, c.requires.low_each)) in
          let high : slice_index c.write_highest.new.high p ≡ stay_level b p (length (row b.levels p) - 1) = top p (omega (arith, board.levels_each)) in
          (omega arith, omega (arith, never_falls board p a (length (row b.levels p) - 1) (omega arith) (omega arith)));
      gates = c.fill-2.ensures.open;
    }
