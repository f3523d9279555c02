use Rattle.std.proofs.Common.{◌≡◌, ℕ, ◌∙◌, arith, ap, Vec, length}
use Rattle.std.specs.declared.alloc.Global.{Global}
use Rattle.sm_market.specs.Lists.{row}
use Rattle.sm_market.specs.Vectors.{rows_of}
use Rattle.sm_lists.proofs.RowLemmas.{vector_read}
use Rattle.sm_least.proofs.gates.write_highest.Goals as goal

pub overflow_sub-len : goal.overflow_sub-len
overflow_sub-len c =
    let levels : c.index-levels-p-in-loop-p.result.items ≡ row (rows_of c.args.levels.now) c.loop-p.p = ap (λ (v : Vec ℕ Global). v.items) c.index-levels-p-in-loop-p.is ∙ vector_read c.args.levels.now c.loop-p.p c.index-levels-p-in-loop-p.result c.loop-p-test.true in
    omega (arith, c.len.ensures, ap length levels, c.requires.some c.loop-p.p c.loop-p-test.true)

pub index-requires : goal.index-requires
index-requires c =
    let outer : c.index-levels-p.result.items ≡ row (rows_of c.args.levels.now) c.loop-p.p = ap (λ (v : Vec ℕ Global). v.items) c.index-levels-p.is ∙ vector_read c.args.levels.now c.loop-p.p c.index-levels-p.result c.loop-p-test.true in
    let inner : c.index-levels-p-in-loop-p.result.items ≡ row (rows_of c.args.levels.now) c.loop-p.p = ap (λ (v : Vec ℕ Global). v.items) c.index-levels-p-in-loop-p.is ∙ vector_read c.args.levels.now c.loop-p.p c.index-levels-p-in-loop-p.result c.loop-p-test.true in
    omega (arith, c.len.ensures, ap length outer, ap length inner, c.requires.some c.loop-p.p c.loop-p-test.true)
