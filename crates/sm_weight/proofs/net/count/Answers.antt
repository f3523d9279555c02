use Rattle.std.proofs.Common.{◌≡◌, ℕ, suc, ◌+◌, arith, ap, ◌∙◌, Vec, length}
use Rattle.std.specs.declared.alloc.Global.{Global}
use Rattle.sm_lists.specs.Sums.{sum_to}
use Rattle.sm_market.specs.Lists.{row}
use Rattle.sm_market.specs.Vectors.{rows_of}
use Rattle.sm_lists.proofs.RowLemmas.{vector_read}
use Rattle.sm_weight.proofs.CountLemmas.{sum_grows}
use Rattle.sm_weight.proofs.net.count.Goals as goal

pub overflow_add-count : goal.overflow_add-count
overflow_add-count c =
    let k : ℕ = c.loop-k.k in
    let list : c.index-lists-k.result.items ≡ row (rows_of c.args.lists.now) k = ap (λ (v : Vec ℕ Global). v.items) c.index-lists-k.is ∙ vector_read c.args.lists.now k c.index-lists-k.result c.loop-k-test.true in
    omega (
      arith,
      c.loop-k.invariant,
      c.len-count.ensures,
      c.index-lists-k.result.ok.0,
      ap length list,
      sum_grows (λ k. length (row (rows_of c.args.lists.now) k)) (suc k) (length c.args.lists.now) c.loop-k-test.true,
      c.requires,
    )

pub loop-k-preserved : goal.loop-k-preserved
loop-k-preserved c =
    let k : ℕ = c.loop-k.k in
    let list : c.index-lists-k.result.items ≡ row (rows_of c.args.lists.now) k = ap (λ (v : Vec ℕ Global). v.items) c.index-lists-k.is ∙ vector_read c.args.lists.now k c.index-lists-k.result c.loop-k-test.true in
    let next : k + 1 ≡ suc k = omega arith in
    omega (
      arith,
      c.loop-k.invariant,
      c.len-count.ensures,
      c.index-lists-k.result.ok.0,
      ap length list,
      ap (sum_to (λ k. length (row (rows_of c.args.lists.now) k))) next,
    )
