use Rattle.std.proofs.Common.{◌≡◌, ℕ, ◌≤◌, [], arith, ap, sym, ◌∙◌, Bool, Vec, length, slice_index, slice_index_or}
use Rattle.std.specs.declared.alloc.Global.{Global}
use Rattle.std.proofs.lemmas.List.{length-map}
use Rattle.sm_market.specs.Lists.{row}
use Rattle.sm_market.specs.Vectors.{rows_of}
use Rattle.sm_least.specs.Steps.{AreShut, rows_in}
use Rattle.sm_lists.proofs.RowLemmas.{vector_read}
use Rattle.sm_least.proofs.GateLemmas.{rows_in-set, rows_written, rows_before}
use Rattle.sm_least.proofs.gates.shut_rows.Goals as goal

pub shut_row-requires : goal.shut_row-requires
shut_row-requires c =
    let levels : c.deref.result.now ≡ row (rows_of c.args.levels.now) c.loop-p.p = c.deref.ensures.value ∙ ap (λ (v : Vec ℕ Global). v.items) c.index-levels-p.is ∙ vector_read c.args.levels.now c.loop-p.p c.index-levels-p.result c.loop-p-test.true in
    let shut : c.deref_mut.result.now ≡ slice_index_or (rows_in c.loop-p.shut) c.loop-p.p [] = c.deref_mut.ensures.value ∙ vector_read c.loop-p.shut c.loop-p.p c.index-shut-p.result (omega (arith, c.loop-p-test.true, c.loop-p.invariant.rows.one_each, length-map c.loop-p.shut (λ (v : Vec Bool Global). v.items), length-map c.args.levels.now (λ (v : Vec ℕ Global). v.items))) in
    ap length shut ∙ c.loop-p.invariant.rows.row_each c.loop-p.p (omega (arith, c.loop-p-test.true, length-map c.args.levels.now (λ (v : Vec ℕ Global). v.items))) ∙ sym (ap length levels)

pub loop-p-preserved : goal.loop-p-preserved
loop-p-preserved c =
    let many = length-map c.args.levels.now (λ (v : Vec ℕ Global). v.items) in
    let shut_many = length-map c.loop-p.shut (λ (v : Vec Bool Global). v.items) in
    let levels : c.deref.result.now ≡ row (rows_of c.args.levels.now) c.loop-p.p = c.deref.ensures.value ∙ ap (λ (v : Vec ℕ Global). v.items) c.index-levels-p.is ∙ vector_read c.args.levels.now c.loop-p.p c.index-levels-p.result c.loop-p-test.true in
    let shut : c.deref_mut.result.now ≡ slice_index_or (rows_in c.loop-p.shut) c.loop-p.p [] = c.deref_mut.ensures.value ∙ vector_read c.loop-p.shut c.loop-p.p c.index-shut-p.result (omega (arith, c.loop-p-test.true, c.loop-p.invariant.rows.one_each)) in
    let one = rw levels at c.shut_row.ensures in
    let new = rows_in-set c.loop-p.shut c.loop-p.p c.index-shut-p.result c.shut_row.new.shut (c.shut_row.ensures.one_each ∙ ap length levels ∙ sym (c.loop-p.invariant.rows.row_each c.loop-p.p (omega (arith, c.loop-p-test.true))) ∙ sym (ap length shut) ∙ c.deref_mut.ensures.len) in
    rw new (record {
      rows = rows_written c.loop-p.p c.shut_row.new.shut (omega (arith, c.loop-p-test.true)) one.one_each c.loop-p.invariant.rows;
      shut = rows_before (rows_in c.loop-p.shut) (λ q r. AreShut (row (rows_of c.args.levels.now) q) (λ v. (slice_index c.args.low.now q ≤ v) × (v ≤ slice_index c.args.high.now q)) r) c.loop-p.p c.shut_row.new.shut (omega (arith, c.loop-p-test.true, c.loop-p.invariant.rows.one_each)) one c.loop-p.invariant.shut;
    })
