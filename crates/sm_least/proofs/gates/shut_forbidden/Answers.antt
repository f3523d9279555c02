use Rattle.std.proofs.Common.{◌≡◌, ℕ, ◌<◌, [], arith, ap, sym, subst, ◌∙◌, Bool, Vec, length, slice_index_or}
use Rattle.std.specs.declared.alloc.Global.{Global}
use Rattle.std.proofs.lemmas.List.{length-map}
use Rattle.sm_market.specs.Lists.{row}
use Rattle.sm_market.specs.Vectors.{rows_of}
use Rattle.sm_least.specs.Steps.{rows_in, NeverFall}
use Rattle.sm_lists.proofs.RowLemmas.{vector_read}
use Rattle.sm_least.proofs.GateLemmas.{rows_in-set, avoided_more}
use Rattle.sm_least.proofs.gates.shut_forbidden.Goals as goal

pub loop-p-init : goal.loop-p-init
loop-p-init c = record { rows = c.requires.rows; opens = λ p a less few. ((λ x. (x, λ d k. absurd (omega arith))), (λ x. x.0)) }

pub shut_if-requires : goal.shut_if-requires
shut_if-requires c =
    let p : ℕ = (slice_index_or c.args.forbidden.now c.loop-p.p-index (0, 0)).0 in
    let in_it : p < length c.args.levels.now = c.requires.in_range c.loop-p.p-index c.loop-p-test.true in
    let many = length-map c.args.levels.now (λ (v : Vec ℕ Global). v.items) in
    let shut_many = length-map c.loop-p.shut (λ (v : Vec Bool Global). v.items) in
    let levels : c.deref.result.now ≡ row (rows_of c.args.levels.now) p = c.deref.ensures.value ∙ ap (λ (v : Vec ℕ Global). v.items) c.index-levels-p.is ∙ vector_read c.args.levels.now p c.index-levels-p.result in_it in
    let shut : c.deref_mut.result.now ≡ slice_index_or (rows_in c.loop-p.shut) p [] = c.deref_mut.ensures.value ∙ vector_read c.loop-p.shut p c.index-shut-p.result (omega (arith, c.loop-p.invariant.rows.one_each)) in
    record {
      one_each = ap length shut ∙ c.loop-p.invariant.rows.row_each p (omega arith) ∙ sym (ap length levels);
      rising = subst NeverFall (sym levels) (c.requires.rising p in_it);
    }

pub loop-p-preserved : goal.loop-p-preserved
loop-p-preserved c =
    let p : ℕ = (slice_index_or c.args.forbidden.now c.loop-p.p-index (0, 0)).0 in
    let in_it : p < length c.args.levels.now = c.requires.in_range c.loop-p.p-index c.loop-p-test.true in
    let many = length-map c.args.levels.now (λ (v : Vec ℕ Global). v.items) in
    let shut_many = length-map c.loop-p.shut (λ (v : Vec Bool Global). v.items) in
    let levels : c.deref.result.now ≡ row (rows_of c.args.levels.now) p = c.deref.ensures.value ∙ ap (λ (v : Vec ℕ Global). v.items) c.index-levels-p.is ∙ vector_read c.args.levels.now p c.index-levels-p.result in_it in
    let shut : c.deref_mut.result.now ≡ slice_index_or (rows_in c.loop-p.shut) p [] = c.deref_mut.ensures.value ∙ vector_read c.loop-p.shut p c.index-shut-p.result (omega (arith, c.loop-p.invariant.rows.one_each)) in
    let one = rw (levels, shut) at c.shut_if.ensures.shut in
    let long : length c.shut_if.new.shut ≡ length (row (rows_of c.args.levels.now) p) = c.shut_if.ensures.one_each ∙ ap length shut ∙ c.loop-p.invariant.rows.row_each p (omega arith) in
    rw (rows_in-set c.loop-p.shut p c.index-shut-p.result c.shut_if.new.shut (c.shut_if.ensures.one_each ∙ c.deref_mut.ensures.len))
    (avoided_more c.loop-p.p-index c.shut_if.new.shut (omega arith) long one c.loop-p.invariant)
