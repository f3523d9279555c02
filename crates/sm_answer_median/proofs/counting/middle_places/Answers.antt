use Rattle.std.proofs.Common.{◌≡◌, ℕ, ◌<◌, ◌++◌, ◌∷◌, [], ◌∙◌, Option, None, Vec, length, take, refl, sym, ap, subst, arith}
use Rattle.std.specs.declared.alloc.Global.{Global}
use Rattle.std.proofs.lemmas.List.{take_all, take_more, length-map}
use Rattle.sm_lists.specs.Rows.{row, rows_of}
use Rattle.sm_lists.proofs.RowLemmas.{row_read}
use Rattle.sm_answer_median.specs.MedianAnswer.{IsMedianOfAllowed}
use Rattle.sm_answer_median.proofs.MedianLemmas.{listed_few, middle_counted, middle_held}
use Rattle.sm_answer_median.proofs.counting.middle_places.Goals as goal

pub overflow_add-middle : goal.overflow_add-middle
overflow_add-middle c = omega (arith, listed_few c.requires)

pub bounds-counts-p : goal.bounds-counts-p
bounds-counts-p c = omega (arith, c.loop-p-test.true, c.proposer_count-p-end.ensures.count, c.requires.counts.one_each, length-map c.args.counts.now (λ (v : Vec ℕ Global). v.items))

pub counted_place-requires-clause-counted : goal.counted_place-requires-clause-counted
counted_place-requires-clause-counted c =
    let p : ℕ = c.loop-p.p in
    let inside : p < length c.args.instance.now.proposers = omega (arith, c.loop-p-test.true, c.proposer_count-p-end.ensures.count) in
    let long = length-map c.args.counts.now (λ (v : Vec ℕ Global). v.items) in
    let read : c.deref.result.now ≡ row (rows_of c.args.counts.now) p = row_read c.args.counts.now p c.index-counts-p.result c.deref.result.now (omega (arith, inside, long, c.requires.counts.one_each)) c.index-counts-p.is c.deref.ensures.value in
    middle_counted p _ c.deref.result.now c.requires inside refl read

pub loop-p-preserved : goal.loop-p-preserved
loop-p-preserved c = λ m.
    let p : ℕ = c.loop-p.p in
    let inside : p < length c.args.instance.now.proposers = omega (arith, c.loop-p-test.true, c.proposer_count-p-end.ensures.count) in
    let long = length-map c.args.counts.now (λ (v : Vec ℕ Global). v.items) in
    let read : c.deref.result.now ≡ row (rows_of c.args.counts.now) p = row_read c.args.counts.now p c.index-counts-p.result c.deref.result.now (omega (arith, inside, long, m.counts.one_each)) c.index-counts-p.is c.deref.ensures.value in
    let here = middle_held p _ c.deref.result.now m inside refl read c.counted_place.ensures in
    c.in_ok-push.ensures.items ∙ ap (λ xs. xs ++ c.counted_place.result ∷ []) (c.loop-p.invariant m)
    ∙ ap (λ (x : Option ℕ). take p m.places ++ x ∷ []) here
    ∙ sym (take_more m.places p None (omega (arith, inside, m.median.stable.matching.assigned.one_each)))

pub returns : goal.returns
returns c =
    let m = c.requires in
    let all = c.loop-p.invariant m ∙ take_all c.loop-p.p m.places (omega (arith, c.loop-p-test.false, c.loop-p.auto.p-end, c.proposer_count-p-end.ensures.count, m.median.stable.matching.assigned.one_each)) in
    record { vectors = m.vectors; median = subst (IsMedianOfAllowed c.args.instance.now m.vectors) (sym all) m.median; count = m.count }
