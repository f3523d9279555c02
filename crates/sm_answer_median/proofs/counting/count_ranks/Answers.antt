use Rattle.std.proofs.Common.{◌≡◌, ℕ, ◌<◌, ◌∙◌, Vec, length, slice_index, ap, arith}
use Rattle.std.specs.declared.alloc.Global.{Global}
use Rattle.std.proofs.lemmas.List.{length-map}
use Rattle.sm_lists.specs.Rows.{row, rows_of}
use Rattle.sm_lists.proofs.RowLemmas.{vector_read}
use Rattle.sm_answer_list.proofs.RankLemmas.{vector_long, rank_at, standing_within}
use Rattle.sm_answer_median.proofs.CountLemmas.{none_below, one_below, vector_counted, room_for_one, row_set}
use Rattle.sm_answer_median.proofs.counting.count_ranks.Goals as goal

pub loop-p-init : goal.loop-p-init
loop-p-init c = none_below c.args.ranks.now (rows_of c.args.counts.now)

pub bounds-counts-p : goal.bounds-counts-p
bounds-counts-p c = omega (arith, c.loop-p.invariant.each, c.requires.few.counts.one_each, c.loop-p-test.true, c.proposer_count-p-end.ensures.count, length-map c.loop-p.counts (λ (v : Vec ℕ Global). v.items))

pub bounds-ranks-p : goal.bounds-ranks-p
bounds-ranks-p c = omega (arith, vector_long c.requires.vector, c.loop-p-test.true, c.proposer_count-p-end.ensures.count)

pub count_number-requires-clause-in_range : goal.count_number-requires-clause-in_range
count_number-requires-clause-in_range c =
    let w = c.args.instance.now in
    let p : ℕ = c.loop-p.p in
    let inside : p < length w.proposers = omega (arith, c.loop-p-test.true, c.proposer_count-p-end.ensures.count) in
    let many = length-map c.loop-p.counts (λ (v : Vec ℕ Global). v.items) in
    let here : c.deref_mut.result.now ≡ row (rows_of c.loop-p.counts) p = c.deref_mut.ensures.value ∙ vector_read c.loop-p.counts p c.index-counts-p.result (omega (arith, inside, many, c.loop-p.invariant.each, c.requires.few.counts.one_each)) in
    let v = c.requires.vector in
    omega (arith, ap length here, c.loop-p.invariant.long p, c.requires.few.counts.ranks p inside, rank_at w v.places v.vector p inside, standing_within w v.places v.stable.matching p)

pub count_number-requires-clause-fits : goal.count_number-requires-clause-fits
count_number-requires-clause-fits c =
    let w = c.args.instance.now in
    let p : ℕ = c.loop-p.p in
    let rank : ℕ = slice_index c.args.ranks.now p in
    let inside : p < length w.proposers = omega (arith, c.loop-p-test.true, c.proposer_count-p-end.ensures.count) in
    let many = length-map c.loop-p.counts (λ (v : Vec ℕ Global). v.items) in
    let here : c.deref_mut.result.now ≡ row (rows_of c.args.counts.now) p = c.deref_mut.ensures.value ∙ vector_read c.loop-p.counts p c.index-counts-p.result (omega (arith, inside, many, c.loop-p.invariant.each, c.requires.few.counts.one_each)) ∙ c.loop-p.invariant.left p (omega arith) in
    let v = c.requires.vector in
    let on : rank < length (row (rows_of c.args.counts.now) p) = omega (arith, c.requires.few.counts.ranks p inside, rank_at w v.places v.vector p inside, standing_within w v.places v.stable.matching p) in
    omega (arith, ap (λ xs. slice_index xs rank) here, room_for_one p rank c.requires.few inside on)

pub loop-p-preserved : goal.loop-p-preserved
loop-p-preserved c =
    let w = c.args.instance.now in
    let p : ℕ = c.loop-p.p in
    let inside : p < length w.proposers = omega (arith, c.loop-p-test.true, c.proposer_count-p-end.ensures.count) in
    let many = length-map c.loop-p.counts (λ (v : Vec ℕ Global). v.items) in
    let here : c.deref_mut.result.now ≡ row (rows_of c.loop-p.counts) p = c.deref_mut.ensures.value ∙ vector_read c.loop-p.counts p c.index-counts-p.result (omega (arith, inside, many, c.loop-p.invariant.each, c.requires.few.counts.one_each)) in
    let new = c.count_number.new.counts in
    let long : length new ≡ length c.deref_mut.result.now = (let same = c.count_number.auto.counts in omega (arith, same)) in
    rw (row_set c.loop-p.counts p c.index-counts-p.result new (long ∙ c.deref_mut.ensures.len))
    (one_below p new c.loop-p.invariant (omega (arith, inside, c.loop-p.invariant.each, c.requires.few.counts.one_each)) (long ∙ ap length here) (rw here at c.count_number.ensures))

pub returns : goal.returns
returns c = λ vectors are. vector_counted c.loop-p.p (omega (arith, c.loop-p-test.false, c.loop-p.auto.p-end, c.proposer_count-p-end.ensures.count)) c.loop-p.invariant are
