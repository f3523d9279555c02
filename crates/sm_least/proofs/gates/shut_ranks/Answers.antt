use Rattle.std.proofs.Common.{◌≡◌, ℕ, ◌<◌, [], arith, ap, ◌∙◌, Bool, Vec, length, slice_index_or}
use Rattle.std.specs.declared.alloc.Global.{Global}
use Rattle.std.proofs.lemmas.List.{length-map}
use Rattle.sm_market.specs.Lists.{row}
use Rattle.sm_lists.proofs.RowLemmas.{vector_read}
use Rattle.sm_least.specs.Steps.{rows_in}
use Rattle.sm_least.proofs.GateLemmas.{rows_in-set, cut_more}
use Rattle.sm_least.proofs.gates.shut_ranks.Goals as goal

pub at-requires : goal.at-requires
at-requires c = omega (arith, c.loop-p-test.true, c.proposers-p-end.ensures, c.requires.ranks.one_each)

pub shut_row_above-requires : goal.shut_row_above-requires
shut_row_above-requires c =
    let p : ℕ = c.loop-p.p in
    let in_it : p < length c.args.board.now.leaves = omega (arith, c.loop-p-test.true, c.proposers-p-end.ensures) in
    let shut_many = length-map c.loop-p.shut (λ (v : Vec Bool Global). v.items) in
    let shut : c.deref_mut.result.now ≡ slice_index_or (rows_in c.loop-p.shut) p [] =
    c.deref_mut.ensures.value ∙ vector_read c.loop-p.shut p c.index-shut-p.result (omega (arith, c.loop-p.invariant.rows.one_each, c.requires.board.levels_each)) in
    omega (arith, ap length c.at.ensures, ap length shut, c.loop-p.invariant.rows.row_each p (omega (arith, c.requires.board.levels_each)), c.requires.ranks.few p in_it)

pub loop-p-preserved : goal.loop-p-preserved
loop-p-preserved c =
    let p : ℕ = c.loop-p.p in
    let in_it : p < length c.args.board.now.leaves = omega (arith, c.loop-p-test.true, c.proposers-p-end.ensures) in
    let shut_many = length-map c.loop-p.shut (λ (v : Vec Bool Global). v.items) in
    let shut : c.deref_mut.result.now ≡ slice_index_or (rows_in c.loop-p.shut) p [] =
    c.deref_mut.ensures.value ∙ vector_read c.loop-p.shut p c.index-shut-p.result (omega (arith, c.loop-p.invariant.rows.one_each, c.requires.board.levels_each)) in
    let each : length (slice_index_or (rows_in c.loop-p.shut) p []) ≡ length (row c.args.board.now.levels p) = c.loop-p.invariant.rows.row_each p (omega (arith, c.requires.board.levels_each)) in
    let cut = rw (c.at.ensures, shut) at c.shut_row_above.ensures.shut in
    rw (rows_in-set c.loop-p.shut p c.index-shut-p.result c.shut_row_above.new.shut (c.shut_row_above.ensures.one_each ∙ c.deref_mut.ensures.len))
    (cut_more p c.shut_row_above.new.shut (omega (arith, c.requires.board.levels_each)) (c.shut_row_above.ensures.one_each ∙ ap length shut ∙ each) cut c.loop-p.invariant)
