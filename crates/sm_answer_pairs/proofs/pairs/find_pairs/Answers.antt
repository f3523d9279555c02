use Rattle.std.proofs.Common.{◌≡◌, ◌++◌, ◌==◌, ◌∙◌, ap, sym, subst, arith, length, ℕ, Vec}
use Rattle.std.specs.declared.alloc.Global.{Global}
use Rattle.std.proofs.lemmas.List.{length-map}
use Rattle.sm_lists.proofs.RowLemmas.{row_read}
use Rattle.sm_market.specs.Vectors.{rows_of}
use Rattle.sm_answer_pairs.specs.Found.{AreFromOne, pairs_at_levels}
use Rattle.sm_answer_pairs.proofs.LevelLemmas.{levels_of_seats, are_from_one, pairs_more, pairs_right}
use Rattle.sm_answer_pairs.proofs.pairs.find_pairs.Goals as goal

pub push_pairs-requires-clause-from_one : goal.push_pairs-requires-clause-from_one
push_pairs-requires-clause-from_one c =
    let stable = levels_of_seats c.args.seats.now _ _ _ c.in_ok-poset.ensures (ap rows_of c.deref.ensures.value ∙ c.in_ok-levels.ensures) c.in_ok-rows.ensures in
    let p = c.loop-p.p in
    let many = length-map c.in_ok-rows.rows.items (λ (v : Vec ℕ Global). v.items) in
    let here = row_read c.in_ok-rows.rows.items p c.index.result.now c.deref-in-loop-p.result.now (let each = stable.one_each in omega (arith, each, many)) c.index.ensures c.deref-in-loop-p.ensures.value in
    subst AreFromOne (sym here) (are_from_one c.requires.seating stable p (omega arith))

pub loop-p-preserved : goal.loop-p-preserved
loop-p-preserved c =
    let stable = levels_of_seats c.args.seats.now _ _ _ c.in_ok-poset.ensures (ap rows_of c.deref.ensures.value ∙ c.in_ok-levels.ensures) c.in_ok-rows.ensures in
    let p = c.loop-p.p in
    let many = length-map c.in_ok-rows.rows.items (λ (v : Vec ℕ Global). v.items) in
    let here = row_read c.in_ok-rows.rows.items p c.index.result.now c.deref-in-loop-p.result.now (let each = stable.one_each in omega (arith, each, many)) c.index.ensures c.deref-in-loop-p.ensures.value in
    c.in_ok-push_pairs.ensures ∙ ap (λ pairs. pairs ++ pairs_at_levels c.args.instance.now (length c.deref-in-loop-p.result.now == 1) p c.deref-in-loop-p.result.now) c.loop-p.invariant
    ∙ pairs_more c.args.instance.now (rows_of c.in_ok-rows.rows.items) p c.deref-in-loop-p.result.now here

pub returns : goal.returns
returns c =
    let stable = levels_of_seats c.args.seats.now _ _ _ c.in_ok-poset.ensures (ap rows_of c.deref.ensures.value ∙ c.in_ok-levels.ensures) c.in_ok-rows.ensures in
    let whole : c.loop-p.p ≡ length c.args.instance.now.proposers = omega arith in
    rw (c.loop-p.invariant, whole) (pairs_right c.requires.seating stable)
