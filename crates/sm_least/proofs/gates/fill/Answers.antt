use Rattle.std.proofs.Common.{ℕ, ◌≤◌, [], arith, ap, sym, subst, List, Bool, Vec, length, slice_index, slice_index_or}
use Rattle.std.specs.declared.alloc.Global.{Global}
use Rattle.std.proofs.lemmas.List.{length-map}
use Rattle.sm_market.specs.Lists.{row}
use Rattle.sm_least.specs.Steps.{AreShut, rows_in, NeverFall}
use Rattle.sm_least.proofs.GateLemmas.{gates_right}
use Rattle.sm_least.proofs.gates.fill.Goals as goal

pub returns-clause-open : goal.returns-clause-open
returns-clause-open c =
    let many = length-map c.all_levels-levels.result.now (λ (v : Vec ℕ Global). v.items) in
    let levels_long = ap length c.all_levels-levels.ensures in
    let shut_many = length-map c.shut_forbidden.new.shut (λ (v : Vec Bool Global). v.items) in
    let avoided = rw (c.matched-matched.ensures, c.all_levels-levels.ensures, c.deref-2.ensures.value) at c.shut_forbidden.ensures in
    gates_right (rows_in c.shut_rows.new.shut) c.requires.board
    (rw (c.matched-matched.ensures, c.deref.ensures.value) at c.narrow.ensures)
    (λ p less. subst (λ (xs : List (List ℕ)). AreShut (row xs p) (λ v. (slice_index c.narrow.new.low p ≤ v) × (v ≤ slice_index c.narrow.new.high p)) (slice_index_or (rows_in c.shut_rows.new.shut) p [])) c.all_levels-levels.ensures (c.shut_rows.ensures.shut p (omega (arith, c.requires.board.levels_each))))
    avoided
    (λ p a less le few. c.find_last.ensures.past p a (omega (arith, avoided.rows.one_each, c.requires.board.levels_each)) le (omega (arith, avoided.rows.row_each p (omega (arith, c.requires.board.levels_each)))))

pub shut_forbidden-requires-clause-rising : goal.shut_forbidden-requires-clause-rising
shut_forbidden-requires-clause-rising c = λ p less. subst (λ (rows : List (List ℕ)). NeverFall (row rows p)) (sym c.all_levels-levels.ensures) (λ i j before within. c.requires.board.rising p i j before within)
