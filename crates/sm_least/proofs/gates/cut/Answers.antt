use Rattle.std.proofs.Common.{arith, Bool, Vec}
use Rattle.std.specs.declared.alloc.Global.{Global}
use Rattle.std.proofs.lemmas.List.{length-map}
use Rattle.sm_least.proofs.GateLemmas.{cut_right}
use Rattle.sm_least.proofs.gates.cut.Goals as goal

pub returns-clause-open : goal.returns-clause-open
returns-clause-open c =
    let many = length-map c.shut_ranks.new.shut (λ (v : Vec Bool Global). v.items) in
    let rows = c.shut_ranks.ensures.rows in
    cut_right c.requires.gates c.shut_ranks.ensures
    (λ p a less le few. c.find_last.ensures.past p a (omega (arith, rows.one_each, c.requires.board.levels_each)) le (omega (arith, rows.row_each p (omega (arith, c.requires.board.levels_each)))))
