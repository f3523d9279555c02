use Rattle.std.proofs.Common.{◌++◌, ◌∷◌, [], ℕ, List, sym, ap, ◌∙◌, arith}
use Rattle.std.proofs.lemmas.List.FromFn.{map-range_with_len_more}
use Rattle.sm_market.specs.Vectors.{rows_of}
use Rattle.sm_least.specs.Regrets.{ranks_of_stays}
use Rattle.sm_least.proofs.ranks.along_stays.Goals as goal

pub loop-p-preserved : goal.loop-p-preserved
loop-p-preserved c =
    let f : ℕ → List ℕ = ranks_of_stays c.args.board.now (rows_of c.args.levels.now) (rows_of c.args.ranks.now) in
    c.in_ok-push.ensures.pushed ∙ ap (λ (x : List ℕ). c.loop-p.stays ++ x ∷ []) (c.deref.ensures.value ∙ c.in_ok-write_row.ensures)
    ∙ ap (λ (l : List (List ℕ)). l ++ f c.loop-p.p ∷ []) c.loop-p.invariant ∙ sym (map-range_with_len_more f 0 c.loop-p.p c.loop-p.p (omega arith))
