use Rattle.std.proofs.Common.{◌++◌, ◌∷◌, [], ℕ, map, length, sym, ap, ◌∙◌, arith}
use Rattle.std.specs.List.{range_with_len}
use Rattle.std.proofs.lemmas.List.FromFn.{map-range_with_len_more}
use Rattle.sm_agents.specs.Written.{row}
use Rattle.sm_answer_solve.proofs.offering.without_offers.Goals as goal

pub loop-p-preserved : goal.loop-p-preserved
loop-p-preserved c =
    let p = c.loop-p.p in
    let f : ℕ → ℕ = λ q. length (row c.args.instance.now.proposers q) in
    c.in_ok-push.ensures.items ∙ ap (λ items. items ++ c.proposer_len.result ∷ []) c.loop-p.invariant ∙ ap (λ x. map f (range_with_len 0 p) ++ x ∷ []) c.proposer_len.ensures.length ∙ sym (map-range_with_len_more f 0 p p (omega arith))
