use Rattle.std.proofs.Common.{◌++◌, ◌∷◌, [], ◌∙◌, sym, ap, arith}
use Rattle.sm_lists.proofs.RangeLemmas.{range_more}
use Rattle.sm_lists.proofs.order.first_numbers.Goals as goal

pub loop-n-preserved : goal.loop-n-preserved
loop-n-preserved c = c.in_ok-push.ensures.items ∙ ap (λ numbers. numbers ++ c.loop-n.n ∷ []) c.loop-n.invariant ∙ sym (range_more 0 c.loop-n.n c.loop-n.n (omega arith))
