use Rattle.std.proofs.Common.{◌≡◌, ℕ, ◌+◌, ◌<◌, suc, arith, ap, sym, ◌∙◌, slice_index}
use Rattle.sm_theory.specs.FlowLines.{amount_to, amount_from}
use Rattle.sm_check_net.proofs.flow_sums.is_conserved.Goals as goal

pub returns : goal.returns
returns c =
    let come : (k : ℕ) → k < c.args.size → slice_index c.deref.result.now (k + 1) ≡ amount_to c.args.lines.now (suc k) =
    (λ k less. rw c.deref.ensures.value (c.in_ok-come.ensures.each (k + 1) (omega arith)) ∙ ap (amount_to c.args.lines.now) (next k)) in
    let left : (k : ℕ) → k < c.args.size → slice_index c.deref-2.result.now (k + 1) ≡ amount_from c.args.lines.now (suc k) =
    (λ k less. rw c.deref-2.ensures.value (c.in_ok-left.ensures.each (k + 1) (omega arith)) ∙ ap (amount_from c.args.lines.now) (next k)) in (
      (λ yes k less. sym (come k less) ∙ c.are_equal_inside.ensures.0 yes k less ∙ left k less),
      (λ all. c.are_equal_inside.ensures.1 (λ k less. come k less ∙ all k less ∙ sym (left k less))),
    )
  where
    next : (k : ℕ) → k + 1 ≡ suc k
    next k = omega arith
