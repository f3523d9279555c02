use Rattle.std.proofs.Common.{◌≡◌, inl, inr, arith, sym, ◌∙◌, slice_index, length}
use Rattle.std.proofs.lemmas.List.{get_or_past}
use Rattle.sm_lists.proofs.Counting.{lt_or_le}
use Rattle.sm_least.proofs.gates.shut_row_above.Goals as goal

pub returns-clause-shut : goal.returns-clause-shut
returns-clause-shut c = λ a.
    let all : c.loop-a.a ≡ length c.args.ranks.now = omega (arith, c.loop-a-test.false, c.loop-a.auto.a-end) in
    elim (lt_or_le a (length c.args.ranks.now)) [
      | inl less ↦ c.loop-a.invariant.cut a (omega arith)
      | inr past ↦
          let is = c.loop-a.invariant.left a (omega arith) in
          let none : slice_index c.args.ranks.now a ≡ 0 = get_or_past c.args.ranks.now a 0 past in
          ((λ x. (sym is ∙ x, omega (arith, none))), (λ x. is ∙ x.0))
    ]
