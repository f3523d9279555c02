use Rattle.std.proofs.Common.{◌≡◌, ℕ, ◌≤◌, List, get_or, bit_or, subst, arith, ⊎_elim}
use Rattle.std.proofs.lemmas.Bool.{cases_lt}
use Rattle.std.proofs.lemmas.Nat.{or_lt, le_or_l, le_or_r}
use Rattle.sm_lists.proofs.cells.all_fit.Goals as goal

pub loop-number-preserved : goal.loop-number-preserved
loop-number-preserved c =
    let list : List ℕ = c.args.list.now in
    let at : ℕ = c.loop-number.number-index in
    let bits : ℕ = c.loop-number.bits in
    let next : ℕ = get_or list at 0 in
    record {
      greatest = λ i l.
          ⊎_elim
          (λ before. omega (arith, c.loop-number.invariant.greatest i before, le_or_l bits next))
          (λ after. subst (λ k. get_or list k 0 ≤ bit_or bits next) (let e : at ≡ i = omega arith in e) (le_or_r bits next))
          (cases_lt i at);
      fit = λ all. or_lt 15 bits next (c.loop-number.invariant.fit (λ i l. all i (omega (arith, l)))) (all at (omega arith));
    }
