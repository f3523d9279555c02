use Rattle.std.proofs.Common.{◌≡◌, length, refl, subst, arith, ℕ}
use Rattle.sm_lists.specs.EachOnce.{AreApart}
use Rattle.sm_lists.proofs.OrderLemmas.{apart_each_once}
use Rattle.sm_lists.proofs.order.mark_each.Goals as goal

pub returns : goal.returns
returns c =
    let order = c.args.order.now in
    let count = length c.args.met.now in
    let all : c.loop-n.n ≡ count = omega (arith, c.loop-n-test.false, c.loop-n.auto.n-end, c.requires.as_many) in
    let P : ℕ → Type 0 = λ k. AreApart order k c.loop-n.n in
    let Q : ℕ → Type 0 = λ n. AreApart order count n in
    ((λ _. apart_each_once order count c.requires.as_many (subst Q all (subst P c.loop-n.auto.met c.loop-n.invariant.apart))), λ _. refl)
