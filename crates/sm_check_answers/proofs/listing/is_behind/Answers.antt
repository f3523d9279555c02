use Rattle.std.proofs.Common.{◌<◌, List, ℕ, arith, sym, length, subst, slice_index, slice_index_or, ltb-true, lt-ltb}
use Rattle.std.specs.Prelude.{IsTrue, nat_lt}
use Rattle.std.specs.Option.{option_map}
use Rattle.sm_instance.specs.Ranks.{IsBefore, order_of}
use Rattle.sm_theory.specs.Listings.{IsBehind}
use Rattle.sm_check_answers.proofs.VectorLemmas.{behind_to, behind_from, none_behind}
use Rattle.sm_check_answers.proofs.listing.is_behind.Goals as goal

pub returns-then-before-p : goal.returns-then-before-p
returns-then-before-p c =
    let w = c.args.instance.now in
    let u = c.in-Some.before.now in
    let v = c.args.v.now in
    let order = c.order-order.result.now in
    let j = c.loop-j.j in
    let p = slice_index order j in
    let P : List ℕ → Type 0 = λ o. (IsTrue (nat_lt (slice_index_or u p 0) (slice_index_or v p 0)) → IsBefore o u v) × (IsBefore o u v → IsTrue (nat_lt (slice_index_or u p 0) (slice_index_or v p 0))) in
    subst (λ o. (IsTrue (nat_lt (slice_index_or u p 0) (slice_index_or v p 0)) → IsBehind (IsBefore (order_of w)) (option_map (λ b. b.now) o) v) × (IsBehind (IsBefore (order_of w)) (option_map (λ b. b.now) o) v → IsTrue (nat_lt (slice_index_or u p 0) (slice_index_or v p 0))))
    (sym c.in-Some.is)
    (subst P c.order-order.ensures.order
    ((λ t. behind_to order u v j c.loop-j.invariant c.loop-j-test.true (ltb-true _ _ t)), (λ b. lt-ltb _ _ (behind_from order u v j c.loop-j.invariant c.if-before-p.true b))))
