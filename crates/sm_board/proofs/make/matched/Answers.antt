use Rattle.std.proofs.Common.{◌≡◌, ℕ, ◌++◌, ◌∷◌, [], arith, sym, ap, ◌∙◌, List, Bool, Option, is_some, map}
use Rattle.std.specs.List.{range_with_len}
use Rattle.std.proofs.lemmas.List.FromFn.{map-range_with_len_more}
use Rattle.sm_market.specs.Matching.{held}
use Rattle.sm_market.specs.Pairing.{Paired}
use Rattle.sm_board.proofs.make.matched.Goals as goal

pub loop-p-preserved : goal.loop-p-preserved
loop-p-preserved c =
    let f : ℕ → Bool = λ p. is_some (held c.args.poset.now.first.places.proposers p) in
    let own : c.is_some.result ≡ f c.loop-p.p = c.is_some.ensures ∙ ap (λ (x : Option ℕ). is_some x) c.place.ensures ∙ ap (λ (m : Paired). is_some (held m.places.proposers c.loop-p.p)) c.chain.ensures.first in
    c.in_ok-push.ensures.items ∙ ap (λ (xs : List Bool). xs ++ c.is_some.result ∷ []) c.loop-p.invariant
    ∙ ap (λ (x : Bool). map f (range_with_len 0 c.loop-p.p) ++ x ∷ []) own ∙ sym (map-range_with_len_more f 0 c.loop-p.p c.loop-p.p (omega arith))
