use Rattle.std.proofs.Common.{◌<◌, ◌∙◌, sym, length, map, arith, None, Option, pos, ℤ, unwrap_or}
use Rattle.std.proofs.lemmas.List.{same_lists, length-map, get_or-map, get_or_default}
use Rattle.sm_agents.proofs.seconds.set_seconds.Goals as goal

pub returns : goal.returns
returns c =
    let given = c.args.given.now in
    let seconds = c.loop-k.seconds in
    let f : Option ℤ → ℤ = λ second. unwrap_or second (pos 0) in
    let long = length-map given f in
    same_lists seconds (map f given) (c.loop-k.auto.seconds ∙ sym c.requires ∙ sym long)
    (λ k d l.
    let inside : k < length given = omega (arith, l, c.loop-k.auto.seconds, c.requires) in
    get_or_default seconds k d (pos 0) l ∙ c.loop-k.invariant k (omega (arith, l, c.loop-k.auto.seconds, c.loop-k-test.false)) ∙ sym (get_or-map f given k None d inside))
