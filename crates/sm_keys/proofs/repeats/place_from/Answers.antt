use Rattle.std.proofs.Common.{◌≡◌, ◌-◌, ◌∙◌, ap, length, take, drop, length-drop, arith}
use Rattle.std.proofs.lemmas.Bool.{eq-eqb}
use Rattle.std.proofs.lemmas.List.{take_rest}
use Rattle.sm_keys.proofs.RepeatLemmas.{byte_behind}
use Rattle.sm_keys.proofs.repeats.place_from.Goals as goal

pub returns-in-Some-clause-before : goal.returns-in-Some-clause-before
returns-in-Some-clause-before c =
    let classes = c.args.classes.now in
    let from = c.args.from in
    let found = c.in-Some.ensures.0 in
    let long : length (take (length classes - from) (drop from classes)) ≡ length classes - from = ap length (take_rest classes from) ∙ length-drop from classes in
    λ i later high same. found.before (i - from) (omega arith) (omega (arith, later, high)) (eq-eqb _ _ (byte_behind classes from i later (omega (arith, later, high, found.high, long)) ∙ same))

pub returns-in-None-clause-before : goal.returns-in-None-clause-before
returns-in-None-clause-before c =
    let classes = c.args.classes.now in
    let from = c.args.from in
    let long : length (take (length classes - from) (drop from classes)) ≡ length classes - from = ap length (take_rest classes from) ∙ length-drop from classes in
    λ i later inside same. c.in-None.ensures (i - from) (omega arith) (omega (arith, later, inside, long)) (eq-eqb _ _ (byte_behind classes from i later inside ∙ same))
