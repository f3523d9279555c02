use Rattle.std.proofs.Common.{◌∙◌, sym, arith}
use Rattle.sm_keys.proofs.EnoughLemmas.{stands}
use Rattle.sm_keys.proofs.long.stands_twice.Goals as goal

pub returns-then-is : goal.returns-then-is
returns-then-is c = λ yes.
    stands c.args.kept.now c.args.token.now c.args.first c.args.second (omega (arith, c.if-first-ge-FIRST_TOKENS.true)) (omega (arith, c.if-first-second.true)) (omega (arith, c.if-second-kept.true))
    (sym c.is.ensures ∙ c.if-is.true) (sym c.is-then-is.ensures ∙ yes)
