use Rattle.std.proofs.Common.{refl}
use Rattle.sm_keys.proofs.EnoughLemmas.{left_out}
use Rattle.sm_keys.proofs.long.keep.Goals as goal

pub returns-then-stands_twice : goal.returns-then-stands_twice
returns-then-stands_twice c = left_out c.deref.result.now c.args.kept.now.items c.args.token.now c.deref.ensures.value (c.if-stands_twice.ensures refl)
