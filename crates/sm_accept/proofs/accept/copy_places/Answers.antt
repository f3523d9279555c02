use Rattle.std.proofs.Common.{None, arith}
use Rattle.std.proofs.lemmas.List.{ext_get_or}
use Rattle.sm_accept.proofs.accept.copy_places.Goals as goal

pub returns : goal.returns
returns c = ext_get_or None _ _
    (omega (arith, c.requires.made.matching.reviewers.one_each))
    (λ r h. c.loop-r.invariant r (omega arith))
