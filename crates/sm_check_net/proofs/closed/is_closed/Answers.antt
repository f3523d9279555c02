use Rattle.std.proofs.Common.{arith, refl}
use Rattle.sm_check_net.proofs.ClosedLemmas.{closed_of}
use Rattle.sm_check_net.proofs.closed.is_closed.Goals as goal

pub returns : goal.returns
returns c l rotations n = (
  (λ _. closed_of n c.requires (λ j less. c.loop-j.invariant j (omega (arith, c.loop-j-test.false, c.loop-j.auto.j-end)))),
  (λ _. refl),
)
