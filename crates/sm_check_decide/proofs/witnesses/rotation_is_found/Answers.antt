use Rattle.std.proofs.Common.{arith, refl}
use Rattle.sm_theory.specs.Chains.{rotation_at}
use Rattle.sm_theory.specs.Witnesses.{passed_seat, passed_seat_first, passed_seat_chain}
use Rattle.sm_theory.proofs.Tests.Pairs.{exposed_pass}
use Rattle.sm_check_decide.proofs.witnesses.rotation_is_found.Goals as goal

pub returns : goal.returns
returns c = (
  record { none = λ other x i less e j inside. omega arith },
  (λ w. let below = w.none (rotation_at passed_seat_chain 0) (exposed_pass passed_seat passed_seat_first (rotation_at passed_seat_chain 0) refl) 1 (omega arith) refl 0 (omega arith) in omega arith),
)
