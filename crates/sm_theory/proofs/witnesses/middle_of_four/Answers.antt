use Rattle.std.proofs.Common.{arith}
use Rattle.sm_theory.proofs.witnesses.middle_of_four.Goals as goal

pub returns : goal.returns
returns c = (record { fewer = omega arith; enough = omega arith }, λ w. omega (arith, w.fewer), record { fewer = omega arith; enough = omega arith })
