use Rattle.std.proofs.Common.{◌≡◌, map, take}
use Rattle.sm_answer_rotations.specs.RotationLines.{rotation_number}
use Rattle.sm_answer_rotations.proofs.rotation_lines.numbers_of.Given as goal

-- the numbers so far
abbrev pub invariant-loop-k : goal.invariant-loop-k
invariant-loop-k l = l.numbers.items ≡ map rotation_number (take l.k-index l.needed)
