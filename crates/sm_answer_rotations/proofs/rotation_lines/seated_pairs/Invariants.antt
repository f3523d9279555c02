use Rattle.std.proofs.Common.{◌≡◌, map, take}
use Rattle.sm_answer_rotations.specs.RotationLines.{seated_pair}
use Rattle.sm_answer_rotations.proofs.rotation_lines.seated_pairs.Given as goal

-- the pairs so far
abbrev pub invariant-loop-pair : goal.invariant-loop-pair
invariant-loop-pair l = l.shown.items ≡ map (seated_pair l.seats) (take l.pair-index l.pairs)
