use Rattle.std.proofs.Common.{◌≡◌, map, take}
use Rattle.sm_answer_rotations.specs.Reduction.{seat_of}
use Rattle.sm_answer_rotations.proofs.list_lines.seats_of.Given as goal

-- the seats so far
abbrev pub invariant-loop-k : goal.invariant-loop-k
invariant-loop-k l = l.shown.items ≡ map (seat_of l.seats) (take l.k-index l.numbers)
