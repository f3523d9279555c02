use Rattle.std.proofs.Common.{◌≡◌, take, map}
use Rattle.sm_check_net.specs.Repeats.{ends_of}
use Rattle.sm_check_net.proofs.repeats.all_ends.Given as goal

abbrev pub invariant-loop-line : goal.invariant-loop-line
invariant-loop-line l = l.ends.items ≡ map ends_of (take l.line-index l.lines)
