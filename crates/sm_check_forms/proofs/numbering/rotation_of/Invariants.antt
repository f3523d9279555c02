use Rattle.std.proofs.Common.{◌≡◌, map, take}
use Rattle.sm_check_forms.specs.Seats.{numbered}
use Rattle.sm_check_forms.proofs.numbering.rotation_of.Given as goal

abbrev pub invariant-loop-k : goal.invariant-loop-k
invariant-loop-k l = l.numbered.items ≡ map (numbered l.instance) (take l.k l.pairs)
