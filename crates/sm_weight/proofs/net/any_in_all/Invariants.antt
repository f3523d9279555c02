use Rattle.std.proofs.Common.{◌≡◌, suc, false, length, take}
use Rattle.std.specs.List.{list_any}
use Rattle.sm_market.specs.Vectors.{rows_of}
use Rattle.sm_theory.specs.Conditions.{forbids}
use Rattle.sm_weight.proofs.net.any_in_all.Given as goal

abbrev pub invariant-loop-p : goal.invariant-loop-p
invariant-loop-p l = list_any (λ c. forbids l.poset.lists (rows_of l.levels) l.poset.first.places l.poset.rotations c 0 (suc (length l.poset.rotations))) (take l.p-index l.pairs) ≡ false
