use Rattle.std.proofs.Common.{◌≡◌, take}
use Rattle.std.specs.List.{All}
use Rattle.sm_report.specs.Sound.{IsSmall}
use Rattle.sm_answer_vectors.proofs.cursors.small_copy.Given as goal

-- the numbers so far
abbrev pub invariant-loop-n : goal.invariant-loop-n
invariant-loop-n l = record {
  copied : l.copy.items ≡ take l.n-index l.numbers;
  small : All IsSmall l.copy.items;
}
