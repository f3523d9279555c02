use Rattle.std.proofs.Common.{◌≡◌, ◌+◌, ◌<◌, ◌^◌, ◌/◌, ◌++◌, cond, ltb, [], length, drop, decimal}
use Rattle.sm_text.proofs.writer.write_digits.Given as goal

-- what is written are the last digits, and those of `rest / 10` stand before them
abbrev pub invariant-loop-rest : goal.invariant-loop-rest
invariant-loop-rest l = record {
  room : length l.digits ≡ 20;
  inside : l.start < 20;
  small : l.rest < 10 ^ (l.start + 1);
  fits : l.rest < 2 ^ 64;
  written : cond (ltb l.rest 10) [] (decimal (l.rest / 10)) ++ drop l.start l.digits ≡ decimal l.value;
}

abbrev pub decreases-loop-rest : goal.decreases-loop-rest
decreases-loop-rest l = l.rest
