use Rattle.std.proofs.Common.{◌≡◌, ◌≤◌, drop}
use Rattle.std.specs.List.{list_all}
use Rattle.sm_text.specs.Name.{is_digit}
use Rattle.sm_text.specs.Numbers.{value_of, value_behind}
use Rattle.sm_text.proofs.numbers.value.Given as goal

-- the bytes so far are digits, and this is their value
abbrev pub invariant-loop-b : goal.invariant-loop-b
invariant-loop-b l = record {
  behind : value_behind l.value (drop l.b-index l.digits) ≡ value_of l.digits;
  left : list_all is_digit (drop l.b-index l.digits) ≡ list_all is_digit l.digits;
  small : l.value ≤ l.most;
}
