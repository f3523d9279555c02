use Rattle.std.proofs.Common.{◌≡◌, ℕ, ◌+◌, ◌<◌, length, get_or}
use Rattle.sm_lists.proofs.raised_rows.count_from.Given as goal

abbrev pub invariant-loop-at : goal.invariant-loop-at
invariant-loop-at l = record {
  as_long : length l.numbers ≡ length l.initial.numbers;
  before : (a : ℕ) → a < l.from → get_or l.numbers a 0 ≡ get_or l.initial.numbers a 0;
  counted : (k : ℕ) → l.from + k < l.at → get_or l.numbers (l.from + k) 0 ≡ k;
}
