use Rattle.std.proofs.Common.{ℕ, ◌<◌, ◌≤◌, ◌^◌, get_or}
use Rattle.sm_lists.proofs.cells.all_fit.Given as goal

abbrev pub invariant-loop-number : goal.invariant-loop-number
invariant-loop-number l = record {
  greatest : (i : ℕ) → i < l.number-index → get_or l.list i 0 ≤ l.bits;
  fit : ((i : ℕ) → i < l.number-index → get_or l.list i 0 < 2 ^ 15) → l.bits < 2 ^ 15;
}
