use Rattle.std.proofs.Common.{◌≡◌, ℕ, ◌+◌, ◌<◌, length, get_or}
use Rattle.sm_agents.specs.Written.{row}
use Rattle.sm_seats.specs.SeatMarket.{seat_count, seats_before}
use Rattle.sm_answer_solve.proofs.seat_holders.free_seats.Given as goal

abbrev pub invariant-loop-r : goal.invariant-loop-r
invariant-loop-r l = record {
  one_each : length l.standings ≡ length l.initial.standings;
  free : (s k : ℕ) → s < l.r → k < seat_count l.instance s → get_or l.standings (seats_before l.instance s + k) 0 ≡ length (row l.instance.reviewers s);
}
