-- Instances whose market of seats has the lists that are written.
use Rattle.std.specs.Prelude.{◌≡◌, ℕ, ◌<◌, length}
use Rattle.sm_agents.specs.Written.{Written, row}
use Rattle.sm_seats.specs.Mutual.{mutual_row}
use Rattle.sm_seats.specs.SeatMarket.{seat_count}

-- a reviewer with one seat and no inert entries
pub record HasOneSeat (w : Written) (r : ℕ) : Type 0 where
  pub one : seat_count w r ≡ 1
  pub whole : mutual_row w.reviewers w.proposers r ≡ row w.reviewers r

-- each reviewer is one, and no proposer has inert entries
pub record IsPlain (w : Written) : Type 0 where
  pub reviewers : (r : ℕ) → r < length w.reviewers → HasOneSeat w r
  pub proposers : (p : ℕ) → p < length w.proposers → mutual_row w.proposers w.reviewers p ≡ row w.proposers p
