-- How far the proposals over the written lists have come, beside how far they would be in the market of seats.
use Rattle.std.specs.Prelude.{◌≡◌, ◌≢◌, ℕ, ◌+◌, ◌<◌, ◌≤◌, ◌⊎◌, List, length, slice_index, slice_set}
use Rattle.sm_lists.specs.Rows.{place_on}
use Rattle.sm_agents.specs.Written.{Written, row, entry, place_of, IsAcceptable}
use Rattle.sm_accept.specs.Accepting.{IsProgress}
use Rattle.sm_seats.specs.Mutual.{mutual_row}
use Rattle.sm_seats.specs.SeatMarket.{seat_count, seats_before, seat_market}
use Rattle.sm_seats.specs.Tables.{seats_listed}
use Rattle.sm_answer_solve.specs.declared.proposals.Proposal.{Proposal}

-- a free seat of r stands one past r's list: one past that of the market, and one past the written one
pub record IsFree (w : Written) (r standing written : ℕ) : Type 0 where
  pub is : standing ≡ length (mutual_row w.reviewers w.proposers r)
  pub written_is : written ≡ length (row w.reviewers r)

-- a seat that holds a proposer stands at its place on the list of the market, and on the written one
pub record IsHolding (w : Written) (r standing written : ℕ) : Type 0 where
  pub holder : ℕ
  pub acceptable : IsAcceptable w holder r
  pub is : standing ≡ place_on (mutual_row w.reviewers w.proposers r) holder
  pub written_is : written ≡ place_of w.reviewers r holder

-- a proposer that a seat holds is at that seat of its lists
pub record IsSeated (w : Written) (p at next : ℕ) : Type 0 where
  pub reviewer : ℕ
  pub number : ℕ
  pub below : number < seat_count w reviewer
  pub acceptable : IsAcceptable w p reviewer
  pub at_is : at ≡ place_of w.proposers p reviewer
  pub next_is : next ≡ seats_listed w p at + number

-- one that no reviewer would have is behind both lists
pub record IsAtEnd (w : Written) (p at next : ℕ) : Type 0 where
  pub at_is : at ≡ length (row w.proposers p)
  pub next_is : next ≡ seats_listed w p at

-- The proposals among the proposers below `begun` but `away` have come to these places of the written lists, and to these
-- standings of the seats, numbered by the written lists. Beside them stand the places of the lists of seats, and the standings
-- of the seats, to which the same proposals come in the market of seats.
pub record IsUnderWay (w : Written) (begun away : ℕ) (places standings : List ℕ) : Type 0 where
  pub next : List ℕ
  pub market : List ℕ
  pub progress : IsProgress (seat_market w) begun away next market
  pub proposers_each : length places ≡ length w.proposers
  pub seats_each : length standings ≡ seats_before w (length w.reviewers)
  pub seats : (r k : ℕ) → k < seat_count w r → let s = seats_before w r + k in
      IsFree w r (slice_index market s) (slice_index standings s) ⊎ IsHolding w r (slice_index market s) (slice_index standings s)
  pub rest : (p : ℕ) → p < begun → p ≢ away
      → IsSeated w p (slice_index places p) (slice_index next p) ⊎ IsAtEnd w p (slice_index places p) (slice_index next p)
  pub later : (p : ℕ) → begun ≤ p → (slice_index places p ≡ 0) × (slice_index next p ≡ 0)

-- the one that is away comes to a place of its written list
pub record IsArriving (w : Written) (begun away : ℕ) (places standings : List ℕ) : Type 0 where
  pub way : IsUnderWay w begun away places standings
  pub below : away < begun
  pub on_list : slice_index places away ≤ length (row w.proposers away)
  pub next_is : slice_index way.next away ≡ seats_listed w away (slice_index places away)

-- the proposal at a place of p's written list
pub record IsProposalAt (w : Written) (p at : ℕ) (a : Proposal) : Type 0 where
  pub proposer : a.proposer ≡ p
  pub reviewer : a.reviewer ≡ entry w.proposers p at
  pub acceptable : IsAcceptable w p a.reviewer
  pub place : a.place ≡ place_of w.reviewers a.reviewer p

-- the seats of r before seat k, from 0, hold somebody whom r likes better than the one that is away, who stands at `place` of
-- r's written list
pub record IsProposing (w : Written) (begun r k away place : ℕ) (places standings : List ℕ) : Type 0 where
  pub way : IsUnderWay w begun away places standings
  pub below : away < begun
  pub acceptable : IsAcceptable w away r
  pub at_is : slice_index places away ≡ place_of w.proposers away r
  pub place_is : place ≡ place_of w.reviewers r away
  pub next_is : slice_index way.next away ≡ seats_listed w away (slice_index places away) + k

-- somebody proposes to the first seat of r, of whoever has begun to propose
pub record IsProposed (w : Written) (r away place : ℕ) (places standings : List ℕ) : Type 0 where
  pub begun : ℕ
  pub proposing : IsProposing w begun r 0 away place places standings

-- a proposer that a reviewer turned away comes to the next place of its list
pub record IsTurnedAway (w : Written) (begun away : ℕ) (before places standings : List ℕ) : Type 0 where
  pub arriving : IsArriving w begun away places standings
  pub on_list : slice_index before away < length (row w.proposers away)
  pub moved : places ≡ slice_set before away (slice_index before away + 1)

-- every seat is free
pub record AreFreeSeats (w : Written) (standings : List ℕ) : Type 0 where
  pub one_each : length standings ≡ seats_before w (length w.reviewers)
  pub free : (r k : ℕ) → k < seat_count w r → slice_index standings (seats_before w r + k) ≡ length (row w.reviewers r)
