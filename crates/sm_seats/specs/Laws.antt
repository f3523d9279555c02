-- The laws of seats that the crates above stand on. Each is the contract of a function of `laws`.
use Rattle.std.specs.Prelude.{◌↔◌}
use Rattle.sm_agents.specs.Written.{Written}
use Rattle.sm_agents.specs.Sound.{IsInstance}
use Rattle.sm_instance.specs.Stable.{IsProposersBest as IsWrittenProposersBest, IsReviewersBest as IsWrittenReviewersBest}
use Rattle.sm_market.specs.Limits.{IsWithinLimits}
use Rattle.sm_market.specs.Matching.{Places}
use Rattle.sm_market.specs.Stable.{IsStable, IsProposersBest, IsReviewersBest}
use Rattle.sm_seats.specs.SeatMarket.{seat_market}
use Rattle.sm_seats.specs.SeatEntries.{AreFewSeats}
use Rattle.sm_seats.specs.Seating.{Seating, seating_of, written_of}
use Rattle.sm_seats.specs.Correspondence.{IsSeating}

-- the stable matchings of an instance and of its seats correspond, with all that is said of them
-- (Gusfield and Irving 1989, section 1.6.1; Manlove 2013, section 3.2)
abbrev pub SeatsCorrespond : Type 0
SeatsCorrespond = (w : Written) → IsInstance w → IsSeating w (seating_of w)

-- few seats make a market within the limits of one
abbrev pub FewSeatsFit : Type 0
FewSeatsFit = (w : Written) → IsInstance w → AreFewSeats w → IsWithinLimits (seat_market w)

-- a stable matching of the seats is the best of a side exactly where that of the instance is
abbrev pub BestsCorrespond : Type 0
BestsCorrespond = (w : Written) (s : Seating) (m : Places) → IsSeating w s → IsStable s.market m
    → (IsProposersBest s.market m ↔ IsWrittenProposersBest w (written_of s m.proposers))
    × (IsReviewersBest s.market m ↔ IsWrittenReviewersBest w (written_of s m.proposers))
