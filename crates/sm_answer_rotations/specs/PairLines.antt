-- The pairs of a matching of seats as lines.
use Rattle.std.specs.Prelude.{ℕ, Option}
use Rattle.std.specs.Option.{option_map}
use Rattle.sm_market.specs.Lists.{entry}
use Rattle.sm_market.specs.Matching.{Places, held}
use Rattle.sm_report.specs.Lines.{LineData}
use Rattle.sm_seats.specs.Seating.{Seating, reviewer_of}

-- the pair of a proposer that has a seat
abbrev pub seated_pair_line : Seating → Places → ℕ → Option LineData
seated_pair_line s m p = option_map (λ i. LineData.Pair p (reviewer_of s (entry s.market.proposers p i))) (held m.proposers p)
