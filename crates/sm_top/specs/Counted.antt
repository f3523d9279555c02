-- What is counted of the seats of an instance.
use Rattle.std.specs.Prelude.{◌≡◌}
use Rattle.sm_agents.specs.Written.{Written}
use Rattle.sm_instance.specs.declared.inputs.Input.{Input}
use Rattle.sm_instance.specs.declared.inputs.Input.TheVariants.{Two}
use Rattle.sm_seats.specs.Counted.{AreSeatCounts}
use Rattle.sm_seats.specs.SeatEntries.{AreFewSeats}
use Rattle.sm_seats.specs.declared.counts.SeatCounts.{SeatCounts}

-- an input is an instance with two sides and few enough seats, of which this is counted
pub record IsCounted (input : Input) (w : Written) (counts : SeatCounts) : Type 0 where
  pub two : input ≡ Two w
  pub counted : AreSeatCounts w counts
  pub few : AreFewSeats w
