-- What a net keeps.
use Rattle.std.specs.Prelude.{◌≡◌, ◌+◌, ◌^◌, ◌<◌, length}
use Rattle.sm_check_net.specs.CheckedNets.{NetParts, AreRowsRising, AreNumbersBelow}

-- what a net is kept by: a row of needs for each gain, of rotations that there are, rising
pub record IsKeptNet (parts : NetParts) : Type 0 where
  pub one_each : length parts.needs ≡ length parts.gains
  pub few : length parts.gains + 2 < 2 ^ 32
  pub rising : AreRowsRising parts.needs
  pub numbers : AreNumbersBelow (length parts.gains) parts.needs
