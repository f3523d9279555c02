-- What a partition keeps.
use Rattle.std.specs.Prelude.{◌≡◌, ◌≢◌, ◌<◌, ◌^◌, ℕ, List, Option, None, length}
use Rattle.sm_theory.specs.Rooms.{mate_of}
use Rattle.sm_theory.specs.Partitions.{successor_in, IsStablePartition, PairsFromLowest}
use Rattle.sm_room.specs.Parties.{Parties}

-- x isn't alone, and has no mate
pub record IsLeftOut (next : List ℕ) (mates : List (Option ℕ)) (x : ℕ) : Type 0 where
  pub inside : x < length next
  pub apart : successor_in next x ≢ x
  pub none : mate_of mates x ≡ None

-- what is kept of a partition: it is a stable one of some roommates, and each party is paired from its lowest person on
pub record IsPartitionKept (p : Parties) : Type 0 where
  pub rows : List (List ℕ)
  pub fits : length p.next < 2 ^ 24
  pub partition : IsStablePartition rows p.next
  pub pairs : PairsFromLowest rows p.next p.mates
