-- The laws of roommates. Each is the contract of a function of `laws`.
use Rattle.std.specs.Prelude.{◌≡◌, ℕ, List, Option, None}
use Rattle.sm_theory.specs.Rooms.{mate_of, IsRoomMatching, RoomBlocks, IsRoomStable}
use Rattle.sm_theory.specs.Partitions.{after, IsStablePartition, IsInOddParty, IsLowestOfOdd, PairsAlternately, PairsFromLowest}

-- who have a stable partition with an odd party of three or more have no stable matching (Tan 1991)
abbrev pub OddPartyExcludes : Type 0
OddPartyExcludes = (rows : List (List ℕ)) (next : List ℕ) (x : ℕ) (mates : List (Option ℕ)) → IsStablePartition rows next
    → IsInOddParty rows next x → ¬ IsRoomStable rows mates

-- two stable partitions have the same odd parties (Tan 1991)
abbrev pub SameOddParties : Type 0
SameOddParties = (rows : List (List ℕ)) (next other : List ℕ) (x : ℕ) → IsStablePartition rows next → IsStablePartition rows other
    → IsInOddParty rows next x → IsInOddParty rows other x × ((k : ℕ) → after other x k ≡ after next x k)

-- the same persons are matched in all stable matchings (Gusfield and Irving 1989, section 4.5)
abbrev pub SamePersons : Type 0
SamePersons = (rows : List (List ℕ)) (m n : List (Option ℕ)) → IsRoomStable rows m → IsRoomStable rows n
    → (x : ℕ) → mate_of m x ≡ None → mate_of n x ≡ None

-- the parties of a stable partition can be paired alternately, each from its lowest person on
abbrev pub PartiesPair : Type 0
PartiesPair = (rows : List (List ℕ)) (next : List ℕ) → IsStablePartition rows next → (mates : List (Option ℕ)) × PairsFromLowest rows next mates

-- where no party is odd, pairing each party alternately gives a stable matching (Tan 1991)
abbrev pub EvenPartiesPair : Type 0
EvenPartiesPair = (rows : List (List ℕ)) (next : List ℕ) (mates : List (Option ℕ)) → IsStablePartition rows next
    → ((x : ℕ) → ¬ IsInOddParty rows next x) → PairsAlternately rows next mates → IsRoomStable rows mates

-- with the lowest of each odd party left out it gives a matching that no pair of those who stay blocks (Tan 1991)
abbrev pub RestIsStable : Type 0
RestIsStable = (rows : List (List ℕ)) (next : List ℕ) (mates : List (Option ℕ)) → IsStablePartition rows next
    → PairsAlternately rows next mates
    → IsRoomMatching rows mates
    × ((x y : ℕ) → ¬ IsLowestOfOdd rows next x → ¬ IsLowestOfOdd rows next y → ¬ RoomBlocks rows mates x y)
