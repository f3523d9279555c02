-- Two groups of five persons: one with an odd party, and one with a stable matching. In each the last person lists others
-- and is listed by nobody.
use Rattle.std.specs.Prelude.{ℕ, List, [], ◌∷◌, Option, None, Some}
use Rattle.sm_theory.specs.Rooms.{AreRoomLists, IsRoomStable}
use Rattle.sm_theory.specs.Partitions.{IsStablePartition, IsLowestOfOdd, PairsAlternately}

-- persons 0, 1 and 2 like each other in a circle, and 3 is their last; 4 lists 0 and itself
abbrev pub odd_party_rows : List (List ℕ)
odd_party_rows = (1 ∷ 2 ∷ 3 ∷ []) ∷ (2 ∷ 0 ∷ 3 ∷ []) ∷ (0 ∷ 1 ∷ 3 ∷ []) ∷ (0 ∷ 1 ∷ 2 ∷ []) ∷ (0 ∷ 4 ∷ []) ∷ []

-- its stable partition: a party of three, and two who are alone
abbrev pub odd_party_next : List ℕ
odd_party_next = 1 ∷ 2 ∷ 0 ∷ 3 ∷ 4 ∷ []

-- the matching once the lowest of the odd party is left out
abbrev pub odd_party_rest : List (Option ℕ)
odd_party_rest = None ∷ Some 2 ∷ Some 1 ∷ None ∷ None ∷ []

-- the circle is an odd party, and 3 and 4 are alone; with 0 left out, 1 and 2 are together
abbrev pub OddParty : Type 0
OddParty = AreRoomLists odd_party_rows × IsStablePartition odd_party_rows odd_party_next × IsLowestOfOdd odd_party_rows odd_party_next 0
    × PairsAlternately odd_party_rows odd_party_next odd_party_rest

-- four persons in a circle, each of whom lists the next and then the one before, and 4, who lists 2
abbrev pub even_party_rows : List (List ℕ)
even_party_rows = (1 ∷ 3 ∷ []) ∷ (2 ∷ 0 ∷ []) ∷ (3 ∷ 1 ∷ []) ∷ (0 ∷ 2 ∷ []) ∷ (2 ∷ []) ∷ []

-- its stable partition: a party of four, and one who is alone
abbrev pub even_party_next : List ℕ
even_party_next = 1 ∷ 2 ∷ 3 ∷ 0 ∷ 4 ∷ []

-- the matching that pairs the four alternately
abbrev pub even_party_mates : List (Option ℕ)
even_party_mates = Some 1 ∷ Some 0 ∷ Some 3 ∷ Some 2 ∷ None ∷ []

-- the circle is a party of four, and pairing it alternately is stable; 4 is unmatched
abbrev pub EvenParty : Type 0
EvenParty = AreRoomLists even_party_rows × IsStablePartition even_party_rows even_party_next × IsRoomStable even_party_rows even_party_mates
