-- The laws of the order of rotations. Each is the contract of a function of `laws`.
use Rattle.std.specs.Prelude.{◌≡◌, ◌≢◌, ℕ, ◌<◌, ◌≤◌, ◌↔◌, Bool, List, length}
use Rattle.sm_market.specs.Lists.{Lists, IsMarket}
use Rattle.sm_market.specs.Matching.{Places}
use Rattle.sm_market.specs.Stable.{IsStable}
use Rattle.sm_theory.specs.Rotations.{IsExposed}
use Rattle.sm_theory.specs.Chains.{rotation_at, AreEliminable, IsCompleteChain}
use Rattle.sm_theory.specs.ClosedSets.{IsMember, IsClosed, IsSameCycle}
use Rattle.sm_law_order.specs.Order.{Precedes, IsDownSet, IsEliminated, ComesBy}

-- the closure is a partial order, and a rotation that precedes another doesn't stand behind it in the chain
abbrev pub PrecedesIsOrder : Type 0
PrecedesIsOrder = (l : Lists) (first : Places) (rotations : List (List (ℕ × ℕ))) → IsMarket l → IsCompleteChain l first rotations
    → ((i : ℕ) → Precedes l rotations i i)
    × ((i j k : ℕ) → Precedes l rotations i j → Precedes l rotations j k → Precedes l rotations i k)
    × ((i j : ℕ) → Precedes l rotations i j → Precedes l rotations j i → i ≡ j)
    × ((i j : ℕ) → Precedes l rotations i j → i ≤ j)

-- the closed sets are the sets that have with each rotation all that precede it
abbrev pub ClosedSetsAreDownSets : Type 0
ClosedSetsAreDownSets = (l : Lists) (rotations : List (List (ℕ × ℕ))) (set : List Bool) → IsClosed l rotations set ↔ IsDownSet l rotations set

-- a rotation of a complete chain precedes another exactly where it is in every closed set that has the other
-- (Gusfield and Irving 1989, section 2.5)
abbrev pub PrecedesInClosedSets : Type 0
PrecedesInClosedSets = (l : Lists) (first : Places) (rotations : List (List (ℕ × ℕ))) (i j : ℕ)
    → IsMarket l → IsCompleteChain l first rotations → i < length rotations → j < length rotations
    → Precedes l rotations i j ↔ ((set : List Bool) → IsClosed l rotations set → IsMember set j → IsMember set i)

-- a rotation of a complete chain precedes another exactly where it is eliminated at every stable matching at which the
-- other is (Gusfield and Irving 1989, section 2.5)
abbrev pub PrecedesInMatchings : Type 0
PrecedesInMatchings = (l : Lists) (first : Places) (rotations : List (List (ℕ × ℕ))) (i j : ℕ)
    → IsMarket l → IsCompleteChain l first rotations → i < length rotations → j < length rotations
    → Precedes l rotations i j ↔ ((m : Places) → IsStable l m → IsEliminated l m (rotation_at rotations j) → IsEliminated l m (rotation_at rotations i))

-- and precedes another than itself exactly where it is eliminated at every stable matching at which the other is exposed
-- (Gusfield and Irving 1989, section 2.5)
abbrev pub PrecedesWhereExposed : Type 0
PrecedesWhereExposed = (l : Lists) (first : Places) (rotations : List (List (ℕ × ℕ))) (i j : ℕ)
    → IsMarket l → IsCompleteChain l first rotations → i < length rotations → j < length rotations → i ≢ j
    → Precedes l rotations i j ↔ ((m : Places) → IsStable l m → IsExposed l m (rotation_at rotations j) → IsEliminated l m (rotation_at rotations i))

-- a rotation of a complete chain precedes another exactly where it has to be eliminated first: in every sequence of
-- eliminations from the proposers' best that has the other, it comes there or before (Gusfield and Irving 1989, section 2.5)
abbrev pub PrecedesInSequences : Type 0
PrecedesInSequences = (l : Lists) (first : Places) (rotations : List (List (ℕ × ℕ))) (i j : ℕ)
    → IsMarket l → IsCompleteChain l first rotations → i < length rotations → j < length rotations
    → Precedes l rotations i j
    ↔ ((sequence : List (List (ℕ × ℕ))) → AreEliminable l first sequence → (b : ℕ) → b < length sequence
    → IsSameCycle (rotation_at sequence b) (rotation_at rotations j) → ComesBy sequence b (rotation_at rotations i))

-- and it is enough to ask this of the complete chains
abbrev pub PrecedesInChains : Type 0
PrecedesInChains = (l : Lists) (first : Places) (rotations : List (List (ℕ × ℕ))) (i j : ℕ)
    → IsMarket l → IsCompleteChain l first rotations → i < length rotations → j < length rotations
    → Precedes l rotations i j
    ↔ ((other : List (List (ℕ × ℕ))) → IsCompleteChain l first other → (b : ℕ) → b < length other
    → IsSameCycle (rotation_at other b) (rotation_at rotations j) → ComesBy other b (rotation_at rotations i))

-- so the order is the market's own: all its complete chains give one
abbrev pub OneOrder : Type 0
OneOrder = (l : Lists) (first first' : Places) (rotations rotations' : List (List (ℕ × ℕ))) (i j i' j' : ℕ)
    → IsMarket l → IsCompleteChain l first rotations → IsCompleteChain l first' rotations'
    → i < length rotations → j < length rotations → i' < length rotations' → j' < length rotations'
    → IsSameCycle (rotation_at rotations i) (rotation_at rotations' i') → IsSameCycle (rotation_at rotations j) (rotation_at rotations' j')
    → Precedes l rotations i j ↔ Precedes l rotations' i' j'
