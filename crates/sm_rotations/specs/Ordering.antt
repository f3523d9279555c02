-- The chain put into the stated order: what is written, what is ready, and what is still needed.
use Rattle.std.specs.Prelude.{◌≡◌, ◌≢◌, ℕ, suc, ◌+◌, ◌<◌, ◌≤◌, ◌⊎◌, nat_le, nat_eq, not, ◌++◌, Bool, true, List, take, drop, length, slice_index_or, All, count_by}
use Rattle.std.specs.Ordering.{nat_cmp, ordering_then}
use Rattle.std.specs.declared.cmp.Ordering.{Ordering}
use Rattle.std.specs.declared.cmp.Reverse.{Reverse}
use Rattle.sm_market.specs.Lists.{Lists, row}
use Rattle.sm_market.specs.Matching.{Places, standing}
use Rattle.sm_market.specs.Stable.{IsStable}
use Rattle.sm_theory.specs.Rotations.{proposer_at}
use Rattle.sm_theory.specs.Chains.{rotation_at, stage}
use Rattle.sm_rotations.specs.Chaining.{LeadsTo}
use Rattle.sm_rotations.specs.Graph.{times, times_below}
use Rattle.sm_rotations.specs.Marking.{IsRisingListOf}

-- pair i has the lowest-numbered proposer
pub record IsLowestPair (rotation : List (ℕ × ℕ)) (i : ℕ) : Type 0 where
  pub inside : i < length rotation
  pub least : (j : ℕ) → j < length rotation → proposer_at rotation i ≤ proposer_at rotation j

-- p is the lowest-numbered proposer
pub record IsLead (rotation : List (ℕ × ℕ)) (p : ℕ) : Type 0 where
  pub pair : ℕ
  pub lowest : IsLowestPair rotation pair
  pub is : proposer_at rotation pair ≡ p

-- the lowest-numbered proposers of the first n rotations
pub record AreLeads (rotations : List (List (ℕ × ℕ))) (n : ℕ) (leads : List ℕ) : Type 0 where
  pub one_each : length leads ≡ n
  pub each : (k : ℕ) → k < n → IsLead (rotation_at rotations k) (slice_index_or leads k 0)

-- the same cycle, begun at its lowest-numbered proposer
pub record IsTurned (rotation turned : List (ℕ × ℕ)) : Type 0 where
  pub from : ℕ
  pub lowest : IsLowestPair rotation from
  pub is : turned ≡ drop from rotation ++ take from rotation

-- the first n rotations are begun at their lowest-numbered proposers, and the others stay
pub record AreTurned (rotations : List (List (ℕ × ℕ))) (n : ℕ) (turned : List (List (ℕ × ℕ))) : Type 0 where
  pub one_each : length turned ≡ length rotations
  pub each : (k : ℕ) → k < n → IsTurned (rotation_at rotations k) (rotation_at turned k)
  pub others : (k : ℕ) → n ≤ k → rotation_at turned k ≡ rotation_at rotations k

-- the order of a heap whose first is the lowest
abbrev pub later_first : Reverse (ℕ × ℕ) → Reverse (ℕ × ℕ) → Ordering
later_first x y = ordering_then (nat_cmp y.0.0 x.0.0) (nat_cmp y.0.1 x.0.1)

-- how often a rotation stands in a heap
abbrev pub times_ready : List (Reverse (ℕ × ℕ)) → ℕ → ℕ
times_ready ready k = count_by (λ x. nat_eq x.0.1 k) ready

-- an item of the heap is a rotation with its lowest-numbered proposer
abbrev pub IsHeapEntry : List (List (ℕ × ℕ)) → Reverse (ℕ × ℕ) → Type 0
IsHeapEntry rotations x = (x.0.1 < length rotations) × IsLead (rotation_at rotations x.0.1) x.0.0

-- the heap has rotation k, whose lowest-numbered proposer is p, once more
pub record IsOneMore (p k : ℕ) (before after : List (Reverse (ℕ × ℕ))) : Type 0 where
  pub others : (j : ℕ) → j ≢ k → times_ready after j ≡ times_ready before j
  pub this : times_ready after k ≡ times_ready before k + 1
  pub entries : (rotations : List (List (ℕ × ℕ))) → k < length rotations → IsLead (rotation_at rotations k) p
      → All (IsHeapEntry rotations) before → All (IsHeapEntry rotations) after

-- the heap has once each of the first n rotations that needs no other
pub record AreReadyAtFirst (leads : List ℕ) (unmet : List ℕ) (n : ℕ) (ready : List (Reverse (ℕ × ℕ))) : Type 0 where
  pub entries : (rotations : List (List (ℕ × ℕ))) → AreLeads rotations (length rotations) leads → All (IsHeapEntry rotations) ready
  pub once : (k : ℕ) → k < n → slice_index_or unmet k 0 ≡ 0 → times_ready ready k ≡ 1
  pub waiting : (k : ℕ) → k < n → slice_index_or unmet k 0 ≢ 0 → times_ready ready k ≡ 0
  pub later : (k : ℕ) → n ≤ k → times_ready ready k ≡ 0

-- the count of a rotation falls, and where it falls to nothing the heap has the rotation once more
pub record IsFallen (unmet_before ready_before unmet_after ready_after : ℕ) : Type 0 where
  pub fallen : 0 < unmet_before → unmet_after ≡ 0 → ready_after ≡ ready_before + 1
  pub same : (unmet_before ≡ 0) ⊎ (0 < unmet_after) → ready_after ≡ ready_before

-- each rotation has one unmet need less for each time that it stands among the followers
pub record IsReleased (leads : List ℕ) (followers : List ℕ) (unmet : List ℕ) (ready : List (Reverse (ℕ × ℕ)))
    (unmet_after : List ℕ) (ready_after : List (Reverse (ℕ × ℕ))) : Type 0 where
  pub counts : (j : ℕ) → slice_index_or unmet_after j 0 + times followers j ≡ slice_index_or unmet j 0
  pub fallen : (j : ℕ) → IsFallen (slice_index_or unmet j 0) (times_ready ready j) (slice_index_or unmet_after j 0) (times_ready ready_after j)
  pub entries : (rotations : List (List (ℕ × ℕ))) → AreLeads rotations (length rotations) leads
      → All (IsHeapEntry rotations) ready → All (IsHeapEntry rotations) ready_after

-- a matching has passed rotation k: the first proposer of that has come down to where it moves it, or further
abbrev pub is_passed : Lists → Places → List (List (ℕ × ℕ)) → Places → ℕ → Bool
is_passed l first rotations m k =
    let p = proposer_at (rotation_at rotations k) 0 in
    nat_le (standing l.proposers (stage l first rotations (suc k)).proposers p) (standing l.proposers m.proposers p)

-- a matching has passed rotation k
abbrev pub IsPassed : Lists → Places → List (List (ℕ × ℕ)) → Places → ℕ → Type 0
IsPassed l first rotations m k = is_passed l first rotations m k ≡ true

-- how many of those that rotation k needs a matching hasn't passed
abbrev pub left_over : Lists → Places → List (List (ℕ × ℕ)) → List (List ℕ) → Places → ℕ → ℕ
left_over l first rotations followers m k = times_below (λ i. not (is_passed l first rotations m i)) followers k (length rotations)

-- at a matching the heap has once each rotation that isn't passed and has no unmet need, and the counts are those of the
-- needs that aren't passed
pub record AreReady (l : Lists) (first : Places) (rotations : List (List (ℕ × ℕ))) (followers : List (List ℕ)) (m : Places)
    (unmet : List ℕ) (ready : List (Reverse (ℕ × ℕ))) : Type 0 where
  pub one_each : length unmet ≡ length rotations
  pub counts : (k : ℕ) → k < length rotations → slice_index_or unmet k 0 ≡ left_over l first rotations followers m k
  pub entries : All (IsHeapEntry rotations) ready
  pub once : (k : ℕ) → k < length rotations → ¬ IsPassed l first rotations m k → slice_index_or unmet k 0 ≡ 0 → times_ready ready k ≡ 1
  pub passed : (k : ℕ) → k < length rotations → IsPassed l first rotations m k → times_ready ready k ≡ 0
  pub waiting : (k : ℕ) → k < length rotations → slice_index_or unmet k 0 ≢ 0 → times_ready ready k ≡ 0

-- the rotations written so far lead to a stable matching, each one the lowest at its turn, and the heap has what is ready there
pub record AreWritten (l : Lists) (first : Places) (rotations : List (List (ℕ × ℕ))) (followers : List (List ℕ)) (written : List (List (ℕ × ℕ)))
    (unmet : List ℕ) (ready : List (Reverse (ℕ × ℕ))) : Type 0 where
  pub stable : IsStable l (stage l first written (length written))
  pub leads : LeadsTo l first written (stage l first written (length written))
  pub heap : AreReady l first rotations followers (stage l first written (length written)) unmet ready

-- each rotation that a matching hasn't passed is left, begun at its lowest-numbered proposer
pub record AreLeft (l : Lists) (first : Places) (rotations : List (List (ℕ × ℕ))) (m : Places) (left : List (List (ℕ × ℕ))) : Type 0 where
  pub one_each : length left ≡ length rotations
  pub each : (k : ℕ) → k < length rotations → ¬ IsPassed l first rotations m k → IsTurned (rotation_at rotations k) (rotation_at left k)

-- which rotation of the chain was written n-th
abbrev pub number_at : List ℕ → ℕ → ℕ
number_at numbers n = slice_index_or numbers n 0

-- the numbers below n, rising, of those among the written ones that rotation k needs
abbrev pub AreNewNeeds : List (List ℕ) → List ℕ → (n k : ℕ) → List ℕ → Type 0
AreNewNeeds followers numbers n k list = IsRisingListOf (λ i. (i < n) × (0 < times (row followers (number_at numbers i)) k)) list

-- each rotation that is written is one of the chain, begun at its lowest proposer; with it are the new numbers of those that
-- it needs, and noted with each one that a matching hasn't passed are those that it needs among what is written
pub record AreRenumbered (l : Lists) (first : Places) (rotations : List (List (ℕ × ℕ))) (followers : List (List ℕ)) (m : Places)
    (written : List (List (ℕ × ℕ))) (noted needs : List (List ℕ)) : Type 0 where
  pub numbers : List ℕ
  pub numbers_each : length numbers ≡ length written
  pub in_range : (n : ℕ) → n < length written → number_at numbers n < length rotations
  pub turned : (n : ℕ) → n < length written → IsTurned (rotation_at rotations (number_at numbers n)) (rotation_at written n)
  pub noted_each : length noted ≡ length rotations
  pub lower : (k a : ℕ) → a < length (row noted k) → slice_index_or (row noted k) a 0 < length written
  pub noted_are : (k : ℕ) → k < length rotations → ¬ IsPassed l first rotations m k → AreNewNeeds followers numbers (length written) k (row noted k)
  pub needs_each : length needs ≡ length written
  pub needs_are : (n : ℕ) → n < length written → AreNewNeeds followers numbers n (number_at numbers n) (row needs n)
