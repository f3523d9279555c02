-- The laws of closed sets in the order of their matchings, and of listings. Each is the contract of a function of `laws`.
use Rattle.std.specs.Prelude.{◌≡◌, ◌≢◌, ℕ, ◌+◌, ◌<◌, ◌≤◌, ◌⊎◌, ◌↔◌, ◌++◌, Bool, List, Option, Some, length}
use Rattle.sm_market.specs.Lists.{Lists, place_of, IsMarket}
use Rattle.sm_market.specs.Matching.{Places, held, standing}
use Rattle.sm_market.specs.Stable.{IsStable}
use Rattle.sm_theory.specs.Choices.{join_of}
use Rattle.sm_theory.specs.Rotations.{DoesMove, reviewer_before, reviewer_after}
use Rattle.sm_theory.specs.Chains.{rotation_at, IsCompleteChain}
use Rattle.sm_theory.specs.ClosedSets.{IsMember, IsClosed, matching_of}
use Rattle.sm_theory.specs.Vectors.{IsOrder, IsBefore, IsAllowed, IsWithin, IsAllowedVector}
use Rattle.sm_theory.specs.Listings.{IsNextListed, IsNoneBehind, end_of, IsListing}

-- of two closed sets one is inside the other exactly where no proposer stands worse in its matching
-- (Gusfield and Irving 1989, theorem 2.5.7)
abbrev pub SetsAreOrdered : Type 0
SetsAreOrdered = (l : Lists) (first : Places) (rotations : List (List (ℕ × ℕ))) (set other : List Bool)
    → IsMarket l → IsCompleteChain l first rotations → IsClosed l rotations set → IsClosed l rotations other
    → ((k : ℕ) → k < length rotations → IsMember set k → IsMember other k)
    ↔ ((p : ℕ) → standing l.proposers (matching_of l first rotations set).proposers p
    ≤ standing l.proposers (matching_of l first rotations other).proposers p)

-- the first rotation of a complete chain that moves p takes it from its first reviewer, and each later one from the
-- reviewer to which the last one before moved it
abbrev pub MovesFollow : Type 0
MovesFollow = (l : Lists) (first : Places) (rotations : List (List (ℕ × ℕ))) (p k : ℕ)
    → IsMarket l → IsCompleteChain l first rotations → k < length rotations → DoesMove (rotation_at rotations k) p
    → (((j : ℕ) → j < k → ¬ DoesMove (rotation_at rotations j) p)
    → held first.proposers p ≡ Some (place_of l.proposers p (reviewer_before (rotation_at rotations k) p)))
    × ((j : ℕ) → j < k → DoesMove (rotation_at rotations j) p
    → ((i : ℕ) → j < i → i < k → ¬ DoesMove (rotation_at rotations i) p)
    → reviewer_after (rotation_at rotations j) p ≡ reviewer_before (rotation_at rotations k) p)

-- a closed set in whose matching p stands worse than in another's has the first of the rotations outside the other that
-- move p
abbrev pub NextMoveIsIn : Type 0
NextMoveIsIn = (l : Lists) (first : Places) (rotations : List (List (ℕ × ℕ))) (set other : List Bool) (p k : ℕ)
    → IsMarket l → IsCompleteChain l first rotations → IsClosed l rotations set → IsClosed l rotations other
    → standing l.proposers (matching_of l first rotations set).proposers p
    < standing l.proposers (matching_of l first rotations other).proposers p
    → k < length rotations → DoesMove (rotation_at rotations k) p
    → ((j : ℕ) → j < k → DoesMove (rotation_at rotations j) p → IsMember set j)
    → IsMember other k

-- the stable matchings within level bounds and conditions are closed under join
abbrev pub JoinKeepsBounds : Type 0
JoinKeepsBounds = (l : Lists) (levels : List (List ℕ)) (low high : List ℕ) (forced forbidden : List (ℕ × ℕ)) (m n : Places)
    → IsMarket l → IsStable l m → IsStable l n → IsWithin l levels low high m → IsWithin l levels low high n
    → IsAllowed levels forced forbidden m → IsAllowed levels forced forbidden n
    → IsWithin l levels low high (join_of l m n) × IsAllowed levels forced forbidden (join_of l m n)

-- the order of vectors is a strict one, and of two vectors of one length that differ one is before the other
abbrev pub VectorsAreOrdered : Type 0
VectorsAreOrdered = (count : ℕ) (order : List ℕ) → IsOrder count order
    → ((v : List ℕ) → ¬ IsBefore order v v)
    × ((u v w : List ℕ) → IsBefore order u v → IsBefore order v w → IsBefore order u w)
    × ((v w : List ℕ) → length v ≡ count → length w ≡ count → v ≢ w → IsBefore order v w ⊎ IsBefore order w v)

-- behind each cursor there is a least level vector of an allowed stable matching, or there is none
abbrev pub NextVector : Type 0
NextVector = (l : Lists) (first : Places) (rotations : List (List (ℕ × ℕ))) (levels : List (List ℕ))
    (forced forbidden : List (ℕ × ℕ)) (order : List ℕ) (cursor : Option (List ℕ))
    → IsMarket l → IsCompleteChain l first rotations → IsOrder (length l.proposers) order
    → ((v : List ℕ) × IsNextListed (IsBefore order) (IsAllowedVector l levels forced forbidden) cursor v)
    ⊎ IsNoneBehind (IsBefore order) (IsAllowedVector l levels forced forbidden) cursor

-- for each cursor and each limit there is a listing
abbrev pub ListingExists : Type 0
ListingExists = (l : Lists) (first : Places) (rotations : List (List (ℕ × ℕ))) (levels : List (List ℕ))
    (forced forbidden : List (ℕ × ℕ)) (order : List ℕ) (cursor : Option (List ℕ)) (limit : ℕ)
    → IsMarket l → IsCompleteChain l first rotations → IsOrder (length l.proposers) order
    → (out : List (List ℕ)) × (more : Bool)
    × IsListing (IsBefore order) (IsAllowedVector l levels forced forbidden) cursor limit out more

-- and no more than one
abbrev pub OneListing : Type 0
OneListing = (l : Lists) (levels : List (List ℕ)) (forced forbidden : List (ℕ × ℕ)) (order : List ℕ)
    (cursor : Option (List ℕ)) (limit : ℕ) (out other : List (List ℕ)) (more again : Bool)
    → IsListing (IsBefore order) (IsAllowedVector l levels forced forbidden) cursor limit out more
    → IsListing (IsBefore order) (IsAllowedVector l levels forced forbidden) cursor limit other again
    → (out ≡ other) × (more ≡ again)

-- a listing that goes on from where another ended makes with it the listing up to both limits
abbrev pub ListingResumes : Type 0
ListingResumes = (l : Lists) (levels : List (List ℕ)) (forced forbidden : List (ℕ × ℕ)) (order : List ℕ)
    (cursor : Option (List ℕ)) (limit again : ℕ) (out rest : List (List ℕ)) (more after : Bool)
    → IsListing (IsBefore order) (IsAllowedVector l levels forced forbidden) cursor limit out more
    → IsListing (IsBefore order) (IsAllowedVector l levels forced forbidden) (end_of cursor out) again rest after
    → IsListing (IsBefore order) (IsAllowedVector l levels forced forbidden) cursor (limit + again) (out ++ rest) after
