-- A market with a rotation that precedes another by two steps alone, one with a predecessor of the second kind alone, and one
-- whose two rotations don't precede each other.
use Rattle.std.specs.Prelude.{ℕ, List, [], ◌∷◌, Some}
use Rattle.sm_market.specs.Lists.{Lists, IsMarket}
use Rattle.sm_market.specs.Matching.{Places}
use Rattle.sm_theory.specs.Chains.{rotation_at, IsPrintedChain, MovesItBefore}
use Rattle.sm_theory.specs.Witnesses.{passed_seat, passed_seat_chain}
use Rattle.sm_theory.specs.WitnessesListing.{two_pairs, two_pairs_chain}
use Rattle.sm_law_order.specs.Order.{IsPredecessor, Precedes}

-- four proposers of whom each but the last, one after the other, exchanges its reviewer with the next one
abbrev pub in_a_row : Lists
in_a_row = record {
  proposers = (0 ∷ 1 ∷ []) ∷ (1 ∷ 0 ∷ 2 ∷ []) ∷ (2 ∷ 0 ∷ 3 ∷ []) ∷ (3 ∷ 0 ∷ []) ∷ [];
  reviewers = (3 ∷ 2 ∷ 1 ∷ 0 ∷ []) ∷ (0 ∷ 1 ∷ []) ∷ (1 ∷ 2 ∷ []) ∷ (2 ∷ 3 ∷ []) ∷ [];
}

-- in its proposers' best each proposer has its first choice
abbrev pub in_a_row_first : Places
in_a_row_first = record { proposers = Some 0 ∷ Some 0 ∷ Some 0 ∷ Some 0 ∷ []; reviewers = Some 3 ∷ Some 1 ∷ Some 1 ∷ Some 1 ∷ [] }

-- its complete chain: reviewer 0 goes from proposer 0 to 1, then to 2, then to 3
abbrev pub in_a_row_chain : List (List (ℕ × ℕ))
in_a_row_chain = ((0, 0) ∷ (1, 1) ∷ []) ∷ ((1, 0) ∷ (2, 2) ∷ []) ∷ ((2, 0) ∷ (3, 3) ∷ []) ∷ []

-- the first rotation is a predecessor of the second, and the second of the third; the first isn't one of the third, and
-- still precedes it
abbrev pub InARow : Type 0
InARow = IsMarket in_a_row × IsPrintedChain in_a_row in_a_row_first in_a_row_chain
    × IsPredecessor in_a_row in_a_row_chain 0 1 × IsPredecessor in_a_row in_a_row_chain 1 2
    × (¬ IsPredecessor in_a_row in_a_row_chain 0 2)
    × Precedes in_a_row in_a_row_chain 0 2

-- a rotation precedes another of which it is a predecessor of the second kind alone
abbrev pub OverASeat : Type 0
OverASeat = Precedes passed_seat passed_seat_chain 0 1 × (¬ MovesItBefore (rotation_at passed_seat_chain 0) (rotation_at passed_seat_chain 1))

-- of two rotations that don't need each other neither precedes the other
abbrev pub Apart : Type 0
Apart = (¬ Precedes two_pairs two_pairs_chain 0 1) × (¬ Precedes two_pairs two_pairs_chain 1 0)
