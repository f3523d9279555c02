-- What a `Pairing` tells.
use Rattle.std.specs.Prelude.{◌≡◌, ℕ, List, Option, length}
use Rattle.std.specs.Option.{option_map}
use Rattle.sm_market.specs.Lists.{Lists, entry}
use Rattle.sm_market.specs.Matching.{Places, IsMatching, held}

-- the place of each agent's partner on its own list, and the number of each reviewer's proposer
pub record Paired : Type 0 where
  pub places : Places
  pub holders : List (Option ℕ)

-- a pairing of the proposers' places, the reviewers' places, and the reviewers' proposers
abbrev pub paired : (proposers reviewers holders : List (Option ℕ)) → Paired
paired proposers reviewers holders = record { places = record { proposers = proposers; reviewers = reviewers }; holders = holders }

-- a pairing that was made for these lists: a matching of them, in which the proposer that a reviewer has is the one
-- at the reviewer's place
pub record IsPairingOf (l : Lists) (m : Paired) : Type 0 where
  pub matching : IsMatching l m.places
  pub one_each : length m.holders ≡ length l.reviewers
  pub names : (r : ℕ) → held m.holders r ≡ option_map (entry l.reviewers r) (held m.places.reviewers r)
