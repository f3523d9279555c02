-- What a `Poset` tells: the rotations of a market's complete chain, which with their predecessors are its rotation poset.
use Rattle.std.specs.Prelude.{ℕ, ◌<◌, ◌^◌, List, length}
use Rattle.sm_market.specs.Lists.{Lists, IsMarket}
use Rattle.sm_market.specs.Limits.{IsWithinLimits}
use Rattle.sm_market.specs.Pairing.{Paired, IsPairingOf}
use Rattle.sm_theory.specs.Chains.{IsPrintedChain}

-- the lists of the market, the first matching of its chain, and the chain's rotations
-- (Gusfield and Irving 1989, section 2.5)
pub record RotationPoset : Type 0 where
  pub lists : Lists
  pub first : Paired
  pub rotations : List (List (ℕ × ℕ))

-- the poset of a market with its first matching and the rotations of its chain
abbrev pub poset_of : Lists → Paired → List (List (ℕ × ℕ)) → RotationPoset
poset_of lists first rotations = record { lists = lists; first = first; rotations = rotations }

-- the lists are a market's, and the chain is the printed one of that market; there are so few rotations that a `u32`
-- numbers them
pub record IsPoset (poset : RotationPoset) : Type 0 where
  pub market : IsMarket poset.lists
  pub limits : IsWithinLimits poset.lists
  pub first : IsPairingOf poset.lists poset.first
  pub printed : IsPrintedChain poset.lists poset.first.places poset.rotations
  pub few : length poset.rotations < 2 ^ 24
