-- A chain has fewer than 2^24 rotations.
use Rattle.std.proofs.Common.{ℕ, ◌<◌, ◌^◌, arith, List, length}
use Rattle.sm_market.specs.Lists.{Lists, IsMarket}
use Rattle.sm_market.specs.Matching.{Places, IsMatching}
use Rattle.sm_market.specs.Limits.{IsWithinLimits}
use Rattle.sm_theory.specs.Chains.{AreEliminable, IsCompleteChain}
use Rattle.sm_theory.proofs.Bridge.Chain.{eliminable_of}
use Rattle.sm_theory.proofs.Chains.Length.{short_eliminable}

-- rotations that can be eliminated in turn are fewer than 2^24
pub few_eliminable : {l : Lists} {first : Places} {rotations : List (List (ℕ × ℕ))} → IsMarket l → IsWithinLimits l → IsMatching l first → AreEliminable l first rotations → length rotations < 2 ^ 24
few_eliminable h limits f chain = omega (arith, short_eliminable h f chain, limits.proposers.entries)

-- so are those of a complete chain
pub few_rotations : {l : Lists} {first : Places} {rotations : List (List (ℕ × ℕ))} → IsMarket l → IsWithinLimits l → IsCompleteChain l first rotations → length rotations < 2 ^ 24
few_rotations h limits chain = few_eliminable h limits chain.from_best.stable.matching (eliminable_of chain)
