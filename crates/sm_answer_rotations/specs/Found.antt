-- What is found in a market.
use Rattle.std.specs.Prelude.{◌≡◌, ◌<◌, ◌^◌, length}
use Rattle.sm_market.specs.Lists.{Lists}
use Rattle.sm_market.specs.Pairing.{IsPairingOf}
use Rattle.sm_market.specs.Reduced.{reduced_lists_of}
use Rattle.sm_market.specs.Stable.{IsProposersBest, IsReviewersBest}
use Rattle.sm_market.specs.Vectors.{lists_of, rows_of}
use Rattle.sm_theory.specs.Chains.{IsPrintedChain, AreNeeds}
use Rattle.sm_theory.specs.Values.{rotations_of}
use Rattle.sm_rotations.specs.declared.order.ChainWithNeeds.{ChainWithNeeds}
use Rattle.sm_answer_rotations.specs.declared.reduction.Reduction.{Reduction}

-- the best matchings of both sides, and the reduced lists between them
pub record IsReductionOf (l : Lists) (r : Reduction) : Type 0 where
  pub first_made : IsPairingOf l r.first
  pub last_made : IsPairingOf l r.last
  pub proposers_best : IsProposersBest l r.first.places
  pub reviewers_best : IsReviewersBest l r.last.places
  pub reduced : lists_of r.lists.proposers.items r.lists.reviewers.items ≡ reduced_lists_of l r.first.places r.last.places

-- the printed chain of rotations from the proposers' best matching on, and what each rotation needs
pub record AreRotationsOf (l : Lists) (found : ChainWithNeeds) : Type 0 where
  pub made : IsPairingOf l found.chain.first
  pub printed : IsPrintedChain l found.chain.first.places (rotations_of found.chain.rotations.items)
  pub needs : AreNeeds l (rotations_of found.chain.rotations.items) (rows_of found.needs.items)
  pub few : length found.chain.rotations.items < 2 ^ 24
