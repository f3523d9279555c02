-- The lightest allowed matching by the seats of an instance.
use Rattle.std.specs.Prelude.{◌≡◌, All}
use Rattle.sm_agents.specs.Written.{Written}
use Rattle.sm_instance.specs.Ranks.{weight_of, second_of}
use Rattle.sm_market.specs.Pairing.{IsPairingOf}
use Rattle.sm_report.specs.Sound.{IsSmall, IsLarge}
use Rattle.sm_seats.specs.Seating.{Seating, written_of, levels_of}
use Rattle.sm_seats.specs.Correspondence.{leveled, weights_of}
use Rattle.sm_theory.specs.declared.flow_lines.FlowLine.{FlowLine}
use Rattle.sm_weight.specs.Lightest.{IsLightestFound, set_matching}
use Rattle.sm_seats.specs.PlaceWeights.{AreLight}
use Rattle.sm_seats.specs.Levels.{has_two_levels, seconds_by}
use Rattle.sm_answer_weight.specs.declared.lightest_parts.Lightest.{Lightest}

-- the numbers of a line of a flow have 32 and 64 bits
pub record IsFlowLine (line : FlowLine) : Type 0 where
  pub from : IsSmall line.from
  pub to : IsSmall line.to
  pub amount : IsLarge line.amount

-- what is found is read off the lightest allowed matching of the seats
pub record IsLightestOfSeats (w : Written) (s : Seating) (found : Lightest) : Type 0 where
  pub market : found.poset.lists ≡ s.market
  pub made : IsPairingOf s.market found.matching
  pub places : found.matching.places ≡ set_matching found.poset found.in_market.set.members.items
  pub lightest : IsLightestFound found.poset (levels_of s) (weights_of found.by w s) (seconds_by found.by w s)
      (leveled w w.forced) (leveled w w.forbidden) found.in_market
  pub two_levels : found.two_levels ≡ has_two_levels found.by w
  pub numbers : All IsFlowLine found.in_market.flow.items
  pub second_numbers : All IsFlowLine found.in_market.flow2.items
  pub light : AreLight (weights_of found.by w s)
  pub second_light : AreLight (seconds_by found.by w s)
  pub total : found.total ≡ weight_of found.by w (written_of s found.matching.places.proposers)
  pub second_total : found.second_total ≡ second_of found.by w (written_of s found.matching.places.proposers)
