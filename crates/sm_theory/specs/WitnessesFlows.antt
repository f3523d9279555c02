-- A net that is written out, and what is known of its flows and cuts.
use Rattle.std.specs.Prelude.{◌≡◌, ℕ, zero, suc, true, false, List, [], ◌∷◌, Some, ℤ, pos, negsuc}
use Rattle.sm_market.specs.Lists.{Lists}
use Rattle.sm_market.specs.Matching.{Places}
use Rattle.sm_theory.specs.Chains.{stage}
use Rattle.sm_theory.specs.ClosedSets.{matching_of}
use Rattle.sm_theory.specs.Vectors.{IsAllowed}
use Rattle.sm_theory.specs.Weights.{weight_of}
use Rattle.sm_theory.specs.Witnesses.{three_cycle, three_cycle_first, three_cycle_chain}
use Rattle.sm_theory.specs.Net.{Net, sink_of, IsUnbounded, NoneLeaves, IsCut, cut_of, IsReachable}
use Rattle.sm_theory.specs.Flows.{IsFlow, flow_value, IsResidualStep, IsResidualReach}
use Rattle.sm_theory.specs.Conditions.{entry_node, exit_node, allows_nothing, net_of, IsNetGround}

-- the places of the three proposers and being unmatched, as ranks
abbrev pub three_cycle_levels : List (List ℕ)
three_cycle_levels = (1 ∷ 2 ∷ 3 ∷ 4 ∷ []) ∷ (1 ∷ 2 ∷ 3 ∷ 4 ∷ []) ∷ (1 ∷ 2 ∷ 3 ∷ 4 ∷ []) ∷ []

-- proposer 0 weighs 4 at its second place and -10 at its third
abbrev pub three_cycle_weights : List (List ℤ)
three_cycle_weights = (pos 0 ∷ pos 4 ∷ negsuc 9 ∷ []) ∷ (pos 0 ∷ pos 0 ∷ pos 0 ∷ []) ∷ (pos 0 ∷ pos 0 ∷ pos 0 ∷ []) ∷ []

-- the second rotation needs the first
abbrev pub three_cycle_needs : List (List ℕ)
three_cycle_needs = [] ∷ (0 ∷ []) ∷ []

-- the net of these weights, without conditions
abbrev pub three_cycle_net : Net
three_cycle_net = net_of three_cycle three_cycle_levels three_cycle_weights [] [] three_cycle_first three_cycle_chain three_cycle_needs

-- 4 from the source by the second rotation and the first to the sink
abbrev pub three_cycle_flow : ℕ → ℕ → ℕ
three_cycle_flow zero (suc (suc zero)) = 4
three_cycle_flow (suc (suc zero)) (suc zero) = 4
three_cycle_flow (suc zero) (suc (suc (suc zero))) = 4
three_cycle_flow i j = 0

-- its value and the cut of its reach are 4, the reach has both rotations, and the matching weighs -10
abbrev pub WorkedNet : Type 0
WorkedNet = IsNetGround three_cycle three_cycle_levels three_cycle_first three_cycle_chain three_cycle_needs
    × IsFlow three_cycle_net three_cycle_flow
    × (flow_value three_cycle_net three_cycle_flow ≡ 4)
    × IsResidualReach three_cycle_net three_cycle_flow (true ∷ true ∷ [])
    × NoneLeaves three_cycle_net (IsResidualStep three_cycle_net three_cycle_flow) (true ∷ true ∷ [])
    × (cut_of three_cycle_net (true ∷ true ∷ []) ≡ 4)
    × (weight_of three_cycle three_cycle_weights (matching_of three_cycle three_cycle_first three_cycle_chain (true ∷ true ∷ [])) ≡ negsuc 9)

-- where proposer 0 may have none of its three levels, unbounded edges lead from the source to the sink
abbrev pub barred_net : Net
barred_net = net_of three_cycle three_cycle_levels three_cycle_weights [] ((0, 1) ∷ (0, 2) ∷ (0, 3) ∷ []) three_cycle_first three_cycle_chain three_cycle_needs

-- some path of unbounded edges leads from the source to the sink
abbrev pub BarredNet : Type 0
BarredNet = IsReachable (IsUnbounded barred_net) 0 (sink_of barred_net)

-- the level in the middle forced on proposer 0, and the same forbidden: the first rotation takes it there and the second
-- from there
abbrev pub middle : List (ℕ × ℕ)
middle = (0, 2) ∷ []

-- the net with the level in the middle forced
abbrev pub forced_net : Net
forced_net = net_of three_cycle three_cycle_levels three_cycle_weights middle [] three_cycle_first three_cycle_chain three_cycle_needs

-- the net with the level in the middle forbidden
abbrev pub forbidden_net : Net
forbidden_net = net_of three_cycle three_cycle_levels three_cycle_weights [] middle three_cycle_first three_cycle_chain three_cycle_needs

-- forced, the matching in the middle is allowed and the first one isn't; forbidden, it is the other way round. The sets
-- of what is allowed are cuts, and those of what isn't are none.
abbrev pub MiddleLevel : Type 0
MiddleLevel = (entry_node three_cycle three_cycle_levels three_cycle_first three_cycle_chain 0 2 ≡ 1)
    × (exit_node three_cycle three_cycle_levels three_cycle_chain 0 2 ≡ 2)
    × IsAllowed three_cycle_levels middle [] (stage three_cycle three_cycle_first three_cycle_chain 1)
    × (¬ IsAllowed three_cycle_levels middle [] three_cycle_first)
    × IsCut forced_net (true ∷ false ∷ [])
    × (¬ IsCut forced_net (false ∷ false ∷ []))
    × (¬ IsCut forced_net (true ∷ true ∷ []))
    × IsAllowed three_cycle_levels [] middle three_cycle_first
    × (¬ IsAllowed three_cycle_levels [] middle (stage three_cycle three_cycle_first three_cycle_chain 1))
    × IsCut forbidden_net (false ∷ false ∷ [])
    × IsCut forbidden_net (true ∷ true ∷ [])
    × (¬ IsCut forbidden_net (true ∷ false ∷ []))

-- a proposer and a reviewer who list each other alone
abbrev pub lone_pair : Lists
lone_pair = record { proposers = (0 ∷ []) ∷ []; reviewers = (0 ∷ []) ∷ [] }

-- their one stable matching
abbrev pub lone_pair_first : Places
lone_pair_first = record { proposers = Some 0 ∷ []; reviewers = Some 0 ∷ [] }

-- their place and being unmatched, as ranks
abbrev pub lone_pair_levels : List (List ℕ)
lone_pair_levels = (1 ∷ 2 ∷ []) ∷ []

-- Nothing is allowed where proposer 0 of the three, who always has a partner, is forced to have none, or where the lone pair is
-- forbidden. Something may be where the level in the middle is forced or forbidden, or the lone pair forced.
abbrev pub NothingAllowed : Type 0
NothingAllowed = (allows_nothing three_cycle three_cycle_levels ((0, 4) ∷ []) [] three_cycle_first three_cycle_chain ≡ true)
    × (allows_nothing lone_pair lone_pair_levels [] ((0, 1) ∷ []) lone_pair_first [] ≡ true)
    × (allows_nothing three_cycle three_cycle_levels middle middle three_cycle_first three_cycle_chain ≡ false)
    × (allows_nothing lone_pair lone_pair_levels ((0, 1) ∷ []) [] lone_pair_first [] ≡ false)
