-- The clauses on what is claimed behind the rotations, over what is kept.
use Rattle.std.specs.Prelude.{◌≡◌, ℕ, Bool, List, Option, ℤ}
use Rattle.sm_agents.specs.Written.{Written}
use Rattle.sm_instance.specs.Ranks.{weight_of, second_weight_of}
use Rattle.sm_agents.specs.declared.kinds.Measure.{Measure}
use Rattle.sm_theory.specs.Net.{Net, cut_of}
use Rattle.sm_theory.specs.Flows.{IsResidualReach}
use Rattle.sm_theory.specs.FlowLines.{amount_on, amount_from}
use Rattle.sm_theory.specs.declared.flow_lines.FlowLine.{FlowLine}
use Rattle.sm_check_clauses.specs.declared.verdicts.Reason.{Reason}
use Rattle.sm_check_clauses.specs.declared.verdicts.Reason.TheVariants as reason
use Rattle.sm_check_clauses.specs.Pairs.{AreAllThere}

-- of the value of a flow
abbrev pub ValueHolds : List FlowLine → ℕ → Reason → Type 0
ValueHolds flow value reason.WrongValue = value ≡ amount_from flow 0
ValueHolds flow value _ = Unit {0}

-- of the cut of a set, where this is said of the value
abbrev pub CutHolds : Net → List Bool → (value cut : ℕ) → Reason → Type 0
CutHolds net set value cut reason.WrongCut = cut ≡ cut_of net set
CutHolds net set value cut reason.CutDiffers = cut ≡ value
CutHolds net set value cut _ = Unit {0}

-- of the weight of a matching
abbrev pub TotalHolds : Written → Measure → List (Option ℕ) → ℤ → Reason → Type 0
TotalHolds w by matching total reason.WrongTotal = total ≡ weight_of by w matching
TotalHolds w by matching total _ = Unit {0}

-- of its second sum
abbrev pub SecondTotalHolds : Written → List (Option ℕ) → ℤ → Reason → Type 0
SecondTotalHolds w matching total reason.WrongTotal = total ≡ second_weight_of w matching
SecondTotalHolds w matching total _ = Unit {0}

-- at the end, of the pairs of a matching and the set
abbrev pub EndHolds : Net → List FlowLine → List Bool → List (Option ℕ) → List (ℕ × ℕ) → Reason → Type 0
EndHolds net flow set matching pairs reason.WrongPair = AreAllThere matching pairs
EndHolds net flow set matching pairs reason.NotLeast = IsResidualReach net (amount_on flow) set
EndHolds net flow set matching pairs _ = Unit {0}
