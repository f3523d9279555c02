-- Three proposers and three reviewers, the answer of `weight by=given` over them, and what is wrong with others.
use Rattle.std.specs.Prelude.{◌≡◌, ℕ, true, List, [], ◌∷◌, codes, pos, negsuc}
use Rattle.sm_agents.specs.Written.{Written, plain_written}
use Rattle.sm_agents.specs.declared.kinds.Kind.TheVariants.{Marriage}
use Rattle.sm_agents.specs.declared.kinds.Measure.TheVariants.{Given}
use Rattle.sm_instance.specs.declared.inputs.Input.TheVariants.{Two}
use Rattle.sm_report.specs.Heads.{HeadData}
use Rattle.sm_report.specs.Lines.{LineData}
use Rattle.sm_report.specs.Texts.{SINK}
use Rattle.sm_theory.specs.Witnesses.{three_cycle, three_cycle_first, three_cycle_chain}
use Rattle.sm_theory.specs.WitnessesFlows.{three_cycle_weights, three_cycle_levels, three_cycle_needs}
use Rattle.sm_seats.specs.SeatMarket.{seat_market}
use Rattle.sm_seats.specs.Seating.{seating_of, levels_of}
use Rattle.sm_seats.specs.Correspondence.{weights_of}
use Rattle.sm_check_clauses.specs.declared.verdicts.Reason.TheVariants as reason
use Rattle.sm_check_clauses.specs.declared.verdicts.Verdict.TheVariants as verdict
use Rattle.sm_check_forms.specs.Layouts.{is_whole}
use Rattle.sm_check_forms.specs.Forms.{is_placed}
use Rattle.sm_check_clauses.specs.Verdicts.{IsVerdict}
use Rattle.sm_check_clauses.specs.Said.{rotations_in, all_needs_in}
use Rattle.sm_check_clauses.specs.SeatMatchings.{first_of}
use Rattle.sm_check_clauses.specs.Judging.{Holds}
use Rattle.sm_cert.specs.Witnesses.{agent}
use Rattle.sm_report.specs.Witnesses.{first_seat_of}

-- each proposer likes another reviewer best, and each reviewer another proposer; the first proposer weighs 4 with b and -10
-- with c
abbrev pub three_by_three : Written
three_by_three = plain_written Marriage
    (agent (codes "m1") 2 (0 ∷ 1 ∷ 2 ∷ []) ∷ agent (codes "m2") 3 (1 ∷ 2 ∷ 0 ∷ []) ∷ agent (codes "m3") 4 (2 ∷ 0 ∷ 1 ∷ []) ∷ [])
    (agent (codes "a") 5 (1 ∷ 2 ∷ 0 ∷ []) ∷ agent (codes "b") 6 (2 ∷ 0 ∷ 1 ∷ []) ∷ agent (codes "c") 7 (0 ∷ 1 ∷ 2 ∷ []) ∷ [])
    ((0, 1, pos 4) ∷ (0, 2, negsuc 9) ∷ []) [] []

-- an answer with these amounts on its three edges and this value
abbrev pub weight_lines : (to_second from_first to_first value : ℕ) → List LineData
weight_lines to_second from_first to_first value =
    LineData.Answer (HeadData.Weight Given)
    ∷ LineData.First 0 (first_seat_of 0)
    ∷ LineData.First 1 (first_seat_of 1)
    ∷ LineData.First 2 (first_seat_of 2)
    ∷ LineData.Rotation 1 ((0, first_seat_of 0) ∷ (1, first_seat_of 1) ∷ (2, first_seat_of 2) ∷ [])
    ∷ LineData.Needs 1 []
    ∷ LineData.Gain 1 (pos 4)
    ∷ LineData.Rotation 2 ((0, first_seat_of 1) ∷ (1, first_seat_of 2) ∷ (2, first_seat_of 0) ∷ [])
    ∷ LineData.Needs 2 (1 ∷ [])
    ∷ LineData.Gain 2 (negsuc 13)
    ∷ LineData.Flow 0 2 to_second
    ∷ LineData.Flow 1 SINK from_first
    ∷ LineData.Flow 2 1 to_first
    ∷ LineData.Taken (1 ∷ 2 ∷ [])
    ∷ LineData.Value value
    ∷ LineData.Cut 4
    ∷ LineData.Total (negsuc 9)
    ∷ LineData.Pair 0 2
    ∷ LineData.Pair 1 0
    ∷ LineData.Pair 2 1
    ∷ LineData.End
    ∷ []

-- the instance is the known market, and what is written is its chain
abbrev pub WrittenIsKnown : Type 0
WrittenIsKnown = (seat_market three_by_three ≡ three_cycle)
    × (weights_of Given three_by_three (seating_of three_by_three) ≡ three_cycle_weights)
    × (levels_of (seating_of three_by_three) ≡ three_cycle_levels)
    × (first_of three_by_three (weight_lines 4 4 4 4) ≡ three_cycle_first)
    × (rotations_in three_by_three (weight_lines 4 4 4 4) ≡ three_cycle_chain)
    × (all_needs_in (weight_lines 4 4 4 4) ≡ three_cycle_needs)
    × (is_placed is_whole (Two three_by_three) (weight_lines 4 4 4 4) ≡ true)

-- the answer is right; a flow that isn't conserved; a flow that doesn't come up to the cut
abbrev pub WeightAnswers : Type 0
WeightAnswers = IsVerdict (Holds (Two three_by_three) (weight_lines 4 4 4 4)) 11 verdict.Yes
    × IsVerdict (Holds (Two three_by_three) (weight_lines 3 4 4 4)) 11 (verdict.No 24 reason.NotConserved)
    × IsVerdict (Holds (Two three_by_three) (weight_lines 3 3 3 3)) 11 (verdict.No 26 reason.CutDiffers)
