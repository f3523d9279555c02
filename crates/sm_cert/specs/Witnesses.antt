-- Worked answers and their verdicts, so that the definition of a verdict is not about nothing.
use Rattle.std.specs.Prelude.{ℕ, List, [], ◌∷◌, None, codes}
use Rattle.sm_agents.specs.Written.{AgentData, Written, plain_written}
use Rattle.sm_instance.specs.declared.inputs.Input.TheVariants.{Two, Room}
use Rattle.sm_agents.specs.declared.kinds.Kind.TheVariants.{Marriage}
use Rattle.sm_report.specs.Heads.{HeadData}
use Rattle.sm_report.specs.Lines.{LineData}
use Rattle.sm_report.specs.Witnesses.{first_seat_of}
use Rattle.sm_check_clauses.specs.declared.verdicts.Reason.TheVariants as reason
use Rattle.sm_check_clauses.specs.declared.verdicts.Verdict.TheVariants as verdict
use Rattle.sm_check_clauses.specs.Verdicts.{IsVerdict}
use Rattle.sm_check_clauses.specs.Judging.{Holds, IsJudged}

-- an agent of this name with one place, on a line of its own
abbrev pub agent : List ℕ → ℕ → List ℕ → AgentData
agent name line entries = record { name = name; capacity = 1; line = line; entries = entries }

-- five persons with an odd party of three
abbrev pub five : List AgentData
five =
    agent (codes "1") 2 (1 ∷ 2 ∷ 3 ∷ [])
    ∷ agent (codes "2") 3 (2 ∷ 0 ∷ 3 ∷ [])
    ∷ agent (codes "3") 4 (0 ∷ 1 ∷ 3 ∷ [])
    ∷ agent (codes "4") 5 (0 ∷ 1 ∷ 2 ∷ [])
    ∷ agent (codes "5") 6 (0 ∷ 4 ∷ [])
    ∷ []

-- the lines behind their `end`, with the party in this order
abbrev pub odd_answer : List ℕ → List (List ℕ)
odd_answer party = codes "answer solve" ∷ codes "none" ∷ party ∷ codes "party 4" ∷ codes "party 5" ∷ codes "end" ∷ []

-- an answer that there is no stable matching, with this party and two of one person each
abbrev pub odd_lines : List ℕ → List LineData
odd_lines party =
    LineData.Answer (HeadData.Solve None)
    ∷ LineData.Nothing
    ∷ LineData.Party party
    ∷ LineData.Party (3 ∷ [])
    ∷ LineData.Party (4 ∷ [])
    ∷ LineData.End
    ∷ []

-- the party is right in its order, and wrong in the other one, which `end` shows
abbrev pub OddAnswers : Type 0
OddAnswers = IsJudged (Room five) (odd_answer (codes "party 1 2 3")) 8 verdict.Yes
    × IsJudged (Room five) (odd_answer (codes "party 1 3 2")) 8 (verdict.No 13 reason.NotPartition)

-- two proposers and two reviewers, each of whom likes another of the proposers
abbrev pub two_by_two : Written
two_by_two = plain_written Marriage
    (agent (codes "m1") 2 (0 ∷ 1 ∷ []) ∷ agent (codes "m2") 3 (1 ∷ 0 ∷ []) ∷ [])
    (agent (codes "a") 4 (1 ∷ 0 ∷ []) ∷ agent (codes "b") 5 (0 ∷ 1 ∷ []) ∷ [])
    [] [] []

-- the reviewers' best matching in place of the proposers' best one, and no rotation
abbrev pub worst_first : List LineData
worst_first = LineData.Answer HeadData.Rotations ∷ LineData.First 0 (first_seat_of 1) ∷ LineData.First 1 (first_seat_of 0) ∷ LineData.End ∷ []

-- it is stable, and it isn't the best one
abbrev pub FirstIsntBest : Type 0
FirstIsntBest = IsVerdict (Holds (Two two_by_two) worst_first) 7 (verdict.No 10 reason.NotBest)
