-- Small instances, printed and read back.
use Rattle.std.specs.Prelude.{◌≡◌, ℕ, ◌≤◌, List, [], ◌∷◌, length, codes, Ok}
use Rattle.sm_text.specs.Limits.{most_bytes}
use Rattle.sm_agents.specs.Written.{AgentData, Written}
use Rattle.sm_instance.specs.Inputs.{IsInput}
use Rattle.sm_instance.specs.declared.inputs.Input.TheVariants.{Two, Room}
use Rattle.sm_reader.specs.InstanceText.{instance_text}
use Rattle.sm_instance_lines.specs.Witnesses.{agent, marriage, ordered, hospitals, persons}
use Rattle.sm_law_reprint.specs.Reading.{printed_text}

-- what the law asks for
abbrev pub MarriageIsSound : Type 0
MarriageIsSound = IsInput (Two marriage) × (length (printed_text (Two marriage)) ≤ most_bytes)

-- an agent on the line of its declaration
abbrev pub placed : ℕ → List ℕ → ℕ → List ℕ → AgentData
placed line name capacity entries = record (agent name capacity entries) { line = line }

-- the marriage with the lines on which it is printed
abbrev pub marriage_again : Written
marriage_again = record marriage {
  proposers = placed 2 (codes "a") 1 (1 ∷ 0 ∷ []) ∷ placed 3 (codes "b-2") 1 (0 ∷ []) ∷ [];
  reviewers = placed 4 (codes "a") 1 (0 ∷ 1 ∷ []) ∷ placed 5 (codes "y") 1 [] ∷ [];
}

-- the text of the marriage means the marriage again
abbrev pub MarriageReadBack : Type 0
MarriageReadBack = instance_text (printed_text (Two marriage)) ≡ Ok (record { input = Two marriage_again; header_line = 1; rest = 119; rest_line = 12 })

-- the marriage with a second weight and an order, with the lines on which it is printed
abbrev pub ordered_again : Written
ordered_again = record ordered { proposers = marriage_again.proposers; reviewers = marriage_again.reviewers }

-- its text means it again
abbrev pub OrderedReadBack : Type 0
OrderedReadBack = instance_text (printed_text (Two ordered)) ≡ Ok (record { input = Two ordered_again; header_line = 1; rest = 134; rest_line = 13 })

-- the hospitals with the lines on which they are printed
abbrev pub hospitals_again : Written
hospitals_again = record hospitals {
  proposers = placed 2 (codes "a") 1 (0 ∷ []) ∷ [];
  reviewers = placed 3 (codes "h") 12 (0 ∷ []) ∷ placed 4 (codes "i") 1 [] ∷ [];
}

-- the text of the hospitals means these again
abbrev pub HospitalsReadBack : Type 0
HospitalsReadBack = instance_text (printed_text (Two hospitals)) ≡ Ok (record { input = Two hospitals_again; header_line = 1; rest = 51; rest_line = 6 })

-- the persons with the lines on which they are printed
abbrev pub persons_again : List AgentData
persons_again = placed 2 (codes "x") 1 (1 ∷ 0 ∷ []) ∷ placed 3 (codes "z") 1 [] ∷ []

-- the text of the roommates means these again
abbrev pub RoommatesReadBack : Type 0
RoommatesReadBack = instance_text (printed_text (Room persons)) ≡ Ok (record { input = Room persons_again; header_line = 1; rest = 37; rest_line = 5 })
