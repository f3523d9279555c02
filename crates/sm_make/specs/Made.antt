-- The instances that are made, as a function of the shape, the size and a list of words.
use Rattle.std.specs.Prelude.{ℕ, ◌+◌, ◌-◌, ◌*◌, ◌/◌, max, List, [], ◌∷◌, map, decimal}
use Rattle.std.specs.List.{range_with_len}
use Rattle.sm_agents.specs.Written.{AgentData, plain_written}
use Rattle.sm_agents.specs.declared.kinds.Kind.{Kind}
use Rattle.sm_agents.specs.declared.kinds.Kind.TheVariants.{Marriage, Hospitals}
use Rattle.sm_instance.specs.declared.inputs.Input.{Input}
use Rattle.sm_instance.specs.declared.inputs.Input.TheVariants.{Two, Room}
use Rattle.sm_make.specs.Words.{words, of_seed}
use Rattle.sm_make.specs.Lists.{copy_list, copy_list_back, turn_from, shuffled_list, shuffled_others}
use Rattle.sm_make.specs.declared.shape.Shape.{Shape}
use Rattle.sm_make.specs.declared.shape.Shape.TheVariants.{Copies, Cycle, Random, Hospitals as HospitalsShape, Rooms}

-- the letter of a side's names: p and r
abbrev pub proposer_letter : ℕ
proposer_letter = 112

-- the letter r
abbrev pub reviewer_letter : ℕ
reviewer_letter = 114

-- the agent of a number
abbrev pub agent : ℕ → ℕ → (ℕ → List ℕ) → ℕ → AgentData
agent letter capacity list a = record { name = letter ∷ decimal (a + 1); capacity = capacity; line = 0; entries = list a }

-- a side of so many agents
abbrev pub agents_made : ℕ → ℕ → (ℕ → List ℕ) → ℕ → List AgentData
agents_made letter capacity list count = map (agent letter capacity list) (range_with_len 0 count)

-- an instance with two sides and without weights and conditions
abbrev pub plain : Kind → List AgentData → List AgentData → Input
plain kind proposers reviewers = Two (plain_written kind proposers reviewers [] [] [])

-- how many hospitals stand for so many residents
abbrev pub hospitals_for : ℕ → ℕ
hospitals_for n = max (n / 8) 1

-- how many words an instance takes
abbrev pub words_for : Shape → ℕ → ℕ
words_for Copies n = 0
words_for Cycle n = 0
words_for Random n = n * (n - 1) + n * (n - 1)
words_for HospitalsShape n = n * (hospitals_for n - 1) + hospitals_for n * (n - 1)
words_for Rooms n = n * (n - 1 - 1)

-- the instance of a shape and a size that a list of words gives
abbrev pub made : Shape → ℕ → List ℕ → Input
made Copies n words = plain Marriage (agents_made proposer_letter 1 copy_list (2 * n)) (agents_made reviewer_letter 1 copy_list_back (2 * n))
made Cycle n words = plain Marriage (agents_made proposer_letter 1 (turn_from n) n) (agents_made reviewer_letter 1 (λ a. turn_from n (a + 1)) n)
made Random n words = plain Marriage (agents_made proposer_letter 1 (shuffled_list n 0 words) n) (agents_made reviewer_letter 1 (shuffled_list n (n * (n - 1)) words) n)
made HospitalsShape n words =
    let m = hospitals_for n in
    plain Hospitals (agents_made proposer_letter 1 (shuffled_list m 0 words) n) (agents_made reviewer_letter 7 (shuffled_list n (n * (m - 1)) words) m)
made Rooms n words = Room (agents_made proposer_letter 1 (shuffled_others n words) n)

-- the instance of a shape, a size and a seed
abbrev pub made_instance : Shape → ℕ → ℕ → Input
made_instance shape size seed = made shape size (words (words_for shape size) (of_seed seed))

-- the greatest size of a shape
abbrev pub most_size : Shape → ℕ
most_size Copies = 2048
most_size Cycle = 512
most_size Random = 512
most_size HospitalsShape = 512
most_size Rooms = 512
