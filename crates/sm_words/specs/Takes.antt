-- What a job takes.
use Rattle.std.specs.Prelude.{◌≡◌, ℕ, Bool, true, false, not, List, None}
use Rattle.sm_agents.specs.Kinds.{has_two_sides}
use Rattle.sm_agents.specs.declared.kinds.Kind.{Kind}
use Rattle.sm_words.specs.Jobs.{JobData, Solve, Meet, Join, Check, Make, Rest, Route, Export}

-- an input: every job but `make` reads one
abbrev pub reads_input : JobData → Bool
reads_input (Make shape size seed summary) = false
reads_input job = true

-- text behind `end`: `meet`, `join`, `route` and `check`
abbrev pub takes_text : JobData → Bool
takes_text Meet = true
takes_text Join = true
takes_text Route = true
takes_text Check = true
takes_text job = false

-- what is kept of an input's text for a job: all of it where the job takes text behind `end`, and anything for the others
abbrev pub IsTextFor : JobData → List ℕ → List ℕ → Type 0
IsTextFor job text kept = takes_text job ≡ true → kept ≡ text

-- an answer behind `end`, which is judged: `check` alone
abbrev pub judges_answer : JobData → Bool
judges_answer Check = true
judges_answer job = false

-- a kind: `check`, `list`, `export`, and `solve` where it names no side, take all, `rest` takes roommates, and the others those with two
-- sides; `make` takes none
abbrev pub takes_kind : JobData → Kind → Bool
takes_kind (Solve None) kind = true
takes_kind (JobData.List after limit) kind = true
takes_kind Check kind = true
takes_kind (Make shape size seed summary) kind = false
takes_kind Rest kind = not (has_two_sides kind)
takes_kind Export kind = true
takes_kind job kind = has_two_sides kind

-- roommates alone: `rest`
abbrev pub takes_rooms_alone : JobData → Bool
takes_rooms_alone Rest = true
takes_rooms_alone job = false
