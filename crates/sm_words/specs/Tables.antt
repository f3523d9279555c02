-- The tables of the command line: its commands, the operands of each, and the values of each operand.
use Rattle.std.specs.Prelude.{List, [], ◌∷◌, ℕ, Bool, true, false, codes, Option, is_some}
use Rattle.sm_text.specs.Numbers.{number_of}
use Rattle.sm_make.specs.declared.shape.Shape.{Shape}
use Rattle.sm_make.specs.declared.shape.Shape.TheVariants.{Copies, Cycle, Random, Hospitals, Rooms}
use Rattle.sm_report.specs.Meanings.{look_up, number_within, sides, measures, limit_named}
use Rattle.sm_report.specs.Vectors.{vector_in}
use Rattle.sm_words.specs.Jobs.{least_size, greatest_size, most_seed}
use Rattle.sm_words.specs.declared.jobs.Form.{Form}
use Rattle.sm_words.specs.declared.jobs.Form.TheVariants.{Text, Json}
use Rattle.sm_words.specs.declared.operands.Command.{Command}
use Rattle.sm_words.specs.declared.operands.Command.TheVariants as command
use Rattle.sm_words.specs.declared.operands.Operand.{Operand}
use Rattle.sm_words.specs.declared.operands.Operand.TheVariants as operand

-- the commands by their names
abbrev pub commands : List (List ℕ × Command)
commands =
    (codes "solve", command.Solve)
    ∷ (codes "reduced", command.Reduced)
    ∷ (codes "rotations", command.Rotations)
    ∷ (codes "list", command.List)
    ∷ (codes "pairs", command.Pairs)
    ∷ (codes "regret", command.Regret)
    ∷ (codes "weight", command.Weight)
    ∷ (codes "meet", command.Meet)
    ∷ (codes "join", command.Join)
    ∷ (codes "survey", command.Survey)
    ∷ (codes "check", command.Check)
    ∷ (codes "make", command.Make)
    ∷ (codes "rest", command.Rest)
    ∷ (codes "median", command.Median)
    ∷ (codes "route", command.Route)
    ∷ (codes "export", command.Export)
    ∷ []

-- the operands of a command by their names
abbrev pub operands_of : Command → List (List ℕ × Operand)
operands_of command.Solve = (codes "side", operand.Side) ∷ (codes "form", operand.Form) ∷ []
operands_of command.Reduced = (codes "form", operand.Form) ∷ []
operands_of command.Rotations = (codes "form", operand.Form) ∷ []
operands_of command.List = (codes "after", operand.After) ∷ (codes "limit", operand.Limit) ∷ (codes "form", operand.Form) ∷ []
operands_of command.Pairs = (codes "form", operand.Form) ∷ []
operands_of command.Regret = (codes "form", operand.Form) ∷ []
operands_of command.Weight = (codes "by", operand.By) ∷ (codes "form", operand.Form) ∷ []
operands_of command.Meet = []
operands_of command.Join = []
operands_of command.Survey = (codes "limit", operand.Limit) ∷ (codes "form", operand.Form) ∷ []
operands_of command.Check = []
operands_of command.Make =
    (codes "shape", operand.Shape)
    ∷ (codes "size", operand.Size)
    ∷ (codes "seed", operand.Seed)
    ∷ (codes "show", operand.Show)
    ∷ []
operands_of command.Rest = []
operands_of command.Median = []
operands_of command.Route = []
operands_of command.Export = []

-- the shapes by their names
abbrev pub shapes : List (List ℕ × Shape)
shapes =
    (codes "copies", Copies)
    ∷ (codes "cycle", Cycle)
    ∷ (codes "random", Random)
    ∷ (codes "hospitals", Hospitals)
    ∷ (codes "rooms", Rooms)
    ∷ []

-- whether the summary of an instance is shown in place of its text
abbrev pub shows : List (List ℕ × Bool)
shows = (codes "text", false) ∷ (codes "summary", true) ∷ []

-- how an instance is given and its answer written
abbrev pub forms : List (List ℕ × Form)
forms = (codes "text", Text) ∷ (codes "json", Json) ∷ []

-- a size that a text spells
abbrev pub size_named : List ℕ → Option ℕ
size_named text = number_within least_size greatest_size text

-- a seed that a text spells
abbrev pub seed_named : List ℕ → Option ℕ
seed_named text = number_of text most_seed

-- whether a text is a value of an operand
abbrev pub is_value : Operand → List ℕ → Bool
is_value operand.Side text = is_some (look_up sides text)
is_value operand.After text = is_some (vector_in text)
is_value operand.Limit text = is_some (limit_named text)
is_value operand.By text = is_some (look_up measures text)
is_value operand.Shape text = is_some (look_up shapes text)
is_value operand.Size text = is_some (size_named text)
is_value operand.Seed text = is_some (seed_named text)
is_value operand.Show text = is_some (look_up shows text)
is_value operand.Form text = is_some (look_up forms text)
