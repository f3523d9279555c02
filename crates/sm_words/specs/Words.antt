-- What words mean.
use Rattle.std.specs.Prelude.{◌≡◌, ℕ, ◌+◌, nat_lt, Bool, false, ◌&&◌, if◌then◌else◌, codes, List, [], ◌∷◌, ◌++◌, length, map, Option, Some, option_map, unwrap_or, Result, Ok, Err, string_bytes, String}
use Rattle.std.specs.List.{position_or_len}
use Rattle.std.specs.Option.{option_map_or, option_and_then}
use Rattle.std.specs.Str.{bytes_eq}
use Rattle.std.specs.declared.alloc.Global.{Global}
use Rattle.sm_make.specs.Made.{most_size}
use Rattle.sm_report.specs.Meanings.{look_up, sides, measures, limit_named}
use Rattle.sm_report.specs.Vectors.{vector_in}
use Rattle.sm_words.specs.declared.operands.Command.{Command}
use Rattle.sm_words.specs.declared.operands.Command.TheVariants as command
use Rattle.sm_words.specs.declared.jobs.Form.{Form}
use Rattle.sm_words.specs.declared.jobs.Form.TheVariants.{Text}
use Rattle.sm_words.specs.declared.jobs.WordsFault.{WordsFault}
use Rattle.sm_words.specs.declared.jobs.WordsFault.TheVariants.{Usage, OutOfMemory}
use Rattle.sm_words.specs.Jobs.{JobData, Solve, Reduced, Rotations, Pairs, Regret, Weight, Meet, Join, Survey, Check, Make, Rest, Median, Route, Export}
use Rattle.sm_words.specs.Tables.{commands, shapes, shows, forms, size_named, seed_named}
use Rattle.sm_words.specs.Operands.{has_name, name_in, value_given, may_follow}

-- the bytes of each word
abbrev pub texts : List (String Global) → List (List ℕ)
texts words = map string_bytes words

-- The faulty word is the first that these steps find. First the words are tried from the left. The first word is faulty
-- where it isn't a command, and a later one where it isn't an operand of this command with a right value, or repeats one.
abbrev pub right_words : Command → (before words : List (List ℕ)) → Result (List (List ℕ)) ℕ
right_words command before [] = Ok before
right_words command before (word ∷ words) =
    if may_follow command before word then right_words command (before ++ word ∷ []) words else Err (length before + 2)

-- the limit where none is given
abbrev pub usual_limit : ℕ
usual_limit = 100

-- the limit that words give
abbrev pub limit_given : List (List ℕ) → ℕ
limit_given words = unwrap_or (value_given (codes "limit") limit_named words) usual_limit

-- the text of an instance is shown where nothing is said
abbrev pub usual_show : Bool
usual_show = false

-- the form where none is given
abbrev pub usual_form : Form
usual_form = Text

-- Then, where there is no command or a required operand is missing, the word behind the last is faulty.
abbrev pub job_for : Command → List (List ℕ) → Option JobData
job_for command.Solve words = Some (Solve (value_given (codes "side") (look_up sides) words))
job_for command.Reduced words = Some Reduced
job_for command.Rotations words = Some Rotations
job_for command.List words = Some (JobData.List (value_given (codes "after") vector_in words) (limit_given words))
job_for command.Pairs words = Some Pairs
job_for command.Regret words = Some Regret
job_for command.Weight words = option_map Weight (value_given (codes "by") (look_up measures) words)
job_for command.Meet words = Some Meet
job_for command.Join words = Some Join
job_for command.Survey words = Some (Survey (limit_given words))
job_for command.Check words = Some Check
job_for command.Make words =
    let show = unwrap_or (value_given (codes "show") (look_up shows) words) usual_show in
    option_and_then (λ shape. option_and_then (λ size. option_map (λ seed. Make shape size seed show) (value_given (codes "seed") seed_named words)) (value_given (codes "size") size_named words)) (value_given (codes "shape") (look_up shapes) words)
job_for command.Rest words = Some Rest
job_for command.Median words = Some Median
job_for command.Route words = Some Route
job_for command.Export words = Some Export

-- the job and the form that right words give, or the word behind the last where a required operand is missing
abbrev pub or_missing : Command → Result (List (List ℕ)) ℕ → Result (JobData × Form) ℕ
or_missing command (Err word) = Err word
or_missing command (Ok words) =
    option_map_or (λ job. Ok (job, unwrap_or (value_given (codes "form") (look_up forms) words) usual_form)) (job_for command words) (Err (length words + 2))

-- Last, where the size is too large for the shape, the word that gives the size is faulty.
abbrev pub is_too_large : JobData → Bool
is_too_large (Make shape size seed summary) = nat_lt (most_size shape) size
is_too_large _ = false

-- a word that gives the size
abbrev pub gives_size : List ℕ → Bool
gives_size word = has_name word && bytes_eq (name_in word) (codes "size")

-- the number of the word that gives the size
abbrev pub word_of_size : List (List ℕ) → ℕ
word_of_size operands = position_or_len gives_size operands + 2

-- the job and the form, or the word of the size where this is too large for the shape
abbrev pub or_too_large : List (List ℕ) → Result (JobData × Form) ℕ → Result (JobData × Form) ℕ
or_too_large operands (Err word) = Err word
or_too_large operands (Ok found) = if is_too_large found.0 then Err (word_of_size operands) else Ok found

-- what a command asks for with the words behind it, and in which form
abbrev pub asked : Command → List (List ℕ) → Result (JobData × Form) ℕ
asked command operands = or_too_large operands (or_missing command (right_words command [] operands))

-- what words ask for and in which form, or the number of the faulty word, counted from 1
abbrev pub words_meaning : List (List ℕ) → Result (JobData × Form) ℕ
words_meaning [] = Err 1
words_meaning (word ∷ operands) = option_map_or (λ command. asked command operands) (look_up commands word) (Err 1)

-- a fault of words is that of what they mean; want of memory says nothing
abbrev pub IsFaultBy : {A : Type 0} → Result A ℕ → WordsFault → Type 0
IsFaultBy meaning (Usage word) = meaning ≡ Err word
IsFaultBy meaning OutOfMemory = Unit {0}

-- a fault of words is that of what they mean
abbrev pub IsWordsFault : List (List ℕ) → WordsFault → Type 0
IsWordsFault words fault = IsFaultBy (words_meaning words) fault

-- a fault that is want of memory
abbrev pub IsNoMemory : WordsFault → Type 0
IsNoMemory (Usage word) = ⊥
IsNoMemory OutOfMemory = Unit {0}
