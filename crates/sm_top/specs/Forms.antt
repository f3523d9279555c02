-- Inputs in a form: the text of the instance that an input gives.
use Rattle.std.specs.Prelude.{ℕ, nat_lt, if◌then◌else◌, List, length, Result, Ok, Err}
use Rattle.std.specs.Option.{option_map_or}
use Rattle.sm_json.specs.JsonText.{text_in}
use Rattle.sm_text.specs.Limits.{most_bytes}
use Rattle.sm_text.specs.declared.refusal.RefusalKind.TheVariants.{TooLong, BadJson}
use Rattle.sm_words.specs.declared.jobs.Form.{Form}
use Rattle.sm_words.specs.declared.jobs.Form.TheVariants.{Text, Json}
use Rattle.sm_words.specs.Jobs.{JobData}
use Rattle.sm_serve.specs.Texts.{RefusalData, plain_refusal}

-- the text of the instance that bytes are in JSON, or why there is none: they are too many, or no instance in JSON. A text that
-- is too long is refused as any is.
abbrev pub text_of_json : List ℕ → Result (List ℕ) RefusalData
text_of_json bytes =
    if nat_lt most_bytes (length bytes) then Err (plain_refusal TooLong 0) else option_map_or Ok (text_in bytes) (Err (plain_refusal BadJson 0))

-- the text that an input gives in a form, or why it gives none
abbrev pub given_text : Form → List ℕ → Result (List ℕ) RefusalData
given_text Text bytes = Ok bytes
given_text Json bytes = text_of_json bytes

-- the form in which words ask for an answer; that they are faulty is said in a line
abbrev pub form_asked : Result (JobData × Form) ℕ → Form
form_asked (Ok asked) = asked.1
form_asked (Err word) = Text
