-- What may come of words and an input: the status and the lines that are written. This is what the program promises.
use Rattle.std.specs.Prelude.{◌≡◌, ℕ, Bool, true, false, List, [], ◌∷◌, ◌⊎◌, length, Option, None, unwrap_or, Result, Ok, Err, codes}
use Rattle.serde_json.specs.Written.{compact_text}
use Rattle.sm_text.specs.Lines.{texts_from}
use Rattle.sm_answer.specs.Printing.{IsShown}
use Rattle.sm_agents.specs.Written.{AgentData, Written}
use Rattle.sm_instance.specs.declared.inputs.Input.{Input}
use Rattle.sm_instance.specs.declared.inputs.Input.TheVariants.{Two, Room}
use Rattle.sm_agents.specs.declared.kinds.Measure.{Measure}
use Rattle.sm_agents.specs.declared.kinds.Side.{Side}
use Rattle.sm_agents.specs.declared.kinds.Side.TheVariants.{Proposers}
use Rattle.sm_reader.specs.InstanceText.{ReadText}
use Rattle.sm_report.specs.Heads.{HeadData}
use Rattle.sm_report.specs.Lines.{LineData}
use Rattle.sm_report.specs.Texts.{left_name, right_name}
use Rattle.sm_text.specs.declared.refusal.RefusalKind.TheVariants.{BadCursor, TooMany, BadAnswer, NotStable}
use Rattle.sm_words.specs.declared.jobs.Form.{Form}
use Rattle.sm_words.specs.Jobs.{JobData, Solve, Reduced, Rotations, Pairs, Regret, Weight, Meet, Join, Survey, Check, Make, Rest, Median, Route, Export}
use Rattle.sm_words.specs.Words.{usual_limit, words_meaning}
use Rattle.sm_serve.specs.declared.status.Status.{Status}
use Rattle.sm_serve.specs.declared.status.Status.TheVariants.{Done, Refused, Usage, NoneExists}
use Rattle.sm_serve.specs.Texts.{RefusalData, plain_refusal, with_detail, usage_line, refused_line}
use Rattle.sm_top.specs.Checked.{IsChecked, IsUnreadable}
use Rattle.sm_words.specs.Takes.{reads_input}
use Rattle.sm_top.specs.Accepting.{accepted, IsUnaccepted}
use Rattle.sm_top.specs.Forms.{given_text}
use Rattle.sm_answer_solve.specs.Solution.{IsSolution}
use Rattle.sm_answer_rotations.specs.Reduction.{IsReduction}
use Rattle.sm_answer_rotations.specs.RotationAnswer.{IsRotationAnswer}
use Rattle.sm_answer_rotations.specs.NoneAnswer.{IsNoneAllowed}
use Rattle.sm_answer_list.specs.ListAnswer.{IsCursor, IsListAnswer}
use Rattle.sm_answer_pairs.specs.PairsAnswer.{IsPairsAnswer}
use Rattle.sm_answer_pairs.specs.RegretAnswer.{IsRegretAnswer}
use Rattle.sm_theory.specs.declared.choice.Choice.TheVariants.{Better, Worse}
use Rattle.sm_answer_given.specs.GivenText.{IsBadGivenAt}
use Rattle.sm_answer_given.specs.Chosen.{IsChosenAnswer}
use Rattle.sm_answer_given.specs.Refusing.{AreUnstable}
use Rattle.sm_answer_given.specs.declared.faults.Which.{Which}
use Rattle.sm_answer_given.specs.declared.faults.Which.TheVariants.{Left, Right}
use Rattle.sm_answer_given.specs.declared.faults.Flaw.{Flaw}
use Rattle.sm_answer_given.specs.declared.faults.Flaw.TheVariants.{Breach, Blocks}
use Rattle.sm_answer_given.specs.declared.faults.Unstable.{Unstable}
use Rattle.sm_answer_weight.specs.WeightAnswer.{IsWeightAnswer}
use Rattle.sm_tally.specs.Fold.{Shown}
use Rattle.sm_answer_survey.specs.SurveyAnswer.{IsSurveyAnswer}
use Rattle.sm_answer_median.specs.MedianAnswer.{IsMedianAnswer, AreTooMany}
use Rattle.sm_answer_route.specs.RouteAnswer.{IsRouteAnswer}
use Rattle.sm_make.specs.Made.{made_instance}
use Rattle.sm_json.specs.Making.{json_of}
use Rattle.sm_instance_lines.specs.Printed.{lines_of}
use Rattle.sm_answer_roommates.specs.RoomAnswer.{IsMatched, IsUnmatchable}
use Rattle.sm_answer_roommates.specs.RestAnswer.{IsRest}
use Rattle.sm_answer_roommates.specs.RoomListAnswer.{IsRoomListAnswer}

-- a right answer for an instance with two sides
abbrev pub OfTwo : (Written → List LineData → Type 0) → Input → List LineData → Type 0
OfTwo right (Two w) answer = right w answer
OfTwo right (Room persons) answer = ⊥

-- a right answer for roommates
abbrev pub OfRoom : (List AgentData → List LineData → Type 0) → Input → List LineData → Type 0
OfRoom right (Two w) answer = ⊥
OfRoom right (Room persons) answer = right persons answer

-- a right answer to `solve`, with its status: for roommates a stable matching, or `none` where there is none
abbrev pub IsSolved : Option Side → Input → Status → List LineData → Type 0
IsSolved side (Two w) status answer = (status ≡ Done) × IsSolution (unwrap_or side Proposers) w answer
IsSolved side (Room persons) status answer = ((status ≡ Done) × IsMatched persons answer) ⊎ ((status ≡ NoneExists) × IsUnmatchable persons answer)

-- a right answer to `list`: the rank vectors of the allowed stable matchings, or of the stable ones of roommates
abbrev pub IsAnyList : Option (List ℕ) → ℕ → Input → List LineData → Type 0
IsAnyList after limit (Two w) answer = IsListAnswer after limit w answer
IsAnyList after limit (Room persons) answer = IsRoomListAnswer after limit persons answer

-- a right answer to `regret`, with its status: a matching of the least regret, or `none` where no stable matching is allowed
abbrev pub IsRegretted : Input → Status → List LineData → Type 0
IsRegretted (Two w) status answer = ((status ≡ Done) × IsRegretAnswer w answer) ⊎ ((status ≡ NoneExists) × IsNoneAllowed HeadData.Regret w answer)
IsRegretted (Room persons) status answer = ⊥

-- a right answer to `make` with `show=summary`, with its status: what `survey` answers up to the usual limit, or, for roommates,
-- what `solve` answers
abbrev pub IsSummary : List Shown → Input → Status → List LineData → Type 0
IsSummary tallies (Two w) status answer = (status ≡ Done) × IsSurveyAnswer tallies usual_limit w answer
IsSummary tallies (Room persons) status answer = IsSolved None (Room persons) status answer

-- a right answer to `make`, with its status: the text of the instance, or its summary
abbrev pub IsMade : List Shown → Input → (summary : Bool) → Status → List (List ℕ) → Type 0
IsMade tallies input false status lines = (status ≡ Done) × (lines ≡ lines_of input)
IsMade tallies input true status lines = IsShown input (IsSummary tallies input status) lines

-- a right answer to `weight`, with its status: the lightest allowed matching, or `none` where no stable matching is allowed
abbrev pub IsWeighed : Measure → Input → Status → List LineData → Type 0
IsWeighed by (Two w) status answer = ((status ≡ Done) × IsWeightAnswer by w answer) ⊎ ((status ≡ NoneExists) × IsNoneAllowed (HeadData.Weight by) w answer)
IsWeighed by (Room persons) status answer = ⊥

-- a right answer to `median`, with its status: the median of the allowed stable matchings, or `none` where there are none
abbrev pub IsMiddle : Input → Status → List LineData → Type 0
IsMiddle (Two w) status answer = ((status ≡ Done) × IsMedianAnswer w answer) ⊎ ((status ≡ NoneExists) × IsNoneAllowed HeadData.Median w answer)
IsMiddle (Room persons) status answer = ⊥

-- an input was accepted for a job, and the lines are those of a right answer
pub record IsAnswerOver (job : JobData) (bytes : List ℕ) (right : ReadText → List LineData → Type 0) (lines : List (List ℕ)) : Type 0 where
  pub read : ReadText
  pub ok : accepted job bytes ≡ Ok read
  pub shown : IsShown read.input (right read) lines

-- an input was accepted for `export`, and the one line is the instance in JSON
pub record IsExport (bytes : List ℕ) (lines : List (List ℕ)) : Type 0 where
  pub read : ReadText
  pub ok : accepted Export bytes ≡ Ok read
  pub shows : lines ≡ compact_text (json_of read.input) ∷ []

-- The right answers to a job, and the status that goes with them. The tallies showed this before.
abbrev pub IsAnswer : List Shown → JobData → List ℕ → Status → List (List ℕ) → Type 0
IsAnswer tallies (Solve side) bytes status lines = IsAnswerOver (Solve side) bytes (λ read. IsSolved side read.input status) lines
IsAnswer tallies Reduced bytes status lines = (status ≡ Done) × IsAnswerOver Reduced bytes (λ read. OfTwo IsReduction read.input) lines
IsAnswer tallies Rotations bytes status lines = (status ≡ Done) × IsAnswerOver Rotations bytes (λ read. OfTwo IsRotationAnswer read.input) lines
IsAnswer tallies (JobData.List after limit) bytes status lines =
    (status ≡ Done) × IsAnswerOver (JobData.List after limit) bytes (λ read. IsAnyList after limit read.input) lines
IsAnswer tallies Pairs bytes status lines = (status ≡ Done) × IsAnswerOver Pairs bytes (λ read. OfTwo IsPairsAnswer read.input) lines
IsAnswer tallies Regret bytes status lines = IsAnswerOver Regret bytes (λ read. IsRegretted read.input status) lines
IsAnswer tallies (Weight by) bytes status lines = IsAnswerOver (Weight by) bytes (λ read. IsWeighed by read.input status) lines
IsAnswer tallies Meet bytes status lines = (status ≡ Done) × IsAnswerOver Meet bytes (λ read. OfTwo (IsChosenAnswer Better (texts_from bytes read.rest)) read.input) lines
IsAnswer tallies Join bytes status lines = (status ≡ Done) × IsAnswerOver Join bytes (λ read. OfTwo (IsChosenAnswer Worse (texts_from bytes read.rest)) read.input) lines
IsAnswer tallies (Survey limit) bytes status lines = (status ≡ Done) × IsAnswerOver (Survey limit) bytes (λ read. OfTwo (IsSurveyAnswer tallies limit) read.input) lines
IsAnswer tallies Check bytes status lines = IsAnswerOver Check bytes (λ read. IsChecked read.input (texts_from bytes read.rest) read.rest_line status) lines
IsAnswer tallies (Make shape size seed summary) bytes status lines = IsMade tallies (made_instance shape size seed) summary status lines
IsAnswer tallies Rest bytes status lines = (status ≡ Done) × IsAnswerOver Rest bytes (λ read. OfRoom IsRest read.input) lines
IsAnswer tallies Median bytes status lines = IsAnswerOver Median bytes (λ read. IsMiddle read.input status) lines
IsAnswer tallies Route bytes status lines = (status ≡ Done) × IsAnswerOver Route bytes (λ read. OfTwo (IsRouteAnswer (texts_from bytes read.rest)) read.input) lines
IsAnswer tallies Export bytes status lines = (status ≡ Done) × IsExport bytes lines

-- a cursor that hasn't an item for each proposer, or for each person, is refused, at no line
abbrev pub IsBadCursor : Option (List ℕ) → Input → RefusalData → Type 0
IsBadCursor after (Two w) refusal = (¬ IsCursor (length w.proposers) after) × (refusal ≡ plain_refusal BadCursor 0)
IsBadCursor after (Room persons) refusal = (¬ IsCursor (length persons) after) × (refusal ≡ plain_refusal BadCursor 0)

-- more stable matchings are allowed than a median is looked for of: refused, at no line
abbrev pub IsTooManyAllowed : Input → RefusalData → Type 0
IsTooManyAllowed (Two w) refusal = AreTooMany w × (refusal ≡ plain_refusal TooMany 0)
IsTooManyAllowed (Room persons) refusal = ⊥

-- what tells of a given matching that isn't stable: which one, why, and the pair
abbrev pub which_name : Which → List ℕ
which_name Left = codes "left"
which_name Right = codes "right"

-- whether its pairs can't all be held, or a pair blocks
abbrev pub flaw_name : Flaw → List ℕ
flaw_name Breach = codes "breach"
flaw_name Blocks = codes "blocks"

-- which matching, why, and the two agents of the pair by their names
abbrev pub unstable_fields : Input → Unstable → List (List ℕ)
unstable_fields input u = which_name u.which ∷ flaw_name u.flaw ∷ left_name input u.proposer ∷ right_name input u.reviewer ∷ []

-- texts, of which the first stands on this line, aren't those of two matchings; or they are, and one isn't stable
pub data IsGivenRefusal (w : Written) (texts : List (List ℕ)) (line : ℕ) (refusal : RefusalData) : Type 0 where
  bad : (at : ℕ) → IsBadGivenAt (Two w) texts line at → refusal ≡ plain_refusal BadAnswer at → IsGivenRefusal w texts line refusal
  unstable : (u : Unstable) → AreUnstable w texts line u → refusal ≡ with_detail NotStable u.line (unstable_fields (Two w) u) → IsGivenRefusal w texts line refusal

-- the texts behind an instance with two sides give no two stable matchings
abbrev pub IsBadGiven : Input → List (List ℕ) → ℕ → RefusalData → Type 0
IsBadGiven (Two w) texts line refusal = IsGivenRefusal w texts line refusal
IsBadGiven (Room persons) texts line refusal = ⊥

-- a job's own refusals of an input that is accepted for it
abbrev pub IsOwnRefusal : JobData → List ℕ → ReadText → RefusalData → Type 0
IsOwnRefusal (JobData.List after limit) bytes read refusal = IsBadCursor after read.input refusal
IsOwnRefusal Meet bytes read refusal = IsBadGiven read.input (texts_from bytes read.rest) read.rest_line refusal
IsOwnRefusal Join bytes read refusal = IsBadGiven read.input (texts_from bytes read.rest) read.rest_line refusal
IsOwnRefusal Route bytes read refusal = IsBadGiven read.input (texts_from bytes read.rest) read.rest_line refusal
IsOwnRefusal Median bytes read refusal = IsTooManyAllowed read.input refusal
IsOwnRefusal Check bytes read refusal = IsUnreadable read.input (texts_from bytes read.rest) read.rest_line refusal
IsOwnRefusal job bytes read refusal = ⊥

-- an input is refused; `make` reads none, and is never refused
pub data IsRefused (job : JobData) (bytes : List ℕ) (refusal : RefusalData) : Type 0 where
  not_accepted : reads_input job ≡ true → IsUnaccepted job bytes refusal → IsRefused job bytes refusal
  by_job : (read : ReadText) → accepted job bytes ≡ Ok read → IsOwnRefusal job bytes read refusal → IsRefused job bytes refusal

-- an input gives no text in the form that is asked for, or its text is refused
abbrev pub IsRefusedIn : JobData → Result (List ℕ) RefusalData → RefusalData → Type 0
IsRefusedIn job (Ok text) refusal = IsRefused job text refusal
IsRefusedIn job (Err why) refusal = refusal ≡ why

-- The words are faulty; or they ask for a job in a form, and the input is refused; or the lines are those of a right answer to the
-- text that the input gives. The tallies showed this before.
pub data Outcome (tallies : List Shown) (words : List (List ℕ)) (bytes : List ℕ) (status : Status) (lines : List (List ℕ)) : Type 0 where
  faulty_words : (word : ℕ) → words_meaning words ≡ Err word → status ≡ Usage word → lines ≡ usage_line word ∷ []
      → Outcome tallies words bytes status lines
  refused : (job : JobData) (form : Form) (refusal : RefusalData) → words_meaning words ≡ Ok (job, form) → IsRefusedIn job (given_text form bytes) refusal
      → status ≡ Refused refusal.kind refusal.at → lines ≡ refused_line refusal ∷ [] → Outcome tallies words bytes status lines
  answered : (job : JobData) (form : Form) (text : List ℕ) → words_meaning words ≡ Ok (job, form) → given_text form bytes ≡ Ok text
      → IsAnswer tallies job text status lines → Outcome tallies words bytes status lines
