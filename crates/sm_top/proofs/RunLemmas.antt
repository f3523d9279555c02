-- From what was read and written to what a run promises.
use Rattle.std.proofs.Common.{◌≡◌, ℕ, ◌<◌, ◌⊎◌, Bool, true, false, cond, List, length, Option, None, Result, Ok, Err, inl, inr, refl, sym, ap, ◌∙◌, subst}
use Rattle.std.specs.Option.{option_map_or}
use Rattle.std.specs.Result.{IfErr}
use Rattle.std.proofs.lemmas.Bool.{lt-ltb}
use Rattle.sm_io.specs.Source.{Agrees}
use Rattle.sm_answer.specs.Printing.{IsShown}
use Rattle.sm_json.specs.JsonText.{text_in}
use Rattle.sm_text.specs.declared.refusal.RefusalKind.TheVariants.{TooLong, BadJson}
use Rattle.sm_text.specs.Limits.{most_bytes}
use Rattle.sm_agents.specs.Written.{AgentData, Written}
use Rattle.sm_instance.specs.declared.inputs.Input.{Input}
use Rattle.sm_instance.specs.declared.inputs.Input.TheVariants.{Two, Room}
use Rattle.sm_agents.specs.declared.kinds.Measure.{Measure}
use Rattle.sm_agents.specs.declared.kinds.Side.{Side}
use Rattle.sm_reader.specs.InstanceText.{ReadText}
use Rattle.sm_reader.proofs.ReadingLemmas.{instance_text-too_long}
use Rattle.sm_report.specs.Lines.{LineData}
use Rattle.sm_words.specs.declared.jobs.Form.{Form}
use Rattle.sm_words.specs.declared.jobs.Form.TheVariants.{Text, Json}
use Rattle.sm_words.specs.Jobs.{JobData, Solve, Reduced, Rotations, Pairs, Regret, Weight, Meet, Join, Survey, Check, Make, Rest, Median, Route, Export, IsFormFor}
use Rattle.sm_words.specs.Words.{words_meaning}
use Rattle.sm_words.specs.Takes.{reads_input}
use Rattle.sm_tally.specs.Fold.{Shown}
use Rattle.sm_make.specs.Made.{made_instance}
use Rattle.sm_make.specs.declared.shape.Shape.{Shape}
use Rattle.sm_check_clauses.specs.declared.verdicts.Verdict.{Verdict}
use Rattle.sm_check_clauses.specs.declared.verdicts.Verdict.TheVariants as verdict
use Rattle.sm_serve.specs.declared.status.Status.{Status}
use Rattle.sm_serve.specs.declared.status.Status.TheVariants.{Refused, Usage, OutOfMemory, ReadFault, WriteFault}
use Rattle.sm_serve.specs.declared.stop.Stop.{Stop}
use Rattle.sm_serve.specs.declared.stop.Stop.TheVariants as stop
use Rattle.sm_serve.specs.Texts.{RefusalData, plain_refusal}
use Rattle.sm_serve.specs.Stops.{StopsBy}
use Rattle.sm_serve.specs.Input.{Drains, ReadWhole, IsTooLong}
use Rattle.sm_serve.specs.Wrote.{Wrote, With, Leaves}
use Rattle.sm_serve.specs.Running.{Runs, writes_all_lines, is_answer}
use Rattle.sm_serve.specs.Steps.{Serves, IsRefusal, IsReadFault, IsServed}
use Rattle.sm_serve.specs.Saying.{SaysStop}
use Rattle.sm_serve.proofs.WritingLemmas.{wrote_for}
use Rattle.sm_serve.proofs.RunLemmas.{AreWhole, stops_for, refused_too_long, refused_whole, serves_whole, bytes_of, agrees_of, runs_served, runs_stopped, runs_faulty, runs_unread, writes_all_or}
use Rattle.sm_top.specs.Checked.{status_by}
use Rattle.sm_top.specs.Accepting.{accepted, behind_text}
use Rattle.sm_top.specs.Forms.{given_text, form_asked}
use Rattle.sm_top.specs.Outcome.{OfTwo, OfRoom, IsSolved, IsRegretted, IsSummary, IsMade, IsWeighed, IsMiddle, IsAnswerOver, IsAnswer, IsRefused, IsRefusedIn, Outcome, not_accepted, faulty_words, refused, answered}
use Rattle.sm_top.specs.Running.{Answers, AnswersAccepted, reads, form_of, asks_to_read}
use Rattle.sm_top.specs.Steps.{IsAnswerIn, IsRefusedFrom, IsUngiven}

-- the lines of a right answer for an instance with two sides were written, where what is right may depend on what was read
pub wrote_answer_by : {form : Form} (job : JobData) (bytes : List ℕ) (read : ReadText) (w : Written) (right : ReadText → Written → List LineData → Type 0) (given : Status) {K : Type 0} (held : K → Option (List ℕ)) (faults : K → ℕ) (a b : K) (status : Status)
    → accepted job bytes ≡ Ok read → read.input ≡ Two w
    → Wrote form (With given (IsShown read.input (right read w))) held faults a b status → Wrote form (λ s lines. (s ≡ given) × IsAnswerOver job bytes (λ read. OfTwo (right read) read.input) lines) held faults a b status
wrote_answer_by {form} job bytes read w right given held faults a b status ok two =
    wrote_for (With given (IsShown read.input (right read w))) (λ s lines. (s ≡ given) × IsAnswerOver job bytes (λ read. OfTwo (right read) read.input) lines) held faults a b status
    (λ s lines h. (
      h.same,
      record {
        read = read;
        ok = ok;
        shown = record {
          answer = h.given_lines.answer;
          is_right = subst (λ (input : Input). OfTwo (right read) input h.given_lines.answer) (sym two) h.given_lines.is_right;
          shows = h.given_lines.shows;
        };
      },
    ))

-- the same where what is right doesn't depend on what was read
pub wrote_answer : {form : Form} (job : JobData) (bytes : List ℕ) (read : ReadText) (w : Written) (right : Written → List LineData → Type 0) (given : Status) {K : Type 0} (held : K → Option (List ℕ)) (faults : K → ℕ) (a b : K) (status : Status)
    → accepted job bytes ≡ Ok read → read.input ≡ Two w
    → Wrote form (With given (IsShown read.input (right w))) held faults a b status → Wrote form (λ s lines. (s ≡ given) × IsAnswerOver job bytes (λ read. OfTwo right read.input) lines) held faults a b status
wrote_answer {form} job bytes read w right = wrote_answer_by job bytes read w (λ _. right)

-- and for roommates
pub wrote_room : {form : Form} (job : JobData) (bytes : List ℕ) (read : ReadText) (persons : List AgentData) (right : List AgentData → List LineData → Type 0) (given : Status) {K : Type 0} (held : K → Option (List ℕ)) (faults : K → ℕ) (a b : K) (status : Status)
    → accepted job bytes ≡ Ok read → read.input ≡ Room persons
    → Wrote form (With given (IsShown read.input (right persons))) held faults a b status → Wrote form (λ s lines. (s ≡ given) × IsAnswerOver job bytes (λ read. OfRoom right read.input) lines) held faults a b status
wrote_room {form} job bytes read persons right given held faults a b status ok room =
    wrote_for (With given (IsShown read.input (right persons))) (λ s lines. (s ≡ given) × IsAnswerOver job bytes (λ read. OfRoom right read.input) lines) held faults a b status
    (λ s lines h. (
      h.same,
      record {
        read = read;
        ok = ok;
        shown = record {
          answer = h.given_lines.answer;
          is_right = subst (λ (input : Input). OfRoom right input h.given_lines.answer) (sym room) h.given_lines.is_right;
          shows = h.given_lines.shows;
        };
      },
    ))

-- and for either, where what is right goes by the kind of the input
pub wrote_as : {form : Form} (job : JobData) (bytes : List ℕ) (read : ReadText) (found : List LineData → Type 0) (right : Input → List LineData → Type 0) (given : Status) {K : Type 0} (held : K → Option (List ℕ)) (faults : K → ℕ) (a b : K) (status : Status)
    → accepted job bytes ≡ Ok read → ((answer : List LineData) → found answer → right read.input answer)
    → Wrote form (With given (IsShown read.input found)) held faults a b status → Wrote form (λ s lines. (s ≡ given) × IsAnswerOver job bytes (λ read. right read.input) lines) held faults a b status
wrote_as {form} job bytes read found right given held faults a b status ok is =
    wrote_for (With given (IsShown read.input found)) (λ s lines. (s ≡ given) × IsAnswerOver job bytes (λ read. right read.input) lines) held faults a b status
    (λ s lines h. (
      h.same,
      record {
        read = read;
        ok = ok;
        shown = record { answer = h.given_lines.answer; is_right = is h.given_lines.answer h.given_lines.is_right; shows = h.given_lines.shows };
      },
    ))

-- The input that a job reads.

-- an input that is too long is refused in each form
too_long_given : (form : Form) (job : JobData) → reads_input job ≡ true → (bytes : List ℕ) (refusal : RefusalData) → most_bytes < length bytes → refusal ≡ plain_refusal TooLong 0 → IsRefusedFrom job form bytes refusal
too_long_given Text job reading bytes refusal long says = not_accepted reading (record { kind = TooLong; at = 0; because = ap (behind_text job bytes) (instance_text-too_long bytes long); says = says })
too_long_given Json job reading bytes refusal long says =
    subst (λ (t : Result (List ℕ) RefusalData). IsRefusedIn job t refusal) (sym (ap (λ t. cond t (Err (plain_refusal TooLong 0)) (option_map_or Ok (text_in bytes) (Err (plain_refusal BadJson 0)))) (lt-ltb most_bytes (length bytes) long))) says

-- a source that has too many bytes may be refused as too long
pub read_too_long : (job : JobData) (form : Form) → reads_input job ≡ true → (before after : Option (List ℕ)) (refusal : RefusalData) → IsTooLong before after refusal → IsRefusal (reads_input job) (IsRefusedFrom job form) before after refusal
read_too_long job form reading = refused_too_long (reads_input job) (IsRefusedFrom job form) (too_long_given form job reading)

-- and so may one that was read whole, where it gives no text
pub read_ungiven : (job : JobData) (form : Form) → reads_input job ≡ true → (before after : Option (List ℕ)) (bytes : List ℕ) (refusal : RefusalData) → ReadWhole before after bytes → IsUngiven form bytes refusal
    → IsRefusal (reads_input job) (IsRefusedFrom job form) before after refusal
read_ungiven job form reading before after bytes refusal w why = refused_whole (reads_input job) (IsRefusedFrom job form) before after bytes refusal w (why job reading)

-- and the text that it gives
read_given : (job : JobData) (form : Form) (before after : Option (List ℕ)) (bytes text : List ℕ) (refusal : RefusalData) → ReadWhole before after bytes → given_text form bytes ≡ Ok text → IsRefused job text refusal
    → IsRefusal (reads_input job) (IsRefusedFrom job form) before after refusal
read_given job form before after bytes text refusal w given why =
    refused_whole (reads_input job) (IsRefusedFrom job form) before after bytes refusal w (subst (λ (t : Result (List ℕ) RefusalData). IsRefusedIn job t refusal) (sym given) why)

-- a source that was read whole is served by what comes of the text that its bytes give
pub served_given : (tallies : List Shown) (job : JobData) (form : Form) {S K : Type 0} (left : S → Option (List ℕ)) (source_faults : S → ℕ) (held : K → Option (List ℕ)) (faults : K → ℕ) (x y : S) (a b : K) (bytes text : List ℕ) (r : Result Status Stop)
    → ReadWhole (left x) (left y) bytes → given_text form bytes ≡ Ok text → Leaves form (IsAnswer tallies job text) held faults a b r → IfErr r (λ s. StopsBy (λ _. ⊥) (IsRefused job text) ⊥ s)
    → IsServed (reads_input job) form (IsAnswerIn tallies job form) (IsRefusedFrom job form) left source_faults held faults x y a b r
served_given tallies job form left source_faults held faults x y a b bytes text (Ok status) w given wrote none =
    serves_whole (reads_input job) form (IsAnswerIn tallies job form) (left x) (left y) held faults a b bytes status w
    (wrote_for (IsAnswer tallies job text) (IsAnswerIn tallies job form bytes) held faults a b status (λ s lines right. record { text = text; given = given; right = right }) wrote)
served_given tallies job form left source_faults held faults x y a b bytes text (Err s) w given same why = (
  same,
  stops_for (λ _. ⊥) (λ _. ⊥) (IsRefused job text) (IsRefusal (reads_input job) (IsRefusedFrom job form) (left x) (left y)) ⊥ (IsReadFault (reads_input job) (source_faults x) (source_faults y)) s (λ word h. h)
      (λ refusal h. read_given job form (left x) (left y) bytes text refusal w given h) (λ h. absurd h) why,
)

-- made instances read nothing, and a stop while one is made or surveyed is for want of memory
pub served_made : (tallies : List Shown) (shape : Shape) (size seed : ℕ) (summary : Bool) (form : Form) (input : Input) {S K : Type 0} (left : S → Option (List ℕ)) (source_faults : S → ℕ) (held : K → Option (List ℕ)) (faults : K → ℕ) (x : S) (a b : K) (r : Result Status Stop)
    → IsFormFor (Make shape size seed summary) form → input ≡ made_instance shape size seed → Leaves form (IsMade tallies input summary) held faults a b r → IfErr r (λ s. StopsBy (λ _. ⊥) (λ _. ⊥) ⊥ s)
    → IsServed false form (IsAnswerIn tallies (Make shape size seed summary) form) (IsRefusedFrom (Make shape size seed summary) form) left source_faults held faults x x a b r
served_made tallies shape size seed summary form input left source_faults held faults x a b (Ok status) formed same wrote none = record {
  bytes = bytes_of (left x);
  read = agrees_of (left x);
  wrote = wrote_for (IsMade tallies input summary) (IsAnswerIn tallies (Make shape size seed summary) form (bytes_of (left x))) held faults a b status
      (λ s lines right. record {
        text = bytes_of (left x);
        given = ap (λ form. given_text form (bytes_of (left x))) (formed refl);
        right = subst (λ (i : Input). IsMade tallies i summary s lines) same right;
      }) wrote;
  over = λ some. absurd cc;
}
served_made tallies shape size seed summary form input left source_faults held faults x a b (Err s) formed same unwritten why = (
  unwritten,
  stops_for (λ _. ⊥) (λ _. ⊥) (λ _. ⊥) (IsRefusal false (IsRefusedFrom (Make shape size seed summary) form) (left x) (left x)) ⊥ (IsReadFault false (source_faults x) (source_faults x)) s (λ word h. h) (λ refusal h. absurd h) (λ h. absurd h) why,
)

-- The statuses of right answers.

-- the status of a right answer is one of an answer
solved_status : (side : Option Side) (input : Input) (status : Status) (answer : List LineData) → IsSolved side input status answer → is_answer status ≡ true
solved_status side (Two w) status answer h = ap is_answer h.0
solved_status side (Room persons) status answer (inl h) = ap is_answer h.0
solved_status side (Room persons) status answer (inr h) = ap is_answer h.0

-- and of a right answer to `regret`
regretted_status : (input : Input) (status : Status) (answer : List LineData) → IsRegretted input status answer → is_answer status ≡ true
regretted_status (Two w) status answer (inl h) = ap is_answer h.0
regretted_status (Two w) status answer (inr h) = ap is_answer h.0
regretted_status (Room persons) status answer h = absurd h

-- and of a right answer to `weight`
weighed_status : (by : Measure) (input : Input) (status : Status) (answer : List LineData) → IsWeighed by input status answer → is_answer status ≡ true
weighed_status by (Two w) status answer (inl h) = ap is_answer h.0
weighed_status by (Two w) status answer (inr h) = ap is_answer h.0
weighed_status by (Room persons) status answer h = absurd h

-- and of the median
middle_status : (input : Input) (status : Status) (answer : List LineData) → IsMiddle input status answer → is_answer status ≡ true
middle_status (Two w) status answer (inl h) = ap is_answer h.0
middle_status (Two w) status answer (inr h) = ap is_answer h.0
middle_status (Room persons) status answer h = absurd h

-- and of a summary
summary_status : (tallies : List Shown) (input : Input) (status : Status) (answer : List LineData) → IsSummary tallies input status answer → is_answer status ≡ true
summary_status tallies (Two w) status answer h = ap is_answer h.0
summary_status tallies (Room persons) status answer h = solved_status None (Room persons) status answer h

made_status : (tallies : List Shown) (input : Input) (summary : Bool) (status : Status) (lines : List (List ℕ)) → IsMade tallies input summary status lines → is_answer status ≡ true
made_status tallies input false status lines h = ap is_answer h.0
made_status tallies input true status lines h = summary_status tallies input status h.answer h.is_right

-- and of a verdict
verdict_status : (v : Verdict) → is_answer (status_by v) ≡ true
verdict_status verdict.Yes = refl
verdict_status (verdict.No line why) = refl

answer_status : (tallies : List Shown) (job : JobData) (bytes : List ℕ) (status : Status) (lines : List (List ℕ)) → IsAnswer tallies job bytes status lines → is_answer status ≡ true
answer_status tallies (Solve side) bytes status lines h = solved_status side h.read.input status h.shown.answer h.shown.is_right
answer_status tallies Reduced bytes status lines h = ap is_answer h.0
answer_status tallies Rotations bytes status lines h = ap is_answer h.0
answer_status tallies (JobData.List after limit) bytes status lines h = ap is_answer h.0
answer_status tallies Pairs bytes status lines h = ap is_answer h.0
answer_status tallies Regret bytes status lines h = regretted_status h.read.input status h.shown.answer h.shown.is_right
answer_status tallies (Weight by) bytes status lines h = weighed_status by h.read.input status h.shown.answer h.shown.is_right
answer_status tallies Meet bytes status lines h = ap is_answer h.0
answer_status tallies Join bytes status lines h = ap is_answer h.0
answer_status tallies (Survey limit) bytes status lines h = ap is_answer h.0
answer_status tallies Check bytes status lines h = ap is_answer h.shown.is_right.by_verdict ∙ verdict_status h.shown.is_right.verdict
answer_status tallies Rest bytes status lines h = ap is_answer h.0
answer_status tallies Median bytes status lines h = middle_status h.read.input status h.shown.answer h.shown.is_right
answer_status tallies Route bytes status lines h = ap is_answer h.0
answer_status tallies Export bytes status lines h = ap is_answer h.0
answer_status tallies (Make shape size seed summary) bytes status lines h = made_status tallies (made_instance shape size seed) summary status lines h

answer_whole : (status : Status) → is_answer status ≡ true → writes_all_lines status ≡ true
answer_whole (Refused kind at) h = refl
answer_whole (Usage word) h = refl
answer_whole OutOfMemory h = absurd cc
answer_whole ReadFault h = absurd cc
answer_whole WriteFault h = absurd cc
answer_whole _ h = refl

-- lines of an outcome are written whole
outcome_whole : (tallies : List Shown) (words : List (List ℕ)) → AreWhole (Outcome tallies words)
outcome_whole tallies words bytes status lines (faulty_words word meaning is shows) = ap writes_all_lines is
outcome_whole tallies words bytes status lines (refused job form refusal meaning why is shows) = ap writes_all_lines is
outcome_whole tallies words bytes status lines (answered job form text meaning given right) = answer_whole status (answer_status tallies job text status lines right)

-- From a job to the words that ask for it.

-- what holds of the job and the form for which words ask
asked_as : (P : Bool → Form → Type 0) (words : List (List ℕ)) (job : JobData) (form : Form) → words_meaning words ≡ Ok (job, form) → P (reads_input job) form → P (reads words) (form_of words)
asked_as P words job form meaning h =
    subst (λ (reads : Bool). P reads (form_of words)) (sym (ap asks_to_read meaning)) (subst (λ (form : Form). P (reads_input job) form) (sym (ap form_asked meaning)) h)

-- a run that serves the job of its words answers them as it promises
pub answers_served : (tallies : List Shown) (words : List (List ℕ)) (job : JobData) (form : Form) → words_meaning words ≡ Ok (job, form) → {S K : Type 0} (left : S → Option (List ℕ)) (source_faults : S → ℕ) (held : K → Option (List ℕ)) (faults : K → ℕ) (x y : S) (a b : K) (status : Status)
    → Serves (reads_input job) form (IsAnswerIn tallies job form) (left x) (left y) held faults a b status → Drains left source_faults x y
    → Runs (reads words) (form_of words) (Outcome tallies words) left source_faults held faults x y a b status
answers_served tallies words job form meaning left source_faults held faults x y a b status s drains =
    asked_as (λ reads form. Runs reads form (Outcome tallies words) left source_faults held faults x y a b status) words job form meaning
    (runs_served (reads_input job) form (IsAnswerIn tallies job form) (Outcome tallies words) left source_faults held faults x y a b status (outcome_whole tallies words)
    (λ bytes s lines is. answered job form is.text meaning is.given is.right) s drains)

-- so a run that stopped is right
pub answers_stopped : (tallies : List Shown) (words : List (List ℕ)) (job : JobData) (form : Form) → words_meaning words ≡ Ok (job, form) → {S K : Type 0} (left : S → Option (List ℕ)) (source_faults : S → ℕ) (held : K → Option (List ℕ)) (faults : K → ℕ) (x y : S) (a b : K) (s : Stop) (status : Status)
    → StopsBy (λ _. ⊥) (IsRefusal (reads_input job) (IsRefusedFrom job form) (left x) (left y)) (IsReadFault (reads_input job) (source_faults x) (source_faults y)) s → SaysStop form s held faults a b status → Drains left source_faults x y
    → Runs (reads words) (form_of words) (Outcome tallies words) left source_faults held faults x y a b status
answers_stopped tallies words job form meaning left source_faults held faults x y a b s status why says drains =
    asked_as (λ reads form. Runs reads form (Outcome tallies words) left source_faults held faults x y a b status) words job form meaning
    (runs_stopped (reads_input job) form (IsRefusedFrom job form) (Outcome tallies words) left source_faults held faults x y a b s status (outcome_whole tallies words)
    (λ bytes refusal why. refused job form refusal meaning why refl refl) why says drains)

-- a run with faulty words
pub answers_faulty : (tallies : List Shown) (words : List (List ℕ)) (word : ℕ) → words_meaning words ≡ Err word → {S K : Type 0} (left : S → Option (List ℕ)) (source_faults : S → ℕ) (held : K → Option (List ℕ)) (faults : K → ℕ) (x : S) (a b : K) (status : Status)
    → SaysStop Text (stop.Usage word) held faults a b status → Runs (reads words) (form_of words) (Outcome tallies words) left source_faults held faults x x a b status
answers_faulty tallies words word faulty left source_faults held faults x a b status says =
    subst (λ (reads : Bool). Runs reads (form_of words) (Outcome tallies words) left source_faults held faults x x a b status) (sym (ap asks_to_read faulty))
    (subst (λ (form : Form). Runs false form (Outcome tallies words) left source_faults held faults x x a b status) (sym (ap form_asked faulty))
    (runs_faulty Text (Outcome tallies words) word left source_faults held faults x a b status (outcome_whole tallies words) (λ bytes. faulty_words word faulty refl refl) says))

-- a run without memory for its words
pub answers_unread : (tallies : List Shown) (words : List (List ℕ)) {S K : Type 0} (left : S → Option (List ℕ)) (source_faults : S → ℕ) (held : K → Option (List ℕ)) (faults : K → ℕ) (x : S) (a : K)
    → Runs (reads words) (form_of words) (Outcome tallies words) left source_faults held faults x x a a OutOfMemory
answers_unread tallies words = runs_unread (reads words) (form_of words) (Outcome tallies words)

-- A run that isn't refused.

-- a run on bytes that aren't refused
outcome_accepted : {tallies : List Shown} (words : List (List ℕ)) (bytes : List ℕ) (status : Status) (lines : List (List ℕ)) (job : JobData) (form : Form) → words_meaning words ≡ Ok (job, form)
    → ((refusal : RefusalData) → ¬ IsRefusedIn job (given_text form bytes) refusal) → Outcome tallies words bytes status lines → is_answer status ≡ true
outcome_accepted {tallies} words bytes status lines job form sound never (faulty_words word faulty is shows) = absurd cc
outcome_accepted {tallies} words bytes status lines job form sound never (refused other its refusal meaning why is shows) =
    let both : ◌≡◌ {A = Result (JobData × Form) ℕ} (Ok (other, its)) (Ok (job, form)) = sym meaning ∙ sound in
    let same : (other, its) ≡ (job, form) = cc in
    absurd (never refusal (subst (λ (asked : JobData × Form). IsRefusedIn asked.0 (given_text asked.1 bytes) refusal) same why))
outcome_accepted {tallies} words bytes status lines job form sound never (answered other its text meaning given right) = answer_status tallies other text status lines right

-- a run that answers as it promises comes to an answer where the input isn't refused
pub answers_accepted : (tallies : List Shown) (words : List (List ℕ)) (before after a b : Option (List ℕ)) (status : Status) → Answers tallies words before after a b status → AnswersAccepted words before status
answers_accepted tallies words before after a b status answers bytes job form sound told never no_read_fault no_write_fault =
    let same : answers.bytes ≡ bytes = sym (subst (λ (left : Option (List ℕ)). Agrees left answers.bytes) told answers.read) in
    by_status (writes_all_or status) same where
      by_status : (writes_all_lines status ≡ true) ⊎ ((status ≡ OutOfMemory) ⊎ ((status ≡ ReadFault) ⊎ (status ≡ WriteFault))) → answers.bytes ≡ bytes → (is_answer status ≡ true) ⊎ (status ≡ OutOfMemory)
      by_status (inl w) same =
          let text = answers.ends.whole w in
          inl (outcome_accepted words bytes status text.lines job form sound never (subst (λ (t : List ℕ). Outcome tallies words t status text.lines) same text.is_right))
      by_status (inr (inl is)) same = inr is
      by_status (inr (inr (inl is))) same = absurd (no_read_fault is)
      by_status (inr (inr (inr is))) same = absurd (no_write_fault is)
