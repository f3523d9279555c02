-- Inputs of either kind: what is judged of them, and the answers of `solve` and `regret`.
use Rattle.std.proofs.Common.{◌≡◌, ◌≢◌, ℕ, cond, not, Bool, true, false, List, [], ◌∷◌, Option, None, Some, Ok, Err, inl, inr, refl, sym, ap, ◌∙◌, subst}
use Rattle.std.specs.Option.{unwrap_or}
use Rattle.sm_answer.specs.Printing.{IsShown}
use Rattle.sm_text.specs.declared.refusal.RefusalKind.TheVariants.{WrongKind}
use Rattle.sm_agents.specs.Written.{AgentData, Written}
use Rattle.sm_instance.specs.Inputs.{kind_of}
use Rattle.sm_instance.specs.declared.inputs.Input.{Input}
use Rattle.sm_instance.specs.declared.inputs.Input.TheVariants.{Two, Room}
use Rattle.sm_agents.specs.declared.kinds.Kind.{Kind}
use Rattle.sm_agents.specs.declared.kinds.Kind.TheVariants.{Marriage, Hospitals, Roommates}
use Rattle.sm_answer_weight.specs.WeightAnswer.{IsWeightAnswer}
use Rattle.sm_agents.specs.declared.kinds.Measure.{Measure}
use Rattle.sm_agents.specs.declared.kinds.Side.{Side}
use Rattle.sm_agents.specs.declared.kinds.Side.TheVariants.{Proposers}
use Rattle.sm_reader.specs.InstanceText.{ReadText, Refusal}
use Rattle.sm_words.specs.declared.jobs.Form.{Form}
use Rattle.sm_words.specs.declared.jobs.Form.TheVariants.{Text}
use Rattle.serde_json.specs.Written.{compact_text}
use Rattle.sm_json.specs.Making.{json_of}
use Rattle.sm_words.specs.Jobs.{JobData, Solve, Check, Make, Rest, Export, IsFormFor}
use Rattle.sm_answer_solve.specs.Solution.{IsSolution}
use Rattle.sm_answer_rotations.specs.NoneAnswer.{IsNoneAllowed}
use Rattle.sm_report.specs.Heads.{HeadData}
use Rattle.sm_report.specs.Lines.{LineData}
use Rattle.sm_answer_pairs.specs.RegretAnswer.{IsRegretAnswer}
use Rattle.sm_answer_median.specs.MedianAnswer.{IsMedianAnswer}
use Rattle.sm_answer_roommates.specs.RoomAnswer.{IsMatched, IsUnmatchable}
use Rattle.sm_serve.specs.declared.status.Status.{Status}
use Rattle.sm_serve.specs.declared.status.Status.TheVariants.{Done, NoneExists}
use Rattle.sm_serve.specs.Texts.{RefusalData, plain_refusal}
use Rattle.sm_words.specs.Takes.{reads_input, takes_kind, takes_rooms_alone}
use Rattle.sm_agents.specs.Kinds.{has_two_sides}
use Rattle.sm_top.specs.Accepting.{too_many_seats, judged, accepted}
use Rattle.sm_serve.specs.Refusals.{too_many_in, first_refusal, IsTooMany}
use Rattle.sm_tally.specs.Fold.{Shown}
use Rattle.sm_words.specs.Words.{usual_limit}
use Rattle.sm_answer_survey.specs.SurveyAnswer.{IsSurveyAnswer}
use Rattle.sm_instance_lines.specs.Printed.{lines_of}
use Rattle.sm_top.specs.Outcome.{IsWeighed, IsMiddle, IsSummary, IsMade, IsSolved, IsRegretted, IsAnswerOver, IsAnswer, IsRefused, not_accepted}
use Rattle.sm_serve.specs.Wrote.{Wrote, With}
use Rattle.sm_serve.proofs.WritingLemmas.{wrote_for}

-- Instances with two sides: every job takes them but `rest`.

two_sided : (kind : Kind) → kind ≢ Roommates → has_two_sides kind ≡ true
two_sided Marriage two = refl
two_sided Hospitals two = refl
two_sided Roommates two = absurd (two refl)

takes_two : (job : JobData) (kind : Kind) → reads_input job ≡ true → takes_rooms_alone job ≡ false → kind ≢ Roommates → takes_kind job kind ≡ true
takes_two (Solve None) kind reading sides two = refl
takes_two (JobData.List after limit) kind reading sides two = refl
takes_two Check kind reading sides two = refl
takes_two (Make shape size seed summary) kind reading sides two = absurd cc
takes_two Rest kind reading sides two = absurd cc
takes_two Export kind reading sides two = refl
takes_two _ kind reading sides two = two_sided kind two

-- so their seats alone are judged
seats_judged : (job : JobData) (read : ReadText) (w : Written) → reads_input job ≡ true → takes_rooms_alone job ≡ false → read.input ≡ Two w → w.kind ≢ Roommates → judged job read ≡ first_refusal (too_many_seats read ∷ []) read
seats_judged job read w reading sides is two =
    let taken : takes_kind job (kind_of read.input) ≡ true = ap (λ (input : Input). takes_kind job (kind_of input)) is ∙ takes_two job w.kind reading sides two in
    ap (λ t. first_refusal (cond t None (Some (WrongKind, read.header_line)) ∷ too_many_seats read ∷ []) read) taken

-- an input that a job reads is refused where its seats are too many
pub two_refused : (job : JobData) (bytes : List ℕ) (read : ReadText) (w : Written) (refusal : RefusalData) → reads_input job ≡ true → takes_rooms_alone job ≡ false → read.input ≡ Two w → w.kind ≢ Roommates → accepted job bytes ≡ judged job read → IsTooMany read.input refusal
    → IsRefused job bytes refusal
two_refused job bytes read w refusal reading sides is two before too = not_accepted reading (record {
  kind = too.kind;
  at = too.at;
  because = before ∙ seats_judged job read w reading sides is two ∙ ap (λ (o : Option Refusal). first_refusal (o ∷ []) read) too.because;
  says = too.says;
})

-- and accepted where they aren't
pub two_accepted : (job : JobData) (bytes : List ℕ) (read : ReadText) (w : Written) → reads_input job ≡ true → takes_rooms_alone job ≡ false → read.input ≡ Two w → w.kind ≢ Roommates → accepted job bytes ≡ judged job read → too_many_in read.input ≡ None
    → accepted job bytes ≡ Ok read
two_accepted job bytes read w reading sides is two before few = before ∙ seats_judged job read w reading sides is two ∙ ap (λ (o : Option Refusal). first_refusal (o ∷ []) read) few

-- a job that takes roommates alone refuses an instance with two sides at its header
not_two : (job : JobData) (kind : Kind) → takes_rooms_alone job ≡ true → kind ≢ Roommates → takes_kind job kind ≡ false
not_two Rest kind alone two = ap not (two_sided kind two)
not_two _ kind alone two = absurd cc

pub two_not_taken : (job : JobData) (bytes : List ℕ) (read : ReadText) (w : Written) → reads_input job ≡ true → takes_rooms_alone job ≡ true → read.input ≡ Two w → w.kind ≢ Roommates → accepted job bytes ≡ judged job read
    → IsRefused job bytes (plain_refusal WrongKind read.header_line)
two_not_taken job bytes read w reading alone is two before =
    let taken : takes_kind job (kind_of read.input) ≡ false = ap (λ (input : Input). takes_kind job (kind_of input)) is ∙ not_two job w.kind alone two in
    not_accepted reading (record {
      kind = WrongKind;
      at = read.header_line;
      because = before ∙ ap (λ t. first_refusal (cond t None (Some (WrongKind, read.header_line)) ∷ too_many_seats read ∷ []) read) taken;
      says = refl;
    })

-- Roommates: they have no seats.

kind_judged : (job : JobData) (read : ReadText) (persons : List AgentData) → read.input ≡ Room persons → judged job read ≡ cond (takes_kind job Roommates) (Ok read) (Err (WrongKind, read.header_line))
kind_judged job read persons is = by_input read.input is ∙ by_test (takes_kind job Roommates)
  where
    by_input : (input : Input) → input ≡ Room persons
        → first_refusal (cond (takes_kind job (kind_of input)) None (Some (WrongKind, read.header_line)) ∷ too_many_in input ∷ []) read
        ≡ first_refusal (cond (takes_kind job Roommates) None (Some (WrongKind, read.header_line)) ∷ None ∷ []) read
    by_input input same = ap (λ (i : Input). first_refusal (cond (takes_kind job (kind_of i)) None (Some (WrongKind, read.header_line)) ∷ too_many_in i ∷ []) read) same

    by_test : (t : Bool) → first_refusal (cond t None (Some (WrongKind, read.header_line)) ∷ None ∷ []) read ≡ cond t (Ok read) (Err (WrongKind, read.header_line))
    by_test true = refl
    by_test false = refl

-- and accepted where it does
pub room_accepted : (job : JobData) (bytes : List ℕ) (read : ReadText) (persons : List AgentData) → read.input ≡ Room persons → accepted job bytes ≡ judged job read → takes_kind job Roommates ≡ true
    → accepted job bytes ≡ Ok read
room_accepted job bytes read persons is before taken = before ∙ kind_judged job read persons is ∙ ap (λ t. cond t (Ok read) (Err (WrongKind, read.header_line))) taken

-- The answers of `solve` and `regret`.

-- lines that show an answer of one form show one of several, with its status
pub wrote_shown : {form : Form} (given : Status) (gives : List (List ℕ) → Type 0) (input : Input) (right : List LineData → Type 0) (R : Status → List LineData → Type 0) {K : Type 0} (held : K → Option (List ℕ)) (faults : K → ℕ) (a b : K) (status : Status)
    → ((lines : List (List ℕ)) → gives lines → IsShown input right lines) → ((answer : List LineData) → right answer → R given answer)
    → Wrote form (With given gives) held faults a b status → Wrote form (λ s. IsShown input (R s)) held faults a b status
wrote_shown {form} given gives input right R held faults a b status shows to =
    wrote_for (With given gives) (λ s. IsShown input (R s)) held faults a b status
    (λ s lines h. let shown = shows lines h.given_lines in record { answer = shown.answer; is_right = subst (λ (s : Status). R s shown.answer) (sym h.same) (to shown.answer shown.is_right); shows = shown.shows })

-- an answer is right for a job
pub answer_over : {form : Form} (job : JobData) (bytes : List ℕ) (read : ReadText) (right : Input → Status → List LineData → Type 0) {K : Type 0} (held : K → Option (List ℕ)) (faults : K → ℕ) (a b : K) (status : Status) → accepted job bytes ≡ Ok read
    → Wrote form (λ s. IsShown read.input (right read.input s)) held faults a b status → Wrote form (λ s lines. IsAnswerOver job bytes (λ read. right read.input s) lines) held faults a b status
answer_over {form} job bytes read right held faults a b status ok =
    wrote_for (λ s. IsShown read.input (right read.input s)) (λ s lines. IsAnswerOver job bytes (λ read. right read.input s) lines) held faults a b status (λ s lines shown. record { read = read; ok = ok; shown = shown })

-- over two sides a right answer to `solve` is the best matching of the side, or of the proposers
pub two_solved : {form : Form} (side : Option Side) (input : Input) (w : Written) {K : Type 0} (held : K → Option (List ℕ)) (faults : K → ℕ) (a b : K) (status : Status) → input ≡ Two w
    → Wrote form (With Done (IsShown input (IsSolution (unwrap_or side Proposers) w))) held faults a b status → Wrote form (λ s. IsShown input (IsSolved side input s)) held faults a b status
two_solved {form} side input w held faults a b status is =
    let right : List LineData → Type 0 = IsSolution (unwrap_or side Proposers) w in
    wrote_shown Done (IsShown input right) input right (IsSolved side input) held faults a b status (λ lines shown. shown)
    (λ answer h. subst (λ (input : Input). IsSolved side input Done answer) (sym is) (refl, h))

-- roommates with a stable matching, and such without
pub room_solved : {form : Form} (input : Input) (persons : List AgentData) (gives : List (List ℕ) → Type 0) {K : Type 0} (held : K → Option (List ℕ)) (faults : K → ℕ) (a b : K) (status : Status) → input ≡ Room persons
    → ((lines : List (List ℕ)) → gives lines → IsShown input (IsMatched persons) lines) → Wrote form (With Done gives) held faults a b status → Wrote form (λ s. IsShown input (IsSolved None input s)) held faults a b status
room_solved {form} input persons gives held faults a b status is right =
    wrote_shown Done gives input (IsMatched persons) (IsSolved None input) held faults a b status right (λ answer h. subst (λ (input : Input). IsSolved None input Done answer) (sym is) (inl (refl, h)))

-- where roommates have none, a right answer to `solve` says so
pub room_unsolved : {form : Form} (input : Input) (persons : List AgentData) (gives : List (List ℕ) → Type 0) {K : Type 0} (held : K → Option (List ℕ)) (faults : K → ℕ) (a b : K) (status : Status) → input ≡ Room persons
    → ((lines : List (List ℕ)) → gives lines → IsShown input (IsUnmatchable persons) lines) → Wrote form (With NoneExists gives) held faults a b status → Wrote form (λ s. IsShown input (IsSolved None input s)) held faults a b status
room_unsolved {form} input persons gives held faults a b status is right =
    wrote_shown NoneExists gives input (IsUnmatchable persons) (IsSolved None input) held faults a b status right (λ answer h. subst (λ (input : Input). IsSolved None input NoneExists answer) (sym is) (inr (refl, h)))

-- instances with an allowed stable matching, and such without
pub two_regretted : {form : Form} (input : Input) (w : Written) (gives : List (List ℕ) → Type 0) {K : Type 0} (held : K → Option (List ℕ)) (faults : K → ℕ) (a b : K) (status : Status) → input ≡ Two w
    → ((lines : List (List ℕ)) → gives lines → IsShown input (IsRegretAnswer w) lines) → Wrote form (With Done gives) held faults a b status → Wrote form (λ s. IsShown input (IsRegretted input s)) held faults a b status
two_regretted {form} input w gives held faults a b status is right =
    wrote_shown Done gives input (IsRegretAnswer w) (IsRegretted input) held faults a b status right (λ answer h. subst (λ (input : Input). IsRegretted input Done answer) (sym is) (inl (refl, h)))

-- where none is allowed, a right answer to `regret` says so
pub two_unallowed : {form : Form} (input : Input) (w : Written) (gives : List (List ℕ) → Type 0) {K : Type 0} (held : K → Option (List ℕ)) (faults : K → ℕ) (a b : K) (status : Status) → input ≡ Two w
    → ((lines : List (List ℕ)) → gives lines → IsShown input (IsNoneAllowed HeadData.Regret w) lines) → Wrote form (With NoneExists gives) held faults a b status → Wrote form (λ s. IsShown input (IsRegretted input s)) held faults a b status
two_unallowed {form} input w gives held faults a b status is right =
    wrote_shown NoneExists gives input (IsNoneAllowed HeadData.Regret w) (IsRegretted input) held faults a b status right (λ answer h. subst (λ (input : Input). IsRegretted input NoneExists answer) (sym is) (inr (refl, h)))

-- instances with an allowed stable matching, and such without, for `weight`
pub two_weighed : {form : Form} (by : Measure) (input : Input) (w : Written) (gives : List (List ℕ) → Type 0) {K : Type 0} (held : K → Option (List ℕ)) (faults : K → ℕ) (a b : K) (status : Status) → input ≡ Two w
    → ((lines : List (List ℕ)) → gives lines → IsShown input (IsWeightAnswer by w) lines) → Wrote form (With Done gives) held faults a b status → Wrote form (λ s. IsShown input (IsWeighed by input s)) held faults a b status
two_weighed {form} by input w gives held faults a b status is right =
    wrote_shown Done gives input (IsWeightAnswer by w) (IsWeighed by input) held faults a b status right (λ answer h. subst (λ (input : Input). IsWeighed by input Done answer) (sym is) (inl (refl, h)))

-- where none is allowed, a right answer to `weight` says so
pub two_unweighed : {form : Form} (by : Measure) (input : Input) (w : Written) (gives : List (List ℕ) → Type 0) {K : Type 0} (held : K → Option (List ℕ)) (faults : K → ℕ) (a b : K) (status : Status) → input ≡ Two w
    → ((lines : List (List ℕ)) → gives lines → IsShown input (IsNoneAllowed (HeadData.Weight by) w) lines) → Wrote form (With NoneExists gives) held faults a b status → Wrote form (λ s. IsShown input (IsWeighed by input s)) held faults a b status
two_unweighed {form} by input w gives held faults a b status is right =
    wrote_shown NoneExists gives input (IsNoneAllowed (HeadData.Weight by) w) (IsWeighed by input) held faults a b status right (λ answer h. subst (λ (input : Input). IsWeighed by input NoneExists answer) (sym is) (inr (refl, h)))

-- instances with an allowed stable matching, and such without, for `median`
pub two_middle : {form : Form} (input : Input) (w : Written) (gives : List (List ℕ) → Type 0) {K : Type 0} (held : K → Option (List ℕ)) (faults : K → ℕ) (a b : K) (status : Status) → input ≡ Two w
    → ((lines : List (List ℕ)) → gives lines → IsShown input (IsMedianAnswer w) lines) → Wrote form (With Done gives) held faults a b status → Wrote form (λ s. IsShown input (IsMiddle input s)) held faults a b status
two_middle {form} input w gives held faults a b status is right =
    wrote_shown Done gives input (IsMedianAnswer w) (IsMiddle input) held faults a b status right (λ answer h. subst (λ (input : Input). IsMiddle input Done answer) (sym is) (inl (refl, h)))

-- where none is allowed, a right answer to `median` says so
pub two_without_middle : {form : Form} (input : Input) (w : Written) (gives : List (List ℕ) → Type 0) {K : Type 0} (held : K → Option (List ℕ)) (faults : K → ℕ) (a b : K) (status : Status) → input ≡ Two w
    → ((lines : List (List ℕ)) → gives lines → IsShown input (IsNoneAllowed HeadData.Median w) lines) → Wrote form (With NoneExists gives) held faults a b status → Wrote form (λ s. IsShown input (IsMiddle input s)) held faults a b status
two_without_middle {form} input w gives held faults a b status is right =
    wrote_shown NoneExists gives input (IsNoneAllowed HeadData.Median w) (IsMiddle input) held faults a b status right (λ answer h. subst (λ (input : Input). IsMiddle input NoneExists answer) (sym is) (inr (refl, h)))

-- The summary of a made instance.
pub two_summarized : {form : Form} (tallies : List Shown) (input : Input) (w : Written) (gives : List (List ℕ) → Type 0) {K : Type 0} (held : K → Option (List ℕ)) (faults : K → ℕ) (a b : K) (status : Status) → input ≡ Two w
    → ((lines : List (List ℕ)) → gives lines → IsShown input (IsSurveyAnswer tallies usual_limit w) lines) → Wrote form (With Done gives) held faults a b status → Wrote form (λ s. IsShown input (IsSummary tallies input s)) held faults a b status
two_summarized {form} tallies input w gives held faults a b status is right =
    wrote_shown Done gives input (IsSurveyAnswer tallies usual_limit w) (IsSummary tallies input) held faults a b status right (λ answer h. subst (λ (input : Input). IsSummary tallies input Done answer) (sym is) (refl, h))

-- of roommates it is what `solve` answers
pub room_summarized : {form : Form} (tallies : List Shown) (input : Input) (persons : List AgentData) {K : Type 0} (held : K → Option (List ℕ)) (faults : K → ℕ) (a b : K) (status : Status) → input ≡ Room persons
    → Wrote form (λ s. IsShown input (IsSolved None input s)) held faults a b status → Wrote form (λ s. IsShown input (IsSummary tallies input s)) held faults a b status
room_summarized {form} tallies input persons held faults a b status is =
    wrote_for (λ s. IsShown input (IsSolved None input s)) (λ s. IsShown input (IsSummary tallies input s)) held faults a b status
    (λ s lines shown. record {
      answer = shown.answer;
      is_right = subst (λ (i : Input). IsSummary tallies i s shown.answer) (sym is) (subst (λ (i : Input). IsSolved None i s shown.answer) is shown.is_right);
      shows = shown.shows;
    })

-- the text of a made instance
pub text_made : {form : Form} (tallies : List Shown) (input : Input) (gives : List (List ℕ) → Type 0) {K : Type 0} (held : K → Option (List ℕ)) (faults : K → ℕ) (a b : K) (status : Status)
    → ((lines : List (List ℕ)) → gives lines → lines ≡ lines_of input) → Wrote form (With Done gives) held faults a b status → Wrote form (IsMade tallies input false) held faults a b status
text_made {form} tallies input gives held faults a b status right = wrote_for (With Done gives) (IsMade tallies input false) held faults a b status (λ s lines h. (h.same, right lines h.given_lines))

-- an instance in JSON, which is written as a line of text
pub wrote_export : (tallies : List Shown) (bytes : List ℕ) (read : ReadText) (form : Form) {K : Type 0} (held : K → Option (List ℕ)) (faults : K → ℕ) (a b : K) (status : Status) → IsFormFor Export form → accepted Export bytes ≡ Ok read
    → Wrote Text (With Done (λ lines. lines ≡ compact_text (json_of read.input) ∷ [])) held faults a b status → Wrote form (IsAnswer tallies Export bytes) held faults a b status
wrote_export tallies bytes read form held faults a b status formed ok w =
    subst (λ (form : Form). Wrote form (IsAnswer tallies Export bytes) held faults a b status) (sym (formed refl))
    (wrote_for (With Done (λ lines. lines ≡ compact_text (json_of read.input) ∷ [])) (IsAnswer tallies Export bytes) held faults a b status
    (λ s lines h. (h.same, record { read = read; ok = ok; shows = h.given_lines })) w)
