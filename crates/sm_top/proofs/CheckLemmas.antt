-- What is checked of an input: its seats, the text behind `end`, and the verdict on it.
use Rattle.std.proofs.Common.{◌≡◌, ◌∙◌, ℕ, ◌<◌, arith, true, All, List, [], ◌∷◌, length, Option, None, Ok, refl, ap}
use Rattle.std.specs.Option.{option_map}
use Rattle.std.proofs.lemmas.List.Elements.{All-cons}
use Rattle.sm_text.specs.Lines.{texts_from}
use Rattle.sm_answer.specs.Printing.{IsShown}
use Rattle.sm_answer.proofs.AnswerLemmas.{one_all}
use Rattle.sm_text.specs.declared.refusal.RefusalKind.TheVariants.{TooManySeats, BadAnswer}
use Rattle.sm_instance.specs.Inputs.{right_of}
use Rattle.sm_agents.specs.Written.{agent_at}
use Rattle.sm_instance.specs.declared.inputs.Input.{Input}
use Rattle.sm_instance.specs.declared.inputs.Input.TheVariants.{Two, Room}
use Rattle.sm_reader.specs.InstanceText.{ReadText, Refusal}
use Rattle.sm_report.specs.Heads.{HeadData}
use Rattle.sm_report.specs.Lines.{LineData}
use Rattle.sm_report.specs.Sound.{IsLineOf}
use Rattle.sm_seats.proofs.LimitLaws.{first_too_many-none}
use Rattle.sm_cert.specs.Checking.{HasFewSeats, HasTooManyAt}
use Rattle.sm_check_clauses.specs.Judging.{IsJudged, IsBadAnswerAt}
use Rattle.sm_check_clauses.specs.declared.verdicts.Verdict.{Verdict}
use Rattle.sm_tally.specs.Fold.{Shown}
use Rattle.sm_words.specs.declared.jobs.Form.{Form}
use Rattle.sm_words.specs.Jobs.{JobData, Check}
use Rattle.sm_serve.specs.declared.status.Status.{Status}
use Rattle.sm_serve.specs.Texts.{plain_refusal}
use Rattle.sm_words.specs.Takes.{judges_answer}
use Rattle.sm_top.specs.Accepting.{judged, accepted}
use Rattle.sm_serve.specs.Refusals.{too_many_in, first_refusal, IsTooMany}
use Rattle.sm_top.specs.Checked.{verdict_lines, status_by}
use Rattle.sm_top.specs.Outcome.{IsAnswer, IsRefused, not_accepted, by_job}
use Rattle.sm_serve.specs.Wrote.{Wrote, With}
use Rattle.sm_serve.proofs.SeatLemmas.{too_many_at}
use Rattle.sm_serve.proofs.WritingLemmas.{wrote_for}

-- it is `check` that judges an answer
pub is_check : (job : JobData) → judges_answer job ≡ true → job ≡ Check
is_check Check h = refl
is_check _ h = absurd cc

-- where the seats aren't too many, the input is accepted
few_in : (input : Input) → HasFewSeats input → too_many_in input ≡ None
few_in (Two w) few = ap (option_map (λ r. (TooManySeats, (agent_at w.reviewers r).line))) (first_too_many-none w few)
few_in (Room persons) few = refl

-- where the seats are few, the input is accepted for `check`
pub check_accepted : (bytes : List ℕ) (read : ReadText) → accepted Check bytes ≡ judged Check read → HasFewSeats read.input → accepted Check bytes ≡ Ok read
check_accepted bytes read before few = before ∙ ap (λ (o : Option Refusal). first_refusal (o ∷ []) read) (few_in read.input few)

-- where they are, it is refused at the line of the first reviewer with whom they are
pub too_many_there : (input : Input) (r : ℕ) → HasTooManyAt input r → r < length (right_of input)
too_many_there (Two w) r first = first.there
too_many_there (Room persons) r none = absurd none

too_many_line : (input : Input) (r line : ℕ) → HasTooManyAt input r → line ≡ (agent_at (right_of input) r).line → IsTooMany input (plain_refusal TooManySeats line)
too_many_line (Two w) r line first at = too_many_at w r line first at
too_many_line (Room persons) r line none at = absurd none

-- where they are too many with a reviewer, it is refused on that one's line
pub seats_refused : (bytes : List ℕ) (read : ReadText) (r line : ℕ) → accepted Check bytes ≡ judged Check read → HasTooManyAt read.input r → line ≡ (agent_at (right_of read.input) r).line
    → IsRefused Check bytes (plain_refusal TooManySeats line)
seats_refused bytes read r line before too at =
    let many = too_many_line read.input r line too at in
    not_accepted refl (record {
      kind = many.kind;
      at = many.at;
      because = before ∙ ap (λ (o : Option Refusal). first_refusal (o ∷ []) read) many.because;
      says = many.says;
    })

-- a text that isn't an answer's is refused
pub text_refused : (bytes : List ℕ) (read : ReadText) (at : ℕ) → accepted Check bytes ≡ judged Check read → HasFewSeats read.input → IsBadAnswerAt read.input (texts_from bytes read.rest) read.rest_line at
    → IsRefused Check bytes (plain_refusal BadAnswer at)
text_refused bytes read at before few bad = by_job read (check_accepted bytes read before few) (record { at = at; bad = bad; says = refl })

-- the lines of the verdict were written
pub wrote_verdict : {form : Form} (tallies : List Shown) (bytes : List ℕ) (read : ReadText) (v : Verdict) (gives : List (List ℕ) → Type 0) {K : Type 0} (held : K → Option (List ℕ)) (faults : K → ℕ) (a b : K) (status : Status)
    → accepted Check bytes ≡ Ok read → IsJudged read.input (texts_from bytes read.rest) read.rest_line v
    → ((lines : List (List ℕ)) → gives lines → IsShown read.input (λ answer. answer ≡ verdict_lines v) lines) → Wrote form (With (status_by v) gives) held faults a b status
    → Wrote form (IsAnswer tallies Check bytes) held faults a b status
wrote_verdict {form} tallies bytes read v gives held faults a b status ok is_judged right =
    wrote_for (With (status_by v) gives) (IsAnswer tallies Check bytes) held faults a b status
    (λ s lines h. let shown = right lines h.given_lines in record {
      read = read;
      ok = ok;
      shown = record { answer = shown.answer; is_right = record { verdict = v; judged = is_judged; by_verdict = h.same; shows = shown.is_right }; shows = shown.shows };
    })

-- the answer has lines of every instance
pub answer_sound : (input : Input) (line : LineData) → IsLineOf input line → All (IsLineOf input) (LineData.Answer HeadData.Check ∷ line ∷ LineData.End ∷ [])
answer_sound input line sound =
    All-cons (IsLineOf input) (LineData.Answer HeadData.Check) (line ∷ LineData.End ∷ []) (record { printable = tt; seats = λ k d l. absurd (omega (arith, l)); numbers = tt; head = tt })
    (All-cons (IsLineOf input) line (LineData.End ∷ []) sound
    (one_all (IsLineOf input) LineData.End (record { printable = tt; seats = λ k d l. absurd (omega (arith, l)); numbers = tt; head = tt })))
