-- What is written for a command, put behind its instance, is judged with yes.
use Rattle.std.proofs.Common.{◌≡◌, ℕ, ◌≤◌, ◌++◌, ◌∷◌, [], inl, inr, List, length, map, Option, None, Some, Result, Ok, Err, refl, sym, ap, ◌∙◌, subst, unwrap_or}
use Rattle.std.specs.Option.{option_map}
use Rattle.std.proofs.lemmas.Option.{none-some}
use Rattle.sm_text.specs.Lines.{texts_from}
use Rattle.sm_text.specs.Limits.{most_bytes}
use Rattle.sm_text.specs.declared.refusal.RefusalKind.TheVariants.{TooManySeats}
use Rattle.sm_agents.specs.Written.{Written, agent_at}
use Rattle.sm_lists.proofs.Counting.{lt_or_le}
use Rattle.sm_instance.specs.Inputs.{IsInput}
use Rattle.sm_agents.specs.Sound.{IsInstance}
use Rattle.sm_instance.specs.declared.inputs.Input.{Input}
use Rattle.sm_instance.specs.declared.inputs.Input.TheVariants.{Two, Room}
use Rattle.sm_agents.specs.declared.kinds.Measure.{Measure}
use Rattle.sm_agents.specs.declared.kinds.Side.{Side}
use Rattle.sm_agents.specs.declared.kinds.Side.TheVariants.{Proposers}
use Rattle.sm_reader.specs.InstanceText.{ReadText, Refusal, instance_text}
use Rattle.sm_reader.proofs.SoundTextLemmas.{text_is_sound}
use Rattle.sm_reader.proofs.ReadingLemmas.{instance_text-too_long}
use Rattle.sm_report.specs.Lines.{LineData}
use Rattle.sm_report.specs.Texts.{text_of_line}
use Rattle.sm_answer.specs.Printing.{IsShown}
use Rattle.sm_answer.specs.Writing.{text_of}
use Rattle.sm_tally.specs.Fold.{Shown}
use Rattle.sm_words.specs.Jobs.{JobData, Solve, Reduced, Rotations, Pairs, Regret, Weight, Meet, Join, Survey, Check, Make, Rest, Median, Route, Export}
use Rattle.sm_theory.specs.declared.choice.Choice.TheVariants.{Better, Worse}
use Rattle.sm_seats.specs.SeatEntries.{AreFewSeats, first_too_many}
use Rattle.sm_seats.proofs.LimitLaws.{few_where_none}
use Rattle.sm_answer_rotations.specs.Reduction.{IsReduction}
use Rattle.sm_answer_rotations.specs.RotationAnswer.{IsRotationAnswer}
use Rattle.sm_answer_given.specs.Chosen.{IsChosenAnswer}
use Rattle.sm_check_clauses.specs.Judging.{IsJudged}
use Rattle.sm_check_clauses.specs.declared.verdicts.Verdict.TheVariants as verdict
use Rattle.sm_law_agree.specs.Agree.{GetYes}
use Rattle.sm_law_agree.proofs.SolveAgree.{solve_agrees}
use Rattle.sm_law_agree.proofs.ReducedAgree.{reduced_agrees}
use Rattle.sm_law_agree.proofs.RotationsAgree.{rotations_agree}
use Rattle.sm_law_agree.proofs.CouplesAgree.{couples_agree}
use Rattle.sm_law_agree.proofs.PartiesAgree.{parties_agree}
use Rattle.sm_law_agree.proofs.ListAgree.{list_agrees}
use Rattle.sm_law_agree.proofs.RegretAgree.{regret_agrees}
use Rattle.sm_law_agree.proofs.WeightAgree.{weight_agrees}
use Rattle.sm_law_agree.proofs.ChosenAgree.{meet_agrees, join_agrees}
use Rattle.sm_serve.specs.declared.status.Status.{Status}
use Rattle.sm_serve.specs.declared.status.Status.TheVariants.{Done, NoneExists}
use Rattle.sm_top.specs.Accepting.{accepted, behind_text, after_end, wrong_kind, too_many_seats}
use Rattle.sm_serve.specs.Refusals.{first_refusal, too_many_in}
use Rattle.sm_top.specs.Checked.{verdict_lines}
use Rattle.sm_top.specs.Outcome.{OfTwo, IsSolved, IsAnyList, IsRegretted, IsWeighed, IsAnswerOver, IsAnswer}
use Rattle.sm_law_round.specs.Round.{IsInstanceText, IsListTaken, WrittenIsChecked}
use Rattle.sm_law_round.proofs.BehindLemmas.{read_more, answer_behind}

-- an instance that isn't refused for its seats has few of them
few_in : (w : Written) → too_many_in (Two w) ≡ None → AreFewSeats w
few_in w none = by_first (first_too_many w) refl none
  where
    by_first : (o : Option ℕ) → first_too_many w ≡ o → option_map {U = Refusal} (λ (r : ℕ). (TooManySeats, (agent_at w.reviewers r).line)) o ≡ None → AreFewSeats w
    by_first None e h = few_where_none w e
    by_first (Some r) e h = absurd (none-some _ (sym h))

-- right answers get a yes
yes_on_solve : (side : Option Side) (input : Input) (status : Status) (answer : List LineData) → IsInput input → IsSolved side input status answer → GetYes input answer
yes_on_solve side (Two w) status answer sound h = solve_agrees w (unwrap_or side Proposers) answer sound h.1
yes_on_solve side (Room persons) status answer sound (inl h) = couples_agree persons answer h.1
yes_on_solve side (Room persons) status answer sound (inr h) = parties_agree persons answer h.1

yes_on_two : (right : Written → List LineData → Type 0) → ((w : Written) (answer : List LineData) → IsInstance w → right w answer → GetYes (Two w) answer)
    → (input : Input) (answer : List LineData) → IsInput input → OfTwo right input answer → GetYes input answer
yes_on_two right agree (Two w) answer sound h = agree w answer sound h
yes_on_two right agree (Room persons) answer sound h = absurd h

yes_on_few : (right : Written → List LineData → Type 0) → ((w : Written) (answer : List LineData) → IsInstance w → AreFewSeats w → right w answer → GetYes (Two w) answer)
    → (input : Input) (answer : List LineData) → IsInput input → too_many_in input ≡ None → OfTwo right input answer → GetYes input answer
yes_on_few right agree (Two w) answer sound few h = agree w answer sound (few_in w few) h
yes_on_few right agree (Room persons) answer sound few h = absurd h

yes_on_list : (after : Option (List ℕ)) (limit : ℕ) (input : Input) (answer : List LineData) → IsInput input → IsListTaken input after limit
    → IsAnyList after limit input answer → GetYes input answer
yes_on_list after limit (Two w) answer sound head h = list_agrees w after limit answer sound head h
yes_on_list after limit (Room persons) answer sound head h = absurd head

done_is_other : Done ≡ NoneExists → ⊥
done_is_other e = cc

yes_on_regret : (input : Input) (status : Status) (answer : List LineData) → IsInput input → status ≡ Done → IsRegretted input status answer → GetYes input answer
yes_on_regret (Two w) status answer sound done (inl h) = regret_agrees w answer sound h.1
yes_on_regret (Two w) status answer sound done (inr h) = absurd (done_is_other (sym done ∙ h.0))
yes_on_regret (Room persons) status answer sound done h = absurd h

yes_on_weight : (by : Measure) (input : Input) (status : Status) (answer : List LineData) → IsInput input → too_many_in input ≡ None → status ≡ Done
    → IsWeighed by input status answer → GetYes input answer
yes_on_weight by (Two w) status answer sound few done (inl h) = weight_agrees w by answer sound (few_in w few) h.1
yes_on_weight by (Two w) status answer sound few done (inr h) = absurd (done_is_other (sym done ∙ h.0))
yes_on_weight by (Room persons) status answer sound few done h = absurd h

-- what was accepted was read as it is, and its seats aren't too many
pub record IsAccepted (x read : ReadText) : Type 0 where
  pub same : x ≡ read
  pub few : too_many_seats read ≡ None

passed : (a b c : Option Refusal) (x read : ReadText) → c ≡ too_many_seats x → first_refusal (a ∷ b ∷ c ∷ []) x ≡ Ok read → IsAccepted x read
passed None None None x read few e = let same : x ≡ read = cc in record { same = same; few = ap too_many_seats (sym same) ∙ sym few }
passed None None (Some refusal) x read few e = absurd cc
passed None (Some refusal) c x read few e = absurd cc
passed (Some refusal) b c x read few e = absurd cc

accepted_as : (job : JobData) (bytes : List ℕ) (x read : ReadText) → instance_text bytes ≡ Ok x → accepted job bytes ≡ Ok read → IsAccepted x read
accepted_as job bytes x read means ok =
    passed (after_end job bytes x) (wrong_kind job x) (too_many_seats x) x read refl (sym (ap (behind_text job bytes) means) ∙ ok)

-- what the text of an instance means is sound
sound_of : {text : List ℕ} {read : ReadText} → IsInstanceText text read → IsInput read.input
sound_of {text} {read} t = text_is_sound text read t.means

module _ (others : List Shown) (text : List ℕ) (read : ReadText) (t : IsInstanceText text read) where
  -- the text behind the instance is read after it
  read_on : (more : List ℕ) → length (text ++ more) ≤ most_bytes → instance_text (text ++ more) ≡ Ok read
  read_on more le =
      subst (λ (front : List ℕ). instance_text (front ++ more) ≡ Ok read) (sym t.ended)
      (read_more t.front more read (subst (λ (front : List ℕ). length (front ++ more) ≤ most_bytes) t.ended le) (subst (λ (front : List ℕ). instance_text front ≡ Ok read) t.ended t.means))

  -- the answer to `check`
  checked : (answer : List LineData) → too_many_seats read ≡ None → GetYes read.input answer → (lines : List (List ℕ)) → lines ≡ map (text_of_line read.input) answer
      → length (text ++ text_of lines) ≤ most_bytes → IsAnswer others Check (text ++ text_of lines) Done (map (text_of_line read.input) (verdict_lines verdict.Yes))
  checked answer few agrees lines are le =
      let judged = agrees read.rest_line in
      let right = subst (λ (texts : List (List ℕ)). texts_from (text ++ text_of texts) (length text) ≡ texts) judged.answer.read (answer_behind read.input (sound_of t) text judged.lines judged.answer.right) in
      let there : texts_from (text ++ text_of lines) read.rest ≡ map (text_of_line read.input) answer =
      ap (texts_from (text ++ text_of lines)) t.whole ∙ ap (λ (ls : List (List ℕ)). texts_from (text ++ text_of ls) (length text)) are ∙ right in
      record {
        read = read;
        ok = ap (behind_text Check (text ++ text_of lines)) (read_on (text_of lines) le) ∙ ap (λ (o : Option Refusal). first_refusal (o ∷ []) read) few;
        shown = record {
          answer = verdict_lines verdict.Yes;
          is_right = record {
            verdict = verdict.Yes;
            judged = subst (λ (texts : List (List ℕ)). IsJudged read.input texts read.rest_line verdict.Yes) (sym there) judged;
            by_verdict = refl;
            shows = refl;
          };
          shows = refl;
        };
      }

  -- a right answer over the instance
  over : (job : JobData) (behind : List ℕ) (right : ReadText → List LineData → Type 0) (lines : List (List ℕ))
      → ((answer : List LineData) → too_many_seats read ≡ None → right read answer → GetYes read.input answer) → length (text ++ behind) ≤ most_bytes → IsAnswerOver job (text ++ behind) right lines
      → length (text ++ text_of lines) ≤ most_bytes → IsAnswer others Check (text ++ text_of lines) Done (map (text_of_line read.input) (verdict_lines verdict.Yes))
  over job behind right lines agree fits a le =
      let is = accepted_as job (text ++ behind) read a.read (read_on behind fits) a.ok in
      let shown = subst (λ (r : ReadText). IsShown r.input (right r) lines) (sym is.same) a.shown in
      let few : too_many_seats read ≡ None = ap too_many_seats is.same ∙ is.few in
      checked shown.answer few (agree shown.answer few shown.is_right) lines shown.shows le

-- what was accepted is short enough
fits : (job : JobData) (bytes : List ℕ) (read : ReadText) → accepted job bytes ≡ Ok read → length bytes ≤ most_bytes
fits job bytes read ok = elim (lt_or_le most_bytes (length bytes)) [
  | inl long ↦ absurd (refused (sym (ap (behind_text job bytes) (instance_text-too_long bytes long)) ∙ ok))
  | inr le ↦ le
]
  where
    refused : {f : Refusal} → ◌≡◌ {A = Result ReadText Refusal} (Err f) (Ok read) → ⊥
    refused e = cc

-- the law that what is written gets a yes
pub written_is_checked : WrittenIsChecked
written_is_checked tallies others (Solve side) text behind read status lines t taken a le =
    over others text read t (Solve side) behind (λ r. IsSolved side r.input status) lines (λ answer few h. yes_on_solve side read.input status answer (sound_of t) h)
    (fits (Solve side) (text ++ behind) a.read a.ok) a le
written_is_checked tallies others (JobData.List after limit) text behind read status lines t taken a le =
    over others text read t (JobData.List after limit) behind (λ r. IsAnyList after limit r.input) lines (λ answer few h. yes_on_list after limit read.input answer (sound_of t) taken h)
    (fits (JobData.List after limit) (text ++ behind) a.1.read a.1.ok) a.1 le
written_is_checked tallies others Regret text behind read status lines t taken a le =
    over others text read t Regret behind (λ r. IsRegretted r.input status) lines (λ answer few h. yes_on_regret read.input status answer (sound_of t) taken h)
    (fits Regret (text ++ behind) a.read a.ok) a le
written_is_checked tallies others Meet text behind read status lines t taken a le =
    over others text read t Meet behind (λ r. OfTwo (IsChosenAnswer Better (texts_from (text ++ behind) r.rest)) r.input) lines
    (λ answer few h. yes_on_two (IsChosenAnswer Better (texts_from (text ++ behind) read.rest)) (λ w an i h. meet_agrees w (texts_from (text ++ behind) read.rest) an i h) read.input answer (sound_of t) h)
    (fits Meet (text ++ behind) a.1.read a.1.ok) a.1 le
written_is_checked tallies others Join text behind read status lines t taken a le =
    over others text read t Join behind (λ r. OfTwo (IsChosenAnswer Worse (texts_from (text ++ behind) r.rest)) r.input) lines
    (λ answer few h. yes_on_two (IsChosenAnswer Worse (texts_from (text ++ behind) read.rest)) (λ w an i h. join_agrees w (texts_from (text ++ behind) read.rest) an i h) read.input answer (sound_of t) h)
    (fits Join (text ++ behind) a.1.read a.1.ok) a.1 le
written_is_checked tallies others Reduced text behind read status lines t taken a le =
    over others text read t Reduced behind (λ r. OfTwo IsReduction r.input) lines (λ answer few h. yes_on_two IsReduction reduced_agrees read.input answer (sound_of t) h)
    (fits Reduced (text ++ behind) a.1.read a.1.ok) a.1 le
written_is_checked tallies others Rotations text behind read status lines t taken a le =
    over others text read t Rotations behind (λ r. OfTwo IsRotationAnswer r.input) lines (λ answer few h. yes_on_few IsRotationAnswer rotations_agree read.input answer (sound_of t) few h)
    (fits Rotations (text ++ behind) a.1.read a.1.ok) a.1 le
written_is_checked tallies others (Weight by) text behind read status lines t taken a le =
    over others text read t (Weight by) behind (λ r. IsWeighed by r.input status) lines (λ answer few h. yes_on_weight by read.input status answer (sound_of t) few taken h)
    (fits (Weight by) (text ++ behind) a.read a.ok) a le
written_is_checked tallies others Pairs text behind read status lines t taken a le = absurd taken
written_is_checked tallies others (Survey limit) text behind read status lines t taken a le = absurd taken
written_is_checked tallies others Check text behind read status lines t taken a le = absurd taken
written_is_checked tallies others (Make shape size seed summary) text behind read status lines t taken a le = absurd taken
written_is_checked tallies others Rest text behind read status lines t taken a le = absurd taken
written_is_checked tallies others Median text behind read status lines t taken a le = absurd taken
written_is_checked tallies others Route text behind read status lines t taken a le = absurd taken
written_is_checked tallies others Export text behind read status lines t taken a le = absurd taken
