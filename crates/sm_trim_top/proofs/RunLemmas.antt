-- From what was read and written to what a run of `matchtrim` promises.
use Rattle.std.proofs.Common.{◌≡◌, ℕ, ◌<◌, ◌⊎◌, Bool, true, false, List, [], ◌∷◌, length, Option, inl, inr, refl, sym, ap, ◌∙◌, subst, arith}
use Rattle.std.proofs.lemmas.Bool.{eqb-true}
use Rattle.std.specs.Prelude.{◌==◌, String}
use Rattle.std.specs.declared.alloc.Global.{Global}
use Rattle.sm_io.specs.Source.{Agrees}
use Rattle.sm_text.specs.Limits.{most_bytes}
use Rattle.sm_text.specs.declared.refusal.RefusalKind.TheVariants.{TooLong}
use Rattle.sm_instance.specs.declared.inputs.Input.{Input}
use Rattle.sm_instance_lines.specs.Printed.{lines_of}
use Rattle.sm_words.specs.Words.{texts}
use Rattle.sm_words.specs.declared.jobs.Form.TheVariants.{Text}
use Rattle.sm_serve.specs.declared.status.Status.{Status}
use Rattle.sm_serve.specs.declared.status.Status.TheVariants.{Done, OutOfMemory, ReadFault, WriteFault}
use Rattle.sm_serve.specs.declared.stop.Stop.{Stop}
use Rattle.sm_serve.specs.declared.stop.Stop.TheVariants as stop
use Rattle.sm_serve.specs.Input.{Drains, ReadWhole, IsTooLong}
use Rattle.sm_serve.specs.Running.{Runs, writes_all_lines}
use Rattle.sm_serve.specs.Saying.{SaysStop}
use Rattle.sm_serve.specs.Steps.{Serves, IsRefusal, IsReadFault}
use Rattle.sm_serve.specs.Stops.{StopsBy}
use Rattle.sm_serve.specs.Texts.{RefusalData, plain_refusal}
use Rattle.sm_serve.specs.Wrote.{Wrote, With}
use Rattle.sm_serve.proofs.RunLemmas.{AreWhole, refused_too_long, refused_whole, serves_whole, runs_served, runs_stopped, runs_faulty, writes_all_or}
use Rattle.sm_serve.proofs.WritingLemmas.{wrote_for}
use Rattle.sm_trim_top.specs.Running.{has_no_words, Outcome, faulty_words, refused, trimmed, Trims, TrimsTaken}
use Rattle.sm_trim_top.specs.Trimmed.{IsTrimmedInput, IsRightText, IsRefused, untaken}
use Rattle.sm_trim_top.proofs.TakingLemmas.{text_untaken}
use Rattle.sm_reader.proofs.ReadingLemmas.{instance_text-too_long}

-- What was read.

-- an input that is too long is refused
too_long : (bytes : List ℕ) (refusal : RefusalData) → most_bytes < length bytes → refusal ≡ plain_refusal TooLong 0 → IsRefused bytes refusal
too_long bytes refusal long says = subst (IsRefused bytes) (sym says) (untaken (text_untaken bytes TooLong 0 (instance_text-too_long bytes long)))

pub read_too_long : (before after : Option (List ℕ)) (refusal : RefusalData) → IsTooLong before after refusal → IsRefusal true IsRefused before after refusal
read_too_long = refused_too_long true IsRefused too_long

-- and so is one that was read whole
pub read_refused : (before after : Option (List ℕ)) (bytes : List ℕ) (refusal : RefusalData) → ReadWhole before after bytes → IsRefused bytes refusal → IsRefusal true IsRefused before after refusal
read_refused = refused_whole true IsRefused

-- the lines of the trimmed instance were written
pub served_trimmed : (gives : List (List ℕ) → Type 0) (input : Input) (before after : Option (List ℕ)) {K : Type 0} (held : K → Option (List ℕ)) (faults : K → ℕ) (a b : K) (bytes : List ℕ) (status : Status)
    → ReadWhole before after bytes → IsTrimmedInput bytes input → ((lines : List (List ℕ)) → gives lines → lines ≡ lines_of input) → Wrote Text (With Done gives) held faults a b status
    → Serves true Text IsRightText before after held faults a b status
served_trimmed gives input before after held faults a b bytes status whole is right wrote =
    serves_whole true Text IsRightText before after held faults a b bytes status whole
    (wrote_for (With Done gives) (IsRightText bytes) held faults a b status (λ s lines h. (h.same, record { input = input; trimmed = is; shows = right lines h.given_lines })) wrote)

-- What a run promises.

-- there is a word
pub some_words : (words : List (String Global)) (b : Bool) → b ≡ (length words == 0) → b ≡ false → has_no_words (texts words) ≡ false
some_words [] b is not = absurd cc
some_words (word ∷ more) b is not = refl

-- or there is none
pub no_words : (words : List (String Global)) (b : Bool) → b ≡ (length words == 0) → b ≡ true → has_no_words (texts words) ≡ true
no_words [] b is empty = refl
no_words (word ∷ more) b is empty = let none : length (word ∷ more) ≡ 0 = eqb-true (length (word ∷ more)) 0 (sym is ∙ empty) in absurd (omega (arith, none))

-- lines of an outcome are written whole
outcome_whole : (words : List (List ℕ)) → AreWhole (Outcome words)
outcome_whole words bytes status lines (faulty_words some is shows) = ap writes_all_lines is
outcome_whole words bytes status lines (refused refusal none why is shows) = ap writes_all_lines is
outcome_whole words bytes status lines (trimmed none right) = ap writes_all_lines right.0

-- a run that wrote the trimmed instance is right
pub trims_served : (words : List (List ℕ)) → has_no_words words ≡ true → {S K : Type 0} (left : S → Option (List ℕ)) (source_faults : S → ℕ) (held : K → Option (List ℕ)) (faults : K → ℕ) (x y : S) (a b : K) (status : Status)
    → Serves true Text IsRightText (left x) (left y) held faults a b status → Drains left source_faults x y → Runs (has_no_words words) Text (Outcome words) left source_faults held faults x y a b status
trims_served words none left source_faults held faults x y a b status s drains =
    subst (λ (reads : Bool). Runs reads Text (Outcome words) left source_faults held faults x y a b status) (sym none)
    (runs_served true Text IsRightText (Outcome words) left source_faults held faults x y a b status (outcome_whole words) (λ bytes s lines right. trimmed none right) s drains)

-- and so is one that stopped
pub trims_stopped : (words : List (List ℕ)) → has_no_words words ≡ true → {S K : Type 0} (left : S → Option (List ℕ)) (source_faults : S → ℕ) (held : K → Option (List ℕ)) (faults : K → ℕ) (x y : S) (a b : K) (s : Stop) (status : Status)
    → StopsBy (λ _. ⊥) (IsRefusal true IsRefused (left x) (left y)) (IsReadFault true (source_faults x) (source_faults y)) s → SaysStop Text s held faults a b status → Drains left source_faults x y
    → Runs (has_no_words words) Text (Outcome words) left source_faults held faults x y a b status
trims_stopped words none left source_faults held faults x y a b s status why says drains =
    subst (λ (reads : Bool). Runs reads Text (Outcome words) left source_faults held faults x y a b status) (sym none)
    (runs_stopped true Text IsRefused (Outcome words) left source_faults held faults x y a b s status (outcome_whole words) (λ bytes refusal why. refused refusal none why refl refl) why says drains)

-- and one with words
pub trims_faulty : (words : List (List ℕ)) → has_no_words words ≡ false → {S K : Type 0} (left : S → Option (List ℕ)) (source_faults : S → ℕ) (held : K → Option (List ℕ)) (faults : K → ℕ) (x : S) (a b : K) (status : Status)
    → SaysStop Text (stop.Usage 1) held faults a b status → Runs (has_no_words words) Text (Outcome words) left source_faults held faults x x a b status
trims_faulty words some left source_faults held faults x a b status says =
    subst (λ (reads : Bool). Runs reads Text (Outcome words) left source_faults held faults x x a b status) (sym some)
    (runs_faulty Text (Outcome words) 1 left source_faults held faults x a b status (outcome_whole words) (λ bytes. faulty_words some refl refl) says)

-- a run on bytes that aren't refused
outcome_taken : (words : List (List ℕ)) (bytes : List ℕ) (status : Status) (lines : List (List ℕ)) → has_no_words words ≡ true → ((refusal : RefusalData) → ¬ IsRefused bytes refusal) → Outcome words bytes status lines → status ≡ Done
outcome_taken words bytes status lines none never (faulty_words some is shows) = absurd cc
outcome_taken words bytes status lines none never (refused refusal empty why is shows) = absurd (never refusal why)
outcome_taken words bytes status lines none never (trimmed empty right) = right.0

-- a run that is right writes the trimmed instance where the input isn't refused
pub trims_taken : (words : List (List ℕ)) (before after a b : Option (List ℕ)) (status : Status) → Trims words before after a b status → TrimsTaken words before status
trims_taken words before after a b status run bytes none told never no_read_fault no_write_fault =
    let same : run.bytes ≡ bytes = sym (subst (λ (left : Option (List ℕ)). Agrees left run.bytes) told run.read) in
    by_status (writes_all_or status) same where
      by_status : (writes_all_lines status ≡ true) ⊎ ((status ≡ OutOfMemory) ⊎ ((status ≡ ReadFault) ⊎ (status ≡ WriteFault))) → run.bytes ≡ bytes → (status ≡ Done) ⊎ (status ≡ OutOfMemory)
      by_status (inl w) same =
          let text = run.ends.whole w in
          inl (outcome_taken words bytes status text.lines none never (subst (λ (t : List ℕ). Outcome words t status text.lines) same text.is_right))
      by_status (inr (inl is)) same = inr is
      by_status (inr (inr (inl is))) same = absurd (no_read_fault is)
      by_status (inr (inr (inr is))) same = absurd (no_write_fault is)
