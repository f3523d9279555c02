-- What is written with a status.
use Rattle.std.proofs.Common.{◌≡◌, ◌≤◌, ℕ, List, [], ◌∷◌, ◌++◌, take, drop, Option, Result, Ok, Err, true, refl, sym, ap, ◌∙◌, subst, append-nil}
use Rattle.std.proofs.Math.ListN.{take-append-drop}
use Rattle.sm_io.specs.Faults.{Rose}
use Rattle.sm_io.specs.Sink.{Grows, IsPart}
use Rattle.sm_answer.specs.Writing.{text_of, WroteAll, WroteFront}
use Rattle.sm_json.specs.Writing.{WroteArray, WroteArrayFront}
use Rattle.sm_text.specs.Lines.{LF}
use Rattle.sm_words.specs.declared.jobs.Form.TheVariants.{Text, Json}
use Rattle.sm_text.specs.declared.refusal.RefusalKind.{RefusalKind}
use Rattle.sm_words.specs.declared.jobs.Form.{Form}
use Rattle.sm_serve.specs.declared.status.Status.{Status}
use Rattle.sm_serve.specs.declared.status.Status.TheVariants.{Done, Refused, OutOfMemory, WriteFault}
use Rattle.sm_serve.specs.Running.{writes_all_lines}
use Rattle.sm_serve.specs.Texts.{with_detail, plain_refusal, refused_line}
use Rattle.sm_serve.specs.Wrote.{written_text, IsText, IsFront, Ended, Wrote, With, Leaves, whole, sink_failed, no_memory}

-- a front of the text of these lines, and what is behind it
front_of : (form : Form) (status : Status) (gives : List (List ℕ) → Type 0) (lines : List (List ℕ)) (count : ℕ) → gives lines → IsFront form (With status gives) (take count (written_text form lines))
front_of form status gives lines count given = record {
  status = status;
  rest = drop count (written_text form lines);
  whole = record { lines = lines; is_right = record { same = refl; given_lines = given }; shows = take-append-drop count (written_text form lines) };
}

-- all lines were written
written_whole : (form : Form) (status : Status) (gives : List (List ℕ) → Type 0) (lines : List (List ℕ)) {K : Type 0} (held : K → Option (List ℕ)) (faults : K → ℕ) (a b : K) → gives lines → Grows (held a) (held b) (written_text form lines) → faults a ≤ faults b → Wrote form (With status gives) held faults a b status
written_whole form status gives lines held faults a b given grows later = record {
  text = written_text form lines;
  grows = grows;
  ended = whole (record { lines = lines; is_right = record { same = refl; given_lines = given }; shows = refl });
  later = later;
}

-- a front of them was, since the sink failed
written_failed : (form : Form) (status : Status) (gives : List (List ℕ) → Type 0) (lines : List (List ℕ)) {K : Type 0} (held : K → Option (List ℕ)) (faults : K → ℕ) (a b : K) → gives lines → IsPart (held a) (held b) (written_text form lines) → Rose (faults a) (faults b) → faults a ≤ faults b → Wrote form (With status gives) held faults a b WriteFault
written_failed form status gives lines held faults a b given part rose later = record {
  text = take part.count (written_text form lines);
  grows = part.grows;
  ended = sink_failed refl (front_of form status gives lines part.count given) rose;
  later = later;
}

-- a front of them was, for want of memory
written_cut : (form : Form) (status : Status) (gives : List (List ℕ) → Type 0) (lines : List (List ℕ)) {K : Type 0} (held : K → Option (List ℕ)) (faults : K → ℕ) (a b : K) → gives lines → IsPart (held a) (held b) (written_text form lines) → faults a ≤ faults b → Wrote form (With status gives) held faults a b OutOfMemory
written_cut form status gives lines held faults a b given part later = record {
  text = take part.count (written_text form lines);
  grows = part.grows;
  ended = no_memory refl (front_of form status gives lines part.count given);
  later = later;
}

-- so it is of lines with their ends
pub wrote_whole : (status : Status) (gives : List (List ℕ) → Type 0) {K : Type 0} (held : K → Option (List ℕ)) (faults : K → ℕ) (a b : K) → WroteAll gives (held a) (held b) → faults a ≤ faults b → Wrote Text (With status gives) held faults a b status
wrote_whole status gives held faults a b w later = written_whole Text status gives w.lines held faults a b w.is_right w.written later

pub wrote_failed : (status : Status) (gives : List (List ℕ) → Type 0) {K : Type 0} (held : K → Option (List ℕ)) (faults : K → ℕ) (a b : K) → WroteFront gives (held a) (held b) × Rose (faults a) (faults b) → faults a ≤ faults b → Wrote Text (With status gives) held faults a b WriteFault
wrote_failed status gives held faults a b w later = written_failed Text status gives w.0.lines held faults a b w.0.is_right w.0.written w.1 later

pub wrote_cut : (status : Status) (gives : List (List ℕ) → Type 0) {K : Type 0} (held : K → Option (List ℕ)) (faults : K → ℕ) (a b : K) → WroteFront gives (held a) (held b) → faults a ≤ faults b → Wrote Text (With status gives) held faults a b OutOfMemory
wrote_cut status gives held faults a b w later = written_cut Text status gives w.lines held faults a b w.is_right w.written later

-- and of an array of lines
pub wrote_array : (status : Status) (gives : List (List ℕ) → Type 0) {K : Type 0} (held : K → Option (List ℕ)) (faults : K → ℕ) (a b : K) → WroteArray gives (held a) (held b) → faults a ≤ faults b → Wrote Json (With status gives) held faults a b status
wrote_array status gives held faults a b w later = written_whole Json status gives w.lines held faults a b w.is_right w.written later

pub wrote_array_failed : (status : Status) (gives : List (List ℕ) → Type 0) {K : Type 0} (held : K → Option (List ℕ)) (faults : K → ℕ) (a b : K) → WroteArrayFront gives (held a) (held b) × Rose (faults a) (faults b) → faults a ≤ faults b → Wrote Json (With status gives) held faults a b WriteFault
wrote_array_failed status gives held faults a b w later = written_failed Json status gives w.0.lines held faults a b w.0.is_right w.0.written w.1 later

pub wrote_array_cut : (status : Status) (gives : List (List ℕ) → Type 0) {K : Type 0} (held : K → Option (List ℕ)) (faults : K → ℕ) (a b : K) → WroteArrayFront gives (held a) (held b) → faults a ≤ faults b → Wrote Json (With status gives) held faults a b OutOfMemory
wrote_array_cut status gives held faults a b w later = written_cut Json status gives w.lines held faults a b w.is_right w.written later

-- and of one line with its end
one_line : (line text : List ℕ) → text ≡ line ++ LF ∷ [] → text ≡ text_of (line ∷ [])
one_line line text is = is ∙ sym (append-nil (line ++ LF ∷ []))

pub put_whole : (line text : List ℕ) {K : Type 0} (held : K → Option (List ℕ)) (faults : K → ℕ) (a b : K) → text ≡ line ++ LF ∷ [] → Grows (held a) (held b) text → faults a ≤ faults b → Wrote Text (With Done (λ lines. lines ≡ line ∷ [])) held faults a b Done
put_whole line text held faults a b is grows later = written_whole Text Done (λ lines. lines ≡ line ∷ []) (line ∷ []) held faults a b refl (subst (Grows (held a) (held b)) (one_line line text is) grows) later

pub put_failed : (line text : List ℕ) {K : Type 0} (held : K → Option (List ℕ)) (faults : K → ℕ) (a b : K) → text ≡ line ++ LF ∷ [] → IsPart (held a) (held b) text → Rose (faults a) (faults b) → faults a ≤ faults b → Wrote Text (With Done (λ lines. lines ≡ line ∷ [])) held faults a b WriteFault
put_failed line text held faults a b is part rose later = written_failed Text Done (λ lines. lines ≡ line ∷ []) (line ∷ []) held faults a b refl (subst (IsPart (held a) (held b)) (one_line line text is) part) rose later

-- what is right for one reason is right for another
text_for : {form : Form} (P Q : List (List ℕ) → Type 0) (text : List ℕ) → ((lines : List (List ℕ)) → P lines → Q lines) → IsText form P text → IsText form Q text
text_for {form} P Q text to t = record { lines = t.lines; is_right = to t.lines t.is_right; shows = t.shows }

front_for : {form : Form} (P Q : Status → List (List ℕ) → Type 0) (text : List ℕ) → ((status : Status) (lines : List (List ℕ)) → P status lines → Q status lines) → IsFront form P text → IsFront form Q text
front_for {form} P Q text to front = record { status = front.status; rest = front.rest; whole = text_for (P front.status) (Q front.status) (text ++ front.rest) (to front.status) front.whole }

-- so what was written for the one was written for the other
pub wrote_for : {form : Form} (P Q : Status → List (List ℕ) → Type 0) {K : Type 0} (held : K → Option (List ℕ)) (faults : K → ℕ) (a b : K) (status : Status)
    → ((status : Status) (lines : List (List ℕ)) → P status lines → Q status lines) → Wrote form P held faults a b status → Wrote form Q held faults a b status
wrote_for {form} P Q held faults a b status to w = record { text = w.text; grows = w.grows; ended = by_end w.ended; later = w.later } where
  by_end : Ended form P w.text (faults a) (faults b) status → Ended form Q w.text (faults a) (faults b) status
  by_end (whole text) = whole (text_for (P status) (Q status) w.text (to status) text)
  by_end (sink_failed is front rose) = sink_failed is (front_for P Q w.text to front) rose
  by_end (no_memory is front) = no_memory is (front_for P Q w.text to front)

-- and the same of lines with one status
pub wrote_given : {form : Form} (given : Status) (P Q : List (List ℕ) → Type 0) {K : Type 0} (held : K → Option (List ℕ)) (faults : K → ℕ) (a b : K) (status : Status)
    → ((lines : List (List ℕ)) → P lines → Q lines) → Wrote form (With given P) held faults a b status → Wrote form (With given Q) held faults a b status
wrote_given {form} given P Q held faults a b status to = wrote_for (With given P) (With given Q) held faults a b status (λ s lines w. record { same = w.same; given_lines = to lines w.given_lines })

-- a refusal without fields is a plain one
pub plain_said : {form : Form} (kind : RefusalKind) (at : ℕ) (fields : List (List ℕ)) {K : Type 0} (held : K → Option (List ℕ)) (faults : K → ℕ) (a b : K) (status : Status) → fields ≡ []
    → Wrote form (With (Refused kind at) (λ lines. lines ≡ refused_line (with_detail kind at fields) ∷ [])) held faults a b status
    → Wrote form (With (Refused kind at) (λ lines. lines ≡ refused_line (plain_refusal kind at) ∷ [])) held faults a b status
plain_said {form} kind at fields held faults a b status none w = subst (λ (fields : List (List ℕ)). Wrote form (With (Refused kind at) (λ lines. lines ≡ refused_line (with_detail kind at fields) ∷ [])) held faults a b status) none w

-- the status of a sink that failed comes only where its count of faults rose
pub wrote_fault : {form : Form} {right : Status → List (List ℕ) → Type 0} {K : Type 0} (held : K → Option (List ℕ)) (faults : K → ℕ) (a b : K) (status : Status)
    → ((s : Status) (lines : List (List ℕ)) → right s lines → writes_all_lines s ≡ true) → Wrote form right held faults a b status → status ≡ WriteFault → Rose (faults a) (faults b)
wrote_fault {form} {right} held faults a b status all w is = by_end w.ended where
  by_end : Ended form right w.text (faults a) (faults b) status → Rose (faults a) (faults b)
  by_end (whole text) = absurd (let h = all status text.lines text.is_right in let k = ap writes_all_lines is in cc)
  by_end (sink_failed is' front rose) = rose
  by_end (no_memory is' front) = absurd cc

-- so it is of a call that may have stopped
pub leaves_for : {form : Form} {K E : Type 0} {held : K → Option (List ℕ)} {faults : K → ℕ} {a b : K} (r : Result Status E) (P Q : Status → List (List ℕ) → Type 0)
    → ((status : Status) → Wrote form P held faults a b status → Wrote form Q held faults a b status) → Leaves form P held faults a b r → Leaves form Q held faults a b r
leaves_for {form} (Ok status) P Q to wrote = to status wrote
leaves_for {form} (Err stop) P Q to same = same
