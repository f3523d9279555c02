-- From what was read and written to what a run promises.
use Rattle.std.proofs.Common.{◌≡◌, ◌≤◌, ℕ, ◌<◌, ◌⊎◌, Bool, true, false, List, [], ◌∷◌, ◌++◌, length, Option, None, Some, Result, Ok, Err, inl, inr, refl, sym, ap, ◌∙◌, subst, length-append, append-nil, arith}
use Rattle.std.specs.Result.{IfErr}
use Rattle.sm_io.specs.Source.{Agrees}
use Rattle.sm_io.specs.Sink.{Grows}
use Rattle.sm_io.proofs.SinkLemmas.{Grows-nil}
use Rattle.sm_text.specs.Limits.{most_bytes}
use Rattle.sm_text.specs.declared.refusal.RefusalKind.TheVariants.{TooLong, NotStable}
use Rattle.sm_words.specs.declared.jobs.Form.{Form}
use Rattle.sm_serve.specs.declared.status.Status.{Status}
use Rattle.sm_serve.specs.declared.status.Status.TheVariants.{Refused, Usage, OutOfMemory, ReadFault, WriteFault}
use Rattle.sm_serve.specs.declared.stop.Stop.{Stop}
use Rattle.sm_serve.specs.declared.stop.Stop.TheVariants as stop
use Rattle.sm_serve.specs.Texts.{RefusalData, plain_refusal, with_detail, refusal_fields, usage_line, refused_line}
use Rattle.sm_serve.specs.Stops.{StopsBy, IsPlainStop}
use Rattle.sm_serve.specs.Input.{Loses, Drains, IsReadWhole, IsBeingRead, ReadWhole, IsTooLong}
use Rattle.sm_serve.specs.Wrote.{Ended, Wrote, With, whole, sink_failed, no_memory}
use Rattle.sm_serve.specs.Running.{Ends, IsRun, Runs, writes_all_lines, may_end_early, is_too_long}
use Rattle.sm_serve.specs.Steps.{Serves, IsRefusal, IsReadFault}
use Rattle.sm_serve.specs.Saying.{SaysStop}
use Rattle.sm_serve.proofs.InputLemmas.{loses_nothing}
use Rattle.sm_serve.proofs.WritingLemmas.{wrote_for, wrote_fault}

-- Stops.

-- what is known of a stop for one reason is known of it for another
pub stops_for : (U U' : ℕ → Type 0) (R R' : RefusalData → Type 0) (F F' : Type 0) (s : Stop)
    → ((word : ℕ) → U word → U' word) → ((refusal : RefusalData) → R refusal → R' refusal) → (F → F') → StopsBy U R F s → StopsBy U' R' F' s
stops_for U U' R R' F F' (stop.Usage word) u r f h = u word h
stops_for U U' R R' F F' (stop.Refused kind at) u r f h = r (plain_refusal kind at) h
stops_for U U' R R' F F' (stop.Unstable at fields) u r f h = (r (with_detail NotStable at (refusal_fields fields)) h.0, h.1)
stops_for U U' R R' F F' stop.ReadFault u r f h = f h
stops_for U U' R R' F F' stop.OutOfMemory u r f h = tt

-- so it is of a call that may have stopped
pub err_stops_for : {X : Type 0} (U U' : ℕ → Type 0) (R R' : RefusalData → Type 0) (F F' : Type 0) (r : Result X Stop)
    → ((word : ℕ) → U word → U' word) → ((refusal : RefusalData) → R refusal → R' refusal) → (F → F')
    → IfErr r (λ s. StopsBy U R F s) → IfErr r (λ s. StopsBy U' R' F' s)
err_stops_for {X} U U' R R' F F' (Ok status) u r f h = tt
err_stops_for {X} U U' R R' F F' (Err s) u r f h = stops_for U U' R R' F F' s u r f h

-- what is said of a stop is plain
pub plain_stop : (U : ℕ → Type 0) (R : RefusalData → Type 0) (F : Type 0) (s : Stop) → StopsBy U R F s → IsPlainStop s
plain_stop U R F (stop.Usage word) faulty = tt
plain_stop U R F (stop.Refused kind at) refusal = tt
plain_stop U R F (stop.Unstable at fields) told = told.1
plain_stop U R F stop.ReadFault fault = tt
plain_stop U R F stop.OutOfMemory none = tt

-- The bytes that were read.

-- a source that was read whole isn't being read
pub not_being_read : (before after : Option (List ℕ)) → IsReadWhole before after → IsBeingRead before after → ⊥
not_being_read None after end reading = reading
not_being_read (Some all) None end reading = reading
not_being_read (Some all) (Some rest) end reading = reading.0 end

whole_agrees : (before after : Option (List ℕ)) (bytes : List ℕ) → ReadWhole before after bytes → Agrees before bytes
whole_agrees None after bytes w = tt
whole_agrees (Some all) None bytes w = absurd w.given
whole_agrees (Some all) (Some rest) bytes w = w.given ∙ ap (λ t. bytes ++ t) w.over ∙ append-nil bytes

-- the bytes that a source had, of which it gave too many
record HadTooMany (left : Option (List ℕ)) : Type 0 where
  bytes : List ℕ
  agrees : Agrees left bytes
  long : most_bytes < length bytes

had_too_many : (before after : Option (List ℕ)) (refusal : RefusalData) → IsTooLong before after refusal → HadTooMany before
had_too_many None after refusal h = record { bytes = h.given; agrees = tt; long = h.long }
had_too_many (Some all) None refusal h = absurd h.consumed
had_too_many (Some all) (Some rest) refusal h = record {
  bytes = all;
  agrees = refl;
  long = omega (arith, h.long, length-append h.given rest, ap length h.consumed);
}

not_read_yet : (before after : Option (List ℕ)) (refusal : RefusalData) → IsTooLong before after refusal → IsBeingRead before after → ⊥
not_read_yet None after refusal h reading = reading
not_read_yet (Some all) None refusal h reading = reading
not_read_yet (Some all) (Some rest) refusal h reading = omega (arith, h.long, length-append h.given rest, ap length h.consumed, reading.1)

-- a source that has too many bytes may be refused as too long, where such bytes are
pub refused_too_long : (reads : Bool) (refused : List ℕ → RefusalData → Type 0) → ((bytes : List ℕ) (refusal : RefusalData) → most_bytes < length bytes → refusal ≡ plain_refusal TooLong 0 → refused bytes refusal)
    → (before after : Option (List ℕ)) (refusal : RefusalData) → IsTooLong before after refusal → IsRefusal reads refused before after refusal
refused_too_long reads refused long before after refusal h =
    let had = had_too_many before after refusal h in
    record {
      bytes = had.bytes;
      read = had.agrees;
      because = long had.bytes refusal had.long h.says;
      read_whole = λ _ other. absurd (other (ap (λ (r : RefusalData). r.kind) h.says));
      over = λ _. not_read_yet before after refusal h;
    }

-- and one that was read whole may be
pub refused_whole : (reads : Bool) (refused : List ℕ → RefusalData → Type 0) (before after : Option (List ℕ)) (bytes : List ℕ) (refusal : RefusalData) → ReadWhole before after bytes → refused bytes refusal
    → IsRefusal reads refused before after refusal
refused_whole reads refused before after bytes refusal w why = record {
  bytes = bytes;
  read = whole_agrees before after bytes w;
  because = why;
  read_whole = λ _ _. w.over;
  over = λ _. not_being_read before after w.over;
}

-- a source that was read whole is served by right lines for its bytes
pub serves_whole : (reads : Bool) (form : Form) (right : List ℕ → Status → List (List ℕ) → Type 0) (before after : Option (List ℕ)) {K : Type 0} (held : K → Option (List ℕ)) (faults : K → ℕ) (a b : K) (bytes : List ℕ) (status : Status)
    → ReadWhole before after bytes → Wrote form (right bytes) held faults a b status → Serves reads form right before after held faults a b status
serves_whole reads form right before after held faults a b bytes status w wrote = record {
  bytes = bytes;
  read = whole_agrees before after bytes w;
  wrote = wrote;
  over = λ _. w.over;
}

-- all bytes that a source tells
pub bytes_of : Option (List ℕ) → List ℕ
bytes_of None = []
bytes_of (Some bytes) = bytes

pub agrees_of : (left : Option (List ℕ)) → Agrees left (bytes_of left)
unfolding bytes_of
agrees_of None = tt
agrees_of (Some bytes) = refl

-- What a run promises.

-- lines of a right answer or a refusal are written whole
abbrev pub AreWhole : (List ℕ → Status → List (List ℕ) → Type 0) → Type 0
AreWhole right = (bytes : List ℕ) (status : Status) (lines : List (List ℕ)) → right bytes status lines → writes_all_lines status ≡ true

-- a status is one with which all lines are written, or one of the three others
pub writes_all_or : (status : Status) → (writes_all_lines status ≡ true) ⊎ ((status ≡ OutOfMemory) ⊎ ((status ≡ ReadFault) ⊎ (status ≡ WriteFault)))
writes_all_or OutOfMemory = inr (inl refl)
writes_all_or ReadFault = inr (inr (inl refl))
writes_all_or WriteFault = inr (inr (inr refl))
writes_all_or _ = inl refl

-- a text was written, and what the source has left
run_wrote : (reads : Bool) (form : Form) (right : List ℕ → Status → List (List ℕ) → Type 0) (bytes : List ℕ) (before after : Option (List ℕ)) {K : Type 0} (held : K → Option (List ℕ)) (faults : K → ℕ) (a b : K) (status : Status)
    → AreWhole right → Agrees before bytes → Loses before after → Wrote form (right bytes) held faults a b status
    → (reads ≡ true → writes_all_lines status ≡ true → is_too_long status ≡ false → IsReadWhole before after) → (reads ≡ true → IsBeingRead before after → ⊥)
    → IsRun reads form right before after (held a) (held b) status
run_wrote reads form right bytes before after held faults a b status all agrees lost w read_whole over =
    record { bytes = bytes; text = w.text; read = agrees; lost = lost; written = w.grows; ends = by_end w.ended } where
      by_end : Ended form (right bytes) w.text (faults a) (faults b) status → Ends reads form (right bytes) w.text before after status
      by_end (whole text) =
          let w : writes_all_lines status ≡ true = all bytes status text.lines text.is_right in
          record {
            whole = λ _. text;
            front = λ other. absurd cc;
            write_fault = λ is. absurd (let h = ap writes_all_lines is in cc);
            read_fault = λ is. absurd (let h = ap writes_all_lines is in cc);
            early = λ is r reading. absurd (over r reading);
            over = λ r _. over r;
            read_whole = read_whole;
          }
      by_end (sink_failed is front rose) = record {
        whole = λ other. absurd (let h = ap writes_all_lines is in cc);
        front = λ _. inr front;
        write_fault = λ _. front;
        read_fault = λ other. absurd cc;
        early = λ other r reading. absurd (over r reading);
        over = λ r _. over r;
        read_whole = read_whole;
      }
      by_end (no_memory is front) = record {
        whole = λ other. absurd (let h = ap writes_all_lines is in cc);
        front = λ _. inr front;
        write_fault = λ other. absurd cc;
        read_fault = λ other. absurd cc;
        early = λ other r reading. absurd (over r reading);
        over = λ r _. over r;
        read_whole = read_whole;
      }

-- nothing was written, for want of memory, or since the source failed
run_nothing : (reads : Bool) (form : Form) (right : List ℕ → Status → List (List ℕ) → Type 0) (before after a b : Option (List ℕ)) (status : Status) → (status ≡ OutOfMemory) ⊎ ((status ≡ ReadFault) × (reads ≡ true)) → b ≡ a → Loses before after
    → IsRun reads form right before after a b status
run_nothing reads form right before after a b status why same lost = record {
  bytes = bytes_of before;
  text = [];
  read = agrees_of before;
  lost = lost;
  written = subst (λ (x : Option (List ℕ)). Grows a x []) (sym same) (Grows-nil a);
  ends = record {
    whole = λ w. absurd (not_whole why w);
    front = λ _. inl refl;
    write_fault = λ is. absurd (not_write_fault why is);
    read_fault = λ is. (read_fault why is, refl);
    early = λ _ _ _. refl;
    over = λ _ whole. absurd (ends_early why whole);
    read_whole = λ _ w. absurd (not_whole why w);
  };
} where
  not_whole : (status ≡ OutOfMemory) ⊎ ((status ≡ ReadFault) × (reads ≡ true)) → writes_all_lines status ≡ true → ⊥
  not_whole (inl is) w = let h = ap writes_all_lines is in cc
  not_whole (inr is) w = let h = ap writes_all_lines is.0 in cc

  ends_early : (status ≡ OutOfMemory) ⊎ ((status ≡ ReadFault) × (reads ≡ true)) → may_end_early status ≡ false → ⊥
  ends_early (inl is) w = let h = ap may_end_early is in cc
  ends_early (inr is) w = let h = ap may_end_early is.0 in cc

  not_write_fault : (status ≡ OutOfMemory) ⊎ ((status ≡ ReadFault) × (reads ≡ true)) → status ≡ WriteFault → ⊥
  not_write_fault (inl is) w = cc
  not_write_fault (inr is) w = let h = is.0 in cc

  read_fault : (status ≡ OutOfMemory) ⊎ ((status ≡ ReadFault) × (reads ≡ true)) → status ≡ ReadFault → reads ≡ true
  read_fault (inl is) w = absurd cc
  read_fault (inr is) w = is.1

-- a status that says that the line of a stop was written is this one
with_whole : {form : Form} (given : Status) (gives : List (List ℕ) → Type 0) {K : Type 0} (held : K → Option (List ℕ)) (faults : K → ℕ) (a b : K) (status : Status) → writes_all_lines status ≡ true → Wrote form (With given gives) held faults a b status → status ≡ given
with_whole {form} given gives held faults a b status h w = by_end w.ended where
  by_end : Ended form (With given gives) w.text (faults a) (faults b) status → status ≡ given
  by_end (whole text) = text.is_right.same
  by_end (sink_failed is front rose) = absurd (let k = ap writes_all_lines is in cc)
  by_end (no_memory is front) = absurd (let k = ap writes_all_lines is in cc)

-- what a run has to say: whatever is refused, its line is right with its status
abbrev pub AreSaid : (refused : List ℕ → RefusalData → Type 0) → (right : List ℕ → Status → List (List ℕ) → Type 0) → Type 0
AreSaid refused right = (bytes : List ℕ) (refusal : RefusalData) → refused bytes refusal → right bytes (Refused refusal.kind refusal.at) (refused_line refusal ∷ [])

-- the same of lines and a status that are those of a refusal
said_as : (refused : List ℕ → RefusalData → Type 0) (right : List ℕ → Status → List (List ℕ) → Type 0) (bytes : List ℕ) (refusal : RefusalData) → AreSaid refused right → refused bytes refusal → (status : Status) (lines : List (List ℕ))
    → With (Refused refusal.kind refusal.at) (λ lines. lines ≡ refused_line refusal ∷ []) status lines → right bytes status lines
said_as refused right bytes refusal said why status lines w =
    subst (λ (s : Status). right bytes s lines) (sym w.same) (subst (λ (l : List (List ℕ)). right bytes (Refused refusal.kind refusal.at) l) (sym w.given_lines) (said bytes refusal why))

-- a run that wrote lines is right, and its faults are told
runs_wrote : (reads : Bool) (form : Form) (right : List ℕ → Status → List (List ℕ) → Type 0) (wrote : Status → List (List ℕ) → Type 0) {S K : Type 0} (left : S → Option (List ℕ)) (source_faults : S → ℕ) (held : K → Option (List ℕ)) (faults : K → ℕ) (x y : S) (a b : K) (status : Status)
    → ((s : Status) (lines : List (List ℕ)) → wrote s lines → writes_all_lines s ≡ true) → IsRun reads form right (left x) (left y) (held a) (held b) status → Wrote form wrote held faults a b status → source_faults x ≤ source_faults y
    → Runs reads form right left source_faults held faults x y a b status
runs_wrote reads form right wrote left source_faults held faults x y a b status all answer w later = record {
  answer = answer;
  read_fault = λ is. absurd (no_read_fault w.ended is);
  write_fault = wrote_fault held faults a b status all w;
  source_later = later;
  sink_later = w.later;
} where
  no_read_fault : Ended form wrote w.text (faults a) (faults b) status → status ≡ ReadFault → ⊥
  no_read_fault (whole text) is = let h = all status text.lines text.is_right in let k = ap writes_all_lines is in cc
  no_read_fault (sink_failed is' front rose) is = cc
  no_read_fault (no_memory is' front) is = cc

-- a run that was served is right
pub runs_served : (reads : Bool) (form : Form) (served right : List ℕ → Status → List (List ℕ) → Type 0) {S K : Type 0} (left : S → Option (List ℕ)) (source_faults : S → ℕ) (held : K → Option (List ℕ)) (faults : K → ℕ) (x y : S) (a b : K) (status : Status)
    → AreWhole right → ((bytes : List ℕ) (status : Status) (lines : List (List ℕ)) → served bytes status lines → right bytes status lines)
    → Serves reads form served (left x) (left y) held faults a b status → Drains left source_faults x y → Runs reads form right left source_faults held faults x y a b status
runs_served reads form served right left source_faults held faults x y a b status all to s drains =
    let wrote = wrote_for (served s.bytes) (right s.bytes) held faults a b status (to s.bytes) s.wrote in
    runs_wrote reads form right (right s.bytes) left source_faults held faults x y a b status (all s.bytes)
    (run_wrote reads form right s.bytes (left x) (left y) held faults a b status all s.read drains.lost wrote (λ r _ _. s.over r) (λ r. not_being_read (left x) (left y) (s.over r)))
    wrote drains.later

-- and so is one whose input is refused
runs_refused : (reads : Bool) (form : Form) (refused : List ℕ → RefusalData → Type 0) (right : List ℕ → Status → List (List ℕ) → Type 0) {S K : Type 0} (left : S → Option (List ℕ)) (source_faults : S → ℕ) (held : K → Option (List ℕ)) (faults : K → ℕ) (x y : S) (a b : K) (refusal : RefusalData) (status : Status)
    → AreWhole right → AreSaid refused right → IsRefusal reads refused (left x) (left y) refusal → Wrote form (With (Refused refusal.kind refusal.at) (λ lines. lines ≡ refused_line refusal ∷ [])) held faults a b status
    → Drains left source_faults x y → Runs reads form right left source_faults held faults x y a b status
runs_refused reads form refused right left source_faults held faults x y a b refusal status all said r w drains =
    runs_wrote reads form right (With (Refused refusal.kind refusal.at) (λ lines. lines ≡ refused_line refusal ∷ [])) left source_faults held faults x y a b status (λ s lines h. ap writes_all_lines h.same)
    (run_wrote reads form right r.bytes (left x) (left y) held faults a b status all r.read drains.lost
    (wrote_for (With (Refused refusal.kind refusal.at) (λ lines. lines ≡ refused_line refusal ∷ [])) (right r.bytes) held faults a b status (said_as refused right r.bytes refusal said r.because) w)
    (λ reading h short. r.read_whole reading (λ is. let same : status ≡ Refused refusal.kind refusal.at = with_whole (Refused refusal.kind refusal.at) _ held faults a b status h w in let long : is_too_long status ≡ true = ap is_too_long same ∙ ap (λ k. is_too_long (Refused k refusal.at)) is in absurd cc))
    r.over)
    w drains.later

-- so a run that stopped is right
pub runs_stopped : (reads : Bool) (form : Form) (refused : List ℕ → RefusalData → Type 0) (right : List ℕ → Status → List (List ℕ) → Type 0) {S K : Type 0} (left : S → Option (List ℕ)) (source_faults : S → ℕ) (held : K → Option (List ℕ)) (faults : K → ℕ) (x y : S) (a b : K) (s : Stop) (status : Status)
    → AreWhole right → AreSaid refused right → StopsBy (λ _. ⊥) (IsRefusal reads refused (left x) (left y)) (IsReadFault reads (source_faults x) (source_faults y)) s → SaysStop form s held faults a b status
    → Drains left source_faults x y → Runs reads form right left source_faults held faults x y a b status
runs_stopped reads form refused right left source_faults held faults x y a b (stop.Usage word) status all said faulty says drains = absurd faulty
runs_stopped reads form refused right left source_faults held faults x y a b (stop.Refused kind at) status all said r says drains =
    runs_refused reads form refused right left source_faults held faults x y a b (plain_refusal kind at) status all said r says drains
runs_stopped reads form refused right left source_faults held faults x y a b (stop.Unstable at fields) status all said told says drains =
    runs_refused reads form refused right left source_faults held faults x y a b (with_detail NotStable at (refusal_fields fields)) status all said told.0 says drains
runs_stopped reads form refused right left source_faults held faults x y a b stop.ReadFault status all said fault says drains = record {
  answer = run_nothing reads form right (left x) (left y) (held a) (held b) status (inr (says.0, fault.reading)) (ap held says.1) drains.lost;
  read_fault = λ _. fault.rose;
  write_fault = λ is. absurd (let h = says.0 in cc);
  source_later = drains.later;
  sink_later = let same = ap faults says.1 in omega (arith, same);
}
runs_stopped reads form refused right left source_faults held faults x y a b stop.OutOfMemory status all said none says drains = record {
  answer = run_nothing reads form right (left x) (left y) (held a) (held b) status (inl says.0) (ap held says.1) drains.lost;
  read_fault = λ is. absurd (let h = says.0 in cc);
  write_fault = λ is. absurd (let h = says.0 in cc);
  source_later = drains.later;
  sink_later = let same = ap faults says.1 in omega (arith, same);
}

-- a run with faulty words, which reads nothing
pub runs_faulty : (form : Form) (right : List ℕ → Status → List (List ℕ) → Type 0) (word : ℕ) {S K : Type 0} (left : S → Option (List ℕ)) (source_faults : S → ℕ) (held : K → Option (List ℕ)) (faults : K → ℕ) (x : S) (a b : K) (status : Status)
    → AreWhole right → ((bytes : List ℕ) → right bytes (Usage word) (usage_line word ∷ [])) → SaysStop form (stop.Usage word) held faults a b status → Runs false form right left source_faults held faults x x a b status
runs_faulty form right word left source_faults held faults x a b status all said says =
    runs_wrote false form right (With (Usage word) (λ lines. lines ≡ usage_line word ∷ [])) left source_faults held faults x x a b status (λ s lines h. ap writes_all_lines h.same)
    (run_wrote false form right (bytes_of (left x)) (left x) (left x) held faults a b status all (agrees_of (left x)) (loses_nothing (left x))
    (wrote_for (With (Usage word) (λ lines. lines ≡ usage_line word ∷ [])) (right (bytes_of (left x))) held faults a b status
    (λ s lines w. subst (λ (s : Status). right (bytes_of (left x)) s lines) (sym w.same) (subst (λ (l : List (List ℕ)). right (bytes_of (left x)) (Usage word) l) (sym w.given_lines) (said (bytes_of (left x))))) says)
    (λ some. absurd cc) (λ some. absurd cc))
    says (omega arith)

-- a run that has no memory for its words
pub runs_unread : (reads : Bool) (form : Form) (right : List ℕ → Status → List (List ℕ) → Type 0) {S K : Type 0} (left : S → Option (List ℕ)) (source_faults : S → ℕ) (held : K → Option (List ℕ)) (faults : K → ℕ) (x : S) (a : K)
    → Runs reads form right left source_faults held faults x x a a OutOfMemory
runs_unread reads form right left source_faults held faults x a = record {
  answer = run_nothing reads form right (left x) (left x) (held a) (held a) OutOfMemory (inl refl) refl (loses_nothing (left x));
  read_fault = λ is. absurd cc;
  write_fault = λ is. absurd cc;
  source_later = omega arith;
  sink_later = omega arith;
}
