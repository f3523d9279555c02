-- What a run does to its source and its sink, where it is said which lines are right for the bytes of an input.
use Rattle.std.specs.Prelude.{◌≡◌, ◌≤◌, ◌⊎◌, ℕ, Bool, true, false, List, [], Option}
use Rattle.sm_io.specs.Faults.{Rose}
use Rattle.sm_io.specs.Source.{Agrees}
use Rattle.sm_io.specs.Sink.{Grows}
use Rattle.sm_text.specs.declared.refusal.RefusalKind.TheVariants.{TooLong}
use Rattle.sm_words.specs.declared.jobs.Form.{Form}
use Rattle.sm_serve.specs.declared.status.Status.{Status}
use Rattle.sm_serve.specs.declared.status.Status.TheVariants.{Refused, Usage, OutOfMemory, ReadFault, WriteFault}
use Rattle.sm_serve.specs.Input.{Loses, IsReadWhole, IsBeingRead}
use Rattle.sm_serve.specs.Wrote.{IsText, IsFront}

-- the statuses with which all lines of an outcome are written, and those of an answer among them
abbrev pub writes_all_lines : Status → Bool
writes_all_lines OutOfMemory = false
writes_all_lines ReadFault = false
writes_all_lines WriteFault = false
writes_all_lines status = true

-- the statuses of an answer
abbrev pub is_answer : Status → Bool
is_answer (Refused kind at) = false
is_answer (Usage word) = false
is_answer status = writes_all_lines status

-- the statuses with which a run may end while the input is read
abbrev pub may_end_early : Status → Bool
may_end_early OutOfMemory = true
may_end_early ReadFault = true
may_end_early status = false

-- the status of an input that is too long
abbrev pub is_too_long : Status → Bool
is_too_long (Refused TooLong at) = true
is_too_long status = false

-- What the status says of the text that was written in a form, and of what the source has left. Whether the input is to be read
-- is given, and which lines are right with each status.
pub record Ends (reads : Bool) (form : Form) (right : Status → List (List ℕ) → Type 0) (text : List ℕ) (left_before left_after : Option (List ℕ)) (status : Status) : Type 0 where
  -- the whole text of right lines was written; or nothing, or a front of one
  pub whole : writes_all_lines status ≡ true → IsText form (right status) text
  pub front : writes_all_lines status ≡ false → (text ≡ []) ⊎ IsFront form right text
  -- where the sink failed, a front; where the source failed, or where there was no memory while the input was read, nothing
  pub write_fault : status ≡ WriteFault → IsFront form right text
  pub read_fault : status ≡ ReadFault → (reads ≡ true) × (text ≡ [])
  pub early : status ≡ OutOfMemory → reads ≡ true → IsBeingRead left_before left_after → text ≡ []
  -- with any other status no more of an input is to be read, and it is read whole unless it is too long
  pub over : reads ≡ true → may_end_early status ≡ false → ¬ IsBeingRead left_before left_after
  pub read_whole : reads ≡ true → writes_all_lines status ≡ true → is_too_long status ≡ false → IsReadWhole left_before left_after

-- A run: of all the bytes that the source had left, this text was written, which is added to what the sink held. Whatever the
-- status, the source lost a front of its bytes. Where a source or a sink doesn't tell its bytes, there are some of which this
-- is true.
pub record IsRun (reads : Bool) (form : Form) (right : List ℕ → Status → List (List ℕ) → Type 0) (left_before left_after held_before held_after : Option (List ℕ)) (status : Status) : Type 0 where
  pub bytes : List ℕ
  pub text : List ℕ
  pub read : Agrees left_before bytes
  pub lost : Loses left_before left_after
  pub written : Grows held_before held_after text
  pub ends : Ends reads form (right bytes) text left_before left_after status

-- a run over a source and a sink, whose counts of faults rose where they failed, and didn't fall
pub record Runs (reads : Bool) (form : Form) (right : List ℕ → Status → List (List ℕ) → Type 0) {Source Sink : Type 0} (left : Source → Option (List ℕ)) (source_faults : Source → ℕ) (held : Sink → Option (List ℕ)) (sink_faults : Sink → ℕ)
    (source source' : Source) (sink sink' : Sink) (status : Status) : Type 0 where
  pub answer : IsRun reads form right (left source) (left source') (held sink) (held sink') status
  pub read_fault : status ≡ ReadFault → Rose (source_faults source) (source_faults source')
  pub write_fault : status ≡ WriteFault → Rose (sink_faults sink) (sink_faults sink')
  pub source_later : source_faults source ≤ source_faults source'
  pub sink_later : sink_faults sink ≤ sink_faults sink'
