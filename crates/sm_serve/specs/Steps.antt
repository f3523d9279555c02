-- What is known between the parts of a run.
use Rattle.std.specs.Prelude.{◌≡◌, ◌≢◌, ℕ, Bool, true, List, Option, Result, Ok, Err}
use Rattle.sm_io.specs.Source.{Agrees}
use Rattle.sm_io.specs.Faults.{Rose}
use Rattle.sm_text.specs.declared.refusal.RefusalKind.TheVariants.{TooLong}
use Rattle.sm_words.specs.declared.jobs.Form.{Form}
use Rattle.sm_serve.specs.declared.status.Status.{Status}
use Rattle.sm_serve.specs.declared.stop.Stop.{Stop}
use Rattle.sm_serve.specs.Input.{IsReadWhole, IsBeingRead}
use Rattle.sm_serve.specs.Stops.{StopsBy}
use Rattle.sm_serve.specs.Texts.{RefusalData}
use Rattle.sm_serve.specs.Wrote.{Wrote}

-- a call came to a status by writing lines that are right for the bytes of a source
pub record Serves (reads : Bool) (form : Form) (right : List ℕ → Status → List (List ℕ) → Type 0) (left_before left_after : Option (List ℕ)) {Sink : Type 0} (held : Sink → Option (List ℕ)) (faults : Sink → ℕ) (before after : Sink) (status : Status) : Type 0 where
  pub bytes : List ℕ
  pub read : Agrees left_before bytes
  pub wrote : Wrote form (right bytes) held faults before after status
  pub over : reads ≡ true → IsReadWhole left_before left_after

-- the bytes of a source are refused
pub record IsRefusal (reads : Bool) (refused : List ℕ → RefusalData → Type 0) (left_before left_after : Option (List ℕ)) (refusal : RefusalData) : Type 0 where
  pub bytes : List ℕ
  pub read : Agrees left_before bytes
  pub because : refused bytes refusal
  pub read_whole : reads ≡ true → refusal.kind ≢ TooLong → IsReadWhole left_before left_after
  pub over : reads ≡ true → ¬ IsBeingRead left_before left_after

-- the source failed while it was read
pub record IsReadFault (reads : Bool) (before after : ℕ) : Type 0 where
  pub reading : reads ≡ true
  pub rose : Rose before after

-- what a call leaves of a source and a sink: right lines were written; or nothing was, and it is known why
abbrev pub IsServed : (reads : Bool) → Form → (right : List ℕ → Status → List (List ℕ) → Type 0) → (refused : List ℕ → RefusalData → Type 0)
    → {Source Sink : Type 0} → (left : Source → Option (List ℕ)) → (source_faults : Source → ℕ) → (held : Sink → Option (List ℕ)) → (sink_faults : Sink → ℕ)
    → Source → Source → Sink → Sink → Result Status Stop → Type 0
IsServed reads form right refused left source_faults held sink_faults source source' sink sink' (Ok status) =
    Serves reads form right (left source) (left source') held sink_faults sink sink' status
IsServed reads form right refused left source_faults held sink_faults source source' sink sink' (Err stop) =
    (sink' ≡ sink) × StopsBy (λ _. ⊥) (IsRefusal reads refused (left source) (left source')) (IsReadFault reads (source_faults source) (source_faults source')) stop
