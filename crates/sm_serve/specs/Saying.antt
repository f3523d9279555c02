-- What is written where there is no answer.
use Rattle.std.specs.Prelude.{◌≡◌, ℕ, List, [], ◌∷◌, Option}
use Rattle.sm_text.specs.declared.refusal.RefusalKind.TheVariants.{NotStable}
use Rattle.sm_words.specs.declared.jobs.Form.{Form}
use Rattle.sm_serve.specs.declared.status.Status.{Status}
use Rattle.sm_serve.specs.declared.status.Status.TheVariants.{Refused, Usage, OutOfMemory, ReadFault}
use Rattle.sm_serve.specs.declared.stop.Stop.{Stop}
use Rattle.sm_serve.specs.declared.stop.Stop.TheVariants as stop
use Rattle.sm_serve.specs.Texts.{plain_refusal, with_detail, refusal_fields, usage_line, refused_line}
use Rattle.sm_serve.specs.Wrote.{Wrote, With}

-- what is written for a stop in a form, and with which status
abbrev pub SaysStop : Form → Stop → {Sink : Type 0} → (Sink → Option (List ℕ)) → (Sink → ℕ) → Sink → Sink → Status → Type 0
SaysStop form (stop.Usage word) held faults before after status = Wrote form (With (Usage word) (λ lines. lines ≡ usage_line word ∷ [])) held faults before after status
SaysStop form (stop.Refused kind at) held faults before after status =
    Wrote form (With (Refused kind at) (λ lines. lines ≡ refused_line (plain_refusal kind at) ∷ [])) held faults before after status
SaysStop form (stop.Unstable at fields) held faults before after status =
    Wrote form (With (Refused NotStable at) (λ lines. lines ≡ refused_line (with_detail NotStable at (refusal_fields fields)) ∷ [])) held faults before after status
SaysStop form stop.ReadFault held faults before after status = (status ≡ ReadFault) × (after ≡ before)
SaysStop form stop.OutOfMemory held faults before after status = (status ≡ OutOfMemory) × (after ≡ before)
