-- Why there is no answer.
use Rattle.std.specs.Prelude.{◌≡◌, ℕ, true}
use Rattle.sm_serve.specs.declared.stop.Stop.{Stop}
use Rattle.sm_serve.specs.declared.stop.Stop.TheVariants.{Usage, Refused, Unstable, ReadFault, OutOfMemory}
use Rattle.sm_text.specs.declared.refusal.RefusalKind.TheVariants.{NotStable}
use Rattle.sm_serve.specs.Texts.{RefusalData, plain_refusal, with_detail, refusal_fields, are_plain}

-- the fields that are said stand for themselves in a string of JSON
abbrev pub IsPlainStop : Stop → Type 0
IsPlainStop (Unstable at fields) = are_plain (refusal_fields fields) ≡ true
IsPlainStop _ = Unit {0}

-- what is known of a faulty word, of a refusal, and of a source that failed; of want of memory nothing is known
abbrev pub StopsBy : (usage : ℕ → Type 0) → (refused : RefusalData → Type 0) → (read_fault : Type 0) → Stop → Type 0
StopsBy usage refused read_fault (Usage word) = usage word
StopsBy usage refused read_fault (Refused kind at) = refused (plain_refusal kind at)
StopsBy usage refused read_fault (Unstable at fields) = refused (with_detail NotStable at (refusal_fields fields)) × IsPlainStop (Unstable at fields)
StopsBy usage refused read_fault ReadFault = read_fault
StopsBy usage refused read_fault OutOfMemory = Unit {0}
