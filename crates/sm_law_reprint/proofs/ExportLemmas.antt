-- What a reader finds in the text of a printed instance.
use Rattle.std.proofs.Common.{◌≡◌, ℕ, ◌≤◌, List, length, Ok, Err, sym, ap, ◌∙◌, subst}
use Rattle.sm_text.specs.Limits.{most_bytes}
use Rattle.sm_instance.specs.Inputs.{IsInput}
use Rattle.sm_instance.specs.declared.inputs.Input.{Input}
use Rattle.sm_reader.specs.InstanceText.{ReadText, Refusal, instance_text}
use Rattle.sm_law_reprint.specs.Reading.{SameButForLines, printed_text, IsReadBack}
use Rattle.sm_law_reprint.proofs.ReprintLemmas.{printed_is_read}

module _ (input : Input) (sound : IsInput input) (short : length (printed_text input) ≤ most_bytes) (text : List ℕ) (printed : text ≡ printed_text input) where
  back : IsReadBack input
  back = printed_is_read input sound short

  means : instance_text text ≡ Ok back.read
  means = ap instance_text printed ∙ back.means

  -- it isn't refused
  pub not_refused : (fault : Refusal) → instance_text text ≡ Err fault → ⊥
  not_refused fault refused = let e : Ok back.read ≡ Err fault = sym means ∙ refused in cc

  only : (read : ReadText) → instance_text text ≡ Ok read → back.read ≡ read
  only read found = let e : Ok back.read ≡ Ok read = sym means ∙ found in cc

  -- it is read whole, and means the instance
  pub read_same : (read : ReadText) → instance_text text ≡ Ok read → SameButForLines read.input input
  read_same read found = subst (λ (r : ReadText). SameButForLines r.input input) (only read found) back.same

  pub read_whole : (read : ReadText) → instance_text text ≡ Ok read → read.rest ≡ length (printed_text input)
  read_whole read found = subst (λ (r : ReadText). r.rest ≡ length (printed_text input)) (only read found) back.whole
