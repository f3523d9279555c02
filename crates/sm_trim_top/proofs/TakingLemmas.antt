-- Which inputs are taken, and what they are trimmed to.
use Rattle.std.proofs.Common.{◌≡◌, ℕ, List, [], ◌∷◌, drop, Some, None, Result, Ok, Err, refl, ap, ◌∙◌}
use Rattle.std.specs.Option.{option_map}
use Rattle.std.specs.Result.{IfOk, IfErr}
use Rattle.sm_text.specs.Lines.{lines}
use Rattle.sm_text.specs.declared.refusal.RefusalKind.{RefusalKind}
use Rattle.sm_text.specs.declared.refusal.RefusalKind.TheVariants.{AfterEnd}
use Rattle.sm_agents.specs.Written.{Written}
use Rattle.sm_instance.specs.declared.inputs.Input.{Input}
use Rattle.sm_instance.specs.declared.inputs.Input.TheVariants.{Two}
use Rattle.sm_reader.specs.InstanceText.{ReadText, instance_text}
use Rattle.sm_serve.specs.declared.stop.Stop.{Stop}
use Rattle.sm_serve.specs.Refusals.{first_saying, first_refusal, IsTooMany}
use Rattle.sm_serve.specs.Stops.{StopsBy}
use Rattle.sm_serve.specs.Texts.{plain_refusal}
use Rattle.sm_serve.proofs.RunLemmas.{err_stops_for}
use Rattle.sm_trim_top.specs.Taking.{wrong_kind, behind_text, taken, IsTaken, IsUntaken, IsOfWrongKind}
use Rattle.sm_trim_top.specs.Trimmed.{IsTrimmedTo, IsFewSeated, IsTrimmedInput, IsRefused, too_many}

-- a text that is refused isn't taken
pub text_untaken : (bytes : List ℕ) (kind : RefusalKind) (at : ℕ) → instance_text bytes ≡ Err (kind, at) → IsUntaken bytes (plain_refusal kind at)
text_untaken bytes kind at refused = record { kind = kind; at = at; because = ap (behind_text bytes) refused; says = refl }

-- and neither is one with text behind `end`
pub behind_untaken : (bytes : List ℕ) (read : ReadText) (line : ℕ) → instance_text bytes ≡ Ok read → first_saying read.rest_line (lines (drop read.rest bytes)) ≡ Some line → IsUntaken bytes (plain_refusal AfterEnd line)
behind_untaken bytes read line ok says = record {
  kind = AfterEnd;
  at = line;
  because = ap (behind_text bytes) ok ∙ ap (λ o. first_refusal (option_map (λ line. (AfterEnd, line)) o ∷ wrong_kind read.input read.header_line ∷ []) read) says;
  says = refl;
}

-- without such text the kind alone is judged
kind_judged : (bytes : List ℕ) (read : ReadText) → instance_text bytes ≡ Ok read → first_saying read.rest_line (lines (drop read.rest bytes)) ≡ None
    → taken bytes ≡ first_refusal (wrong_kind read.input read.header_line ∷ []) read
kind_judged bytes read ok none = ap (behind_text bytes) ok ∙ ap (λ o. first_refusal (option_map (λ line. (AfterEnd, line)) o ∷ wrong_kind read.input read.header_line ∷ []) read) none

-- so an instance with two sides is taken
pub two_taken : (bytes : List ℕ) (read : ReadText) → instance_text bytes ≡ Ok read → first_saying read.rest_line (lines (drop read.rest bytes)) ≡ None
    → (r : Result Written Stop) → IfOk r (λ w. read.input ≡ Two w) → IfOk r (IsTaken bytes)
two_taken bytes read ok none (Ok w) two = record { read = read; ok = kind_judged bytes read ok none ∙ ap (λ i. first_refusal (wrong_kind i read.header_line ∷ []) read) two; two = two }
two_taken bytes read ok none (Err stop) two = tt

-- and one of the wrong kind isn't
pub kind_untaken : (bytes : List ℕ) (read : ReadText) → instance_text bytes ≡ Ok read → first_saying read.rest_line (lines (drop read.rest bytes)) ≡ None
    → (r : Result Written Stop) → IfErr r (λ stop. StopsBy (λ _. ⊥) (IsOfWrongKind read) ⊥ stop) → IfErr r (λ stop. StopsBy (λ _. ⊥) (IsUntaken bytes) ⊥ stop)
kind_untaken bytes read ok none r =
    err_stops_for (λ _. ⊥) (λ _. ⊥) (IsOfWrongKind read) (IsUntaken bytes) ⊥ ⊥ r (λ word h. h)
    (λ refusal h. record { kind = h.kind; at = h.at; because = kind_judged bytes read ok none ∙ ap (λ o. first_refusal (o ∷ []) read) h.because; says = h.says }) (λ h. h)

-- an instance that is trimmed and has few enough seats is one to be written
pub few_trimmed : (bytes : List ℕ) (t : Written) → IsTrimmedTo bytes t → (r : Result Input Stop) → IfOk r (IsFewSeated t) → IfOk r (IsTrimmedInput bytes)
few_trimmed bytes t trimmed (Ok input) few = record { kept = t; trimmed = trimmed; few = few }
few_trimmed bytes t trimmed (Err stop) few = tt

-- and one that has too many is refused
pub many_refused : (bytes : List ℕ) (t : Written) → IsTrimmedTo bytes t → (r : Result Input Stop) → IfErr r (λ stop. StopsBy (λ _. ⊥) (IsTooMany (Two t)) ⊥ stop) → IfErr r (λ stop. StopsBy (λ _. ⊥) (IsRefused bytes) ⊥ stop)
many_refused bytes t trimmed r = err_stops_for (λ _. ⊥) (λ _. ⊥) (IsTooMany (Two t)) (IsRefused bytes) ⊥ ⊥ r (λ word h. h) (λ refusal many. too_many t trimmed many) (λ h. h)
