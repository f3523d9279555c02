-- The text that an input gives in a form.
use Rattle.std.proofs.Common.{◌≡◌, ◌<◌, ◌≤◌, ℕ, cond, List, length, None, Some, Result, Ok, Err, refl, sym, ap, ◌∙◌, subst}
use Rattle.std.specs.Option.{option_map_or}
use Rattle.std.proofs.lemmas.Bool.{le-ltb}
use Rattle.sm_json.specs.JsonText.{text_in}
use Rattle.sm_text.specs.Limits.{most_bytes}
use Rattle.sm_text.specs.declared.refusal.RefusalKind.TheVariants.{TooLong, BadJson}
use Rattle.sm_words.specs.declared.jobs.Form.TheVariants.{Json}
use Rattle.sm_top.specs.Forms.{given_text}
use Rattle.sm_top.specs.Outcome.{IsRefusedIn, not_accepted}
use Rattle.sm_top.specs.Accepting.{behind_text}
use Rattle.sm_top.specs.Steps.{IsUngiven}
use Rattle.sm_serve.specs.Texts.{RefusalData, plain_refusal}
use Rattle.sm_reader.proofs.ReadingLemmas.{instance_text-too_long}

-- of bytes that aren't too many the text is that of their value
pub short_given : (bytes : List ℕ) → length bytes ≤ most_bytes → given_text Json bytes ≡ option_map_or Ok (text_in bytes) (Err (plain_refusal BadJson 0))
short_given bytes short =
    ap (λ t. cond t (Err (plain_refusal TooLong 0)) (option_map_or Ok (text_in bytes) (Err (plain_refusal BadJson 0)))) (le-ltb most_bytes (length bytes) short)

pub json_given : (bytes text : List ℕ) → length bytes ≤ most_bytes → text_in bytes ≡ Some text → given_text Json bytes ≡ Ok text
json_given bytes text short is = short_given bytes short ∙ ap (λ o. option_map_or Ok o (Err (plain_refusal BadJson 0))) is

-- where there is none, the input is refused
pub no_json : (bytes : List ℕ) → length bytes ≤ most_bytes → text_in bytes ≡ None → IsUngiven Json bytes (plain_refusal BadJson 0)
no_json bytes short none job reading =
    subst (λ (t : Result (List ℕ) RefusalData). IsRefusedIn job t (plain_refusal BadJson 0)) (sym (short_given bytes short ∙ ap (λ o. option_map_or Ok o (Err (plain_refusal BadJson 0))) none)) refl

-- and where it is too long
pub long_json : (bytes text : List ℕ) → length bytes ≤ most_bytes → text_in bytes ≡ Some text → most_bytes < length text → IsUngiven Json bytes (plain_refusal TooLong 0)
long_json bytes text short is long job reading =
    subst (λ (t : Result (List ℕ) RefusalData). IsRefusedIn job t (plain_refusal TooLong 0)) (sym (json_given bytes text short is))
    (not_accepted reading (record { kind = TooLong; at = 0; because = ap (behind_text job text) (instance_text-too_long text long); says = refl }))
