-- A trimmed instance is sound, so its text is read back.
use Rattle.std.proofs.Common.{◌≡◌, ℕ, List, ◌∷◌, [], Option, None, Some, Result, Ok, Err, refl, sym, ap, ◌∙◌, subst}
use Rattle.sm_agents.specs.Written.{Written}
use Rattle.sm_agents.specs.Sound.{IsInstance}
use Rattle.sm_instance.specs.Inputs.{IsInput}
use Rattle.sm_instance.specs.declared.inputs.Input.{Input}
use Rattle.sm_instance.specs.declared.inputs.Input.TheVariants.{Two, Room}
use Rattle.sm_reader.specs.InstanceText.{ReadText, Refusal, instance_text}
use Rattle.sm_reader.proofs.SoundTextLemmas.{text_is_sound}
use Rattle.sm_law_reprint.proofs.ReprintLemmas.{printed_is_read}
use Rattle.sm_serve.specs.Refusals.{text_behind, first_refusal}
use Rattle.sm_trim.proofs.CuttingLemmas.{cut_is_instance}
use Rattle.sm_trim_top.specs.Taking.{wrong_kind, behind_text, taken, IsTaken}
use Rattle.sm_trim_top.specs.Trimmed.{IsTrimmedInput}
use Rattle.sm_trim.proofs.AnswerLaws.{AreAlike, alike, alike_follows, bests_alike, lightest_alike, listings_alike}
use Rattle.sm_law_reprint.specs.Reading.{SameButForLines}
use Rattle.sm_law_trim.specs.Laws.{TrimmedIsRead, HaveSameAnswers, HasAnswersOf, TrimmedAnswers}
use Rattle.sm_law_trim.proofs.LineLemmas.{same_lists, lists_alike}

-- an input that is taken was read
taken_read : (bytes : List ℕ) (read : ReadText) → taken bytes ≡ Ok read → instance_text bytes ≡ Ok read
taken_read bytes read ok = by_text (instance_text bytes) refl ok
  where
    passed : (refusals : List (Option Refusal)) (x : ReadText) → first_refusal refusals x ≡ Ok read → x ≡ read
    passed [] x e = cc
    passed (None ∷ more) x e = passed more x e
    passed (Some refusal ∷ more) x e = absurd cc

    by_text : (r : Result ReadText Refusal) → instance_text bytes ≡ r → behind_text bytes r ≡ Ok read → instance_text bytes ≡ Ok read
    by_text (Err refusal) same e = absurd cc
    by_text (Ok x) same e = same ∙ ap Ok (passed (text_behind bytes x ∷ wrong_kind x.input x.header_line ∷ []) x e)

-- and its instance is sound
whole_sound : {bytes : List ℕ} {w : Written} → IsTaken bytes w → IsInstance w
whole_sound {bytes} {w} t = subst IsInput t.two (text_is_sound bytes t.read (taken_read bytes t.read t.ok))

-- so the trimmed one is
pub trimmed_sound : (bytes : List ℕ) (input : Input) → IsTrimmedInput bytes input → IsInput input
trimmed_sound bytes input t = subst IsInput (sym t.few.0) (cut_is_instance (whole_sound t.trimmed.taken) t.trimmed.trimmed.cut)

pub trimmed_read : TrimmedIsRead
trimmed_read bytes input t short = printed_is_read input (trimmed_sound bytes input t) short

-- alike instances have the same answers
same_answers : {w u : Written} → AreAlike w u → HaveSameAnswers w u
same_answers a = record {
  stable = a.stable;
  bests = λ side places. bests_alike side a places;
  lightest = λ by places. (lightest_alike by a places).0;
  lightest_by_both = λ by places. (lightest_alike by a places).1;
  listings = listings_alike a;
}

answers_of : (w t : Written) (input : Input) → AreAlike w t → SameButForLines input (Two t) → HasAnswersOf w input
answers_of w t (Two u) a same = same_answers (alike_follows a (lists_alike (same_lists t u same)))
answers_of w t (Room persons) a same = absurd cc

-- what is read of the text has the answers of the instance that was trimmed
pub read_alike : TrimmedAnswers
read_alike bytes input t read short means =
    let back = trimmed_read bytes input t short in
    let both : ◌≡◌ {A = Result ReadText Refusal} (Ok back.read) (Ok read) = sym back.means ∙ means in
    let is : back.read ≡ read = cc in
    answers_of t.trimmed.whole t.kept read.input (alike t.trimmed.trimmed)
    (subst (λ (x : Input). SameButForLines read.input x) t.few.0 (subst (λ (x : ReadText). SameButForLines x.input input) is back.same))
