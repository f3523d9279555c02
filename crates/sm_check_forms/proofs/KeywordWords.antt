-- Keywords stand for words: two of them are one where their words are, and a line begins with the word of its keyword.
use Rattle.std.proofs.Common.{◌≡◌, ℕ, ap, sym, ◌∙◌, refl, rules, true, false, Some}
use Rattle.std.specs.Str.{bytes_eq}
use Rattle.std.proofs.lemmas.Bool.{false≢true}
use Rattle.std.proofs.lemmas.Option.{same_Some}
use denote.Enum.Bare.{same_true, true_same}
use Rattle.sm_instance.specs.declared.inputs.Input.{Input}
use Rattle.sm_report.specs.Lines.{LineData}
use Rattle.sm_report.specs.declared.keywords.Keyword.{Keyword}
use Rattle.sm_report.specs.declared.keywords.Keyword.TheVariants as keyword
use Rattle.sm_report.specs.contracts.keywords.Keyword.{the_type}
use Rattle.sm_report.specs.Keywords.{keyword_of}
use Rattle.sm_report.specs.Meanings.{look_up, keywords}
use Rattle.sm_report.proofs.InverseLemmas.{text_true, text_same, by_answer}
use Rattle.sm_check_forms.specs.Keywords.{is_same, word_of}
use Rattle.sm_check_forms.specs.declared.layouts.Opening.{Opening}
use Rattle.sm_check_forms.specs.Layouts.{OpeningData}
use Rattle.sm_check_forms.specs.Forms.{first_word, number_in, opening_of}
use Rattle.sm_check_forms.specs.Lefts.{opening_by}

-- the word of a keyword is read as this keyword
pub found : (word : Keyword) → look_up keywords (word_of word) ≡ Some word
unfolding word_of
found keyword.Answer = refl
found _ = refl

-- two keywords are one where their words are
pub same_words : (a b : Keyword) → is_same a b ≡ bytes_eq (word_of a) (word_of b)
same_words a b = by_answer (bytes_eq (word_of a) (word_of b)) one other
  where
    one : bytes_eq (word_of a) (word_of b) ≡ true → is_same a b ≡ bytes_eq (word_of a) (word_of b)
    one e =
        let words : word_of a ≡ word_of b = text_same (word_of a) (word_of b) e in
        true_same the_type a b (same_Some _ _ (sym (found a) ∙ ap (look_up keywords) words ∙ found b)) ∙ sym e

    other : bytes_eq (word_of a) (word_of b) ≡ false → is_same a b ≡ bytes_eq (word_of a) (word_of b)
    other e = by_answer (is_same a b)
        (λ same. absurd (false≢true (sym e ∙ text_true (word_of a) (word_of b) (ap word_of (same_true the_type (search rules) a b same)))))
        (λ differs. differs ∙ sym e)

-- a line begins with the word of its keyword
pub begins_with : (input : Input) (line : LineData) → word_of (keyword_of line) ≡ first_word input line
unfolding word_of
begins_with input (LineData.Answer head) = refl
begins_with input _ = refl

-- and with its number
pub opens_with : (input : Input) (line : LineData) (opening : Opening) → opening.keyword ≡ keyword_of line → opening.number ≡ number_in line → opening_by opening ≡ opening_of input line
opens_with input line opening e f =
    ap (λ w. let o : OpeningData = record { word = w; number = opening.number } in o) (ap word_of e ∙ begins_with input line)
    ∙ ap (λ (n : ℕ). let o : OpeningData = record { word = first_word input line; number = n } in o) f
