-- A text is read as the line of the input that has it.
use Rattle.std.proofs.Common.{◌≡◌, ℕ, List, Some, None, refl, sym, ap, ◌∙◌}
use Rattle.std.specs.List.{join_with_byte}
use Rattle.std.proofs.lemmas.List.Splits.{join_with_byte-slice_split}
use Rattle.std.proofs.lemmas.Option.{none-some, same_Some}
use Rattle.sm_instance.specs.Inputs.{IsInput}
use Rattle.sm_instance.specs.declared.inputs.Input.{Input}
use Rattle.sm_report.specs.Lines.{LineData}
use Rattle.sm_report.specs.Reading.{HasText, HasNoLine, OneLineHasIt, PutIsReadAgain}
use Rattle.sm_report.specs.Texts.{text_of_line}
use Rattle.sm_report.specs.Meanings.{fields_in, line_in}
use Rattle.sm_report.proofs.FreeLines.{text_again}
use Rattle.sm_report.proofs.LineInverses.{line_read}

-- what is read has the text
pub read_has_text : (input : Input) → IsInput input → (text : List ℕ) (line : LineData) → line_in input (fields_in text) ≡ Some line → HasText input text line
read_has_text input sound text line e =
    let r = line_read input sound (fields_in text) line e in
    record { sound = r.0; spelled = ap (join_with_byte 32) r.1 ∙ join_with_byte-slice_split 32 text }

-- what has the text is read
pub text_is_read : (input : Input) → IsInput input → (text : List ℕ) (line : LineData) → HasText input text line → line_in input (fields_in text) ≡ Some line
text_is_read input sound text line h = ap (λ t. line_in input (fields_in t)) (sym h.spelled) ∙ text_again input sound line h.sound

-- so where nothing is read, no line has the text
pub none_has_text : (input : Input) → IsInput input → (text : List ℕ) → line_in input (fields_in text) ≡ None → HasNoLine input text
none_has_text input sound text e line h = none-some line (sym e ∙ text_is_read input sound text line h)

-- and a text is that of one line alone
pub one_line : OneLineHasIt
one_line input text a b sound h k = same_Some a b (sym (text_is_read input sound text a h) ∙ text_is_read input sound text b k)

-- what was put for a line of an input is read as that line
pub put_is_read : PutIsReadAgain
put_is_read input line sound h =
    let own : HasText input (text_of_line input line) line = record { sound = h; spelled = refl } in
    ((λ read k. one_line input (text_of_line input line) read line sound k own), (λ none. none line own))
