-- The single fields that the code puts, each behind a space.
use Rattle.std.specs.Prelude.{ℕ, List, [], ◌∷◌, ◌++◌, codes, decimal}
use Rattle.std.specs.List.{flat_map}
use Rattle.std.specs.Fmt.{signed_decimal}
use Rattle.sm_instance.specs.declared.inputs.Input.{Input}
use Rattle.sm_report.specs.declared.fields.Field.{Field}
use Rattle.sm_report.specs.declared.fields.Field.TheVariants as field
use Rattle.sm_report.specs.Texts.{left_name, right_name, seat_text, vector_text, end_text, limit_text}
use Rattle.sm_report.specs.Sound.{IsOnLeft, IsOnRight}

-- the text of a field
abbrev pub text_of_field : Input → Field → List ℕ
text_of_field input (field.Text text) = text.now
text_of_field input (field.Left p) = left_name input p
text_of_field input (field.Right r) = right_name input r
text_of_field input (field.At seat) = seat_text input seat
text_of_field input (field.Number n) = decimal n
text_of_field input (field.Signed z) = signed_decimal z
text_of_field input (field.FlowEnd n) = end_text n
text_of_field input (field.Vector v) = vector_text v.now
text_of_field input (field.After v) = codes "after=" ++ vector_text v.now
text_of_field input (field.Limit n) = limit_text n

-- the agents that a field names are there
abbrev pub IsFieldSound : Input → Field → Type 0
IsFieldSound input (field.Left p) = IsOnLeft input p
IsFieldSound input (field.Right r) = IsOnRight input r
IsFieldSound input (field.At seat) = IsOnRight input seat.reviewer
IsFieldSound input _ = Unit {0}

-- each of some fields can be shown
abbrev pub AreShown : Input → List Field → Type 0
AreShown input [] = Unit {0}
AreShown input (f ∷ fs) = IsFieldSound input f × AreShown input fs

-- texts, each behind a space
abbrev pub spaced : List (List ℕ) → List ℕ
spaced texts = flat_map (λ text. 32 ∷ text) texts
