-- Lines as items of an array of strings.
use Rattle.std.specs.Prelude.{◌≡◌, ℕ, Bool, true, false, List, [], ◌∷◌, ◌++◌, map}
use Rattle.std.specs.List.{list_all}
use Rattle.serde_json.specs.Data.{string, array}
use Rattle.serde_json.specs.View.{items_of}
use Rattle.serde_json.specs.Written.{compact_text}
use Rattle.sm_text.specs.Lines.{LF}
use Rattle.sm_text.specs.Plain.{is_plain}

-- `[` for the first line, `,` for a later one
abbrev pub opening : Bool → ℕ
opening true = 91
opening false = 44

-- a line as an item of an array: `[` where it is the first and else `,`, and then the line between two `"`
abbrev pub wrapped : Bool → List ℕ → List ℕ
wrapped first line = opening first ∷ 34 ∷ (line ++ 34 ∷ [])

-- lines one after another, of which the first may be the first of all
abbrev pub wrapped_from : Bool → List (List ℕ) → List ℕ
wrapped_from first [] = []
wrapped_from first (line ∷ lines) = wrapped first line ++ wrapped_from false lines

-- what is written for lines: each wrapped, then `]` and LF
abbrev pub json_of_lines : List (List ℕ) → List ℕ
json_of_lines lines = wrapped_from true lines ++ 93 ∷ LF ∷ []

-- what is written for some lines is the text of the array of these strings, and LF
abbrev pub LinesAreJson : Type 0
LinesAreJson =
    (line : List ℕ) (lines : List (List ℕ)) → list_all is_plain (line ∷ lines) ≡ true
    → json_of_lines (line ∷ lines) ≡ compact_text (array (items_of (map string (line ∷ lines)))) ++ LF ∷ []
