-- The laws of layouts. Each is the contract of a function of `laws`.
use Rattle.std.specs.Prelude.{◌≡◌, ℕ, true, List, [], ◌∷◌, ◌++◌, take, codes}
use Rattle.std.specs.List.{list_any}
use Rattle.sm_instance.specs.declared.inputs.Input.{Input}
use Rattle.sm_report.specs.Heads.{HeadData}
use Rattle.sm_check_forms.specs.Layouts.{OpeningData, Part, begins, is_begun, is_whole}
use Rattle.sm_check_forms.specs.Forms.{layouts_of}

-- the lines of a whole answer begin one
abbrev pub WholeIsBegun : Type 0
WholeIsBegun = (layouts : List (List Part)) (lines : List OpeningData) (k : ℕ)
    → is_whole layouts lines ≡ true → is_begun layouts (take k lines) ≡ true

-- the words of the closing line
abbrev pub closing_of : HeadData → List (List ℕ)
closing_of (HeadData.List after limit) = codes "end" ∷ codes "more" ∷ []
closing_of _ = codes "end" ∷ []

-- lines whose last one begins with such a word
pub record EndsWith (words : List (List ℕ)) (lines : List OpeningData) : Type 0 where
  pub front : List OpeningData
  pub last : OpeningData
  pub is : lines ≡ front ++ last ∷ []
  pub closes : list_any (begins last) words ≡ true

-- a whole answer ends with a closing line
abbrev pub WholeEnds : Type 0
WholeEnds = (input : Input) (head : HeadData) (lines : List OpeningData)
    → is_whole (layouts_of input head) lines ≡ true → EndsWith (closing_of head) lines
