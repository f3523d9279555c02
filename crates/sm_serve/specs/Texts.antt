-- The lines that are written where there is no answer.
use Rattle.std.specs.Prelude.{ℕ, List, [], ◌++◌, Bool, codes, decimal, map, Vec}
use Rattle.std.specs.List.{list_all}
use Rattle.std.specs.declared.alloc.Global.{Global}
use Rattle.sm_text.specs.Plain.{is_plain}
use Rattle.sm_text.specs.Refusal.{name_of_refusal}
use Rattle.sm_text.specs.declared.refusal.RefusalKind.{RefusalKind}
use Rattle.sm_report.specs.Fields.{spaced}

-- a refusal: why an input is refused, at which of its lines, and the fields that tell more
pub record RefusalData : Type 0 where
  pub kind : RefusalKind
  pub at : ℕ
  pub detail : List (List ℕ)

-- a refusal with these fields
abbrev pub with_detail : RefusalKind → ℕ → List (List ℕ) → RefusalData
with_detail kind at detail = record { kind = kind; at = at; detail = detail }

-- a refusal without fields
abbrev pub plain_refusal : RefusalKind → ℕ → RefusalData
plain_refusal kind at = with_detail kind at []

-- the line that names a refusal
abbrev pub refused_line : RefusalData → List ℕ
refused_line refusal =
    codes "refused " ++ name_of_refusal refusal.kind ++ codes " " ++ decimal refusal.at ++ spaced refusal.detail

-- the line that names a faulty word by its number
abbrev pub usage_line : ℕ → List ℕ
usage_line word = codes "usage " ++ decimal word

-- the fields of a refusal, as plain data
abbrev pub refusal_fields : Vec (Vec ℕ Global) Global → List (List ℕ)
refusal_fields fields = map (λ (field : Vec ℕ Global). field.items) fields.items

-- fields that stand for themselves in a string of JSON
abbrev pub are_plain : List (List ℕ) → Bool
are_plain fields = list_all is_plain fields
