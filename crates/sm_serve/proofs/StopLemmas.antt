-- A line that says why there is no answer.
use Rattle.std.proofs.Common.{◌≡◌, ℕ, ◌<◌, ◌^◌, Bool, true, false, List, [], ◌∷◌, ◌++◌, codes, decimal, Result, Ok, Err, OnOk, refl, sym, ap, ◌∙◌, append_assoc, append-nil, arith}
use Rattle.sm_text.specs.Plain.{is_plain, is_plain_byte}
use Rattle.sm_text.specs.Refusal.{name_of_refusal}
use Rattle.sm_text.specs.declared.refusal.RefusalKind.{RefusalKind}
use Rattle.sm_text.specs.declared.refusal.RefusalKind.TheVariants as kind
use Rattle.sm_lists.proofs.BoolLemmas.{first_true, second_true}
use Rattle.sm_report.proofs.FreeLines.{number_plain, both_plain}
use Rattle.sm_answer.specs.Giving.{PutsNext}
use Rattle.sm_serve.specs.Texts.{with_detail, plain_refusal, usage_line, refused_line, are_plain}
use Rattle.sm_report.specs.Fields.{spaced}
use Rattle.sm_serve.specs.Unsaid.{lines_unsaid, most_unsaid}

-- once it is put, nothing is left to say
pub line_said : (said : Bool) (line held holds : List ℕ) → said ≡ false → is_plain line ≡ true → holds ≡ held ++ line
    → PutsNext (λ rest. rest ≡ lines_unsaid said line) (λ rest. rest ≡ lines_unsaid true line) (most_unsaid said) (most_unsaid true) held holds (Ok true)
line_said true line held holds unsaid plain put = absurd cc
line_said false line held holds unsaid plain put = record {
  line = line;
  plain = plain;
  put = put;
  gave = record { first = λ rest none. ap (λ t. line ∷ t) none; more = record { lines = []; given = refl }; fewer = omega arith };
}

-- what holds anyway holds where there is no error
pub always_ok : {X E : Type 0} {P : Type 0} (r : Result X E) → P → OnOk r P
always_ok (Ok x) p = p
always_ok (Err e) p = tt

-- What is said is plain.

words_plain : (is_plain (codes "usage ") ≡ true) × (is_plain (codes "refused ") ≡ true) × (is_plain (codes " ") ≡ true)
unfolding is_plain_byte
words_plain = (refl, refl, refl)

-- the line of a faulty word
pub usage_plain : (word : ℕ) → word < 2 ^ 64 → is_plain (usage_line word) ≡ true
usage_plain word small = both_plain (codes "usage ") (decimal word) words_plain.0 (number_plain word small)

kind_plain : (k : RefusalKind) → is_plain (name_of_refusal k) ≡ true
unfolding is_plain_byte
kind_plain kind.TooLong = refl
kind_plain kind.BadByte = refl
kind_plain kind.BadHeader = refl
kind_plain kind.BadLine = refl
kind_plain kind.BadName = refl
kind_plain kind.BadNumber = refl
kind_plain kind.Redeclared = refl
kind_plain kind.RepeatedEntry = refl
kind_plain kind.RepeatedWeight = refl
kind_plain kind.MissingEnd = refl
kind_plain kind.AfterEnd = refl
kind_plain kind.TooManyAgents = refl
kind_plain kind.TooManyEntries = refl
kind_plain kind.UnknownName = refl
kind_plain kind.TooManySeats = refl
kind_plain kind.WrongKind = refl
kind_plain kind.BadAnswer = refl
kind_plain kind.BadCursor = refl
kind_plain kind.NotStable = refl
kind_plain kind.TooMany = refl
kind_plain kind.NotBuilt = refl
kind_plain kind.BadJson = refl

-- the line of a refusal, before the fields that tell more
abbrev refused_front : RefusalKind → ℕ → List ℕ
refused_front k at = codes "refused " ++ name_of_refusal k ++ codes " " ++ decimal at

front_plain : (k : RefusalKind) (at : ℕ) → at < 2 ^ 64 → is_plain (refused_front k at) ≡ true
front_plain k at small =
    both_plain (codes "refused " ++ name_of_refusal k ++ codes " ") (decimal at)
    (both_plain (codes "refused " ++ name_of_refusal k) (codes " ") (both_plain (codes "refused ") (name_of_refusal k) words_plain.1 (kind_plain k)) words_plain.2)
    (number_plain at small)

-- the line of a refusal without fields
pub refused_plain : (k : RefusalKind) (at : ℕ) → at < 2 ^ 64 → is_plain (refused_line (plain_refusal k at)) ≡ true
refused_plain k at small = both_plain (refused_front k at) [] (front_plain k at small) refl

spaced_plain : (fields : List (List ℕ)) → are_plain fields ≡ true → is_plain (spaced fields) ≡ true
spaced_plain [] h = refl
spaced_plain (field ∷ fields) h =
    both_plain (codes " " ++ field) (spaced fields) (both_plain (codes " ") field words_plain.2 (first_true (is_plain field) (are_plain fields) h))
    (spaced_plain fields (second_true (is_plain field) (are_plain fields) h))

-- with fields that are plain it is plain too
pub detail_plain : (k : RefusalKind) (at : ℕ) (fields : List (List ℕ)) → is_plain (refused_line (plain_refusal k at)) ≡ true → are_plain fields ≡ true → is_plain (refused_line (with_detail k at fields)) ≡ true
detail_plain k at fields front h = both_plain (refused_front k at) (spaced fields) (ap is_plain (sym (append-nil (refused_front k at))) ∙ front) (spaced_plain fields h)

-- the fields are put behind the rest of the line
pub detail_put : (k : RefusalKind) (at : ℕ) (fields : List (List ℕ)) (held then holds : List ℕ) → then ≡ held ++ refused_line (plain_refusal k at) → holds ≡ then ++ spaced fields
    → holds ≡ held ++ refused_line (with_detail k at fields)
detail_put k at fields held then holds front more =
    more ∙ ap (λ t. t ++ spaced fields) (front ∙ ap (λ t. held ++ t) (append-nil (refused_front k at))) ∙ append_assoc held (refused_front k at) (spaced fields)
