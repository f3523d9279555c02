-- What is written for lines is an array of strings.
use Rattle.std.proofs.Common.{◌≡◌, ℕ, ◌<◌, ◌≤◌, ◌==◌, ◌&&◌, Bool, true, false, not, nat_le, nat_lt, List, [], ◌∷◌, ◌++◌, map, refl, sym, ap, ◌∙◌, append_assoc, arith, eqb-true, leb-true, ltb-true}
use Rattle.std.specs.List.{list_all}
use Rattle.std.proofs.lemmas.Bool.{not-true}
use Rattle.json.specs.Print.{escape, escape_byte, quoted}
use Rattle.serde_json.specs.Data.{string}
use Rattle.serde_json.specs.View.{items_of}
use Rattle.serde_json.specs.Written.{items_text}
use Rattle.sm_text.specs.Lines.{LF}
use Rattle.sm_text.specs.Plain.{is_plain_byte, is_plain}
use Rattle.sm_lists.proofs.BoolLemmas.{first_true, second_true}
use Rattle.sm_json.specs.Wrapping.{wrapped, wrapped_from, LinesAreJson}

-- bytes from 32 on are no control characters
no_control : (b c : ℕ) → 32 ≤ b → c < 32 → (b == c) ≡ false
no_control b c least low = by_test (b == c) refl where
  by_test : (t : Bool) → (b == c) ≡ t → (b == c) ≡ false
  by_test true is = absurd (let e = eqb-true b c is in omega (arith, e, least, low))
  by_test false is = is

not_low : (b : ℕ) → 32 ≤ b → nat_lt b 32 ≡ false
not_low b least = by_test (nat_lt b 32) refl where
  by_test : (t : Bool) → nat_lt b 32 ≡ t → nat_lt b 32 ≡ false
  by_test true is = absurd (let e = ltb-true b 32 is in omega (arith, e, least))
  by_test false is = is

-- a plain byte stands for itself
itself : (b : ℕ) → is_plain_byte b ≡ true → escape_byte b ≡ b ∷ []
unfolding is_plain_byte escape_byte
itself b h =
    let front = first_true (nat_le 32 b && nat_le b 126 && not (b == 34)) (not (b == 92)) h in
    let least : 32 ≤ b = leb-true 32 b (first_true (nat_le 32 b) (nat_le b 126) (first_true (nat_le 32 b && nat_le b 126) (not (b == 34)) front)) in
    let e34 = not-true (b == 34) (second_true (nat_le 32 b && nat_le b 126) (not (b == 34)) front) in
    let e92 = not-true (b == 92) (second_true (nat_le 32 b && nat_le b 126 && not (b == 34)) (not (b == 92)) h) in
    rw (
      e34,
      e92,
      no_control b 8 least (omega arith),
      no_control b 12 least (omega arith),
      no_control b 10 least (omega arith),
      no_control b 13 least (omega arith),
      no_control b 9 least (omega arith),
      not_low b least,
    ) refl

plain_escape : (line : List ℕ) → is_plain line ≡ true → escape line ≡ line
plain_escape [] h = refl
plain_escape (b ∷ line) h =
    ap (λ t. t ++ escape line) (itself b (first_true (is_plain_byte b) (is_plain line) h)) ∙ ap (λ t. b ∷ t) (plain_escape line (second_true (is_plain_byte b) (is_plain line) h))

plain_quoted : (line : List ℕ) → is_plain line ≡ true → quoted line ≡ 34 ∷ (line ++ 34 ∷ [])
plain_quoted line h = ap (λ t. 34 ∷ (t ++ 34 ∷ [])) (plain_escape line h)

-- the lines behind the first
later_written : (lines : List (List ℕ)) → list_all is_plain lines ≡ true → wrapped_from false lines ++ 93 ∷ [] ≡ items_text true (items_of (map string lines))
later_written [] h = refl
later_written (line ∷ lines) h =
    append_assoc (wrapped false line) (wrapped_from false lines) (93 ∷ [])
    ∙ ap (λ t. wrapped false line ++ t) (later_written lines (second_true (is_plain line) (list_all is_plain lines) h))
    ∙ ap (λ t. (44 ∷ t) ++ items_text true (items_of (map string lines))) (sym (plain_quoted line (first_true (is_plain line) (list_all is_plain lines) h)))

pub array_written : LinesAreJson
array_written line lines h =
    sym (append_assoc (wrapped_from true (line ∷ lines)) (93 ∷ []) (LF ∷ []))
    ∙ ap (λ t. t ++ LF ∷ [])
    (append_assoc (wrapped true line) (wrapped_from false lines) (93 ∷ [])
    ∙ ap (λ t. wrapped true line ++ t) (later_written lines (second_true (is_plain line) (list_all is_plain lines) h))
    ∙ ap (λ t. (91 ∷ t) ++ items_text true (items_of (map string lines))) (sym (plain_quoted line (first_true (is_plain line) (list_all is_plain lines) h))))
