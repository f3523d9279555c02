-- How a text is cut into lines, and a line into tokens.
use Rattle.std.proofs.Common.{◌≡◌, ℕ, ◌<◌, ◌==◌, eqb, true, false, not, List, [], ◌∷◌, ◌++◌, length, map, codes, refl, sym, ap, ◌∙◌, arith, append_assoc, append-nil}
use Rattle.std.specs.List.{onto_first, list_all}
use Rattle.std.proofs.lemmas.Bool.{not-true}
use Rattle.sm_text.specs.Lines.{LF, CR, without_last, content, lines}
use Rattle.sm_text.specs.Name.{begins_name, is_name_byte, is_name}
use Rattle.sm_text.specs.Tokens.{is_blank, begins_run, tokens}
use Rattle.sm_text.proofs.TokenLemmas.{name_no_hash, name_no_blank}
use Rattle.sm_lists.proofs.BoolLemmas.{first_true, second_true}
use Rattle.sm_report.specs.Fields.{spaced}
use Rattle.sm_report.proofs.FreeLemmas.{is_free}
use Rattle.sm_answer.specs.Writing.{text_of}
use Rattle.sm_report.proofs.FieldInverses.{name_bytes}

-- a line with its end
abbrev pub with_end : List ℕ → List ℕ
with_end line = line ++ LF ∷ []

-- a line that LF ends is the first of a text
line_cut : (line rest : List ℕ) → is_free LF line ≡ true → lines (line ++ LF ∷ rest) ≡ with_end line ∷ lines rest
line_cut [] rest free = refl
line_cut (b ∷ line) rest free =
    let other : eqb b 10 ≡ false = not-true (b == 10) (first_true (not (b == 10)) (is_free LF line) free) in
    rw other (ap (onto_first b) (line_cut line rest (second_true (not (b == 10)) (is_free LF line) free)))

-- the lines of a text are those of which it was made
pub lines_cut : (ls : List (List ℕ)) → list_all (is_free LF) ls ≡ true → lines (text_of ls) ≡ map with_end ls
lines_cut [] free = refl
lines_cut (line ∷ ls) free =
    ap lines (append_assoc line (LF ∷ []) (text_of ls)) ∙ line_cut line (text_of ls) (first_true (is_free LF line) (list_all (is_free LF) ls) free)
    ∙ ap (λ t. with_end line ∷ t) (lines_cut ls (second_true (is_free LF line) (list_all (is_free LF) ls) free))

-- what a line holds
without_LF : (line : List ℕ) → without_last LF (with_end line) ≡ line
without_LF [] = refl
without_LF (b ∷ []) = refl
without_LF (b ∷ c ∷ line) = ap (λ t. b ∷ t) (without_LF (c ∷ line))

without_CR : (line : List ℕ) → is_free CR line ≡ true → without_last CR line ≡ line
without_CR [] free = refl
without_CR (b ∷ []) free = let other : eqb b 13 ≡ false = not-true (b == 13) (first_true (not (b == 13)) true free) in rw other refl
without_CR (b ∷ c ∷ line) free = ap (λ t. b ∷ t) (without_CR (c ∷ line) (second_true (not (b == 13)) (is_free CR (c ∷ line)) free))

-- what a printed line holds is the line without its end
pub content_of : (line : List ℕ) → is_free CR line ≡ true → content (with_end line) ≡ line
content_of line free = ap (without_last CR) (without_LF line) ∙ without_CR line free

-- a run of name bytes
pub record IsRun (run : List ℕ) : Type 0 where
  pub some : 0 < length run
  pub bytes : list_all is_name_byte run ≡ true

-- a name is a run of name bytes
pub name_is_run : (name : List ℕ) → is_name name ≡ true → IsRun name
name_is_run [] h = absurd cc
name_is_run (b ∷ name) h = record { some = omega arith; bytes = name_bytes (b ∷ name) h }

-- a run is the first token of a line where no name byte stands behind it
joins : (b : ℕ) (rest : List ℕ) → is_name_byte b ≡ true → begins_run rest ≡ true → tokens (b ∷ rest) ≡ onto_first b (tokens rest)
joins b rest name more = rw (name_no_hash b name, name_no_blank b name, name, more) refl

ends : (b : ℕ) (rest : List ℕ) → is_name_byte b ≡ true → begins_run rest ≡ false → tokens (b ∷ rest) ≡ (b ∷ []) ∷ tokens rest
ends b rest name over = rw (name_no_hash b name, name_no_blank b name, name, over) refl

bytes_cut : (b : ℕ) (run rest : List ℕ) → list_all is_name_byte (b ∷ run) ≡ true → begins_run rest ≡ false → tokens ((b ∷ run) ++ rest) ≡ (b ∷ run) ∷ tokens rest
bytes_cut b [] rest bytes over = ends b rest (first_true (is_name_byte b) true bytes) over
bytes_cut b (c ∷ run) rest bytes over =
    let behind : list_all is_name_byte (c ∷ run) ≡ true = second_true (is_name_byte b) (list_all is_name_byte (c ∷ run)) bytes in
    joins b ((c ∷ run) ++ rest) (first_true (is_name_byte b) (list_all is_name_byte (c ∷ run)) bytes) (first_true (is_name_byte c) (list_all is_name_byte run) behind)
    ∙ ap (onto_first b) (bytes_cut c run rest behind over)

-- a run with no name byte behind it is a token, and behind it come those of the rest
pub tokens-run : (run rest : List ℕ) → IsRun run → begins_run rest ≡ false → tokens (run ++ rest) ≡ run ∷ tokens rest
tokens-run [] rest is over = absurd (omega (arith, is.some))
tokens-run (b ∷ run) rest is over = bytes_cut b run rest is.bytes over

-- a run by itself is one token
pub tokens-run_alone : (run : List ℕ) → IsRun run → tokens run ≡ run ∷ []
tokens-run_alone run is = ap tokens (sym (append-nil run)) ∙ tokens-run run [] is refl

-- marks and blanks
pub mark_cut : (rest : List ℕ) → (tokens (58 ∷ rest) ≡ codes ":" ∷ tokens rest) × (tokens (91 ∷ rest) ≡ codes "[" ∷ tokens rest) × (tokens (93 ∷ rest) ≡ codes "]" ∷ tokens rest)
unfolding is_blank begins_name is_name_byte
mark_cut rest = (refl, refl, refl)

-- a space in front is passed over
pub tokens-blank : (rest : List ℕ) → tokens (32 ∷ rest) ≡ tokens rest
unfolding is_blank
tokens-blank rest = refl

-- a space, a colon and brackets begin no run
pub no_run : (rest : List ℕ) → (begins_run (32 ∷ rest) ≡ false) × (begins_run (58 ∷ rest) ≡ false) × (begins_run (91 ∷ rest) ≡ false) × (begins_run (93 ∷ rest) ≡ false)
unfolding begins_name is_name_byte
no_run rest = (refl, refl, refl, refl)

-- names behind spaces
spaced_over : (names : List (List ℕ)) → begins_run (spaced names) ≡ false
spaced_over [] = refl
spaced_over (name ∷ names) = (no_run (name ++ spaced names)).0

-- names behind spaces are cut into the names
pub tokens-spaced : (names : List (List ℕ)) → list_all is_name names ≡ true → tokens (spaced names) ≡ names
tokens-spaced [] are = refl
tokens-spaced (name ∷ names) are =
    let first = name_is_run name (first_true (is_name name) (list_all is_name names) are) in
    tokens-blank (name ++ spaced names) ∙ tokens-run name (spaced names) first (spaced_over names)
    ∙ ap (λ t. name ∷ t) (tokens-spaced names (second_true (is_name name) (list_all is_name names) are))
