-- An instance is read as it is, whatever stands behind its line `end`, and so is what stands there.
use Rattle.std.proofs.Common.{◌≡◌, ℕ, ◌+◌, ◌<◌, ◌≤◌, ◌==◌, Bool, true, false, List, [], ◌∷◌, ◌++◌, length, map, All, Ok, Err, refl, sym, ap, ◌∙◌, arith, append_assoc, length-append}
use Rattle.std.specs.List.{onto_first, list_all}
use Rattle.std.proofs.Math.Seq.{drop-append_seam}
use Rattle.std.proofs.lemmas.List.Elements.{All-head, All-tail}
use Rattle.std.proofs.lemmas.Bool.{and_from}
use Rattle.sm_text.specs.Limits.{most_bytes}
use Rattle.sm_text.specs.Lines.{LF, CR, lines, content, texts_from}
use Rattle.sm_text.specs.Tokens.{tokens}
use Rattle.sm_lists.proofs.BoolLemmas.{first_true, second_true}
use Rattle.sm_instance.specs.Inputs.{IsInput}
use Rattle.sm_instance.specs.declared.inputs.Input.{Input}
use Rattle.sm_agents.specs.declared.kinds.Kind.{Kind}
use Rattle.sm_agents.specs.Named.{Said, nothing}
use Rattle.sm_reader.specs.Judging.{Verdict, goes, stops, refuses, Heading, passes, heads, faces, verdict_on, by_verdict, heading_of, by_heading}
use Rattle.sm_reader.specs.InstanceText.{ReadText, instance_text, before_header, behind_header, ended}
use Rattle.sm_reader.proofs.ReadingLemmas.{instance_text-short}
use Rattle.sm_report.specs.Lines.{LineData}
use Rattle.sm_report.specs.Sound.{IsLineOf}
use Rattle.sm_report.specs.Texts.{text_of_line}
use Rattle.sm_report.proofs.FreeLemmas.{is_free}
use Rattle.sm_report.proofs.FreeLines.{line_free}
use Rattle.sm_answer.specs.Writing.{text_of}
use Rattle.sm_law_reprint.proofs.CutLemmas.{with_end, lines_cut, content_of}

-- the lines of two texts, of which LF ends the first
onto_some : (b : ℕ) (xs : List (List ℕ)) → 0 < length (onto_first b xs)
onto_some b [] = omega arith
onto_some b (x ∷ xs) = omega arith

onto_append : (b : ℕ) (xs ys : List (List ℕ)) → 0 < length xs → onto_first b (xs ++ ys) ≡ onto_first b xs ++ ys
onto_append b [] ys some = absurd (omega (arith, some))
onto_append b (x ∷ xs) ys some = refl

some_lines : (front : List ℕ) → 0 < length (lines (front ++ LF ∷ []))
some_lines [] = omega arith
some_lines (b ∷ front) = by_end (b == LF) refl
  where
    by_end : (t : Bool) → (b == LF) ≡ t → 0 < length (lines ((b ∷ front) ++ LF ∷ []))
    by_end true e = rw e (omega arith)
    by_end false e = rw e (onto_some b (lines (front ++ LF ∷ [])))

lines_behind : (front more : List ℕ) → lines (front ++ LF ∷ more) ≡ lines (front ++ LF ∷ []) ++ lines more
lines_behind [] more = refl
lines_behind (b ∷ front) more = by_end (lines_behind front more) (b == LF) refl
  where
    by_end : lines (front ++ LF ∷ more) ≡ lines (front ++ LF ∷ []) ++ lines more → (t : Bool) → (b == LF) ≡ t
        → lines ((b ∷ front) ++ LF ∷ more) ≡ lines ((b ∷ front) ++ LF ∷ []) ++ lines more
    by_end deep true e = rw e (ap (λ ls. (b ∷ []) ∷ ls) deep)
    by_end deep false e = rw e (ap (onto_first b) deep ∙ onto_append b (lines (front ++ LF ∷ [])) (lines more) (some_lines front))

-- reading ends on the line `end`
behind_header_more : (kind : Kind) (format header_line : ℕ) (said : Said) (number place : ℕ) (ls more : List (List ℕ)) (read : ReadText)
    → behind_header kind format header_line said number place ls ≡ Ok read → behind_header kind format header_line said number place (ls ++ more) ≡ Ok read
behind_header_more kind format header_line said number place [] more read e = absurd cc
behind_header_more kind format header_line said number place (line ∷ ls) more read e =
    by_case (verdict_on kind format said number (tokens (content line))) (λ next h. behind_header_more kind format header_line next (number + 1) (place + length line) ls more read h) e
  where
    by_case : (v : Verdict) → ((next : Said) → behind_header kind format header_line next (number + 1) (place + length line) ls ≡ Ok read → behind_header kind format header_line next (number + 1) (place + length line) (ls ++ more) ≡ Ok read)
        → by_verdict v (λ next. behind_header kind format header_line next (number + 1) (place + length line) ls) (ended kind header_line said (place + length line) (number + 1)) (λ fault. Err (fault, number)) ≡ Ok read
        → by_verdict v (λ next. behind_header kind format header_line next (number + 1) (place + length line) (ls ++ more)) (ended kind header_line said (place + length line) (number + 1)) (λ fault. Err (fault, number)) ≡ Ok read
    by_case (goes next) deep h = deep next h
    by_case stops deep h = h
    by_case (refuses fault) deep h = absurd cc

before_header_more : (number place : ℕ) (ls more : List (List ℕ)) (read : ReadText) → before_header number place ls ≡ Ok read → before_header number place (ls ++ more) ≡ Ok read
before_header_more number place [] more read e = absurd cc
before_header_more number place (line ∷ ls) more read e =
    by_case (heading_of (tokens (content line))) (λ h. before_header_more (number + 1) (place + length line) ls more read h) e
  where
    by_case : (v : Heading) → (before_header (number + 1) (place + length line) ls ≡ Ok read → before_header (number + 1) (place + length line) (ls ++ more) ≡ Ok read)
        → by_heading v (before_header (number + 1) (place + length line) ls) (λ kind format. behind_header kind format number nothing (number + 1) (place + length line) ls) (λ fault. Err (fault, number)) ≡ Ok read
        → by_heading v (before_header (number + 1) (place + length line) (ls ++ more)) (λ kind format. behind_header kind format number nothing (number + 1) (place + length line) (ls ++ more)) (λ fault. Err (fault, number)) ≡ Ok read
    by_case passes deep h = deep h
    by_case (heads kind format) deep h = behind_header_more kind format number nothing (number + 1) (place + length line) ls more read h
    by_case (faces fault) deep h = absurd cc

-- the text of an instance that ends with a line break is read as the same with more behind it, where that is short enough
pub read_more : (front more : List ℕ) (read : ReadText) → length ((front ++ LF ∷ []) ++ more) ≤ most_bytes → instance_text (front ++ LF ∷ []) ≡ Ok read → instance_text ((front ++ LF ∷ []) ++ more) ≡ Ok read
read_more front more read le means =
    let long = length-append (front ++ LF ∷ []) more in
    let alone : before_header 1 0 (lines (front ++ LF ∷ [])) ≡ Ok read = sym (instance_text-short (front ++ LF ∷ []) (omega (arith, le, long))) ∙ means in
    instance_text-short ((front ++ LF ∷ []) ++ more) le
    ∙ ap (before_header 1 0) (ap lines (append_assoc front (LF ∷ []) more) ∙ lines_behind front more)
    ∙ before_header_more 1 0 (lines (front ++ LF ∷ [])) (lines more) read alone

-- what stands behind it are the texts of which it was made
contents : (texts : List (List ℕ)) → list_all (is_free CR) texts ≡ true → map content (map with_end texts) ≡ texts
contents [] free = refl
contents (text ∷ texts) free =
    ap (λ t. t ∷ map content (map with_end texts)) (content_of text (first_true (is_free CR text) (list_all (is_free CR) texts) free))
    ∙ ap (λ ts. text ∷ ts) (contents texts (second_true (is_free CR text) (list_all (is_free CR) texts) free))

texts_behind : (front : List ℕ) (texts : List (List ℕ)) → list_all (is_free LF) texts ≡ true → list_all (is_free CR) texts ≡ true → texts_from (front ++ text_of texts) (length front) ≡ texts
texts_behind front texts of_LF of_CR =
    ap (λ t. map content (lines t)) (drop-append_seam front (text_of texts)) ∙ ap (map content) (lines_cut texts of_LF) ∙ contents texts of_CR

texts_free : (input : Input) → IsInput input → (answer : List LineData) → All (IsLineOf input) answer
    → (list_all (is_free LF) (map (text_of_line input) answer) ≡ true) × (list_all (is_free CR) (map (text_of_line input) answer) ≡ true)
texts_free input sound [] all = (refl, refl)
texts_free input sound (line ∷ answer) all =
    let first = line_free input sound line (All-head (IsLineOf input) line answer all) in
    let rest = texts_free input sound answer (All-tail (IsLineOf input) line answer all) in
    (and_from (is_free LF (text_of_line input line)) _ first.0 rest.0, and_from (is_free CR (text_of_line input line)) _ first.1 rest.1)

-- behind such a text stand the lines of the answer, as they were written
pub answer_behind : (input : Input) → IsInput input → (front : List ℕ) (answer : List LineData) → All (IsLineOf input) answer
    → texts_from (front ++ text_of (map (text_of_line input) answer)) (length front) ≡ map (text_of_line input) answer
answer_behind input sound front answer all =
    let free = texts_free input sound answer all in
    texts_behind front (map (text_of_line input) answer) free.0 free.1
