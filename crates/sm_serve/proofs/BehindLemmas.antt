-- How many lines a text has, and where its reading ends.
use Rattle.std.proofs.Common.{◌≡◌, ℕ, ◌+◌, ◌≤◌, cond, Bool, List, [], ◌∷◌, length, take, drop, ◌-◌, Option, Some, None, Result, Ok, Err, sym, ap, ◌∙◌, arith}
use Rattle.std.specs.Option.{option_map_or}
use Rattle.std.proofs.lemmas.Bool.{le-ltb}
use Rattle.sm_text.specs.Limits.{most_bytes}
use Rattle.sm_text.specs.Lines.{lines, content, IsLineAt}
use Rattle.sm_text.proofs.LineLemmas.{line_text}
use Rattle.sm_text.specs.Tokens.{tokens}
use Rattle.sm_text.specs.declared.lines.LineSpan.{LineSpan}
use Rattle.sm_text.specs.declared.refusal.RefusalKind.TheVariants.{UnknownName}
use Rattle.sm_agents.specs.declared.kinds.Kind.{Kind}
use Rattle.sm_agents.specs.Named.{Said, nothing}
use Rattle.sm_reader.specs.Judging.{Verdict, goes, stops, refuses, by_verdict, verdict_on, Heading, passes, heads, faces, by_heading, heading_of}
use Rattle.sm_reader.specs.InstanceText.{ReadText, Refusal, instance_text, before_header, behind_header, ended, unknown_lines, least, input_of}
use Rattle.sm_serve.specs.Refusals.{first_saying, has_tokens}

-- a reading that ends somewhere ends on no later line than there are
ended_line : (kind : Kind) (header_line : ℕ) (said : Said) (rest rest_line : ℕ) (read : ReadText) → ended kind header_line said rest rest_line ≡ Ok read → read.rest_line ≡ rest_line
ended_line kind header_line said rest rest_line read e = by_least (least (unknown_lines kind said)) e
  where
    by_least : (o : Option ℕ) → option_map_or {U = Result ReadText Refusal} (λ (line : ℕ). Err (UnknownName, line)) o (Ok (record { input = input_of kind said; header_line = header_line; rest = rest; rest_line = rest_line })) ≡ Ok read
        → read.rest_line ≡ rest_line
    by_least None h = let same : (record { input = input_of kind said; header_line = header_line; rest = rest; rest_line = rest_line }) ≡ read = cc in ap (λ (r : ReadText). r.rest_line) (sym same)
    by_least (Some line) h = absurd cc

behind_header_line : (kind : Kind) (format header_line : ℕ) (said : Said) (number place : ℕ) (all : List (List ℕ)) (read : ReadText)
    → behind_header kind format header_line said number place all ≡ Ok read → read.rest_line ≤ number + length all
behind_header_line kind format header_line said number place [] read e = absurd cc
behind_header_line kind format header_line said number place (line ∷ rest) read e =
    by_case (verdict_on kind format said number (tokens (content line))) (λ more h. behind_header_line kind format header_line more (number + 1) (place + length line) rest read h) e
  where
    by_case : (v : Verdict) → ((more : Said) → behind_header kind format header_line more (number + 1) (place + length line) rest ≡ Ok read → read.rest_line ≤ number + 1 + length rest)
        → by_verdict v (λ more. behind_header kind format header_line more (number + 1) (place + length line) rest) (ended kind header_line said (place + length line) (number + 1)) (λ fault. Err (fault, number)) ≡ Ok read
        → read.rest_line ≤ number + length (line ∷ rest)
    by_case (goes more) deep h = let le = deep more h in omega arith
    by_case stops deep h = let is = ended_line kind header_line said (place + length line) (number + 1) read h in omega arith
    by_case (refuses fault) deep h = absurd cc

before_header_line : (number place : ℕ) (all : List (List ℕ)) (read : ReadText) → before_header number place all ≡ Ok read → read.rest_line ≤ number + length all
before_header_line number place [] read e = absurd cc
before_header_line number place (line ∷ rest) read e =
    by_case (heading_of (tokens (content line))) (λ h. before_header_line (number + 1) (place + length line) rest read h) e
  where
    by_case : (v : Heading) → (before_header (number + 1) (place + length line) rest ≡ Ok read → read.rest_line ≤ number + 1 + length rest)
        → by_heading v (before_header (number + 1) (place + length line) rest) (λ kind format. behind_header kind format number nothing (number + 1) (place + length line) rest) (λ fault. Err (fault, number)) ≡ Ok read
        → read.rest_line ≤ number + length (line ∷ rest)
    by_case passes deep h = let le = deep h in omega arith
    by_case (heads kind format) deep h = let le = behind_header_line kind format number nothing (number + 1) (place + length line) rest read h in omega arith
    by_case (faces fault) deep h = absurd cc

-- reading a text ends at the line behind its last one at the latest
pub rest_line_le : (bytes : List ℕ) (read : ReadText) → length bytes ≤ most_bytes → instance_text bytes ≡ Ok read → read.rest_line ≤ 1 + length (lines bytes)
unfolding instance_text
rest_line_le bytes read short e =
    before_header_line 1 0 (lines bytes) read (rw (le-ltb most_bytes (length bytes) short) at e)

-- the search looks at the first line, and then at those behind it
pub first_saying-step : (bytes : List ℕ) (from number : ℕ) (span : LineSpan) (b : Bool) → IsLineAt bytes from span → b ≡ has_tokens (tokens (take (span.stop - span.start) (drop span.start bytes)))
    → first_saying number (lines (drop from bytes)) ≡ cond b (Some number) (first_saying (number + 1) (lines (drop span.next bytes)))
first_saying-step bytes from number span b h e =
    ap (first_saying number) h.leads
    ∙ ap (λ t. cond t (Some number) (first_saying (number + 1) (lines (drop span.next bytes)))) (ap (λ t. has_tokens (tokens t)) (sym (line_text bytes from span h)) ∙ sym e)
