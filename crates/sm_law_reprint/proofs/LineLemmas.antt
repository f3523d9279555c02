-- The tokens of printed lines, which hold neither LF nor CR.
use Rattle.std.proofs.Common.{◌≡◌, ℕ, suc, ◌<◌, ◌^◌, ◌==◌, ◌||◌, Bool, true, false, if◌then◌else◌, List, [], ◌∷◌, ◌++◌, codes, decimal, refl, ap, ◌∙◌, arith, append_assoc, ℤ, pos, negsuc}
use Rattle.std.specs.List.{list_all}
use Rattle.std.specs.Fmt.{signed_decimal}
use Rattle.std.specs.Fmt as fmt
use Rattle.std.specs.Int.RustNames.{unsigned_abs}
use Rattle.std.proofs.lemmas.Fmt.{decimal_nonempty}
use Rattle.std.proofs.lemmas.Bool.{and_from}
use Rattle.sm_text.specs.Lines.{LF, CR}
use Rattle.sm_text.specs.Name.{is_digit, begins_name, is_name_byte, is_name}
use Rattle.sm_text.specs.Tokens.{is_blank, begins_run, tokens}
use Rattle.sm_lists.proofs.BoolLemmas.{first_true, second_true}
use Rattle.sm_agents.specs.declared.kinds.Kind.{Kind}
use Rattle.sm_agents.specs.declared.kinds.Kind.TheVariants.{Marriage, Hospitals, Roommates}
use Rattle.sm_report.specs.Fields.{spaced}
use Rattle.sm_report.proofs.DecimalLemmas.{digits_of_decimal}
use Rattle.sm_report.proofs.FreeLemmas.{is_free, free_of, free-append}
use Rattle.sm_instance_lines.specs.Printed.{header_line, list_text, capacity_text}
use Rattle.sm_agents.specs.Kinds.{kind_name}
use Rattle.sm_law_reprint.proofs.CutLemmas.{IsRun, name_is_run, tokens-run, mark_cut, tokens-blank, no_run, tokens-spaced}

-- Numbers are runs.

digit_is_name : (b : ℕ) (t : Bool) → is_digit b ≡ t → t ≡ true → is_name_byte b ≡ true
unfolding is_name_byte begins_name
digit_is_name b true e h = by_letter _ e
  where
    by_letter : (l : Bool) → is_digit b ≡ true → ((((l || is_digit b) || b == 95) || b == 46) || b == 45) ≡ true
    by_letter true e = refl
    by_letter false e = rw e refl
digit_is_name b false e h = absurd cc

digits_are_names : (ds : List ℕ) → list_all is_digit ds ≡ true → list_all is_name_byte ds ≡ true
digits_are_names [] h = refl
digits_are_names (d ∷ ds) h =
    and_from (is_name_byte d) (list_all is_name_byte ds) (digit_is_name d true (first_true (is_digit d) (list_all is_digit ds) h) refl)
    (digits_are_names ds (second_true (is_digit d) (list_all is_digit ds) h))

-- a decimal is a run of name bytes
pub decimal_is_run : (n : ℕ) → n < 2 ^ 64 → IsRun (decimal n)
decimal_is_run n small = record { some = decimal_nonempty n small; bytes = digits_are_names (decimal n) (digits_of_decimal n small) }

minus_is_name : is_name_byte 45 ≡ true
unfolding is_name_byte begins_name
minus_is_name = refl

-- so is a signed one
pub signed_is_run : (z : ℤ) → unsigned_abs z < 2 ^ 64 → IsRun (signed_decimal z)
signed_is_run (pos n) small = decimal_is_run n small
signed_is_run (negsuc n) small =
    let digits = decimal_is_run (suc n) small in
    record { some = omega arith; bytes = and_from (is_name_byte 45) (list_all is_name_byte (decimal (suc n))) minus_is_name digits.bytes }

-- Lines hold neither LF nor CR.

-- neither stands in a run
pub record HasNoEnds (text : List ℕ) : Type 0 where
  pub of_LF : is_free LF text ≡ true
  pub of_CR : is_free CR text ≡ true

ends_no_run : (is_name_byte 10 ≡ false) × (is_name_byte 13 ≡ false)
unfolding is_name_byte begins_name
ends_no_run = (refl, refl)

-- a run of name bytes holds neither LF nor CR
pub run_free : (run : List ℕ) → list_all is_name_byte run ≡ true → HasNoEnds run
run_free run bytes = record { of_LF = free_of is_name_byte LF ends_no_run.0 run bytes; of_CR = free_of is_name_byte CR ends_no_run.1 run bytes }

-- two texts that hold neither don't hold them joined
pub both_free : {xs ys : List ℕ} → HasNoEnds xs → HasNoEnds ys → HasNoEnds (xs ++ ys)
both_free {xs} {ys} h k = record { of_LF = free-append LF xs ys h.of_LF k.of_LF; of_CR = free-append CR xs ys h.of_CR k.of_CR }

-- a name holds neither
pub name_free : (name : List ℕ) → is_name name ≡ true → HasNoEnds name
name_free name h = run_free name (name_is_run name h).bytes

-- nor do names behind spaces
pub spaced_free : (names : List (List ℕ)) → list_all is_name names ≡ true → HasNoEnds (spaced names)
spaced_free [] are = record { of_LF = refl; of_CR = refl }
spaced_free (name ∷ names) are =
    let first = name_free name (first_true (is_name name) (list_all is_name names) are) in
    let space : HasNoEnds (codes " ") = record { of_LF = refl; of_CR = refl } in
    both_free (both_free space first) (spaced_free names (second_true (is_name name) (list_all is_name names) are))

-- nor does the text of a list
pub list_free : (names : List (List ℕ)) → list_all is_name names ≡ true → HasNoEnds (list_text names)
list_free names are = let colon : HasNoEnds (codes ":") = record { of_LF = refl; of_CR = refl } in both_free colon (spaced_free names are)

-- nor does the text of a capacity
pub capacity_free : (kind : Kind) (capacity : ℕ) → capacity < 2 ^ 64 → HasNoEnds (capacity_text kind capacity)
capacity_free Marriage capacity small = record { of_LF = refl; of_CR = refl }
capacity_free Hospitals capacity small =
    let opening : HasNoEnds (codes " [") = record { of_LF = refl; of_CR = refl } in
    let closing : HasNoEnds (codes "]") = record { of_LF = refl; of_CR = refl } in
    both_free (both_free opening (run_free (decimal capacity) (decimal_is_run capacity small).bytes)) closing
capacity_free Roommates capacity small = record { of_LF = refl; of_CR = refl }

-- nor do the words of lines
pub words_free : HasNoEnds (codes "p ") × HasNoEnds (codes "r ") × HasNoEnds (codes "weight ") × HasNoEnds (codes "force ") × HasNoEnds (codes "forbid ") × HasNoEnds (codes " ") × HasNoEnds (codes "end")
words_free = (
  record { of_LF = refl; of_CR = refl },
  record { of_LF = refl; of_CR = refl },
  record { of_LF = refl; of_CR = refl },
  record { of_LF = refl; of_CR = refl },
  record { of_LF = refl; of_CR = refl },
  record { of_LF = refl; of_CR = refl },
  record { of_LF = refl; of_CR = refl },
)

-- nor does a header
pub header_free : (second : Bool) (kind : Kind) → HasNoEnds (header_line (if second then 2 else 1) kind)
unfolding fmt.digits
header_free true Marriage = record { of_LF = refl; of_CR = refl }
header_free true Hospitals = record { of_LF = refl; of_CR = refl }
header_free true Roommates = record { of_LF = refl; of_CR = refl }
header_free false Marriage = record { of_LF = refl; of_CR = refl }
header_free false Hospitals = record { of_LF = refl; of_CR = refl }
header_free false Roommates = record { of_LF = refl; of_CR = refl }

-- a run begins with a name byte
pub begins_run-run : (run : List ℕ) → IsRun run → begins_run run ≡ true
begins_run-run [] is = absurd (omega (arith, is.some))
begins_run-run (b ∷ run) is = first_true (is_name_byte b) (list_all is_name_byte run) is.bytes

-- The tokens of lines.

-- the first words of lines
pub words_cut : (rest : List ℕ) → (tokens (codes "p " ++ rest) ≡ codes "p" ∷ tokens rest) × (tokens (codes "r " ++ rest) ≡ codes "r" ∷ tokens rest)
    × (tokens (codes "weight " ++ rest) ≡ codes "weight" ∷ tokens rest) × (tokens (codes "force " ++ rest) ≡ codes "force" ∷ tokens rest)
    × (tokens (codes "forbid " ++ rest) ≡ codes "forbid" ∷ tokens rest)
unfolding is_blank begins_name is_name_byte
words_cut rest = (refl, refl, refl, refl, refl)

-- headers are cut into their words
pub headers_cut : (second : Bool) (kind : Kind) → tokens (header_line (if second then 2 else 1) kind) ≡ codes "stable" ∷ decimal (if second then 2 else 1) ∷ kind_name kind ∷ []
unfolding is_blank begins_name is_name_byte fmt.digits
headers_cut true Marriage = refl
headers_cut true Hospitals = refl
headers_cut true Roommates = refl
headers_cut false Marriage = refl
headers_cut false Hospitals = refl
headers_cut false Roommates = refl

-- and so is the line `end`
pub end_cut : tokens (codes "end") ≡ codes "end" ∷ []
unfolding is_blank begins_name is_name_byte
end_cut = refl

-- the word of an order stands before its names
pub order_cut : (rest : List ℕ) → begins_run rest ≡ false → tokens (codes "order" ++ rest) ≡ codes "order" ∷ tokens rest
unfolding begins_name is_name_byte
order_cut rest apart = tokens-run (codes "order") rest (name_is_run (codes "order") refl) apart

-- a name and a list
list_cut : (names : List (List ℕ)) → list_all is_name names ≡ true → tokens (list_text names) ≡ codes ":" ∷ names
list_cut names are = (mark_cut (spaced names)).0 ∙ ap (λ t. codes ":" ∷ t) (tokens-spaced names are)

-- a name with a list behind it is cut into the name, the colon and the names on the list
pub tokens-named : (name : List ℕ) (names : List (List ℕ)) → is_name name ≡ true → list_all is_name names ≡ true → tokens (name ++ list_text names) ≡ name ∷ codes ":" ∷ names
tokens-named name names is are =
    tokens-run name (list_text names) (name_is_run name is) (no_run (spaced names)).1 ∙ ap (λ t. name ∷ t) (list_cut names are)

-- a name with a capacity, and a list
pub tokens-bracketed : (name : List ℕ) (capacity : ℕ) (names : List (List ℕ)) → is_name name ≡ true → capacity < 2 ^ 64 → list_all is_name names ≡ true
    → tokens (name ++ capacity_text Hospitals capacity ++ list_text names) ≡ name ∷ codes "[" ∷ decimal capacity ∷ codes "]" ∷ codes ":" ∷ names
tokens-bracketed name capacity names is small are =
    let number = decimal capacity in
    let rest = codes "]" ++ list_text names in
    ap tokens (append_assoc name (capacity_text Hospitals capacity) (list_text names))
    ∙ tokens-run name (capacity_text Hospitals capacity ++ list_text names) (name_is_run name is) (no_run (codes "[" ++ (number ++ codes "]" ++ list_text names))).0
    ∙ ap (λ t. name ∷ t) (tokens-blank (codes "[" ++ (number ++ codes "]" ++ list_text names)) ∙ (mark_cut (number ++ codes "]" ++ list_text names)).1
    ∙ ap (λ t. codes "[" ∷ tokens t) (append_assoc number (codes "]") (list_text names))
    ∙ ap (λ t. codes "[" ∷ t) (tokens-run number rest (decimal_is_run capacity small) (no_run (list_text names)).3
    ∙ ap (λ t. number ∷ t) ((mark_cut (list_text names)).2 ∙ ap (λ t. codes "]" ∷ t) (list_cut names are))))

-- the names of a pair, and what stands behind them
pub tokens-pair : (proposer reviewer rest : List ℕ) → is_name proposer ≡ true → is_name reviewer ≡ true → begins_run rest ≡ false
    → tokens (proposer ++ codes " " ++ reviewer ++ rest) ≡ proposer ∷ reviewer ∷ tokens rest
tokens-pair proposer reviewer rest first second over =
    ap tokens (append_assoc (proposer ++ codes " ") reviewer rest ∙ append_assoc proposer (codes " ") (reviewer ++ rest))
    ∙ tokens-run proposer (codes " " ++ reviewer ++ rest) (name_is_run proposer first) (no_run (reviewer ++ rest)).0
    ∙ ap (λ t. proposer ∷ t) (tokens-blank (reviewer ++ rest) ∙ tokens-run reviewer rest (name_is_run reviewer second) over)
