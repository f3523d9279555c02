-- Small texts whose lines, names, tokens and numbers were found by hand.
use Rattle.std.specs.Prelude.{◌≡◌, ℕ, true, false, List, [], ◌∷◌, ◌++◌, map, replicate, Some, None, pos, negsuc, codes}
use Rattle.sm_text.specs.Lines.{LF, CR, first_line, content, lines}
use Rattle.sm_text.specs.Name.{is_name}
use Rattle.sm_text.specs.Tokens.{tokens, token_at}
use Rattle.sm_text.specs.Numbers.{number_of, signed_of}
use Rattle.sm_text.specs.Plain.{is_plain}
use Rattle.sm_text.specs.declared.tokens.TokenAt.TheVariants.{Run, Mark, Bad, Over}

-- what the lines of a text hold, without their ends
abbrev pub contents : List ℕ → List (List ℕ)
contents text = map content (lines text)

-- a line ends at LF or where the text does; one CR before that belongs to its end, and any other CR to the line
abbrev pub LinesEnd : Type 0
LinesEnd = (contents [] ≡ [])
    × (contents (codes "ab" ++ LF ∷ codes "cd") ≡ codes "ab" ∷ codes "cd" ∷ [])
    × (contents (codes "ab" ++ CR ∷ LF ∷ codes "cd" ++ CR ∷ []) ≡ codes "ab" ∷ codes "cd" ∷ [])
    × (contents (codes "a" ++ CR ∷ CR ∷ LF ∷ []) ≡ (codes "a" ++ CR ∷ []) ∷ [])
    × (contents (codes "a" ++ CR ∷ codes "b" ++ LF ∷ LF ∷ []) ≡ (codes "a" ++ CR ∷ codes "b") ∷ [] ∷ [])
    × (first_line (codes "ab" ++ CR ∷ LF ∷ codes "cd") ≡ codes "ab" ++ CR ∷ LF ∷ [])

-- a name has 1 to 64 bytes, and begins with no `-` or `.`
abbrev pub NamesBegin : Type 0
NamesBegin = (map is_name (codes "m1" ∷ codes "_" ∷ codes "9.a-b_C" ∷ replicate 64 120 ∷ []) ≡ replicate 4 true)
    × (map is_name ([] ∷ codes "-a" ∷ codes ".a" ∷ codes "a b" ∷ codes "a:" ∷ codes "a/b" ∷ replicate 65 120 ∷ []) ≡ replicate 7 false)

-- blanks stand between tokens, and what follows a `#` isn't read
abbrev pub TokensCut : Type 0
TokensCut = (tokens (codes "p m-1:a  [2]#x") ≡ codes "p" ∷ codes "m-1" ∷ codes ":" ∷ codes "a" ∷ codes "[" ∷ codes "2" ∷ codes "]" ∷ [])
    × (tokens (codes "a;;b " ++ 9 ∷ []) ≡ codes "a" ∷ codes ";" ∷ codes ";" ∷ codes "b" ∷ [])
    × (map (token_at (codes "p m1: ; #a")) (0 ∷ 1 ∷ 3 ∷ 4 ∷ 5 ∷ 7 ∷ 20 ∷ []) ≡ Run 0 1 ∷ Run 2 4 ∷ Run 3 4 ∷ Mark 4 ∷ Bad 6 ∷ Over ∷ Over ∷ [])

-- a number has no leading zero and no sign; a signed one may have `-`, but not before 0; sizes go up to the greatest
abbrev pub NumbersSpelt : Type 0
NumbersSpelt = (map (λ run. number_of run 10) (codes "0" ∷ codes "7" ∷ codes "10" ∷ []) ≡ Some 0 ∷ Some 7 ∷ Some 10 ∷ [])
    × (map (λ run. number_of run 10) ([] ∷ codes "00" ∷ codes "07" ∷ codes "11" ∷ codes "-1" ∷ codes "+1" ∷ codes "1a" ∷ []) ≡ replicate 7 None)
    × (map (λ run. signed_of run 10) (codes "0" ∷ codes "10" ∷ codes "-1" ∷ codes "-10" ∷ []) ≡ Some (pos 0) ∷ Some (pos 10) ∷ Some (negsuc 0) ∷ Some (negsuc 9) ∷ [])
    × (map (λ run. signed_of run 10) ([] ∷ codes "-" ∷ codes "-0" ∷ codes "-01" ∷ codes "--1" ∷ codes "-11" ∷ codes "11" ∷ []) ≡ replicate 7 None)

-- a space and `~` stand for themselves in JSON; a control character, `"`, `\` and what lies behind `~` don't
abbrev pub PlainLines : Type 0
PlainLines = (map is_plain ([] ∷ codes "pair a h/2" ∷ (32 ∷ 126 ∷ []) ∷ []) ≡ replicate 3 true)
    × (map is_plain ((97 ∷ 10 ∷ []) ∷ (31 ∷ []) ∷ (34 ∷ []) ∷ (92 ∷ 97 ∷ []) ∷ (127 ∷ []) ∷ (195 ∷ 164 ∷ []) ∷ []) ≡ replicate 6 false)
