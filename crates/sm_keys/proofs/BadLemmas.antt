-- Tokens that are a byte which no line holds, and those that are runs.
use Rattle.std.proofs.Common.{◌≡◌, ℕ, zero, suc, ◌+◌, ◌-◌, ◌<◌, cond, eqb, ◌||◌, ◌&&◌, not, Bool, true, false, List, [], ◌∷◌, take, drop, refl, sym, ap, subst, ◌∙◌, arith}
use Rattle.sm_text.specs.Name.{is_name, is_name_byte}
use Rattle.sm_text.specs.Tokens.{HASH, is_mark, begins_run, run_end, first_token, token_at, blanks_end}
use Rattle.sm_text.specs.declared.tokens.TokenAt.{TokenAt}
use Rattle.sm_text.specs.declared.tokens.TokenAt.TheVariants.{Run, Mark, Bad, Over}
use Rattle.sm_keys.specs.Tokens.{is_bad}

-- what a token that stands first in the rest of a line, which is at a place, tells of that place and of the rest
abbrev Tells : List ℕ → ℕ → TokenAt → Type 0
Tells rest at (Run start stop) = (start ≡ at) × (is_bad rest ≡ false) × (begins_run rest ≡ true)
Tells rest at (Mark start) = (start ≡ at) × (is_bad rest ≡ false) × (begins_run rest ≡ false)
Tells rest at (Bad start) = (start ≡ at) × (is_bad rest ≡ true) × (begins_run rest ≡ false)
Tells rest at Over = Unit {0}

first_tells : (line : List ℕ) (at : ℕ) (rest : List ℕ) → Tells rest at (first_token line at rest)
unfolding is_bad
first_tells line at [] = tt
first_tells line at (b ∷ rest) = by_tests (eqb b HASH) (is_name_byte b) (is_mark b) refl refl
  where
    by_tests : (hash name mark : Bool) → is_name_byte b ≡ name → is_mark b ≡ mark
        → Tells (b ∷ rest) at (cond hash Over (cond name (Run at (run_end line at)) (cond mark (Mark at) (Bad at))))
    by_tests true name mark n m = tt
    by_tests false true mark n m = (refl, ap (λ t. not (t || is_mark b)) n, n)
    by_tests false false true n m = (refl, ap (λ t. not (t || is_mark b)) n ∙ ap not m, n)
    by_tests false false false n m = (refl, ap (λ t. not (t || is_mark b)) n ∙ ap not m, n)

bad_taken : (n : ℕ) (xs : List ℕ) → 0 < n → is_bad (take n xs) ≡ is_bad xs
unfolding is_bad
bad_taken zero xs some = absurd (omega arith)
bad_taken (suc n) [] some = refl
bad_taken (suc n) (b ∷ xs) some = refl

-- what stands first in some of the bytes stands first in all
pub begun_taken : (n : ℕ) (xs : List ℕ) → 0 < n → begins_run (take n xs) ≡ begins_run xs
begun_taken zero xs some = absurd (omega arith)
begun_taken (suc n) [] some = refl
begun_taken (suc n) (b ∷ xs) some = refl

bad_there : (line : List ℕ) (start stop at : ℕ) (bad : Bool) → start ≡ at → is_bad (drop at line) ≡ bad → start < stop → bad ≡ is_bad (take (stop - start) (drop start line))
bad_there line start stop at bad here tells some =
    sym tells ∙ ap (λ n. is_bad (drop n line)) (sym here) ∙ sym (bad_taken (stop - start) (drop start line) (omega arith))

-- what doesn't begin with a name byte is no name
pub and_false : (s : Bool) → (s && false) ≡ false
and_false true = refl
and_false false = refl

no_name : (token : List ℕ) → begins_run token ≡ false → is_name token ≡ false
no_name [] h = refl
no_name (b ∷ rest) h = rw h (and_false _)

no_name_there : (line : List ℕ) (start stop at : ℕ) → start ≡ at → begins_run (drop at line) ≡ false → start < stop → false ≡ is_name (take (stop - start) (drop start line))
no_name_there line start stop at here begins some =
    sym (no_name (take (stop - start) (drop start line)) (begun_taken (stop - start) (drop start line) (omega arith) ∙ ap (λ n. begins_run (drop n line)) here ∙ begins))

module _ (line : List ℕ) (from : ℕ) where
  told : (t : TokenAt) → t ≡ token_at line from → Tells (drop (blanks_end line from) line) (blanks_end line from) t
  told t is = let at = blanks_end line from in subst (Tells (drop at line) at) (sym is) (first_tells line at (drop at line))

  -- a run and a mark aren't bad, and any other byte is
  pub run_tells : (start stop : ℕ) → Run start stop ≡ token_at line from → start < stop → false ≡ is_bad (take (stop - start) (drop start line))
  run_tells start stop is some = let t = told (Run start stop) is in bad_there line start stop (blanks_end line from) false t.0 t.1 some

  -- a mark isn't bad
  pub mark_tells : (at : ℕ) → Mark at ≡ token_at line from → false ≡ is_bad (take (at + 1 - at) (drop at line))
  mark_tells at is = let t = told (Mark at) is in bad_there line at (at + 1) (blanks_end line from) false t.0 t.1 (omega arith)

  -- any other byte is
  pub bad_tells : (at : ℕ) → Bad at ≡ token_at line from → true ≡ is_bad (take (at + 1 - at) (drop at line))
  bad_tells at is = let t = told (Bad at) is in bad_there line at (at + 1) (blanks_end line from) true t.0 t.1 (omega arith)

  -- nor is a mark or such a byte a name
  pub mark_no_name : (at : ℕ) → Mark at ≡ token_at line from → false ≡ is_name (take (at + 1 - at) (drop at line))
  mark_no_name at is = let t = told (Mark at) is in no_name_there line at (at + 1) (blanks_end line from) t.0 t.2 (omega arith)

  -- nor is any other byte
  pub bad_no_name : (at : ℕ) → Bad at ≡ token_at line from → false ≡ is_name (take (at + 1 - at) (drop at line))
  bad_no_name at is = let t = told (Bad at) is in no_name_there line at (at + 1) (blanks_end line from) t.0 t.2 (omega arith)

  -- and a run begins with a name byte
  pub run_begins : (start stop : ℕ) → Run start stop ≡ token_at line from → start < stop → begins_run (take (stop - start) (drop start line)) ≡ true
  run_begins start stop is some =
      let t = told (Run start stop) is in
      begun_taken (stop - start) (drop start line) (omega arith) ∙ ap (λ n. begins_run (drop n line)) t.0 ∙ t.2
