-- Where a run of name bytes ends, and the name that it is.
use Rattle.std.proofs.Common.{◌≡◌, ℕ, ◌+◌, ◌-◌, ◌<◌, ◌≤◌, cond, nat_le, Bool, true, false, List, [], ◌∷◌, length, get_or, take, drop, refl, sym, ap, ◌∙◌, arith}
use Rattle.std.specs.List.{prefix_len}
use Rattle.std.proofs.lemmas.Bool.Decides.{nat_tests}
use Rattle.std.proofs.lemmas.List.{at_drop_more, get_or-take, get_or-drop, length-take-le, length-drop}
use Rattle.std.proofs.lemmas.List.Sums.{prefix_len_stops}
use Rattle.sm_text.specs.Limits.{most_name_bytes}
use Rattle.sm_text.specs.Name.{is_name, is_name_byte, begins_name}
use Rattle.sm_text.specs.Tokens.{is_blank, begins_run, tokens, blanks_end, run_end, first_token, token_at, IsLeading}
use Rattle.sm_text.specs.declared.tokens.TokenAt.TheVariants.{Run}
use Rattle.sm_text.proofs.TokenLemmas.{name_no_hash, name_no_blank, token_at-here, run_leads}
use Rattle.sm_keys.specs.Tokens.{is_bad}
use Rattle.sm_keys.proofs.BadLemmas.{begun_taken}
use Rattle.sm_keys.proofs.WholeLemmas.{leading_run, is_name-run}

-- how many pass from a place on
prefix_at : (p : ℕ → Bool) (line : List ℕ) (at : ℕ) → at < length line → (t : Bool) → p (get_or line at 0) ≡ t
    → prefix_len p (drop at line) ≡ cond t (1 + prefix_len p (drop (at + 1) line)) 0
prefix_at p line at inside t e = at_drop_more (prefix_len p) line at 0 inside ∙ ap (λ t. cond t (1 + prefix_len p (drop (at + 1) line)) 0) e

-- a run goes on over a name byte
run_on : (line : List ℕ) (at : ℕ) → at < length line → is_name_byte (get_or line at 0) ≡ true → run_end line at ≡ run_end line (at + 1)
run_on line at inside name =
    let n = prefix_len is_name_byte (drop (at + 1) line) in
    let e : prefix_len is_name_byte (drop at line) ≡ 1 + n = prefix_at is_name_byte line at inside true name in omega (arith, e)

-- where a run ends none goes on
pub run_ends : (line : List ℕ) (from : ℕ) → run_end line from < length line → run_end line (run_end line from) ≡ run_end line from
run_ends line from inside =
    let rest = drop from line in
    let n = prefix_len is_name_byte rest in
    let other : is_name_byte (get_or rest n 0) ≡ false = prefix_len_stops is_name_byte rest 0 (omega (arith, length-drop from line)) in
    let e : prefix_len is_name_byte (drop (from + n) line) ≡ 0 = prefix_at is_name_byte line (from + n) inside false (ap is_name_byte (sym (get_or-drop from line n 0)) ∙ other) in omega (arith, e)

module _ (line : List ℕ) (at : ℕ) (inside : at < length line) (name : is_name_byte (get_or line at 0) ≡ true) where
  -- no blank stands before a name byte
  no_blanks : at ≡ blanks_end line at
  no_blanks =
      let e : prefix_len is_blank (drop at line) ≡ 0 = prefix_at is_blank line at inside false (name_no_blank (get_or line at 0) name) in omega (arith, e)

  -- the run that begins there is the first token
  pub run_first : Run at (run_end line (at + 1)) ≡ token_at line at
  run_first =
      let b = get_or line at 0 in
      let picked : first_token line at (b ∷ drop (at + 1) line) ≡ Run at (run_end line at) = rw (name_no_hash b name, name) refl in
      ap (Run at) (sym (run_on line at inside name)) ∙ sym (token_at-here line at at no_blanks inside ∙ picked)

  -- and stands there
  pub run_is_first : (stop : ℕ) → stop ≡ run_end line (at + 1) → IsLeading line at at stop
  run_is_first stop end = run_leads line at at stop no_blanks inside name end

-- a blank before tokens changes none
pub behind_space : (line : List ℕ) (at : ℕ) → at < length line → get_or line at 0 ≡ 32 → tokens (drop (at + 1) line) ≡ tokens (drop at line)
unfolding is_blank
behind_space line at inside space =
    let b = get_or line at 0 in
    sym (at_drop_more tokens line at 0 inside ∙ ap (λ b. tokens (b ∷ drop (at + 1) line)) space)

-- a run ends where a blank stands
space_ends : (line : List ℕ) (stop : ℕ) → stop < length line → get_or line stop 0 ≡ 32 → stop ≡ run_end line stop
unfolding is_name_byte begins_name
space_ends line stop inside space =
    let e : prefix_len is_name_byte (drop stop line) ≡ 0 = prefix_at is_name_byte line stop inside false (ap is_name_byte space) in omega (arith, e)

-- a byte with which a name begins is one that a name holds
first_is_byte : (b : ℕ) → begins_name b ≡ true → is_name_byte b ≡ true
unfolding is_name_byte
first_is_byte b h = rw h refl

-- what begins a run isn't bad
pub run_no_bad : (token : List ℕ) → begins_run token ≡ true → is_bad token ≡ false
unfolding is_bad
run_no_bad [] h = refl
run_no_bad (b ∷ rest) h = rw h refl

-- a name begins at a place, and a blank stands where its run ends
module _ (line : List ℕ) (at stop : ℕ) (some : at < stop) (inside : stop < length line) (begins : begins_name (get_or line at 0) ≡ true) (space : get_or line stop 0 ≡ 32)
    (goes_on : run_end line stop ≡ run_end line (at + 1)) where
  name : is_name_byte (get_or line at 0) ≡ true
  name = first_is_byte (get_or line at 0) begins

  -- it is the first token
  leads : IsLeading line at at stop
  leads = run_is_first line at (omega arith) name stop (space_ends line stop inside space ∙ goes_on)

  long : length (take (stop - at) (drop at line)) ≡ stop - at
  long = length-take-le (stop - at) (drop at line) (omega (arith, length-drop at line))

  -- and the others are those behind the blank
  pub name_tokens : tokens (drop at line) ≡ take (stop - at) (drop at line) ∷ tokens (drop (at + length (take (stop - at) (drop at line)) + 1) line)
  name_tokens =
      let e : stop + 1 ≡ at + length (take (stop - at) (drop at line)) + 1 = omega (arith, long) in
      leads.leads ∙ ap (λ ts. take (stop - at) (drop at line) ∷ ts) (sym (behind_space line stop inside space) ∙ ap (λ n. tokens (drop n line)) e)

  begun : begins_run (take (stop - at) (drop at line)) ≡ true
  begun = begun_taken (stop - at) (drop at line) (omega arith) ∙ at_drop_more begins_run line at 0 (omega arith) ∙ name

  -- it isn't bad
  pub name_no_bad : is_bad (take (stop - at) (drop at line)) ≡ false
  name_no_bad = run_no_bad (take (stop - at) (drop at line)) begun

  first : get_or (take (stop - at) (drop at line)) 0 0 ≡ get_or line at 0
  first = get_or-take (stop - at) (drop at line) 0 0 (omega arith) ∙ get_or-drop at line 0 0 ∙ ap (λ n. get_or line n 0) (let e : at + 0 ≡ at = omega arith in e)

  -- and is a name, where it is no longer than one
  pub name_is : stop - at ≤ most_name_bytes → is_name (take (stop - at) (drop at line)) ≡ true
  name_is few =
      let short : nat_le (length (take (stop - at) (drop at line))) most_name_bytes ≡ true = grind (arith, nat_tests, long) in
      is_name-run (take (stop - at) (drop at line)) (omega (arith, long)) (leading_run line at at stop leads begun) ∙ rw (short, ap begins_name first ∙ begins) refl
