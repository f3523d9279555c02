-- The tokens of a line, from a place on.
use Rattle.std.proofs.Common.{◌≡◌, ℕ, suc, ◌+◌, ◌-◌, ◌<◌, ◌≤◌, cond, eqb, ◌&&◌, Bool, true, false, List, [], ◌∷◌, length, get_or, take, drop, refl, sym, ap, ◌∙◌, arith}
use Rattle.std.proofs.lemmas.List.{at_drop_more, at_drop_all, drop-drop, length-drop, get_or-drop}
use Rattle.std.proofs.lemmas.List.Sums.{prefix_len-le-length, prefix_len_stops}
use Rattle.std.specs.List.{onto_first, prefix_len}
use Rattle.std.proofs.lemmas.Bool.Decides.{nat_tests}
use Rattle.sm_text.specs.Name.{begins_name, is_name_byte}
use Rattle.sm_text.specs.Tokens.{is_blank, is_mark, tokens, blanks_end, run_end, first_token, token_at, IsLeading}
use Rattle.sm_text.specs.declared.tokens.TokenAt.TheVariants.{Mark, Bad}

-- bytes are of one kind
pub blank_no_hash : (b : ℕ) → is_blank b ≡ true → eqb b 35 ≡ false
unfolding is_blank
blank_no_hash b h = grind (arith, nat_tests)

-- a name byte begins no comment
pub name_no_hash : (b : ℕ) → is_name_byte b ≡ true → eqb b 35 ≡ false
unfolding is_name_byte begins_name
name_no_hash b h = grind (arith, nat_tests)

-- nor is it a blank
pub name_no_blank : (b : ℕ) → is_name_byte b ≡ true → is_blank b ≡ false
unfolding is_name_byte begins_name is_blank
name_no_blank b h = grind (arith, nat_tests)

-- one byte more
one_more : (n : ℕ) → 1 + n ≡ suc n
one_more n = omega arith

drop_one : (n b : ℕ) (line : List ℕ) → drop (1 + n) (b ∷ line) ≡ drop n line
drop_one n b line = ap (λ k. drop k (b ∷ line)) (one_more n)

take_one : (n b : ℕ) (line : List ℕ) → take (1 + n) (b ∷ line) ≡ b ∷ take n line
take_one n b line = ap (λ k. take k (b ∷ line)) (one_more n)

-- blanks have no token
blanks_step : (b : ℕ) (line : List ℕ) (t : Bool) → is_blank b ≡ t → tokens line ≡ tokens (drop (prefix_len is_blank line) line)
    → tokens (b ∷ line) ≡ tokens (drop (cond t (1 + prefix_len is_blank line) 0) (b ∷ line))
blanks_step b line true blank behind = rw (blank_no_hash b blank, blank) (behind ∙ ap tokens (sym (drop_one (prefix_len is_blank line) b line)))
blanks_step b line false other behind = refl

-- blanks in front change no token
pub tokens_behind_blanks : (line : List ℕ) → tokens line ≡ tokens (drop (prefix_len is_blank line) line)
tokens_behind_blanks [] = refl
tokens_behind_blanks (b ∷ line) = blanks_step b line (is_blank b) refl (tokens_behind_blanks line)

-- the first n bytes are the first token
abbrev pub BeginsWith : ℕ → List ℕ → Type 0
BeginsWith n line = tokens line ≡ take n line ∷ tokens (drop n line)

-- the third of four
third : {X : Type 0} (first second third : Bool) (a b c d : X) → first ≡ false → second ≡ false → third ≡ true → cond first a (cond second b (cond third c d)) ≡ c
third {X} false false true a b c d f s t = refl
third {X} true _ _ a b c d f s t = cc
third {X} false true _ a b c d f s t = cc
third {X} false false false a b c d f s t = cc

both : (s t : Bool) → s ≡ true → t ≡ true → (s && t) ≡ true
both s t e f = rw (e, f) refl

-- a byte joins the run behind it
joins : (b c : ℕ) (line : List ℕ) → is_name_byte b ≡ true → is_name_byte c ≡ true → tokens (b ∷ c ∷ line) ≡ onto_first b (tokens (c ∷ line))
joins b c line name more =
    third (eqb b 35) (is_blank b) (is_name_byte b && is_name_byte c) [] (tokens (c ∷ line)) (onto_first b (tokens (c ∷ line))) ((b ∷ []) ∷ tokens (c ∷ line))
    (name_no_hash b name) (name_no_blank b name) (both (is_name_byte b) (is_name_byte c) name more)

-- a run is the first token
run_step : (b c : ℕ) (line : List ℕ) (t : Bool) → is_name_byte b ≡ true → is_name_byte c ≡ t
    → (is_name_byte c ≡ true → BeginsWith (1 + prefix_len is_name_byte line) (c ∷ line)) → BeginsWith (1 + cond t (1 + prefix_len is_name_byte line) 0) (b ∷ c ∷ line)
run_step b c line true name more behind = joins b c line name more ∙ ap (onto_first b) (behind more) ∙ (let n = 1 + prefix_len is_name_byte line in
    ap (λ t. t ∷ tokens (drop n (c ∷ line))) (sym (take_one n b (c ∷ line))) ∙ ap (λ t. take (1 + n) (b ∷ c ∷ line) ∷ tokens t) (sym (drop_one n b (c ∷ line))))
run_step b c line false name over behind = rw (name_no_hash b name, name_no_blank b name, name, over) refl

-- where a name byte stands first, the first token is its run
pub tokens_of_run : (b : ℕ) (line : List ℕ) → is_name_byte b ≡ true → BeginsWith (1 + prefix_len is_name_byte line) (b ∷ line)
tokens_of_run b [] name = rw (name_no_hash b name, name_no_blank b name, name) refl
tokens_of_run b (c ∷ line) name = run_step b c line (is_name_byte c) name refl (tokens_of_run c line)

-- any other byte is a token by itself
pub tokens_of_other : (b : ℕ) (line : List ℕ) → eqb b 35 ≡ false → is_blank b ≡ false → is_name_byte b ≡ false → tokens (b ∷ line) ≡ (b ∷ []) ∷ tokens line
tokens_of_other b line no_hash no_blank no_name = rw (no_hash, no_blank, no_name) refl

-- a comment has no tokens
pub tokens_of_hash : (b : ℕ) (line : List ℕ) → b ≡ 35 → tokens (b ∷ line) ≡ []
tokens_of_hash b line h = grind (arith, nat_tests)

-- the byte at which the blanks end is no blank
pub no_blank_at : (line : List ℕ) (from at : ℕ) → at ≡ blanks_end line from → at < length line → is_blank (get_or line at 0) ≡ false
no_blank_at line from at is inside =
    let rest = drop from line in
    let n = prefix_len is_blank rest in
    let stops : is_blank (get_or rest n 0) ≡ false = prefix_len_stops is_blank rest 0 (omega (arith, length-drop from line)) in
    ap is_blank (ap (λ k. get_or line k 0) is ∙ sym (get_or-drop from line n 0)) ∙ stops

-- the tokens are those from the end of the blanks on
pub tokens_at : (line : List ℕ) (from at : ℕ) → at ≡ blanks_end line from → tokens (drop from line) ≡ tokens (drop at line)
tokens_at line from at is =
    let rest = drop from line in
    tokens_behind_blanks rest ∙ ap tokens (drop-drop (prefix_len is_blank rest) from line ∙ ap (λ n. drop n line) (sym is))

-- the first token, by the byte there
pub token_at-here : (line : List ℕ) (from at : ℕ) → at ≡ blanks_end line from → at < length line
    → token_at line from ≡ first_token line at (get_or line at 0 ∷ drop (at + 1) line)
token_at-here line from at is inside = ap (λ n. first_token line n (drop n line)) (sym is) ∙ at_drop_more (first_token line at) line at 0 inside

-- no token is left
pub tokens-at_end : (line : List ℕ) (from at : ℕ) → at ≡ blanks_end line from → length line ≤ at → tokens (drop from line) ≡ []
tokens-at_end line from at is past = tokens_at line from at is ∙ at_drop_all tokens line at past

-- where a comment stands next there is no token
pub tokens-at_hash : (line : List ℕ) (from at : ℕ) → at ≡ blanks_end line from → at < length line → get_or line at 0 ≡ 35 → tokens (drop from line) ≡ []
tokens-at_hash line from at is inside hash =
    tokens_at line from at is ∙ at_drop_more tokens line at 0 inside ∙ tokens_of_hash (get_or line at 0) (drop (at + 1) line) hash

-- a run leads
pub run_leads : (line : List ℕ) (from at stop : ℕ) → at ≡ blanks_end line from → at < length line → is_name_byte (get_or line at 0) ≡ true → stop ≡ run_end line (at + 1)
    → IsLeading line from at stop
run_leads line from at stop is inside name end =
    let b = get_or line at 0 in
    let behind = drop (at + 1) line in
    let rest : drop at line ≡ b ∷ behind = at_drop_more (λ t. t) line at 0 inside in
    let n = 1 + prefix_len is_name_byte behind in
    let count : stop ≡ at + n = omega arith in
    let first : BeginsWith n (drop at line) = rw rest (tokens_of_run b behind name) in
    record {
      behind = omega arith;
      some = omega arith;
      within = omega (arith, prefix_len-le-length is_name_byte behind, length-drop (at + 1) line);
      leads = tokens_at line from at is ∙ first
          ∙ ap (λ k. take k (drop at line) ∷ tokens (drop n (drop at line))) (let e : n ≡ stop - at = omega arith in e)
          ∙ ap (λ t. take (stop - at) (drop at line) ∷ tokens t) (drop-drop n at line ∙ ap (λ k. drop k line) (sym count));
    }

-- and so does another byte
pub other_leads : (line : List ℕ) (from at : ℕ) → at ≡ blanks_end line from → at < length line → eqb (get_or line at 0) 35 ≡ false → is_name_byte (get_or line at 0) ≡ false
    → IsLeading line from at (at + 1)
other_leads line from at is inside no_hash no_name =
    let b = get_or line at 0 in
    let behind = drop (at + 1) line in
    let rest : drop at line ≡ b ∷ behind = at_drop_more (λ t. t) line at 0 inside in
    record {
      behind = omega arith;
      some = omega arith;
      within = omega arith;
      leads = tokens_at line from at is ∙ ap tokens rest ∙ tokens_of_other b behind no_hash (no_blank_at line from at is inside) no_name
          ∙ ap (λ t. t ∷ tokens behind) (ap (take 1) (sym rest) ∙ ap (λ n. take n (drop at line)) (let e : 1 ≡ at + 1 - at = omega arith in e));
    }

-- which byte makes which token
pub first_token-mark : (line rest : List ℕ) (at b : ℕ) → eqb b 35 ≡ false → is_name_byte b ≡ false → is_mark b ≡ true → first_token line at (b ∷ rest) ≡ Mark at
first_token-mark line rest at b no_hash no_name mark = rw (no_hash, no_name, mark) refl

-- a byte that begins nothing is a token by itself
pub first_token-bad : (line rest : List ℕ) (at b : ℕ) → eqb b 35 ≡ false → is_name_byte b ≡ false → is_mark b ≡ false → first_token line at (b ∷ rest) ≡ Bad at
first_token-bad line rest at b no_hash no_name no_mark = rw (no_hash, no_name, no_mark) refl
