-- Tokens that begin with a name byte are name bytes all through.
use Rattle.std.proofs.Common.{◌≡◌, ℕ, suc, ◌+◌, ◌-◌, ◌≤◌, cond, eqb, ◌&&◌, ◌||◌, not, Bool, true, false, List, [], ◌∷◌, length, get_or, take, drop, nat_le, refl, sym, ap, subst, ◌∙◌, arith}
use Rattle.std.specs.List.{list_all, onto_first, prefix_len}
use Rattle.std.proofs.lemmas.Bool.Decides.{nat_tests}
use Rattle.std.proofs.lemmas.Bool.{false≢true}
use Rattle.sm_text.specs.Limits.{most_name_bytes}
use Rattle.sm_text.specs.Name.{is_name, is_name_byte, begins_name}
use Rattle.sm_text.specs.Tokens.{tokens, begins_run, is_blank, IsLeading}
use Rattle.sm_text.proofs.TokenLemmas.{tokens_of_run}
use Rattle.sm_lists.proofs.BoolLemmas.{first_true, second_true}

or_right : (s t : Bool) → (not s || t) ≡ true → s ≡ true → t ≡ true
or_right true t h k = h
or_right false t h k = cc

-- a token is name bytes all through where it begins with one
abbrev is_whole : List ℕ → Bool
is_whole token = not (begins_run token) || list_all is_name_byte token

itself : (s : Bool) → (not s || (s && true)) ≡ true
itself true = refl
itself false = refl

one_more : (n b : ℕ) (line : List ℕ) → take (1 + n) (b ∷ line) ≡ b ∷ take n line
one_more n b line = ap (λ k. take k (b ∷ line)) (let e : 1 + n ≡ suc n = omega arith in e)

-- a name byte before a run
longer_whole : (b : ℕ) (first : List ℕ) (more : List (List ℕ)) → is_name_byte b ≡ true → begins_run first ≡ true → list_all is_whole (first ∷ more) ≡ true
    → list_all is_whole ((b ∷ first) ∷ more) ≡ true
longer_whole b first more name begins h =
    let all : list_all is_name_byte first ≡ true = or_right (begins_run first) (list_all is_name_byte first) (first_true (is_whole first) (list_all is_whole more) h) begins in
    rw (name, all) (second_true (is_whole first) (list_all is_whole more) h)

joined_whole : (b : ℕ) (line : List ℕ) → is_name_byte b ≡ true → begins_run line ≡ true → list_all is_whole (tokens line) ≡ true → list_all is_whole (onto_first b (tokens line)) ≡ true
joined_whole b [] name begins h = absurd (false≢true begins)
joined_whole b (c ∷ line) name begins h =
    let n = prefix_len is_name_byte line in
    let more = tokens (drop (1 + n) (c ∷ line)) in
    let split : tokens (c ∷ line) ≡ (c ∷ take n line) ∷ more = tokens_of_run c line begins ∙ ap (λ t. t ∷ more) (one_more n c line) in
    let Q : List (List ℕ) → Type 0 = λ ts. list_all is_whole ts ≡ true in
    let P : List (List ℕ) → Type 0 = λ ts. Q (onto_first b ts) in
    subst P (sym split) (longer_whole b (c ∷ take n line) more name begins (subst Q split h))

-- all tokens of a line are
pub tokens_whole : (line : List ℕ) → list_all is_whole (tokens line) ≡ true
tokens_whole [] = refl
tokens_whole (b ∷ line) = by_hash (eqb b 35) (is_blank b) (is_name_byte b && begins_run line) refl (tokens_whole line)
  where
    by_hash : (s t u : Bool) → (is_name_byte b && begins_run line) ≡ u → list_all is_whole (tokens line) ≡ true
        → list_all is_whole (cond s [] (cond t (tokens line) (cond u (onto_first b (tokens line)) ((b ∷ []) ∷ tokens line)))) ≡ true
    by_hash true t u e behind = refl
    by_hash false true u e behind = behind
    by_hash false false true e behind = joined_whole b line (first_true (is_name_byte b) (begins_run line) e) (second_true (is_name_byte b) (begins_run line) e) behind
    by_hash false false false e behind = rw (itself (is_name_byte b)) behind

-- a token that begins a run is one
pub leading_run : (line : List ℕ) (from start stop : ℕ) → IsLeading line from start stop → begins_run (take (stop - start) (drop start line)) ≡ true
    → list_all is_name_byte (take (stop - start) (drop start line)) ≡ true
leading_run line from start stop leading begins =
    let token = take (stop - start) (drop start line) in
    let whole = subst (λ ts. list_all is_whole ts ≡ true) leading.leads (tokens_whole (drop from line)) in
    or_right (begins_run token) (list_all is_name_byte token) (first_true (is_whole token) (list_all is_whole (tokens (drop stop line))) whole) begins

-- two of four tests, the other two of which pass
two_of_four : (s t u v : Bool) → s ≡ true → v ≡ true → (s && t && u && v) ≡ (t && u)
two_of_four true true true true e f = refl
two_of_four true true false true e f = refl
two_of_four true false u true e f = refl
two_of_four true t u false e f = cc
two_of_four false t u v e f = cc

-- a run is a name unless it is too long or begins with a byte with which none does
pub is_name-run : (run : List ℕ) → 1 ≤ length run → list_all is_name_byte run ≡ true → is_name run ≡ (nat_le (length run) most_name_bytes && begins_name (get_or run 0 0))
is_name-run [] some all = absurd (omega arith)
is_name-run (b ∷ rest) some all =
    let one : nat_le 1 (length (b ∷ rest)) ≡ true = grind (arith, nat_tests) in
    two_of_four (nat_le 1 (length (b ∷ rest))) (nat_le (length (b ∷ rest)) most_name_bytes) (begins_name b) (list_all is_name_byte (b ∷ rest)) one all
