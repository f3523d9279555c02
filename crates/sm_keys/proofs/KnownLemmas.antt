-- Known names on a line.
use Rattle.std.proofs.Common.{◌≡◌, ℕ, suc, ◌+◌, ◌-◌, ◌<◌, ◌≤◌, cond, true, List, [], ◌∷◌, ◌++◌, length, get_or, take, drop, refl, sym, ap, ◌∙◌, arith}
use Rattle.std.specs.List.{list_all, prefix_len}
use Rattle.std.proofs.Math.Seq.{drop-cons}
use Rattle.std.proofs.lemmas.List.{take-append-drop, take-append-le, drop-append-le, take_all, drop_all, drop-drop}
use Rattle.sm_text.specs.Name.{is_name, is_name_byte, begins_name}
use Rattle.sm_text.specs.Tokens.{tokens, is_blank}
use Rattle.sm_text.proofs.TokenLemmas.{tokens_of_run}
use Rattle.sm_lists.proofs.BoolLemmas.{first_true, second_true}
use Rattle.sm_keys.specs.Tables.{text_at}
use Rattle.sm_keys.specs.Lines.{IsNamed, IsNameAt}

-- name bytes go on up to a blank or the end
run_of : (xs rest : List ℕ) → list_all is_name_byte xs ≡ true → prefix_len is_name_byte rest ≡ 0 → prefix_len is_name_byte (xs ++ rest) ≡ length xs
run_of [] rest h none = none
run_of (x ∷ xs) rest h none =
    let behind = run_of xs rest (second_true (is_name_byte x) (list_all is_name_byte xs) h) none in
    ap (λ t. cond t (1 + prefix_len is_name_byte (xs ++ rest)) 0) (first_true (is_name_byte x) (list_all is_name_byte xs) h) ∙ (let e : 1 + prefix_len is_name_byte (xs ++ rest) ≡ suc (length xs) = omega (arith, behind) in e)

-- a blank is no name byte
blank_ends : (rest : List ℕ) → prefix_len is_name_byte (32 ∷ rest) ≡ 0
unfolding is_name_byte begins_name
blank_ends rest = refl

-- a blank is no token
blank_passed : (rest : List ℕ) → tokens (32 ∷ rest) ≡ tokens rest
unfolding is_blank
blank_passed rest = refl

-- the first of two texts
first_of_both : (xs ys : List ℕ) → take (length xs) (xs ++ ys) ≡ xs
first_of_both xs ys = take-append-le (length xs) xs ys (omega arith) ∙ take_all (length xs) xs (omega arith)

-- and the second
second_of_both : (xs ys : List ℕ) → drop (length xs) (xs ++ ys) ≡ ys
second_of_both xs ys = drop-append-le (length xs) xs ys (omega arith) ∙ ap (λ zs. zs ++ ys) (drop_all (length xs) xs (omega arith))

-- a name with no name byte behind it is the first token
name_first : (xs rest : List ℕ) → is_name xs ≡ true → prefix_len is_name_byte rest ≡ 0 → tokens (xs ++ rest) ≡ xs ∷ tokens rest
name_first [] rest h none = cc
name_first (b ∷ ys) rest h none =
    let all : list_all is_name_byte (b ∷ ys) ≡ true = second_true _ (list_all is_name_byte (b ∷ ys)) h in
    let line = ys ++ rest in
    let n : 1 + prefix_len is_name_byte line ≡ length (b ∷ ys) = omega (arith, run_of ys rest (second_true (is_name_byte b) (list_all is_name_byte ys) all) none) in
    tokens_of_run b line (first_true (is_name_byte b) (list_all is_name_byte ys) all)
    ∙ ap (λ k. take k (b ∷ line) ∷ tokens (drop k (b ∷ line))) n
    ∙ ap (λ t. t ∷ tokens (drop (length (b ∷ ys)) (b ∷ line))) (first_of_both (b ∷ ys) rest)
    ∙ ap (λ t. (b ∷ ys) ∷ tokens t) (second_of_both (b ∷ ys) rest)

module _ (texts : List (List ℕ)) (line : List ℕ) (at stop i : ℕ) (before : at ≤ stop) (named : IsNamed texts (take (stop - at) (drop at line)) i) where
  -- a known name is the first token of those at its place
  name_leads : prefix_len is_name_byte (drop stop line) ≡ 0 → tokens (drop at line) ≡ text_at texts i ∷ tokens (drop stop line)
  name_leads none =
      let name = take (stop - at) (drop at line) in
      let rest : drop (stop - at) (drop at line) ≡ drop stop line = drop-drop (stop - at) at line ∙ (let e : at + (stop - at) ≡ stop = omega arith in ap (λ n. drop n line) e) in
      ap tokens (sym (take-append-drop (stop - at) (drop at line)) ∙ ap (λ x. name ++ x) rest)
      ∙ name_first name (drop stop line) named.is_name none
      ∙ ap (λ t. t ∷ tokens (drop stop line)) (sym named.names)

  -- a known name stands at a place, where a blank stands behind its bytes
  pub known_name : stop < length line → get_or line stop 0 ≡ 32 → IsNameAt texts line at i (stop + 1)
  known_name inside blank =
      let behind = drop (stop + 1) line in
      let rest : drop stop line ≡ 32 ∷ behind = drop-cons line stop 0 inside
      ∙ ap (λ b. b ∷ drop (suc stop) line) blank ∙ (let e : suc stop ≡ stop + 1 = omega arith in ap (λ n. 32 ∷ drop n line) e) in
      record {
        in_range = named.in_range;
        is_name = ap is_name named.names ∙ named.is_name;
        leads = name_leads (ap (prefix_len is_name_byte) rest ∙ blank_ends behind) ∙ ap (λ ts. text_at texts i ∷ ts) (ap tokens rest ∙ blank_passed behind);
        later = omega arith;
        within = omega arith;
      }

  -- and where its bytes end the line
  pub known_last : at < stop → stop ≡ length line → IsNameAt texts line at i stop
  known_last some end = record {
    in_range = named.in_range;
    is_name = ap is_name named.names ∙ named.is_name;
    leads = name_leads (ap (prefix_len is_name_byte) (drop_all stop line (omega arith)));
    later = some;
    within = omega arith;
  }
