-- Bytes as one number.
use Rattle.std.proofs.Common.{◌≡◌, ℕ, zero, suc, ◌+◌, ◌-◌, ◌*◌, ◌/◌, ◌%◌, ◌^◌, ◌<◌, ◌≤◌, ◌++◌, ◌∷◌, [], eqb, Bool, true, false, List, length, replicate, get_or, take, drop, refl, sym, ap, ◌∙◌, arith, w32, length-drop, length-take, length-take-le, get_or-drop, get_or-take, subst, ⊎_elim}
use Rattle.std.specs.Int.{from_le_bytes, to_le_bytes, w64}
use Rattle.std.specs.Str.{bytes_eq}
use Rattle.std.proofs.lemmas.Bool.{false≢true, cases_lt}
use Rattle.std.proofs.lemmas.Bool.Decides.{nat_tests}
use Rattle.std.proofs.lemmas.List.{drop-drop, get_or_past, get_or_append_left, get_or-append_right, get_or-replicate, length-append, length-replicate, take-take, take-append-le, take_all}
use Rattle.std.proofs.lemmas.Nat.{le_bytes_4, le_bytes_8, div-mul-add, mod-mul-add, shr-shr}
use Rattle.sm_keys.specs.Words.{IsWordOf, HasWord, word_of}
use Rattle.sm_keys.proofs.TextLemmas.{same_text, other_text}

-- four bytes are the same where the number is
pub same_word : (a b : List ℕ) (m n : ℕ) → length a ≡ 4 → length b ≡ 4 → ((i : ℕ) → get_or a i 0 < 256) → ((i : ℕ) → get_or b i 0 < 256)
    → m ≡ from_le_bytes w32 a → n ≡ from_le_bytes w32 b → eqb m n ≡ bytes_eq a b
same_word a b m n four_a four_b bytes_a bytes_b is_m is_n = by_test (eqb m n) refl
  where
    by_test : (t : Bool) → eqb m n ≡ t → eqb m n ≡ bytes_eq a b
    by_test true e =
        let same : m ≡ n = grind (arith, nat_tests) in
        e ∙ sym (same_text a b (sym (le_bytes_4 a m four_a bytes_a is_m) ∙ ap (to_le_bytes w32) same ∙ le_bytes_4 b n four_b bytes_b is_n))
    by_test false e =
        e ∙ sym (other_text a b (λ (same : a ≡ b).
        let equal : m ≡ n = is_m ∙ ap (from_le_bytes w32) same ∙ sym is_n in
        false≢true (sym e ∙ grind (arith, nat_tests))))

-- eight bytes, of which the first n are moved to the top of 64 bits
module _ (bytes : List ℕ) (small : (i : ℕ) → get_or bytes i 0 < 256) where
  abbrev b : ℕ → ℕ
  b i = get_or bytes i 0

  before : (n i : ℕ) → i < n → get_or (take n bytes) i 0 ≡ b i
  before n i h = get_or-take n bytes i 0 h

  past : (n i : ℕ) → n ≤ i → get_or (take n bytes) i 0 ≡ 0
  past n i h = get_or_past (take n bytes) i 0 (omega (arith, length-take n bytes))

  -- the others go past the top
  moved : (n : ℕ) → 1 ≤ n → n ≤ 8 → from_le_bytes w64 bytes * 2 ^ (64 - 8 * n) % 2 ^ 64 ≡ from_le_bytes w64 (take n bytes) * 2 ^ (64 - 8 * n)
  moved zero enough few = absurd (omega arith)
  moved (suc zero) enough few =
      let all : from_le_bytes w64 bytes * 2 ^ 56 ≡ (b 1 + b 2 * 256 + b 3 * 65536 + b 4 * 16777216 + b 5 * 4294967296 + b 6 * 1099511627776 + b 7 * 281474976710656) * 2 ^ 64 + (b 0) * 2 ^ 56 = omega arith in
      let front : (b 0) * 2 ^ 56 ≡ from_le_bytes w64 (take 1 bytes) * 2 ^ 56 = omega (arith, before 1 0 (omega arith), past 1 1 (omega arith), past 1 2 (omega arith), past 1 3 (omega arith), past 1 4 (omega arith), past 1 5 (omega arith), past 1 6 (omega arith), past 1 7 (omega arith)) in
      ap (λ m. m % 2 ^ 64) all ∙ mod-mul-add (b 1 + b 2 * 256 + b 3 * 65536 + b 4 * 16777216 + b 5 * 4294967296 + b 6 * 1099511627776 + b 7 * 281474976710656) (2 ^ 64) ((b 0) * 2 ^ 56) (omega (arith, small 0)) ∙ front
  moved (suc (suc zero)) enough few =
      let all : from_le_bytes w64 bytes * 2 ^ 48 ≡ (b 2 + b 3 * 256 + b 4 * 65536 + b 5 * 16777216 + b 6 * 4294967296 + b 7 * 1099511627776) * 2 ^ 64 + (b 0 + b 1 * 256) * 2 ^ 48 = omega arith in
      let front : (b 0 + b 1 * 256) * 2 ^ 48 ≡ from_le_bytes w64 (take 2 bytes) * 2 ^ 48 = omega (arith, before 2 0 (omega arith), before 2 1 (omega arith), past 2 2 (omega arith), past 2 3 (omega arith), past 2 4 (omega arith), past 2 5 (omega arith), past 2 6 (omega arith), past 2 7 (omega arith)) in
      ap (λ m. m % 2 ^ 64) all ∙ mod-mul-add (b 2 + b 3 * 256 + b 4 * 65536 + b 5 * 16777216 + b 6 * 4294967296 + b 7 * 1099511627776) (2 ^ 64) ((b 0 + b 1 * 256) * 2 ^ 48) (omega (arith, small 0, small 1)) ∙ front
  moved (suc (suc (suc zero))) enough few =
      let all : from_le_bytes w64 bytes * 2 ^ 40 ≡ (b 3 + b 4 * 256 + b 5 * 65536 + b 6 * 16777216 + b 7 * 4294967296) * 2 ^ 64 + (b 0 + b 1 * 256 + b 2 * 65536) * 2 ^ 40 = omega arith in
      let front : (b 0 + b 1 * 256 + b 2 * 65536) * 2 ^ 40 ≡ from_le_bytes w64 (take 3 bytes) * 2 ^ 40 = omega (arith, before 3 0 (omega arith), before 3 1 (omega arith), before 3 2 (omega arith), past 3 3 (omega arith), past 3 4 (omega arith), past 3 5 (omega arith), past 3 6 (omega arith), past 3 7 (omega arith)) in
      ap (λ m. m % 2 ^ 64) all ∙ mod-mul-add (b 3 + b 4 * 256 + b 5 * 65536 + b 6 * 16777216 + b 7 * 4294967296) (2 ^ 64) ((b 0 + b 1 * 256 + b 2 * 65536) * 2 ^ 40) (omega (arith, small 0, small 1, small 2)) ∙ front
  moved (suc (suc (suc (suc zero)))) enough few =
      let all : from_le_bytes w64 bytes * 2 ^ 32 ≡ (b 4 + b 5 * 256 + b 6 * 65536 + b 7 * 16777216) * 2 ^ 64 + (b 0 + b 1 * 256 + b 2 * 65536 + b 3 * 16777216) * 2 ^ 32 = omega arith in
      let front : (b 0 + b 1 * 256 + b 2 * 65536 + b 3 * 16777216) * 2 ^ 32 ≡ from_le_bytes w64 (take 4 bytes) * 2 ^ 32 = omega (arith, before 4 0 (omega arith), before 4 1 (omega arith), before 4 2 (omega arith), before 4 3 (omega arith), past 4 4 (omega arith), past 4 5 (omega arith), past 4 6 (omega arith), past 4 7 (omega arith)) in
      ap (λ m. m % 2 ^ 64) all ∙ mod-mul-add (b 4 + b 5 * 256 + b 6 * 65536 + b 7 * 16777216) (2 ^ 64) ((b 0 + b 1 * 256 + b 2 * 65536 + b 3 * 16777216) * 2 ^ 32) (omega (arith, small 0, small 1, small 2, small 3)) ∙ front
  moved (suc (suc (suc (suc (suc zero))))) enough few =
      let all : from_le_bytes w64 bytes * 2 ^ 24 ≡ (b 5 + b 6 * 256 + b 7 * 65536) * 2 ^ 64 + (b 0 + b 1 * 256 + b 2 * 65536 + b 3 * 16777216 + b 4 * 4294967296) * 2 ^ 24 = omega arith in
      let front : (b 0 + b 1 * 256 + b 2 * 65536 + b 3 * 16777216 + b 4 * 4294967296) * 2 ^ 24 ≡ from_le_bytes w64 (take 5 bytes) * 2 ^ 24 = omega (arith, before 5 0 (omega arith), before 5 1 (omega arith), before 5 2 (omega arith), before 5 3 (omega arith), before 5 4 (omega arith), past 5 5 (omega arith), past 5 6 (omega arith), past 5 7 (omega arith)) in
      ap (λ m. m % 2 ^ 64) all ∙ mod-mul-add (b 5 + b 6 * 256 + b 7 * 65536) (2 ^ 64) ((b 0 + b 1 * 256 + b 2 * 65536 + b 3 * 16777216 + b 4 * 4294967296) * 2 ^ 24) (omega (arith, small 0, small 1, small 2, small 3, small 4)) ∙ front
  moved (suc (suc (suc (suc (suc (suc zero)))))) enough few =
      let all : from_le_bytes w64 bytes * 2 ^ 16 ≡ (b 6 + b 7 * 256) * 2 ^ 64 + (b 0 + b 1 * 256 + b 2 * 65536 + b 3 * 16777216 + b 4 * 4294967296 + b 5 * 1099511627776) * 2 ^ 16 = omega arith in
      let front : (b 0 + b 1 * 256 + b 2 * 65536 + b 3 * 16777216 + b 4 * 4294967296 + b 5 * 1099511627776) * 2 ^ 16 ≡ from_le_bytes w64 (take 6 bytes) * 2 ^ 16 = omega (arith, before 6 0 (omega arith), before 6 1 (omega arith), before 6 2 (omega arith), before 6 3 (omega arith), before 6 4 (omega arith), before 6 5 (omega arith), past 6 6 (omega arith), past 6 7 (omega arith)) in
      ap (λ m. m % 2 ^ 64) all ∙ mod-mul-add (b 6 + b 7 * 256) (2 ^ 64) ((b 0 + b 1 * 256 + b 2 * 65536 + b 3 * 16777216 + b 4 * 4294967296 + b 5 * 1099511627776) * 2 ^ 16) (omega (arith, small 0, small 1, small 2, small 3, small 4, small 5)) ∙ front
  moved (suc (suc (suc (suc (suc (suc (suc zero))))))) enough few =
      let all : from_le_bytes w64 bytes * 2 ^ 8 ≡ (b 7) * 2 ^ 64 + (b 0 + b 1 * 256 + b 2 * 65536 + b 3 * 16777216 + b 4 * 4294967296 + b 5 * 1099511627776 + b 6 * 281474976710656) * 2 ^ 8 = omega arith in
      let front : (b 0 + b 1 * 256 + b 2 * 65536 + b 3 * 16777216 + b 4 * 4294967296 + b 5 * 1099511627776 + b 6 * 281474976710656) * 2 ^ 8 ≡ from_le_bytes w64 (take 7 bytes) * 2 ^ 8 = omega (arith, before 7 0 (omega arith), before 7 1 (omega arith), before 7 2 (omega arith), before 7 3 (omega arith), before 7 4 (omega arith), before 7 5 (omega arith), before 7 6 (omega arith), past 7 7 (omega arith)) in
      ap (λ m. m % 2 ^ 64) all ∙ mod-mul-add (b 7) (2 ^ 64) ((b 0 + b 1 * 256 + b 2 * 65536 + b 3 * 16777216 + b 4 * 4294967296 + b 5 * 1099511627776 + b 6 * 281474976710656) * 2 ^ 8) (omega (arith, small 0, small 1, small 2, small 3, small 4, small 5, small 6)) ∙ front
  moved (suc (suc (suc (suc (suc (suc (suc (suc zero)))))))) enough few =
      let all : from_le_bytes w64 bytes * 2 ^ 0 ≡ (0) * 2 ^ 64 + (b 0 + b 1 * 256 + b 2 * 65536 + b 3 * 16777216 + b 4 * 4294967296 + b 5 * 1099511627776 + b 6 * 281474976710656 + b 7 * 72057594037927936) * 2 ^ 0 = omega arith in
      let front : (b 0 + b 1 * 256 + b 2 * 65536 + b 3 * 16777216 + b 4 * 4294967296 + b 5 * 1099511627776 + b 6 * 281474976710656 + b 7 * 72057594037927936) * 2 ^ 0 ≡ from_le_bytes w64 (take 8 bytes) * 2 ^ 0 = omega (arith, before 8 0 (omega arith), before 8 1 (omega arith), before 8 2 (omega arith), before 8 3 (omega arith), before 8 4 (omega arith), before 8 5 (omega arith), before 8 6 (omega arith), before 8 7 (omega arith)) in
      ap (λ m. m % 2 ^ 64) all ∙ mod-mul-add (0) (2 ^ 64) ((b 0 + b 1 * 256 + b 2 * 65536 + b 3 * 16777216 + b 4 * 4294967296 + b 5 * 1099511627776 + b 6 * 281474976710656 + b 7 * 72057594037927936) * 2 ^ 0) (omega (arith, small 0, small 1, small 2, small 3, small 4, small 5, small 6, small 7)) ∙ front
  moved (suc (suc (suc (suc (suc (suc (suc (suc (suc n))))))))) enough few = absurd (omega arith)

-- numbers are the same where they are once moved up
same_factor : (x y n : ℕ) → n ≤ 8 → x * 2 ^ (64 - 8 * n) ≡ y * 2 ^ (64 - 8 * n) → x ≡ y
same_factor x y zero few same = omega arith
same_factor x y (suc zero) few same = omega arith
same_factor x y (suc (suc zero)) few same = omega arith
same_factor x y (suc (suc (suc zero))) few same = omega arith
same_factor x y (suc (suc (suc (suc zero)))) few same = omega arith
same_factor x y (suc (suc (suc (suc (suc zero))))) few same = omega arith
same_factor x y (suc (suc (suc (suc (suc (suc zero)))))) few same = omega arith
same_factor x y (suc (suc (suc (suc (suc (suc (suc zero))))))) few same = omega arith
same_factor x y (suc (suc (suc (suc (suc (suc (suc (suc zero)))))))) few same = omega arith
same_factor x y (suc (suc (suc (suc (suc (suc (suc (suc (suc n))))))))) few same = absurd (omega arith)

-- the word of a name, from the number of eight bytes that begin with it
pub moved_up : (first : ℕ) (name : List ℕ) → 1 ≤ length name → length name ≤ 8 → HasWord first name → first * 2 ^ (64 - 8 * length name) % 2 ^ 64 ≡ word_of name
moved_up first name enough few has =
    ap (λ m. m * 2 ^ (64 - 8 * length name) % 2 ^ 64) has.number ∙ moved has.bytes has.small (length name) enough few
    ∙ ap (λ xs. from_le_bytes w64 xs * 2 ^ (64 - 8 * length name)) has.begins

-- a name of at most eight bytes with zeros behind it, eight bytes in all
module _ (a : List ℕ) (bytes : (i : ℕ) → get_or a i 0 < 256) (few : length a ≤ 8) where
  abbrev padded : List ℕ
  padded = a ++ replicate (8 - length a) 0

  eight : length padded ≡ 8
  eight = omega (arith, length-append a (replicate (8 - length a) 0), length-replicate {A = ℕ} (8 - length a) 0)

  -- its bytes are those of the name, and zeros
  padded_byte : (i : ℕ) → i < 8 → get_or padded i 0 ≡ get_or a i 0
  padded_byte i h = ⊎_elim
      (λ (before : i < length a). get_or_append_left a (replicate (8 - length a) 0) 0 i before)
      (λ (past : length a ≤ i).
      get_or-append_right a (replicate (8 - length a) 0) (length a) i 0 refl past ∙ get_or-replicate (8 - length a) (i - length a) 0 0 (omega arith) ∙ sym (get_or_past a i 0 past))
      (cases_lt i (length a))

  padded_small : (i : ℕ) → get_or padded i 0 < 256
  padded_small i = ⊎_elim
      (λ (h : i < 8). subst (λ x. x < 256) (sym (padded_byte i h)) (bytes i))
      (λ (past : 8 ≤ i). subst (λ x. x < 256) (sym (get_or_past padded i 0 (omega (arith, eight)))) (let h : 0 < 256 = omega arith in h))
      (cases_lt i 8)

  -- so they make the same number
  padded_number : from_le_bytes w64 padded ≡ from_le_bytes w64 a
  padded_number = omega (
    arith,
    padded_byte 0 (omega arith),
    padded_byte 1 (omega arith),
    padded_byte 2 (omega arith),
    padded_byte 3 (omega arith),
    padded_byte 4 (omega arith),
    padded_byte 5 (omega arith),
    padded_byte 6 (omega arith),
    padded_byte 7 (omega arith),
  )

  -- the name can be told from the number
  told : (n : ℕ) → n ≡ from_le_bytes w64 a → take (length a) (to_le_bytes w64 n) ≡ a
  told n is = ap (take (length a)) (le_bytes_8 padded n eight padded_small (is ∙ sym padded_number))
      ∙ take-append-le (length a) a (replicate (8 - length a) 0) (omega arith) ∙ take_all (length a) a (omega arith)

-- the word of one to eight bytes is the number of eight, with zeros before them
module _ (name : List ℕ) where
  abbrev a : ℕ → ℕ
  a i = get_or name i 0

  past_end : (i : ℕ) → length name ≤ i → a i ≡ 0
  past_end i h = get_or_past name i 0 h

  at_exponent : (n : ℕ) → length name ≡ n → from_le_bytes w64 name * 2 ^ (64 - 8 * n) ≡ word_of name
  at_exponent n len = ap (λ k. from_le_bytes w64 name * 2 ^ (64 - 8 * k)) (sym len)

  pub one_at_top : length name ≡ 1 → from_le_bytes w64 (0 ∷ 0 ∷ 0 ∷ 0 ∷ 0 ∷ 0 ∷ 0 ∷ a 0 ∷ []) ≡ word_of name
  one_at_top len =
      let moved_up : from_le_bytes w64 (0 ∷ 0 ∷ 0 ∷ 0 ∷ 0 ∷ 0 ∷ 0 ∷ a 0 ∷ []) ≡ from_le_bytes w64 name * 2 ^ 56 = omega (arith, past_end 1 (omega (arith, len)), past_end 2 (omega (arith, len)), past_end 3 (omega (arith, len)), past_end 4 (omega (arith, len)), past_end 5 (omega (arith, len)), past_end 6 (omega (arith, len)), past_end 7 (omega (arith, len))) in
      moved_up ∙ at_exponent 1 len

  pub two_at_top : length name ≡ 2 → from_le_bytes w64 (0 ∷ 0 ∷ 0 ∷ 0 ∷ 0 ∷ 0 ∷ a 0 ∷ a 1 ∷ []) ≡ word_of name
  two_at_top len =
      let moved_up : from_le_bytes w64 (0 ∷ 0 ∷ 0 ∷ 0 ∷ 0 ∷ 0 ∷ a 0 ∷ a 1 ∷ []) ≡ from_le_bytes w64 name * 2 ^ 48 = omega (arith, past_end 2 (omega (arith, len)), past_end 3 (omega (arith, len)), past_end 4 (omega (arith, len)), past_end 5 (omega (arith, len)), past_end 6 (omega (arith, len)), past_end 7 (omega (arith, len))) in
      moved_up ∙ at_exponent 2 len

  pub three_at_top : length name ≡ 3 → from_le_bytes w64 (0 ∷ 0 ∷ 0 ∷ 0 ∷ 0 ∷ a 0 ∷ a 1 ∷ a 2 ∷ []) ≡ word_of name
  three_at_top len =
      let moved_up : from_le_bytes w64 (0 ∷ 0 ∷ 0 ∷ 0 ∷ 0 ∷ a 0 ∷ a 1 ∷ a 2 ∷ []) ≡ from_le_bytes w64 name * 2 ^ 40 = omega (arith, past_end 3 (omega (arith, len)), past_end 4 (omega (arith, len)), past_end 5 (omega (arith, len)), past_end 6 (omega (arith, len)), past_end 7 (omega (arith, len))) in
      moved_up ∙ at_exponent 3 len

  pub four_at_top : length name ≡ 4 → from_le_bytes w64 (0 ∷ 0 ∷ 0 ∷ 0 ∷ a 0 ∷ a 1 ∷ a 2 ∷ a 3 ∷ []) ≡ word_of name
  four_at_top len =
      let moved_up : from_le_bytes w64 (0 ∷ 0 ∷ 0 ∷ 0 ∷ a 0 ∷ a 1 ∷ a 2 ∷ a 3 ∷ []) ≡ from_le_bytes w64 name * 2 ^ 32 = omega (arith, past_end 4 (omega (arith, len)), past_end 5 (omega (arith, len)), past_end 6 (omega (arith, len)), past_end 7 (omega (arith, len))) in
      moved_up ∙ at_exponent 4 len

  pub five_at_top : length name ≡ 5 → from_le_bytes w64 (0 ∷ 0 ∷ 0 ∷ a 0 ∷ a 1 ∷ a 2 ∷ a 3 ∷ a 4 ∷ []) ≡ word_of name
  five_at_top len =
      let moved_up : from_le_bytes w64 (0 ∷ 0 ∷ 0 ∷ a 0 ∷ a 1 ∷ a 2 ∷ a 3 ∷ a 4 ∷ []) ≡ from_le_bytes w64 name * 2 ^ 24 = omega (arith, past_end 5 (omega (arith, len)), past_end 6 (omega (arith, len)), past_end 7 (omega (arith, len))) in
      moved_up ∙ at_exponent 5 len

  pub six_at_top : length name ≡ 6 → from_le_bytes w64 (0 ∷ 0 ∷ a 0 ∷ a 1 ∷ a 2 ∷ a 3 ∷ a 4 ∷ a 5 ∷ []) ≡ word_of name
  six_at_top len =
      let moved_up : from_le_bytes w64 (0 ∷ 0 ∷ a 0 ∷ a 1 ∷ a 2 ∷ a 3 ∷ a 4 ∷ a 5 ∷ []) ≡ from_le_bytes w64 name * 2 ^ 16 = omega (arith, past_end 6 (omega (arith, len)), past_end 7 (omega (arith, len))) in
      moved_up ∙ at_exponent 6 len

  pub seven_at_top : length name ≡ 7 → from_le_bytes w64 (0 ∷ a 0 ∷ a 1 ∷ a 2 ∷ a 3 ∷ a 4 ∷ a 5 ∷ a 6 ∷ []) ≡ word_of name
  seven_at_top len =
      let moved_up : from_le_bytes w64 (0 ∷ a 0 ∷ a 1 ∷ a 2 ∷ a 3 ∷ a 4 ∷ a 5 ∷ a 6 ∷ []) ≡ from_le_bytes w64 name * 2 ^ 8 = omega (arith, past_end 7 (omega (arith, len))) in
      moved_up ∙ at_exponent 7 len

  pub eight_at_top : length name ≡ 8 → from_le_bytes w64 (a 0 ∷ a 1 ∷ a 2 ∷ a 3 ∷ a 4 ∷ a 5 ∷ a 6 ∷ a 7 ∷ []) ≡ word_of name
  eight_at_top len =
      let moved_up : from_le_bytes w64 (a 0 ∷ a 1 ∷ a 2 ∷ a 3 ∷ a 4 ∷ a 5 ∷ a 6 ∷ a 7 ∷ []) ≡ from_le_bytes w64 name * 2 ^ 0 = omega (arith) in
      moved_up ∙ at_exponent 8 len

-- the number of eight bytes that stand at a place of a line, of which the first are a name
pub number_there : (line : List ℕ) (at len number : ℕ) → ((i : ℕ) → get_or line i 0 < 256) → at + 8 ≤ length line → len ≤ 8
    → number ≡ from_le_bytes w64 (take 8 (drop at line)) → HasWord number (take (at + len - at) (drop at line))
number_there line at len number bytes inside few is = record {
  bytes = take 8 (drop at line);
  are_eight = length-take-le 8 (drop at line) (omega (arith, length-drop at line));
  small = small;
  number = is;
  begins = begins;
}
  where
    small : (i : ℕ) → get_or (take 8 (drop at line)) i 0 < 256
    small i = ⊎_elim
        (λ (h : i < 8). subst (λ x. x < 256) (sym (get_or-take 8 (drop at line) i 0 h ∙ get_or-drop at line i 0)) (bytes (at + i)))
        (λ (past : 8 ≤ i). subst (λ x. x < 256) (sym (get_or_past (take 8 (drop at line)) i 0 (omega (arith, length-take 8 (drop at line))))) (let h : 0 < 256 = omega arith in h))
        (cases_lt i 8)

    begins : take (length (take (at + len - at) (drop at line))) (take 8 (drop at line)) ≡ take (at + len - at) (drop at line)
    begins =
        let n : length (take (at + len - at) (drop at line)) ≡ at + len - at = length-take-le (at + len - at) (drop at line) (omega (arith, length-drop at line)) in
        ap (λ k. take k (take 8 (drop at line))) n ∙ take-take (at + len - at) 8 (drop at line) (omega arith)

-- without the first of at most eight bytes the others are moved down
one_off : (bytes : List ℕ) → ((i : ℕ) → get_or bytes i 0 < 256) → length bytes ≤ 8 → from_le_bytes w64 bytes / 2 ^ 8 ≡ from_le_bytes w64 (drop 1 bytes)
one_off bytes small eight =
    let next : (i : ℕ) → get_or (drop 1 bytes) i 0 ≡ get_or bytes (1 + i) 0 = λ i. get_or-drop 1 bytes i 0 in
    let all : from_le_bytes w64 bytes ≡ from_le_bytes w64 (drop 1 bytes) * 2 ^ 8 + get_or bytes 0 0 = omega (arith, next 0, next 1, next 2, next 3, next 4, next 5, next 6, next 7, get_or_past bytes 8 0 eight) in
    ap (λ m. m / 2 ^ 8) all ∙ div-mul-add (from_le_bytes w64 (drop 1 bytes)) (2 ^ 8) (get_or bytes 0 0) (small 0)

-- and so they are without the first n
shifted : (n : ℕ) (bytes : List ℕ) → ((i : ℕ) → get_or bytes i 0 < 256) → length bytes ≤ 8 → from_le_bytes w64 bytes / 2 ^ (8 * n) ≡ from_le_bytes w64 (drop n bytes)
shifted zero bytes small eight = omega arith
shifted (suc n) bytes small eight =
    let rest = drop 1 bytes in
    let few : length rest ≤ 8 = omega (arith, length-drop 1 bytes) in
    (let e : 8 * suc n ≡ 8 + 8 * n = omega arith in ap (λ k. from_le_bytes w64 bytes / 2 ^ k) e)
    ∙ sym (shr-shr (from_le_bytes w64 bytes) 8 (8 * n))
    ∙ ap (λ m. m / 2 ^ (8 * n)) (one_off bytes small eight)
    ∙ shifted n rest (λ i. subst (λ x. x < 256) (sym (get_or-drop 1 bytes i 0)) (small (1 + i))) few
    ∙ ap (from_le_bytes w64) (drop-drop n 1 bytes ∙ (let e : 1 + n ≡ suc n = omega arith in ap (λ k. drop k bytes) e))

-- the number of the bytes that stand at a place among the last eight of a line
pub number_of_last : (line : List ℕ) (at last number : ℕ) → ((i : ℕ) → get_or line i 0 < 256) → last + 8 ≡ length line → last ≤ at → at < length line
    → number ≡ from_le_bytes w64 (take 8 (drop last line)) → number / 2 ^ (8 * (at - last)) ≡ from_le_bytes w64 (drop at line)
number_of_last line at last number bytes eight behind within is =
    let few : length (drop last line) ≤ 8 = omega (arith, length-drop last line) in
    let whole : number ≡ from_le_bytes w64 (drop last line) = is ∙ ap (from_le_bytes w64) (take_all 8 (drop last line) few) in
    ap (λ m. m / 2 ^ (8 * (at - last))) whole
    ∙ shifted (at - last) (drop last line) (λ i. subst (λ x. x < 256) (sym (get_or-drop last line i 0)) (bytes (last + i))) few
    ∙ ap (from_le_bytes w64) (drop-drop (at - last) last line ∙ (let e : last + (at - last) ≡ at = omega arith in ap (λ n. drop n line) e))

-- that number is one of eight bytes, of which the first are a name
pub number_at_end : (line : List ℕ) (at len number : ℕ) → ((i : ℕ) → get_or line i 0 < 256) → length line ≤ at + 8 → at + len ≤ length line
    → number ≡ from_le_bytes w64 (drop at line) → HasWord number (take (at + len - at) (drop at line))
number_at_end line at len number bytes last within is =
    let rest = drop at line in
    let few : length rest ≤ 8 = omega (arith, length-drop at line) in
    let small : (i : ℕ) → get_or rest i 0 < 256 = λ i. subst (λ x. x < 256) (sym (get_or-drop at line i 0)) (bytes (at + i)) in
    let n : length (take (at + len - at) rest) ≡ at + len - at = length-take-le (at + len - at) rest (omega (arith, length-drop at line)) in
    record {
      bytes = padded rest small few;
      are_eight = eight rest small few;
      small = padded_small rest small few;
      number = is ∙ sym (padded_number rest small few);
      begins = ap (λ k. take k (padded rest small few)) n ∙ take-append-le (at + len - at) rest (replicate (8 - length rest) 0) (omega (arith, length-drop at line));
    }

-- names of one to eight bytes are the same where their words are
pub words_decide : (a b : List ℕ) → ((i : ℕ) → get_or a i 0 < 256) → ((i : ℕ) → get_or b i 0 < 256) → length a ≡ length b
    → (m n : ℕ) → IsWordOf m a → IsWordOf n b → 1 ≤ length b → length b ≤ 8 → eqb m n ≡ bytes_eq a b
words_decide a b bytes_a bytes_b long m n is_m is_n enough few = by_test (eqb m n) refl
  where
    m_of_a : m ≡ word_of a
    m_of_a = is_m (omega arith) (omega arith)

    n_of_b : n ≡ word_of b
    n_of_b = is_n enough few

    by_test : (t : Bool) → eqb m n ≡ t → eqb m n ≡ bytes_eq a b
    by_test true e =
        let same : m ≡ n = grind (arith, nat_tests) in
        let numbers : from_le_bytes w64 a ≡ from_le_bytes w64 b = same_factor (from_le_bytes w64 a) (from_le_bytes w64 b) (length b) few
        (ap (λ k. from_le_bytes w64 a * 2 ^ (64 - 8 * k)) (sym long) ∙ sym m_of_a ∙ same ∙ n_of_b) in
        e ∙ sym (same_text a b (sym (told a bytes_a (omega arith) (from_le_bytes w64 a) refl) ∙ ap (λ k. take k (to_le_bytes w64 (from_le_bytes w64 a))) long ∙ told b bytes_b few (from_le_bytes w64 a) numbers))
    by_test false e =
        e ∙ sym (other_text a b (λ (equal : a ≡ b).
        let same : m ≡ n = m_of_a ∙ ap word_of equal ∙ sym n_of_b in
        false≢true (sym e ∙ grind (arith, nat_tests))))
