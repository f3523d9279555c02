-- Texts that are the same.
use Rattle.std.proofs.Common.{◌≡◌, ◌≢◌, ℕ, ◌+◌, ◌-◌, ◌≤◌, ◌++◌, Bool, true, false, List, length, take, drop, refl, sym, ap, ◌∙◌, arith}
use Rattle.std.specs.Str.{bytes_eq}
use Rattle.std.proofs.lemmas.Slice.Eq.{bytes_eq-Decides}
use Rattle.std.proofs.lemmas.List.{take-append-drop, drop-drop}
use Rattle.std.proofs.lemmas.Bool.{false≢true}

-- a text is itself, and another one isn't
pub same_text : (a b : List ℕ) → a ≡ b → bytes_eq a b ≡ true
same_text a b e = (bytes_eq-Decides a b).1 e

-- texts that test as the same are
pub equal_text : (a b : List ℕ) → bytes_eq a b ≡ true → a ≡ b
equal_text a b e = (bytes_eq-Decides a b).0 e

-- texts that differ don't
pub other_text : (a b : List ℕ) → a ≢ b → bytes_eq a b ≡ false
other_text a b differ = by_test (bytes_eq a b) refl
  where
    by_test : (t : Bool) → bytes_eq a b ≡ t → bytes_eq a b ≡ false
    by_test true e = absurd (differ (equal_text a b e))
    by_test false e = e

-- what stands behind the first n of at most twice as many is among the last n
behind : (n : ℕ) (a : List ℕ) → n ≤ length a → length a ≤ n + n → drop n a ≡ drop ((n + n) - length a) (drop (length a - n) a)
behind n a enough few =
    let e : n ≡ (length a - n) + ((n + n) - length a) = omega arith in
    ap (λ k. drop k a) e ∙ sym (drop-drop ((n + n) - length a) (length a - n) a)

-- texts are the same where the first n of at most twice as many are and the last n
module _ (n : ℕ) (a b : List ℕ) (long : length a ≡ length b) (enough : n ≤ length a) (few : length a ≤ n + n) where
  -- two texts whose ends are the same are
  pub same_ends : take n a ≡ take n b → drop (length a - n) a ≡ drop (length b - n) b → a ≡ b
  same_ends first last =
      let ends : drop n a ≡ drop n b = behind n a enough few ∙ ap (λ k. drop ((n + n) - k) (drop (length a - n) a)) long
      ∙ ap (drop ((n + n) - length b)) last ∙ sym (behind n b (omega arith) (omega arith)) in
      sym (take-append-drop n a) ∙ ap (λ x. x ++ drop n a) first ∙ ap (λ x. take n b ++ x) ends ∙ take-append-drop n b

  -- so a test of the ones decides, where the others are the same
  pub by_first : drop (length a - n) a ≡ drop (length b - n) b → (r : Bool) → r ≡ bytes_eq (take n a) (take n b) → r ≡ bytes_eq a b
  by_first last true e = sym (same_text a b (same_ends (equal_text _ _ (sym e)) last))
  by_first last false e = sym (other_text a b (λ same. false≢true (e ∙ same_text _ _ (ap (take n) same))))

  -- the same from the other end
  pub by_last : take n a ≡ take n b → (r : Bool) → r ≡ bytes_eq (drop (length a - n) a) (drop (length b - n) b) → r ≡ bytes_eq a b
  by_last first true e = sym (same_text a b (same_ends first (equal_text _ _ (sym e))))
  by_last first false e = sym (other_text a b (λ same. false≢true (e ∙ same_text _ _ (ap (λ x. drop (length x - n) x) same))))
