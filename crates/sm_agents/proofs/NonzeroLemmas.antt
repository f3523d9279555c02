-- Numbers that are 0, and whether one of some isn't.
use Rattle.std.proofs.Common.{◌≡◌, ◌≢◌, ◌↔◌, ◌||◌, ℕ, zero, suc, IsTrue, Bool, true, false, not, List, [], ◌∷◌, get_or, ℤ, pos, negsuc, refl, sym, arith}
use Rattle.std.specs.List.{list_any}
use Rattle.std.proofs.lemmas.Bool.{false≢true}
use Rattle.std.proofs.lemmas.List.{get_or_past}
use Rattle.sm_agents.specs.Nonzero.{is_zero, HasNonzero}

-- a number is 0 or it isn't
pub zero_is : (z : ℤ) → is_zero z ≡ true → z ≡ pos 0
zero_is (pos zero) h = refl
zero_is (pos (suc n)) h = absurd (false≢true h)
zero_is (negsuc n) h = absurd (false≢true h)

pub zero_not : (z : ℤ) → is_zero z ≡ false → z ≢ pos 0
zero_not (pos zero) h same = false≢true (sym h)
zero_not (pos (suc n)) h same = absurd cc
zero_not (negsuc n) h same = absurd cc

-- whether one of some numbers isn't 0
abbrev pub any_nonzero : List ℤ → Bool
any_nonzero zs = list_any (λ z. not (is_zero z)) zs

nonzero_at : (zs : List ℤ) → any_nonzero zs ≡ true → HasNonzero zs
nonzero_at [] h = absurd (false≢true h)
nonzero_at (z ∷ zs) h = by_test (is_zero z) refl h (nonzero_at zs)
  where
    by_test : (t : Bool) → is_zero z ≡ t → (not t || any_nonzero zs) ≡ true → (any_nonzero zs ≡ true → HasNonzero zs) → HasNonzero (z ∷ zs)
    by_test true e h later = let m = later h in record { at = suc m.at; there = let l = m.there in omega (arith, l); isnt = m.isnt }
    by_test false e h later = record { at = 0; there = omega arith; isnt = zero_not z e }

-- where none is, each number is 0
pub all_zero : (zs : List ℤ) → any_nonzero zs ≡ false → (k : ℕ) → get_or zs k (pos 0) ≡ pos 0
all_zero [] h k = get_or_past [] k (pos 0) (omega arith)
all_zero (z ∷ zs) h k = by_test (is_zero z) refl h k (all_zero zs)
  where
    by_test : (t : Bool) → is_zero z ≡ t → (not t || any_nonzero zs) ≡ false → (k : ℕ) → (any_nonzero zs ≡ false → (k : ℕ) → get_or zs k (pos 0) ≡ pos 0) → get_or (z ∷ zs) k (pos 0) ≡ pos 0
    by_test false e h k later = absurd (false≢true (sym h))
    by_test true e h zero later = zero_is z e
    by_test true e h (suc k) later = later h k

-- whether a second weight isn't 0, as it is known otherwise
pub any_is : (zs : List ℤ) (b : Bool) → (IsTrue b ↔ HasNonzero zs) → b ≡ any_nonzero zs
any_is zs true iff = by_test (any_nonzero zs) refl
  where
    by_test : (t : Bool) → any_nonzero zs ≡ t → true ≡ t
    by_test true e = refl
    by_test false e = let m = iff.0 refl in absurd (m.isnt (all_zero zs e m.at))
any_is zs false iff = by_test (any_nonzero zs) refl
  where
    by_test : (t : Bool) → any_nonzero zs ≡ t → false ≡ t
    by_test true e = iff.1 (nonzero_at zs e)
    by_test false e = refl
