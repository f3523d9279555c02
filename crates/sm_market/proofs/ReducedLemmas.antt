-- How it is tested that two agents keep each other on the reduced lists.
use Rattle.std.proofs.Common.{◌≡◌, ℕ, refl, sym, ◌∙◌, Bool, true, false, ◌&&◌, nat_le, List, Option, Some, None, MatchOption}
use Rattle.sm_market.specs.Lists.{place_of}
use Rattle.sm_market.specs.Matching.{held}
use Rattle.sm_market.specs.Reduced.{is_no_worse}

-- the test of a place against the one that is held
pub no_worse_is : (rows : List (List ℕ)) (places : List (Option ℕ)) (a b place : ℕ) (t : Bool) → place ≡ place_of rows a b
    → MatchOption (held places a) (t ≡ false) (λ worst. t ≡ nat_le place worst) → t ≡ is_no_worse rows places a b
no_worse_is rows places a b place t e h = go (held places a) refl h
  where
    go : (o : Option ℕ) → held places a ≡ o → MatchOption o (t ≡ false) (λ worst. t ≡ nat_le place worst) → t ≡ is_no_worse rows places a b
    go None is h = rw is h
    go (Some worst) is h = rw (is, sym e) h

-- a test that passes its first half, and one that doesn't
pub and_true : (a s t : Bool) → a ≡ true → a ≡ s → (s && t) ≡ t
and_true a s t passes is = rw (sym is ∙ passes) refl

-- where the first test fails, so do both together
pub and_false : (a s t : Bool) → a ≡ false → a ≡ s → (s && t) ≡ false
and_false a s t fails is = rw (sym is ∙ fails) refl
