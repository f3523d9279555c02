-- Fields that are read one after the other.
use Rattle.std.proofs.Common.{◌≡◌, ℕ, ◌-◌, ◌<◌, ◌≤◌, List, [], ◌∷◌, ◌++◌, length, take, drop, get_or, Option, Some, None, option_map, refl, sym, ap, ◌∙◌, arith, append_assoc, Bor}
use Rattle.std.specs.Option.{option_zip, option_and_then}
use Rattle.std.proofs.lemmas.List.{take_all}
use Rattle.sm_report.specs.Meanings.{each_pair_in}
use Rattle.sm_text.specs.Slices.{texts_of}

-- one pair more
pub pairs_on : {X Y : Type 0} (f : List ℕ → Option X) (g : List ℕ → Option Y) (taken found : List (X × Y)) (rest : List (Bor (List ℕ))) (d : Bor (List ℕ))
    (pair : X × Y) (all : Option (List (X × Y))) → 2 ≤ length rest → found ≡ taken ++ pair ∷ [] → option_zip (f (get_or rest 0 d).now) (g (get_or rest 1 d).now) ≡ Some pair
    → option_map (λ xs. taken ++ xs) (each_pair_in f g (texts_of rest)) ≡ all
    → option_map (λ xs. found ++ xs) (each_pair_in f g (texts_of (take (length rest - 2) (drop 2 rest)))) ≡ all
pairs_on f g taken found [] d pair all some more is before = absurd (omega arith)
pairs_on f g taken found (a ∷ []) d pair all some more is before = absurd (omega arith)
pairs_on {X} {Y} f g taken found (a ∷ b ∷ rest) d pair all some more is before =
    ap (λ t. option_map (λ xs. found ++ xs) (each_pair_in f g (texts_of t))) (take_all (length (a ∷ b ∷ rest) - 2) rest (omega arith))
    ∙ by_rest (each_pair_in f g (texts_of rest)) (option_zip (f a.now) (g b.now)) is ∙ before
  where
    by_rest : (o : Option (List (X × Y))) (z : Option (X × Y)) → z ≡ Some pair
        → option_map (λ xs. found ++ xs) o ≡ option_map (λ xs. taken ++ xs) (option_and_then (λ x. option_map (λ xs. x ∷ xs) o) z)
    by_rest None None e = cc
    by_rest None (Some z) e = refl
    by_rest (Some xs) None e = absurd cc
    by_rest (Some xs) (Some z) e = let same : z ≡ pair = cc in rw (more, same, append_assoc) refl

-- a pair that isn't one
pub pairs_stop : {X Y : Type 0} (f : List ℕ → Option X) (g : List ℕ → Option Y) (taken : List (X × Y)) (rest : List (Bor (List ℕ))) (all : Option (List (X × Y)))
    → length rest < 2 → 1 ≤ length rest → option_map (λ xs. taken ++ xs) (each_pair_in f g (texts_of rest)) ≡ all → all ≡ None
pairs_stop f g taken [] all few some before = absurd (omega arith)
pairs_stop f g taken (a ∷ []) all few some before = sym before
pairs_stop f g taken (a ∷ b ∷ rest) all few some before = absurd (omega arith)
