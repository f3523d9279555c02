-- The names at the end of tokens.
use Rattle.std.proofs.Common.{◌≡◌, ℕ, zero, suc, ◌+◌, ◌-◌, ◌<◌, ◌≤◌, nat_le, true, false, ⊎_elim, List, [], ◌∷◌, length, drop, refl, sym, ap, ◌∙◌, arith}
use Rattle.std.specs.List.{list_all}
use Rattle.std.proofs.lemmas.Bool.{cases_lt}
use Rattle.std.proofs.lemmas.Bool.Decides.{nat_tests}
use Rattle.std.proofs.lemmas.List.{drop-drop, length-drop}
use Rattle.sm_text.specs.Name.{is_name}
use Rattle.sm_lists.proofs.BoolLemmas.{second_true}
use Rattle.sm_keys.specs.Tokens.{AreNamesAtEnd}

-- those behind some of the names are names
names_drop : (n : ℕ) (tokens : List (List ℕ)) → list_all is_name tokens ≡ true → list_all is_name (drop n tokens) ≡ true
names_drop zero tokens h = h
names_drop (suc n) [] h = refl
names_drop (suc n) (t ∷ ts) h = names_drop n ts (second_true (is_name t) (list_all is_name ts) h)

-- the tokens from a place on are the names at the end, where those from any earlier place on aren't all names
pub names_from : (place : ℕ) (tokens : List (List ℕ)) → list_all is_name (drop place tokens) ≡ true
    → ((k : ℕ) → k < place → list_all is_name (drop k tokens) ≡ false) → place ≤ length tokens → AreNamesAtEnd (length tokens - place) tokens
names_from place tokens h other within = record { are = λ k. ⊎_elim (earlier k) (later k) (cases_lt k place) }
  where
    earlier : (k : ℕ) → k < place → list_all is_name (drop k tokens) ≡ nat_le (length (drop k tokens)) (length tokens - place)
    earlier k before = other k before ∙ (let no : false ≡ nat_le (length (drop k tokens)) (length tokens - place) = grind (arith, nat_tests, length-drop k tokens) in no)

    later : (k : ℕ) → place ≤ k → list_all is_name (drop k tokens) ≡ nat_le (length (drop k tokens)) (length tokens - place)
    later k behind =
        let e : place + (k - place) ≡ k = omega (arith, behind) in
        let yes : nat_le (length (drop k tokens)) (length tokens - place) ≡ true = grind (arith, nat_tests, length-drop k tokens) in
        ap (λ n. list_all is_name (drop n tokens)) (sym e) ∙ ap (list_all is_name) (sym (drop-drop (k - place) place tokens)) ∙ names_drop (k - place) (drop place tokens) h
        ∙ sym yes
