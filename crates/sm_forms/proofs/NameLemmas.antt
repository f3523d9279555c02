-- The names at the end of tokens.
use Rattle.std.proofs.Common.{◌≡◌, ℕ, ◌-◌, nat_le, true, List, [], ◌∷◌, length, take, drop, refl, sym, ap, subst, ◌∙◌, arith}
use Rattle.std.specs.List.{list_all}
use Rattle.std.specs.Borrow.{Bor}
use Rattle.std.proofs.lemmas.Bool.Decides.{nat_tests}
use Rattle.std.proofs.lemmas.List.{take_rest, drop-drop, drop-map, drop_all, length-map}
use Rattle.sm_text.specs.Name.{is_name, is_name_byte}
use Rattle.sm_text.specs.Tokens.{begins_run}
use Rattle.sm_agents.specs.declared.kinds.Kind.{Kind}
use Rattle.sm_forms.specs.Forms.{form_under}
use Rattle.sm_keys.specs.Tokens.{AreNamesAtEnd}
use Rattle.sm_text.specs.Slices.{texts_of}
use Rattle.sm_lists.proofs.BoolLemmas.{first_true, second_true}
use Rattle.sm_forms.proofs.FormLemmas.{listed, list_under}

module _ (names : ℕ) where
  -- they are the names at the end of what stands behind some of the tokens
  names_behind : (n : ℕ) (tokens : List (List ℕ)) → AreNamesAtEnd names tokens → AreNamesAtEnd names (drop n tokens)
  names_behind n tokens h = record {
    are = λ k. subst (λ ts. list_all is_name ts ≡ nat_le (length ts) names) (sym (drop-drop k n tokens)) (h.are _);
  }

  -- and so in the rest of a slice
  pub names_rest : (n : ℕ) (tokens : List (Bor (List ℕ))) → AreNamesAtEnd names (texts_of tokens) → AreNamesAtEnd names (texts_of (take (length tokens - n) (drop n tokens)))
  names_rest n tokens h =
      subst (λ (ts : List (Bor (List ℕ))). AreNamesAtEnd names (texts_of ts)) (sym (take_rest tokens n))
      (subst (AreNamesAtEnd names) (drop-map (λ (x : Bor (List ℕ)). x.now) n tokens) (names_behind n (texts_of tokens) h))

  none_there : AreNamesAtEnd names []
  none_there = record { are = λ k. subst (λ (ts : List (List ℕ)). list_all is_name ts ≡ nat_le (length ts) names) (sym (drop_all k [] (omega arith))) (let e : true ≡ nat_le 0 names = grind (arith, nat_tests) in e) }

  -- and of the list of a line
  pub form_names : (kind : Kind) (format : ℕ) (word : List ℕ) (rest : List (List ℕ)) → AreNamesAtEnd names rest → AreNamesAtEnd names (listed (form_under kind format word rest))
  form_names = list_under (AreNamesAtEnd names) (AreNamesAtEnd names) (λ t ts. names_behind 1 (t ∷ ts)) none_there (λ ts begin h. h)

  -- all tokens are names exactly where there are no more of them
  pub all_names : (tokens : List (Bor (List ℕ))) → AreNamesAtEnd names (texts_of tokens) → list_all is_name (texts_of tokens) ≡ nat_le (length tokens) names
  all_names tokens h = h.are 0 ∙ ap (λ n. nat_le n names) (length-map tokens (λ (x : Bor (List ℕ)). x.now))

-- names are runs
pub name_begins : (token : List ℕ) → is_name token ≡ true → begins_run token ≡ true
name_begins [] h = cc
name_begins (b ∷ rest) h = first_true (is_name_byte b) (list_all is_name_byte rest) (second_true _ (list_all is_name_byte (b ∷ rest)) h)

-- so all of some names are
pub names_begin : (tokens : List (List ℕ)) → list_all is_name tokens ≡ true → list_all begins_run tokens ≡ true
names_begin [] h = refl
names_begin (t ∷ ts) h = rw (name_begins t (first_true (is_name t) (list_all is_name ts) h)) (names_begin ts (second_true (is_name t) (list_all is_name ts) h))
