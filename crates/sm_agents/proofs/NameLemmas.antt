-- Texts among the texts of a list, and their positions.
use Rattle.std.proofs.Common.{◌≡◌, ℕ, ◌+◌, ◌<◌, ◌||◌, ◌∙◌, nat_eq, not, cond, Bool, true, false, List, [], ◌∷◌, length, get_or, Some, refl, sym, ap, arith, position}
use Rattle.std.specs.List.{list_any, position_or_len, IsDistinct}
use Rattle.std.specs.Cmp.Lexicographic.{pointwise}
use Rattle.std.proofs.lemmas.Bool.{false≢true}
use Rattle.std.proofs.lemmas.Grind.{common_steps}
use Rattle.std.proofs.lemmas.List.Sums.{position_or_len_is}
use Rattle.std.proofs.lemmas.Map.Keys.{apart_from_distinct}
use Rattle.std.proofs.lemmas.Slice.Eq.{bytes_eq-Decides}
use Rattle.std.specs.Str.{bytes_eq}
use Rattle.std.proofs.lemmas.List.{length-map}
use Rattle.sm_agents.specs.NameKeys.{text_of, texts_of}
use Rattle.sm_agents.specs.declared.name_key.NameKey.{NameKey}

-- a name is among the keys where it is among their texts
pub list_any-texts : (name : List ℕ) (texts : List NameKey) → list_any (λ k. bytes_eq name (text_of k)) texts ≡ list_any (bytes_eq name) (texts_of texts)
list_any-texts name [] = refl
list_any-texts name (k ∷ ks) = ap (λ t. bytes_eq name (text_of k) || t) (list_any-texts name ks)

-- and stands at the same place, or past both
pub position_or_len-texts : (name : List ℕ) (texts : List NameKey) → position_or_len (λ k. bytes_eq name (text_of k)) texts ≡ position_or_len (bytes_eq name) (texts_of texts)
position_or_len-texts name [] = refl
position_or_len-texts name (k ∷ ks) = ap (λ n. cond (not (bytes_eq name (text_of k))) (1 + n) 0) (position_or_len-texts name ks)

-- the same where a name may be missing
pub position-texts : (name : List ℕ) (texts : List NameKey) → position (λ k. bytes_eq name (text_of k)) texts ≡ position (bytes_eq name) (texts_of texts)
position-texts name texts =
    let places = position_or_len-texts name texts in
    let long : length texts ≡ length (texts_of texts) = sym (length-map texts text_of) in
    cc

-- among keys that differ a name has no other place than one where it stands
module _ (name : List ℕ) (keys : List NameKey) (d : NameKey) (distinct : IsDistinct (λ a b. pointwise nat_eq (text_of a) (text_of b)) keys) where
  apart : (i k : ℕ) → k < i → i < length keys → bytes_eq name (text_of (get_or keys i d)) ≡ true → (t : Bool) → bytes_eq name (text_of (get_or keys k d)) ≡ t → bytes_eq name (text_of (get_or keys k d)) ≡ false
  apart i k before here same false e = e
  apart i k before here same true e =
      let at = (bytes_eq-Decides name (text_of (get_or keys i d))).0 same in
      let other = (bytes_eq-Decides name (text_of (get_or keys k d))).0 e in
      let differ = apart_from_distinct (λ (a b : NameKey). pointwise nat_eq (text_of a) (text_of b)) keys k i d distinct before here in
      absurd (false≢true (sym differ ∙ (bytes_eq-Decides (text_of (get_or keys k d)) (text_of (get_or keys i d))).1 (sym other ∙ at)))

  pub at_its_place : (i : ℕ) → i < length keys → bytes_eq name (text_of (get_or keys i d)) ≡ true → position (λ k. bytes_eq name (text_of k)) keys ≡ Some i
  at_its_place i here same =
      let place = position_or_len_is (λ (k : NameKey). bytes_eq name (text_of k)) keys i d (omega arith) (λ k before. apart i k before here same (bytes_eq name (text_of (get_or keys k d))) refl) (λ _. same) in
      grind (arith, common_steps)
