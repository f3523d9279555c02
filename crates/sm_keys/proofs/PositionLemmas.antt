-- Texts among texts.
use Rattle.std.proofs.Common.{◌≡◌, ℕ, suc, ◌+◌, ◌<◌, ◌≤◌, ◌||◌, ◌&&◌, Bool, true, false, not, cond, List, [], ◌∷◌, ◌++◌, length, get_or, map, take, Some, None, refl, sym, ap, ◌∙◌, arith, position, is_some}
use Rattle.std.specs.Borrow.{Bor}
use Rattle.std.specs.List.{list_any, list_all, position_or_len}
use Rattle.std.specs.Str.{bytes_eq}
use Rattle.std.proofs.lemmas.List.Folds.{position_or_len_push, list_any-append, list_all-map, list_all_at, list_all_more}
use Rattle.std.proofs.lemmas.List.{take_all, map_push, length-map}
use Rattle.std.proofs.lemmas.Bool.Decides.{nat_tests}
use Rattle.std.proofs.lemmas.Bool.{false≢true}
use Rattle.sm_keys.specs.Keys.{text_of, key_texts}
use Rattle.sm_text.specs.Slices.{texts_of}
use Rattle.sm_keys.specs.declared.key.Key.{Key}
use Rattle.sm_keys.proofs.TextLemmas.{equal_text}

-- what passes among things, as they are seen
module _ {X Y : Type 0} (p : Y → Bool) (view : X → Y) where
  -- whether one passes
  pub list_any-map : (xs : List X) → list_any p (map view xs) ≡ list_any (λ x. p (view x)) xs
  list_any-map [] = refl
  list_any-map (x ∷ xs) = ap (λ t. p (view x) || t) (list_any-map xs)

  -- the first that does, or how many there are
  pub position_or_len-map : (xs : List X) → position_or_len p (map view xs) ≡ position_or_len (λ x. p (view x)) xs
  position_or_len-map [] = refl
  position_or_len-map (x ∷ xs) = ap (λ n. cond (not (p (view x))) (1 + n) 0) (position_or_len-map xs)

  -- the first that does, if there is one
  pub position-map : (xs : List X) → position p (map view xs) ≡ position (λ x. p (view x)) xs
  position-map xs =
      let places = position_or_len-map xs in
      let long : length (map view xs) ≡ length xs = length-map xs view in
      cc

-- among keys, as among the names that they are
pub list_any_texts : (name : List ℕ) (keys : List Key) → list_any (λ k. bytes_eq name (text_of k)) keys ≡ list_any (bytes_eq name) (key_texts keys)
list_any_texts name keys = sym (list_any-map (bytes_eq name) text_of keys)

-- the place of a name among keys is that among their texts
pub position_texts : (name : List ℕ) (keys : List Key) → position_or_len (λ k. bytes_eq name (text_of k)) keys ≡ position_or_len (bytes_eq name) (key_texts keys)
position_texts name keys = sym (position_or_len-map (bytes_eq name) text_of keys)

-- and so where it may be missing
pub position_keys : (name : List ℕ) (keys : List Key) → position (λ k. bytes_eq name (text_of k)) keys ≡ position (bytes_eq name) (key_texts keys)
position_keys name keys = sym (position-map (bytes_eq name) text_of keys)

-- the first that passes, where one does or none does
pub position_or_len-none : {X : Type 0} (p : X → Bool) (xs : List X) → list_any p xs ≡ false → position_or_len p xs ≡ length xs
position_or_len-none p [] h = refl
position_or_len-none p (x ∷ xs) h = by_test (p x) refl h (position_or_len-none p xs)
  where
    by_test : (t : Bool) → p x ≡ t → (t || list_any p xs) ≡ false → (list_any p xs ≡ false → position_or_len p xs ≡ length xs)
        → cond (not (p x)) (1 + position_or_len p xs) 0 ≡ length (x ∷ xs)
    by_test true e k behind = absurd (false≢true (sym k))
    by_test false e k behind = rw e (omega (arith, behind k))

-- where one passes, it has a place
pub position_or_len-lt : {X : Type 0} (p : X → Bool) (xs : List X) → list_any p xs ≡ true → position_or_len p xs < length xs
position_or_len-lt p [] h = absurd (false≢true h)
position_or_len-lt p (x ∷ xs) h = by_test (p x) refl h (position_or_len-lt p xs)
  where
    by_test : (t : Bool) → p x ≡ t → (t || list_any p xs) ≡ true → (list_any p xs ≡ true → position_or_len p xs < length xs)
        → cond (not (p x)) (1 + position_or_len p xs) 0 < length (x ∷ xs)
    by_test true e k behind = rw e (omega arith)
    by_test false e k behind = rw e (omega (arith, behind k))

-- where none passes there is no position
pub position-none : {X : Type 0} (p : X → Bool) (xs : List X) → list_any p xs ≡ false → position p xs ≡ None
position-none p xs h = let past = position_or_len-none p xs h in grind (arith, nat_tests)

-- where one does there is
pub position-some : {X : Type 0} (p : X → Bool) (xs : List X) → list_any p xs ≡ true → position p xs ≡ Some (position_or_len p xs)
position-some p xs h = let found = position_or_len-lt p xs h in grind (arith, nat_tests)

-- where there is no position, the place is behind the last
pub none_past : {X : Type 0} (p : X → Bool) (xs : List X) → position p xs ≡ None → position_or_len p xs ≡ length xs
none_past p xs h = by_test (list_any p xs) refl
  where
    by_test : (t : Bool) → list_any p xs ≡ t → position_or_len p xs ≡ length xs
    by_test true e = absurd (let k = sym h ∙ position-some p xs e in cc)
    by_test false e = position_or_len-none p xs e

-- whether there is a position
pub is_some-position : {X : Type 0} (p : X → Bool) (xs : List X) → is_some (position p xs) ≡ list_any p xs
is_some-position p xs = by_test (list_any p xs) refl
  where
    by_test : (t : Bool) → list_any p xs ≡ t → is_some (position p xs) ≡ list_any p xs
    by_test true e = ap is_some (position-some p xs e) ∙ sym e
    by_test false e = ap is_some (position-none p xs e) ∙ sym e

-- a further one changes no position of what it isn't
pub position-push_other : {X : Type 0} (p : X → Bool) (xs : List X) (y : X) → p y ≡ false → position p (xs ++ y ∷ []) ≡ position p xs
position-push_other p xs y differ = by_test (list_any p xs) refl
  where
    by_test : (t : Bool) → list_any p xs ≡ t → position p (xs ++ y ∷ []) ≡ position p xs
    by_test true e =
        let found = position_or_len-lt p xs e in
        let same : position_or_len p (xs ++ y ∷ []) ≡ position_or_len p xs = position_or_len_push p xs y ∙ grind (arith, nat_tests) in
        position-some p (xs ++ y ∷ []) (list_any-append p xs (y ∷ []) ∙ ap (λ t. t || list_any p (y ∷ [])) e) ∙ ap Some same ∙ sym (position-some p xs e)
    by_test false e =
        position-none p (xs ++ y ∷ []) (list_any-append p xs (y ∷ []) ∙ ap (λ t. t || list_any p (y ∷ [])) e ∙ ap (λ t. t || false) differ)
        ∙ sym (position-none p xs e)

-- and is the last of what it is and no other is
pub position-push_new : {X : Type 0} (p : X → Bool) (xs : List X) (y : X) → list_any p xs ≡ false → p y ≡ true → position p (xs ++ y ∷ []) ≡ Some (length xs)
position-push_new p xs y none same =
    let past = position_or_len-none p xs none in
    let last : position_or_len p (xs ++ y ∷ []) ≡ length xs = position_or_len_push p xs y ∙ grind (arith, nat_tests) in
    position-some p (xs ++ y ∷ []) (list_any-append p xs (y ∷ []) ∙ ap (λ t. t || list_any p (y ∷ [])) none ∙ ap (λ t. t || false) same) ∙ ap Some last

one_more : (n : ℕ) → 1 + n ≡ suc n
one_more n = omega arith

-- the first place of a text that is there holds it
pub at_position : (name : List ℕ) (xs : List (List ℕ)) → list_any (bytes_eq name) xs ≡ true → get_or xs (position_or_len (bytes_eq name) xs) [] ≡ name
at_position name [] h = absurd (false≢true h)
at_position name (x ∷ xs) h = by_test (bytes_eq name x) refl h (at_position name xs)
  where
    by_test : (t : Bool) → bytes_eq name x ≡ t → (t || list_any (bytes_eq name) xs) ≡ true
        → (list_any (bytes_eq name) xs ≡ true → get_or xs (position_or_len (bytes_eq name) xs) [] ≡ name)
        → get_or (x ∷ xs) (cond (not (bytes_eq name x)) (1 + position_or_len (bytes_eq name) xs) 0) [] ≡ name
    by_test true e k behind = rw e (sym (equal_text name x e))
    by_test false e k behind = rw e (ap (λ n. get_or (x ∷ xs) n []) (one_more (position_or_len (bytes_eq name) xs)) ∙ behind k)

-- a test of all texts, in a loop
module _ (p : List ℕ → Bool) (xs : List (Bor (List ℕ))) where
  -- one fails
  pub all_texts_fail : (i : ℕ) (x : Bor (List ℕ)) → i < length xs → x ≡ get_or xs i x → p x.now ≡ false → list_all p (texts_of xs) ≡ false
  all_texts_fail i x inside here fails =
      list_all-map p (λ (y : Bor (List ℕ)). y.now) xs ∙ list_all_at (λ (y : Bor (List ℕ)). p y.now) xs i x inside (ap (λ (y : Bor (List ℕ)). p y.now) (sym here) ∙ fails)

  -- one more passes
  pub all_texts_more : (i : ℕ) (x : Bor (List ℕ)) → i < length xs → x ≡ get_or xs i x → list_all p (texts_of (take i xs)) ≡ true → p x.now ≡ true → list_all p (texts_of (take (i + 1) xs)) ≡ true
  all_texts_more i x inside here before passes =
      list_all-map p (λ (y : Bor (List ℕ)). y.now) (take (i + 1) xs)
      ∙ list_all_more (λ (y : Bor (List ℕ)). p y.now) xs i x inside
      ∙ ap (λ t. t && p (get_or xs i x).now) (sym (list_all-map p (λ (y : Bor (List ℕ)). y.now) (take i xs)) ∙ before)
      ∙ ap (λ (y : Bor (List ℕ)). p y.now) (sym here) ∙ passes

  -- all pass
  pub all_texts_end : (i : ℕ) → length xs ≤ i → list_all p (texts_of (take i xs)) ≡ true → list_all p (texts_of xs) ≡ true
  all_texts_end i past h = ap (λ t. list_all p (texts_of t)) (sym (take_all i xs past)) ∙ h

-- the keys with one more
pub key_texts-push : (xs : List Key) (x : Key) → key_texts (xs ++ x ∷ []) ≡ key_texts xs ++ text_of x ∷ []
key_texts-push xs x = map_push text_of xs x

-- the slices with one more
pub texts_of-push : (xs : List (Bor (List ℕ))) (x : Bor (List ℕ)) → texts_of (xs ++ x ∷ []) ≡ texts_of xs ++ x.now ∷ []
texts_of-push xs x = map_push (λ (y : Bor (List ℕ)). y.now) xs x
