-- Names that stand twice, by classes.
use Rattle.std.proofs.Common.{◌≡◌, ◌≢◌, ℕ, zero, suc, ◌+◌, ◌-◌, ◌<◌, ◌≤◌, ◌||◌, ◌&&◌, eqb, Bool, true, false, cond, List, [], ◌∷◌, ◌++◌, length, get_or, map, take, drop, refl, sym, ap, ◌∙◌, arith}
use Rattle.std.specs.List.{list_any}
use Rattle.std.specs.Borrow.{Bor}
use Rattle.std.specs.Str.{bytes_eq}
use Rattle.std.proofs.Math.Seq.{drop-cons}
use Rattle.std.proofs.lemmas.Bool.{false≢true}
use Rattle.std.proofs.lemmas.Bool.Decides.{nat_tests}
use Rattle.std.proofs.lemmas.List.{get_or-map, get_or-take, get_or-drop, length-map, take-append-drop, take_more, append-nil}
use Rattle.std.proofs.lemmas.List.Elements.{filter-append}
use Rattle.sm_text.specs.Slices.{texts_of}
use Rattle.sm_keys.specs.Tables.{has_repeated}
use Rattle.sm_keys.specs.Repeats.{of_class}
use Rattle.sm_keys.proofs.TextLemmas.{equal_text}

-- the slice at a place
abbrev pub slice_at : List (Bor (List ℕ)) → ℕ → Bor (List ℕ)
slice_at names i = let none : Bor (List ℕ) = record { ref_ptr = (0, 0); now = [] } in get_or names i none

-- slices up to a place and behind it
module _ (names : List (Bor (List ℕ))) (i : ℕ) (inside : i < length names) where
  -- the text there
  text_there : get_or (texts_of names) i [] ≡ (slice_at names i).now
  text_there = let none : Bor (List ℕ) = record { ref_ptr = (0, 0); now = [] } in get_or-map (λ (x : Bor (List ℕ)). x.now) names i none [] inside

  -- the place is within the texts
  within : i < length (texts_of names)
  within = omega (arith, inside, length-map names (λ (x : Bor (List ℕ)). x.now))

  -- one more text
  pub text_more : take (i + 1) (texts_of names) ≡ take i (texts_of names) ++ (slice_at names i).now ∷ []
  text_more = take_more (texts_of names) i [] within ∙ ap (λ x. take i (texts_of names) ++ x ∷ []) text_there

  -- all texts, of which it is one
  pub text_between : texts_of names ≡ take i (texts_of names) ++ (slice_at names i).now ∷ drop (suc i) (texts_of names)
  text_between = sym (take-append-drop i (texts_of names))
      ∙ ap (λ xs. take i (texts_of names) ++ xs) (drop-cons (texts_of names) i [] within ∙ ap (λ x. x ∷ drop (suc i) (texts_of names)) text_there)

-- texts of a class up to a place and behind it
module _ (names : List (Bor (List ℕ))) (classes : List ℕ) (class_of : List ℕ → ℕ) (k : ℕ) (each : classes ≡ map class_of (texts_of names)) where
  -- the class of a text stands at its place
  class_there : (i : ℕ) → i < length names → get_or classes i 0 ≡ class_of (slice_at names i).now
  class_there i inside = ap (λ xs. get_or xs i 0) each ∙ get_or-map class_of (texts_of names) i [] 0 (within names i inside) ∙ ap class_of (text_there names i inside)

  -- one more text, if it is of the class
  class_step : (i : ℕ) → i < length names
      → of_class class_of k (take (i + 1) (texts_of names)) ≡ of_class class_of k (take i (texts_of names)) ++ cond (eqb (get_or classes i 0) k) ((slice_at names i).now ∷ []) []
  class_step i inside =
      let so_far = of_class class_of k (take i (texts_of names)) in
      ap (of_class class_of k) (text_more names i inside)
      ∙ filter-append (λ x. eqb (class_of x) k) (take i (texts_of names)) ((slice_at names i).now ∷ [])
      ∙ ap (λ n. so_far ++ cond (eqb n k) ((slice_at names i).now ∷ []) []) (sym (class_there i inside))

  -- one more
  pub class_more : (i : ℕ) → i < length names → get_or classes i 0 ≡ k
      → of_class class_of k (take (i + 1) (texts_of names)) ≡ of_class class_of k (take i (texts_of names)) ++ (slice_at names i).now ∷ []
  class_more i inside here =
      let its : eqb (get_or classes i 0) k ≡ true = grind (arith, nat_tests) in
      class_step i inside ∙ ap (λ t. of_class class_of k (take i (texts_of names)) ++ cond t ((slice_at names i).now ∷ []) []) its

  -- no more among those of some places
  none_more : (i n : ℕ) → i + n ≤ length names → ((j : ℕ) → i ≤ j → j < i + n → get_or classes j 0 ≢ k)
      → of_class class_of k (take (i + n) (texts_of names)) ≡ of_class class_of k (take i (texts_of names))
  none_more i zero inside none = ap (λ m. of_class class_of k (take m (texts_of names))) (let e : i + 0 ≡ i = omega arith in e)
  none_more i (suc n) inside none =
      let other : get_or classes (i + n) 0 ≢ k = none (i + n) (omega arith) (omega arith) in
      let apart : eqb (get_or classes (i + n) 0) k ≡ false = grind (arith, nat_tests) in
      let so_far = of_class class_of k (take (i + n) (texts_of names)) in
      ap (λ m. of_class class_of k (take m (texts_of names))) (let e : i + suc n ≡ (i + n) + 1 = omega arith in e)
      ∙ class_step (i + n) (omega (arith, inside)) ∙ ap (λ t. so_far ++ cond t ((slice_at names (i + n)).now ∷ []) []) apart ∙ append-nil so_far
      ∙ none_more i n (omega (arith, inside)) (λ j low high. none j low (omega (arith, high)))

  -- so none from one place up to another
  pub class_same : (i m : ℕ) → i ≤ m → m ≤ length names → ((j : ℕ) → i ≤ j → j < m → get_or classes j 0 ≢ k)
      → of_class class_of k (take m (texts_of names)) ≡ of_class class_of k (take i (texts_of names))
  class_same i m later inside none =
      let e : m ≡ i + (m - i) = omega (arith, later) in
      ap (λ n. of_class class_of k (take n (texts_of names))) e ∙ none_more i (m - i) (omega (arith, later, inside)) (λ j low high. none j low (omega (arith, high, later)))

  -- all of them, of which one stands at a place
  pub class_between : (i : ℕ) → i < length names → get_or classes i 0 ≡ k
      → of_class class_of k (texts_of names) ≡ of_class class_of k (take i (texts_of names)) ++ (slice_at names i).now ∷ of_class class_of k (drop (suc i) (texts_of names))
  class_between i inside here =
      let texts = texts_of names in
      let name = (slice_at names i).now in
      let behind = of_class class_of k (drop (suc i) texts) in
      let its : class_of name ≡ k = sym (class_there i inside) ∙ here in
      let is : eqb (class_of name) k ≡ true = grind (arith, nat_tests) in
      ap (of_class class_of k) (text_between names i inside) ∙ filter-append (λ x. eqb (class_of x) k) (take i texts) (name ∷ drop (suc i) texts)
      ∙ ap (λ t. of_class class_of k (take i texts) ++ cond t (name ∷ behind) behind) is

-- what stands at a place stands in the rest from another on
pub byte_behind : (xs : List ℕ) (from i : ℕ) → from ≤ i → i < length xs → get_or (take (length xs - from) (drop from xs)) (i - from) 0 ≡ get_or xs i 0
byte_behind xs from i later inside =
    get_or-take (length xs - from) (drop from xs) (i - from) 0 (omega (arith, later, inside)) ∙ get_or-drop from xs (i - from) 0
    ∙ ap (λ n. get_or xs n 0) (let e : from + (i - from) ≡ i = omega (arith, later) in e)

-- names of which each has a class
module _ (class_of : List ℕ → ℕ) where
  -- a name stands among those of its class where it stands among all
  among_class : (name : List ℕ) (names : List (List ℕ)) → list_any (bytes_eq name) (of_class class_of (class_of name) names) ≡ list_any (bytes_eq name) names
  among_class name [] = refl
  among_class name (x ∷ xs) = by_tests (bytes_eq name x) (eqb (class_of x) (class_of name)) refl refl (among_class name xs)
    where
      by_tests : (same kept : Bool) → bytes_eq name x ≡ same → eqb (class_of x) (class_of name) ≡ kept
          → list_any (bytes_eq name) (of_class class_of (class_of name) xs) ≡ list_any (bytes_eq name) xs
          → list_any (bytes_eq name) (cond kept (x ∷ of_class class_of (class_of name) xs) (of_class class_of (class_of name) xs)) ≡ (same || list_any (bytes_eq name) xs)
      by_tests same true e k behind = ap (λ t. t || list_any (bytes_eq name) (of_class class_of (class_of name) xs)) e ∙ ap (λ t. same || t) behind
      by_tests false false e k behind = behind
      by_tests true false e k behind =
          let one : eqb (class_of x) (class_of x) ≡ true = grind (arith, nat_tests) in
          absurd (false≢true (sym k ∙ ap (λ y. eqb (class_of x) (class_of y)) (equal_text name x e) ∙ one))

  -- one more name is repeated in its class where it stands among the others
  one_more : (k : ℕ) (x : List ℕ) (xs : List (List ℕ)) → has_repeated (of_class class_of k (x ∷ xs)) ≡ ((eqb (class_of x) k && list_any (bytes_eq x) xs) || has_repeated (of_class class_of k xs))
  one_more k x xs = by_test (eqb (class_of x) k) refl
    where
      by_test : (kept : Bool) → eqb (class_of x) k ≡ kept
          → has_repeated (cond kept (x ∷ of_class class_of k xs) (of_class class_of k xs)) ≡ ((kept && list_any (bytes_eq x) xs) || has_repeated (of_class class_of k xs))
      by_test false e = refl
      by_test true e =
          let same : class_of x ≡ k = grind (arith, nat_tests) in
          ap (λ t. t || has_repeated (of_class class_of k xs)) (ap (λ n. list_any (bytes_eq x) (of_class class_of n xs)) (sym same) ∙ among_class x xs)

  -- a name that stands twice in a class stands twice
  pub repeated_in_class : (k : ℕ) (names : List (List ℕ)) → has_repeated (of_class class_of k names) ≡ true → has_repeated names ≡ true
  repeated_in_class k [] h = h
  repeated_in_class k (x ∷ xs) h = either (eqb (class_of x) k) (list_any (bytes_eq x) xs) (has_repeated (of_class class_of k xs)) (has_repeated xs) (sym (one_more k x xs) ∙ h) (repeated_in_class k xs)
    where
      either : (kept among inner all : Bool) → ((kept && among) || inner) ≡ true → (inner ≡ true → all ≡ true) → (among || all) ≡ true
      either kept true inner all e behind = refl
      either true false inner all e behind = behind e
      either false false inner all e behind = behind e

  -- and where none does in any class, none does
  pub differ_in_classes : (count : ℕ) → ((name : List ℕ) → class_of name < count) → (names : List (List ℕ))
      → ((k : ℕ) → k < count → has_repeated (of_class class_of k names) ≡ false) → has_repeated names ≡ false
  differ_in_classes count few [] differ = refl
  differ_in_classes count few (x ∷ xs) differ =
      let own : eqb (class_of x) (class_of x) ≡ true = grind (arith, nat_tests) in
      let alone : list_any (bytes_eq x) xs ≡ false = first (list_any (bytes_eq x) xs) (has_repeated (of_class class_of (class_of x) xs))
      (ap (λ t. (t && list_any (bytes_eq x) xs) || has_repeated (of_class class_of (class_of x) xs)) (sym own) ∙ sym (one_more (class_of x) x xs) ∙ differ (class_of x) (few x)) in
      ap (λ t. t || has_repeated xs) alone
      ∙ differ_in_classes count few xs (λ k below. second (eqb (class_of x) k && list_any (bytes_eq x) xs) (has_repeated (of_class class_of k xs)) (sym (one_more k x xs) ∙ differ k below))
    where
      first : (s t : Bool) → (s || t) ≡ false → s ≡ false
      first true t e = e
      first false t e = refl

      second : (s t : Bool) → (s || t) ≡ false → t ≡ false
      second true t e = absurd (false≢true (sym e))
      second false t e = e
