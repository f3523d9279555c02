-- Reordered lines; and lines of things with numbers, in the order of the numbers and in any other.
use Rattle.std.proofs.Common.{◌≡◌, ◌≢◌, ◌⊎◌, ℕ, zero, suc, ◌+◌, ◌<◌, ◌≤◌, arith, refl, sym, ap, ◌∙◌, inl, inr, true, List, [], ◌∷◌, ◌++◌, length, map, get_or, Option, Some, None, subst}
use Rattle.std.specs.Prelude.{Contains}
use Rattle.std.specs.Option.{option_map}
use Rattle.std.proofs.lemmas.Bool.{cases_eq}
use Rattle.sm_report.specs.Lines.{LineData}
use Rattle.sm_report.specs.Keywords.{keyword_of}
use Rattle.sm_answer.specs.Lines.{line_or_none, lines_from}
use Rattle.sm_law_yes.specs.Reordered.{is_free, IsReordered}
use Rattle.sm_law_yes.specs.Reordered.IsReordered.{none, kept, exchanged, both}

-- lines are their own reordering
pub unmoved : (lines : List LineData) → IsReordered lines lines
unmoved [] = none
unmoved (x ∷ xs) = kept x (unmoved xs)

-- behind the same lines
pub reordered_behind : (front : List LineData) {lines others : List LineData} → IsReordered lines others → IsReordered (front ++ lines) (front ++ others)
reordered_behind [] r = r
reordered_behind (x ∷ front) r = kept x (reordered_behind front r)

-- before the same lines
pub reordered_before : {lines others : List LineData} → IsReordered lines others → (behind : List LineData) → IsReordered (lines ++ behind) (others ++ behind)
reordered_before none behind = unmoved behind
reordered_before (kept x r) behind = kept x (reordered_before r behind)
reordered_before (exchanged x y lines e v) behind = exchanged x y (lines ++ behind) e v
reordered_before (both r s) behind = both (reordered_before r behind) (reordered_before s behind)

-- one group and what stands behind it
pub reordered_both : {a b c d : List LineData} → IsReordered a b → IsReordered c d → IsReordered (a ++ c) (b ++ d)
reordered_both {a} {b} {c} {d} r s = both (reordered_before r c) (reordered_behind b s)

-- Where an item stands in a list.
module _ {X : Type 0} where
  -- the items before it and behind it
  pub record Splits (xs : List X) (x : X) : Type 0 where
    pub front : List X
    pub back : List X
    pub is : xs ≡ front ++ x ∷ back

  -- a list that has an item splits there
  pub splits : (xs : List X) (x : X) → Contains xs x → Splits xs x
  splits xs x c = go xs c.0 c.1 c.2
    where
      go : (xs : List X) (k : ℕ) → k < length xs → get_or xs k x ≡ x → Splits xs x
      go [] k less e = absurd (omega (arith, less))
      go (y ∷ ys) zero less e = record { front = []; back = ys; is = ap (λ z. z ∷ ys) e }
      go (y ∷ ys) (suc k) less e =
          let s = go ys k (omega (arith, less)) e in
          record { front = y ∷ s.front; back = s.back; is = ap (λ zs. y ∷ zs) s.is }

  -- the first item of a list is in it
  pub here : (x : X) (xs : List X) → Contains (x ∷ xs) x
  here x xs = (0, omega arith, refl)

  -- and so is what is in the rest
  pub further : (y : X) (xs : List X) (x : X) → Contains xs x → Contains (y ∷ xs) x
  further y xs x c = (suc c.0, (let l = c.1 in omega arith), c.2)

  -- what is in a list is its first item or in the rest
  pub first_or_rest : (y : X) (xs : List X) (x : X) → Contains (y ∷ xs) x → (y ≡ x) ⊎ Contains xs x
  first_or_rest y xs x c = go c.0 c.1 c.2
    where
      go : (k : ℕ) → k < length (y ∷ xs) → get_or (y ∷ xs) k x ≡ x → (y ≡ x) ⊎ Contains xs x
      go zero less e = inl e
      go (suc k) less e = inr (k, omega (arith, less), e)

  -- with one more item in the middle
  pub with_one : (front : List X) (x : X) (back : List X) (y : X) → Contains (front ++ back) y → Contains (front ++ x ∷ back) y
  with_one [] x back y c = further x back y c
  with_one (z ∷ front) x back y c = elim (first_or_rest z (front ++ back) y c) [
    | inl is ↦ subst (Contains (z ∷ front ++ x ∷ back)) is (here z (front ++ x ∷ back))
    | inr deep ↦ further z (front ++ x ∷ back) y (with_one front x back y deep)
  ]

  -- what is in a list is the item in the middle, or stays without it
  pub without_one : (front : List X) (x : X) (back : List X) (y : X) → Contains (front ++ x ∷ back) y → (x ≡ y) ⊎ Contains (front ++ back) y
  without_one [] x back y c = first_or_rest x back y c
  without_one (z ∷ front) x back y c = elim (first_or_rest z (front ++ x ∷ back) y c) [
    | inl is ↦ inr (subst (Contains (z ∷ front ++ back)) is (here z (front ++ back)))
    | inr deep ↦ elim (without_one front x back y deep) [
      | inl is ↦ inl is
      | inr rest ↦ inr (further z (front ++ back) y rest)
    ]
  ]

  -- the item in the middle is there
  pub in_middle : (front : List X) (x : X) (back : List X) → Contains (front ++ x ∷ back) x
  in_middle [] x back = here x back
  in_middle (z ∷ front) x back = further z (front ++ x ∷ back) x (in_middle front x back)

  -- nothing is not something
  pub nothing : {x : X} → ◌≡◌ {A = Option X} None (Some x) → ⊥
  nothing e = grind arith

-- Things with numbers.
module _ {X : Type 0} (number : X → ℕ) where
  -- no two have one number
  abbrev pub AreNumbered : List X → Type 0
  AreNumbered [] = Unit {0}
  AreNumbered (x ∷ xs) = ((y : X) → Contains xs y → number y ≢ number x) × AreNumbered xs

  numbered_without : (front : List X) (x : X) (back : List X) → AreNumbered (front ++ x ∷ back) → AreNumbered (front ++ back)
  numbered_without [] x back h = h.1
  numbered_without (z ∷ front) x back h = (λ y c. h.0 y (with_one front x back y c), numbered_without front x back h.1)

  other_number : (front : List X) (x : X) (back : List X) → AreNumbered (front ++ x ∷ back) → (y : X) → Contains (front ++ back) y → number y ≢ number x
  other_number [] x back h y c = h.0 y c
  other_number (z ∷ front) x back h y c = elim (first_or_rest z (front ++ back) y c) [
    | inl is ↦ λ e. h.0 x (in_middle front x back) (sym e ∙ ap number (sym is))
    | inr deep ↦ other_number front x back h.1 y deep
  ]

  -- the things that stand at n numbers from a on, each of them once
  pub record AreThose (at : ℕ → Option X) (a n : ℕ) (xs : List X) : Type 0 where
    pub each : (x : X) → Contains xs x → (at (number x) ≡ Some x) × (a ≤ number x) × (number x < a + n)
    pub once : AreNumbered xs
    pub all : (k : ℕ) (x : X) → a ≤ k → k < a + n → at k ≡ Some x → Contains xs x

  module _ (at : ℕ → Option X) where
    none_first : (a n : ℕ) (xs : List X) → AreThose at a (suc n) xs → at a ≡ None → AreThose at (a + 1) n xs
    none_first a n xs h e = record {
      each = λ x c. let t = h.each x c in let low = higher x t.0 t.1 in let high = t.2 in (t.0, low, omega (arith, high));
      once = h.once;
      all = λ k x low high is. h.all k x (omega (arith, low)) (omega (arith, high)) is;
    }
      where
        higher : (x : X) → at (number x) ≡ Some x → a ≤ number x → a + 1 ≤ number x
        higher x is low = elim (cases_eq (number x) a) [
          | inl same ↦ absurd (nothing (sym e ∙ ap at (sym same) ∙ is))
          | inr other ↦ omega (arith, low, other)
        ]

    one_first : ((k : ℕ) (x : X) → at k ≡ Some x → number x ≡ k) → (a n : ℕ) (front : List X) (x : X) (back : List X) → AreThose at a (suc n) (front ++ x ∷ back) → at a ≡ Some x → AreThose at (a + 1) n (front ++ back)
    one_first numbered a n front x back h e = record {
      each = λ y c.
          let t = h.each y (with_one front x back y c) in
          let low = t.1 in
          let high = t.2 in
          let other : number y ≢ a = λ same. other_number front x back h.once y c (same ∙ sym (numbered a x e)) in
          (t.0, omega (arith, low, other), omega (arith, high));
      once = numbered_without front x back h.once;
      all = λ k y low high is. elim (without_one front x back y (h.all k y (omega (arith, low)) (omega (arith, high)) is)) [
        | inl same ↦ absurd (let one = numbered a x e in let two = numbered k y is in let three = ap number same in omega (arith, low, one, two, three))
        | inr rest ↦ rest
      ];
    }

-- their lines, which have one keyword
module _ {X : Type 0} (line : X → LineData) (word : (x y : X) → keyword_of (line x) ≡ keyword_of (line y)) (free : (x : X) → is_free (keyword_of (line x)) ≡ true) where
  -- one of them comes to the front
  to_front : (front : List X) (x : X) (back : List X) → IsReordered (map line (front ++ x ∷ back)) (map line (x ∷ front ++ back))
  to_front [] x back = unmoved (map line (x ∷ back))
  to_front (y ∷ front) x back = both (kept (line y) (to_front front x back)) (exchanged (line y) (line x) (map line (front ++ back)) (word y x) (free y))

  -- the lines in the order of the numbers
  pub in_order : (number : X → ℕ) (at : ℕ → Option X) → ((k : ℕ) (x : X) → at k ≡ Some x → number x ≡ k) → (a n : ℕ) (xs : List X) → AreThose number at a n xs
      → IsReordered (map line xs) (lines_from (λ k. option_map line (at k)) a n)
  in_order number at numbered a zero [] h = none
  in_order number at numbered a zero (x ∷ xs) h = absurd (let e = h.each x (here x xs) in let low = e.1 in let high = e.2 in omega (arith, low, high))
  in_order number at numbered a (suc n) xs h = by_first (at a) refl (λ ys those. in_order number at numbered (a + 1) n ys those)
    where
      by_first : (o : Option X) → at a ≡ o → ((ys : List X) → AreThose number at (a + 1) n ys → IsReordered (map line ys) (lines_from (λ k. option_map line (at k)) (a + 1) n))
          → IsReordered (map line xs) (line_or_none (option_map line o) ++ lines_from (λ k. option_map line (at k)) (a + 1) n)
      by_first None e go = go xs (none_first number at a n xs h e)
      by_first (Some x) e go =
          let s = splits xs x (h.all a x (omega arith) (omega arith) e) in
          both (subst (λ ys. IsReordered (map line ys) (map line (x ∷ s.front ++ s.back))) (sym s.is) (to_front s.front x s.back))
          (kept (line x) (go (s.front ++ s.back) (one_first number at numbered a n s.front x s.back (subst (AreThose number at a (suc n)) s.is h) e)))
