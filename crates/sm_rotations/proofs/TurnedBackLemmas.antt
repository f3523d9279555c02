-- Needs from followers: each number is added once to the ends of lists that had only lower ones.
use Rattle.std.proofs.Common.{◌≡◌, ◌≢◌, ℕ, ◌+◌, ◌-◌, ◌<◌, ◌≤◌, inl, inr, arith, refl, sym, ap, ◌∙◌, List, [], ◌∷◌, ◌++◌, length, set, take, slice_index, slice_index_or, Option, None, Some, true, false, eqb}
use Rattle.std.specs.Option.{option_eq}
use Rattle.std.proofs.lemmas.Bool.{eq-eqb, eqb-true}
use Rattle.std.proofs.lemmas.List.{get_or-set_same, get_or-set_other, length-set, length_push, get_or_push, get_or_append_left}
use Rattle.std.proofs.lemmas.List.Elements.{Contains-append_left, Contains-append_right}
use Rattle.std.proofs.lemmas.Option.{slice_get_past, slice_get-get_or}
use Rattle.std.specs.Bool.{nat_eq}
use Rattle.sm_market.specs.Lists.{Lists, row}
use Rattle.sm_theory.specs.Chains.{AreNeedsOf}
use Rattle.sm_lists.proofs.Counting.{eq_or_ne, lt_or_le}
use Rattle.sm_rotations.specs.Marking.{IsRisingListOf}
use Rattle.sm_rotations.specs.Graph.{times, last_of, AreFollowers, AreTurnedBack, AreAddedTo}
use Rattle.sm_rotations.proofs.TimesLemmas.{times_more, times_same, count_some}

-- the last number of a list that ends with x, and of one that has only lower numbers
last_pushed : (xs : List ℕ) (x : ℕ) → last_of (xs ++ x ∷ []) ≡ Some x
last_pushed xs x =
    let long : length (xs ++ x ∷ []) ≡ length xs + 1 = omega (arith, length_push xs x) in
    slice_get-get_or (xs ++ x ∷ []) (length (xs ++ x ∷ []) - 1) 0 (omega arith)
    ∙ ap Some (get_or_push xs x 0 (length (xs ++ x ∷ []) - 1) (omega arith))

last_lower : (xs : List ℕ) (x : ℕ) → ((a : ℕ) → a < length xs → slice_index_or xs a 0 < x) → last_of xs ≢ Some x
last_lower xs x lower e = elim (lt_or_le 1 (length xs + 1)) [
  | inr none ↦
      let past : last_of xs ≡ None = slice_get_past xs (length xs - 1) (omega arith) in
      let no : None ≡ Some x = sym past ∙ e in
      absurd (grind arith)
  | inl some ↦
      let inside : length xs - 1 < length xs = omega arith in
      let is : last_of xs ≡ Some (slice_index_or xs (length xs - 1) 0) = slice_get-get_or xs (length xs - 1) 0 inside in
      let same : slice_index_or xs (length xs - 1) 0 ≡ x = let f : Some (slice_index_or xs (length xs - 1) 0) ≡ Some x = sym is ∙ e in cc in
      omega (arith, lower (length xs - 1) inside, same)
]

-- comparing with a number
pub same_number : (x : Option ℕ) (i : ℕ) → option_eq eqb x (Some i) ≡ true → x ≡ Some i
same_number None i e = absurd (grind arith)
same_number (Some a) i e = ap Some (eqb-true a i e)

-- what compares different isn't the number
pub other_number : (x : Option ℕ) (i : ℕ) → option_eq eqb x (Some i) ≡ false → x ≢ Some i
other_number x i e is =
    let yes : option_eq eqb x (Some i) ≡ true = ap (λ x. option_eq eqb x (Some i)) is ∙ eq-eqb i i refl in
    let no : true ≡ false = sym yes ∙ e in
    grind arith

module _ {i e j : ℕ} (those : List ℕ) {before lists : List (List ℕ)} (inside : e < length those) (is : slice_index_or those e 0 ≡ j) (within : j < length lists)
    (lower : (j a : ℕ) → a < length (row before j) → slice_index_or (row before j) a 0 < i) (f : AreAddedTo i (take e those) before lists) where
  -- where the list of j doesn't end with i, it hasn't been met before
  pub added_pushed : (list : List ℕ) → last_of (row lists j) ≢ Some i → list ≡ row lists j ++ i ∷ [] → AreAddedTo i (take (e + 1) those) before (set lists j list)
  added_pushed list unlike pushed = record {
    one_each = length-set lists j list ∙ f.one_each;
    to = λ q some. elim (eq_or_ne q j) [
      | inl same ↦ rw same (here ∙ pushed ∙ ap (λ (xs : List ℕ). xs ++ i ∷ []) (f.others j unmet))
      | inr other ↦ elsewhere q other ∙ f.to q (omega (arith, some, times_same those e q inside (λ x. other (sym x ∙ is))))
    ];
    others = λ q none. elim (eq_or_ne q j) [
      | inl same ↦ absurd (omega (arith, rw same at none, times_more those e j inside is))
      | inr other ↦ elsewhere q other ∙ f.others q (omega (arith, none, times_same those e q inside (λ x. other (sym x ∙ is))))
    ];
  }
    where
      here : row (set lists j list) j ≡ list
      here = get_or-set_same lists j list [] within

      elsewhere : (q : ℕ) → q ≢ j → row (set lists j list) q ≡ row lists q
      elsewhere q ne = get_or-set_other lists j q list [] ne

      unmet : times (take e those) j ≡ 0
      unmet = elim (lt_or_le 0 (times (take e those) j)) [
        | inr none ↦ omega arith
        | inl some ↦ absurd (unlike (ap last_of (f.to j some) ∙ last_pushed (row before j) i))
      ]

  -- where it ends with i, it has been
  pub added_same : last_of (row lists j) ≡ Some i → AreAddedTo i (take (e + 1) those) before lists
  added_same closed = record {
    one_each = f.one_each;
    to = λ q some. elim (eq_or_ne q j) [
      | inl same ↦ rw same (f.to j met)
      | inr other ↦ f.to q (omega (arith, some, times_same those e q inside (λ x. other (sym x ∙ is))))
    ];
    others = λ q none. elim (eq_or_ne q j) [
      | inl same ↦ absurd (omega (arith, rw same at none, times_more those e j inside is))
      | inr other ↦ f.others q (omega (arith, none, times_same those e q inside (λ x. other (sym x ∙ is))))
    ];
  }
    where
      met : 0 < times (take e those) j
      met = elim (lt_or_le 0 (times (take e those) j)) [
        | inl some ↦ some
        | inr none ↦ absurd (last_lower (row before j) i (lower j) (ap last_of (sym (f.others j (omega arith))) ∙ closed))
      ]

-- a rising list that goes on with a higher number
pub rising_push : {P Q : ℕ → Type 0} {list : List ℕ} (i : ℕ) → IsRisingListOf P list → ((k : ℕ) → P k → k < i) → ((k : ℕ) → P k → Q k) → Q i → ((k : ℕ) → Q k → k ≢ i → P k) → IsRisingListOf Q (list ++ i ∷ [])
rising_push {P} {Q} {list} i f low forth here back = record {
  rising = λ a b less inside. elim (lt_or_le b (length list)) [
    | inl old ↦ omega (arith, f.rising a b less old, read_old a (omega arith), read_old b old)
    | inr new ↦ omega (arith, low (slice_index list a) (f.sound a (omega (arith, less, inside, long))), read_old a (omega (arith, less, inside, long)), read_new b (omega (arith, inside, long)))
  ];
  sound = λ a inside. elim (lt_or_le a (length list)) [
    | inl old ↦ rw (read_old a old) (forth (slice_index list a) (f.sound a old))
    | inr new ↦ rw (read_new a (omega (arith, inside, long))) here
  ];
  all = λ k q. elim (eq_or_ne k i) [
    | inl same ↦ rw same (Contains-append_right list (i ∷ []) i (0, omega arith, refl))
    | inr other ↦ Contains-append_left list (i ∷ []) k (f.all k (back k q other))
  ];
}
  where
    long : length (list ++ i ∷ []) ≡ length list + 1
    long = omega (arith, length_push list i)

    read_old : (a : ℕ) → a < length list → slice_index (list ++ i ∷ []) a ≡ slice_index list a
    read_old a old = get_or_append_left list (i ∷ []) 0 a old

    read_new : (a : ℕ) → length list ≡ a → slice_index (list ++ i ∷ []) a ≡ i
    read_new a e = get_or_push list i 0 a e

-- a rising list of what has a property is one of what has another that holds of the same
pub rising_like : {P Q : ℕ → Type 0} {list : List ℕ} → IsRisingListOf P list → ((k : ℕ) → P k → Q k) → ((k : ℕ) → Q k → P k) → IsRisingListOf Q list
rising_like f forth back = record {
  rising = f.rising;
  sound = λ a inside. forth _ (f.sound a inside);
  all = λ k q. f.all k (back k q);
}

-- one more number is turned back
pub back_more : {followers before after : List (List ℕ)} {i : ℕ} → AreTurnedBack followers i before → AreAddedTo i (row followers i) before after → AreTurnedBack followers (i + 1) after
back_more {followers} {before} {after} {i} w f = record {
  one_each = f.one_each ∙ w.one_each;
  each = λ j. elim (lt_or_le 0 (times (row followers i) j)) [
    | inl some ↦ rw (f.to j some) (rising_push i (w.each j) (λ k p. p.0) (λ k p. (omega (arith, p.0), p.1)) (omega arith, some) (λ k q ne. (omega (arith, q.0), q.1)))
    | inr none ↦ rw (f.others j (omega arith)) (rising_like (w.each j) (λ k p. (omega (arith, p.0), p.1)) (λ k q. (
      elim (eq_or_ne k i) [
        | inl same ↦ absurd (omega (arith, rw same at q.1, none))
        | inr other ↦ omega (arith, q.0)
      ],
      q.1,
    )))
  ];
}

module _ {l : Lists} {rotations : List (List (ℕ × ℕ))} {followers : List (List ℕ)} where
  -- the followers are among the rotations that were taken
  pub followers_lower : {n : ℕ} → AreFollowers l rotations n followers → (i a : ℕ) → a < length (row followers i) → slice_index_or (row followers i) a 0 < n
  followers_lower f i a inside =
      let j : ℕ = slice_index_or (row followers i) a 0 in
      (f.sound i j (count_some (λ x. nat_eq x j) (row followers i) a 0 inside (eq-eqb j j refl))).0

  -- the followers are numbers of lists
  pub followers_in_range : {n : ℕ} → AreFollowers l rotations n followers → n ≤ length rotations → (i a : ℕ) → a < length (row followers i) → slice_index_or (row followers i) a 0 < length followers
  followers_in_range f few i a inside = omega (arith, followers_lower f i a inside, f.one_each)

  -- the followers turned back are the needs
  pub needs_turned : {needs : List (List ℕ)} → AreFollowers l rotations (length rotations) followers → AreTurnedBack followers (length followers) needs → (j : ℕ) → j < length rotations → AreNeedsOf l rotations j (row needs j)
  needs_turned f w j inside = record {
    rising = (w.each j).rising;
    sound = λ a less. (f.sound _ j ((w.each j).sound a less).1).1;
    each = λ a less. (f.sound _ j ((w.each j).sound a less).1).2;
    all = λ i below need. (w.each j).all i (omega (arith, below, f.one_each), f.all i j inside below need);
  }
