-- The names of a list, one after another.
use Rattle.std.proofs.Common.{◌≡◌, ℕ, zero, suc, ◌+◌, ◌<◌, ◌≤◌, ◌||◌, eqb, Bool, true, false, cond, List, [], ◌∷◌, ◌++◌, length, get_or, take, drop, map, set, ◌≢◌, refl, sym, ap, ◌∙◌, append_assoc, inl, inr, arith}
use Rattle.std.specs.List.{list_any}
use Rattle.std.specs.Str.{bytes_eq}
use Rattle.std.proofs.Math.ListN.{get_or-append}
use Rattle.std.proofs.Math.Seq.{get_or-append_seam, drop-cons}
use Rattle.std.proofs.lemmas.List.{append-nil, take-append-drop, length-append, length-take-le, length-map, take_more, take_all, drop_all, length-set, get_or_past, get_or-map, map_push}
use Rattle.std.proofs.lemmas.List.Folds.{list_any-append, list_any_none}
use Rattle.std.proofs.lemmas.Bool.{false≢true, cases_lt}
use Rattle.std.proofs.lemmas.Bool.Decides.{nat_tests}
use Rattle.sm_keys.specs.Tables.{has_repeated, Table, IsTable, text_at, Extends, AreBelow, IsStamped, HasStamp, IsListed, IsAt, IsListing, ListsFurther}
use Rattle.sm_keys.proofs.TextLemmas.{same_text, equal_text, other_text}
use Rattle.sm_keys.proofs.TableLemmas.{distinct_index, cases_eq, interned_at, stamped_new}

or_true : (b : Bool) → (b || true) ≡ true
or_true true = refl
or_true false = refl

-- a name that stands among those before it is repeated
pub repeated_among : (xs ys : List (List ℕ)) (y : List ℕ) → list_any (bytes_eq y) xs ≡ true → has_repeated (xs ++ y ∷ ys) ≡ true
repeated_among [] ys y h = absurd (false≢true h)
repeated_among (x ∷ xs) ys y h = by_test (bytes_eq y x) refl h (repeated_among xs ys y)
  where
    by_test : (t : Bool) → bytes_eq y x ≡ t → (t || list_any (bytes_eq y) xs) ≡ true → (list_any (bytes_eq y) xs ≡ true → has_repeated (xs ++ y ∷ ys) ≡ true)
        → (list_any (bytes_eq x) (xs ++ y ∷ ys) || has_repeated (xs ++ y ∷ ys)) ≡ true
    by_test true e k behind =
        ap (λ t. t || has_repeated (xs ++ y ∷ ys)) (list_any-append (bytes_eq x) xs (y ∷ ys)
        ∙ ap (λ t. list_any (bytes_eq x) xs || (t || list_any (bytes_eq x) ys)) (same_text x y (sym (equal_text y x e))) ∙ or_true (list_any (bytes_eq x) xs))
    by_test false e k behind = ap (λ t. list_any (bytes_eq x) (xs ++ y ∷ ys) || t) (behind k) ∙ or_true (list_any (bytes_eq x) (xs ++ y ∷ ys))

-- and one that doesn't isn't
pub repeated_push : (xs : List (List ℕ)) (y : List ℕ) → has_repeated xs ≡ false → list_any (bytes_eq y) xs ≡ false → has_repeated (xs ++ y ∷ []) ≡ false
repeated_push [] y h absent = refl
repeated_push (x ∷ xs) y h absent = by_tests (list_any (bytes_eq x) xs) (bytes_eq y x) refl refl h absent (repeated_push xs y)
  where
    by_tests : (t u : Bool) → list_any (bytes_eq x) xs ≡ t → bytes_eq y x ≡ u → (t || has_repeated xs) ≡ false → (u || list_any (bytes_eq y) xs) ≡ false
        → (has_repeated xs ≡ false → list_any (bytes_eq y) xs ≡ false → has_repeated (xs ++ y ∷ []) ≡ false)
        → (list_any (bytes_eq x) (xs ++ y ∷ []) || has_repeated (xs ++ y ∷ [])) ≡ false
    by_tests true u e f k l behind = absurd (false≢true (sym k))
    by_tests false true e f k l behind = absurd (false≢true (sym l))
    by_tests false false e f k l behind =
        let differ : bytes_eq x y ≡ false = other_text x y (λ same. false≢true (sym f ∙ same_text y x (sym same))) in
        ap (λ t. t || has_repeated (xs ++ y ∷ [])) (list_any-append (bytes_eq x) xs (y ∷ []) ∙ ap (λ t. t || (bytes_eq x y || false)) e ∙ ap (λ t. t || false) differ)
        ∙ behind k l

-- indexes stay within a greater range, and one more may follow
pub below_more : (n m : ℕ) (is : List ℕ) → n ≤ m → AreBelow n is → AreBelow m is
below_more n m [] le h = tt
below_more n m (i ∷ is) le h = (omega (arith, h.0), below_more n m is le h.1)

-- and one more may follow
pub below_push : (n : ℕ) (is : List ℕ) (i : ℕ) → AreBelow n is → i < n → AreBelow n (is ++ i ∷ [])
below_push n [] i h inside = (inside, tt)
below_push n (j ∷ is) i h inside = (h.0, below_push n is i h.1 inside)

-- each of them is within the range
pub below_at : (n : ℕ) (is : List ℕ) (k : ℕ) → AreBelow n is → k < length is → get_or is k 0 < n
below_at n [] k h inside = absurd (omega arith)
below_at n (i ∷ is) zero h inside = h.0
below_at n (i ∷ is) (suc k) h inside = below_at n is k h.1 (omega arith)

-- names keep their indexes
pub text_kept : (old new : List (List ℕ)) (i : ℕ) → Extends old new → i < length old → text_at new i ≡ text_at old i
text_kept old new i more inside = ap (λ x. text_at x i) more.appended ∙ get_or-append old more.more [] i inside

-- so do the names of a list
pub texts_kept : (old new : List (List ℕ)) (is : List ℕ) → Extends old new → AreBelow (length old) is → map (text_at new) is ≡ map (text_at old) is
texts_kept old new [] more h = refl
texts_kept old new (i ∷ is) more h = ap (λ x. x ∷ map (text_at new) is) (text_kept old new i more h.0) ∙ ap (λ x. text_at old i ∷ x) (texts_kept old new is more h.1)

-- texts that have grown are as many or more
pub extends_long : (old new : List (List ℕ)) → Extends old new → length old ≤ length new
extends_long old new more = omega (arith, ap length more.appended, length-append old more.more)

-- what has grown twice has grown
pub extends_twice : (a b d : List (List ℕ)) → Extends a b → Extends b d → Extends a d
extends_twice a b d first second = record {
  more = first.more ++ second.more;
  appended = second.appended ∙ ap (λ x. x ++ second.more) first.appended ∙ append_assoc a first.more second.more;
}

module _ (first now new : Table) (entries : List (List ℕ)) (stamp i : ℕ) (indexes : List ℕ) (name : List ℕ) (some : 0 < stamp) (listing : IsListing first now entries stamp i indexes)
    (inside : i < length entries) (here : get_or entries i [] ≡ name) where
  stamped_inside : length now.stamps ≡ length now.texts → (k : ℕ) → get_or now.stamps k 0 ≡ stamp → k < length now.texts
  stamped_inside each k is = elim (cases_lt k (length now.stamps)) [
    | inl below ↦ omega arith
    | inr past ↦ absurd (omega (arith, get_or_past now.stamps k 0 past))
  ]

  count : length indexes ≡ i
  count = sym (length-map indexes (text_at now.texts)) ∙ ap length listing.names ∙ length-take-le i entries (omega arith)

  one_more : take (i + 1) entries ≡ take i entries ++ name ∷ []
  one_more = take_more entries i [] inside ∙ ap (λ x. take i entries ++ x ∷ []) here

  -- a name that has the stamp stands on the list already
  pub listing_stuck : HasStamp now new name stamp → has_repeated entries ≡ true
  listing_stuck met =
      let k = met.at in
      let old : text_at now.texts k ≡ name = sym (text_kept now.texts new.texts k met.extends (stamped_inside met.stamp_each k met.stamped)) ∙ met.names in
      let among : list_any (bytes_eq name) (take i entries) ≡ true = ap (λ x. list_any (bytes_eq x) (take i entries)) (sym old) ∙ listing.stamped k met.stamped in
      ap has_repeated (sym (take-append-drop i entries) ∙ ap (λ x. take i entries ++ x) (drop-cons entries i [] inside ∙ ap (λ x. x ∷ drop (suc i) entries) here))
      ∙ repeated_among (take i entries) (drop (suc i) entries) name among

  -- and one that hasn't doesn't
  absent : (index : ℕ) → IsStamped now new name stamp index → list_any (bytes_eq name) (take i entries) ≡ false
  absent index met = list_any_none (bytes_eq name) (take i entries) (λ (k : ℕ) (d : List ℕ) (below : k < length (take i entries)).
      let small : k < i = omega (arith, below, length-take-le i entries (omega arith)) in
      let at = get_or indexes k 0 in
      let old : at < length now.texts = below_at (length now.texts) indexes k listing.in_range (omega (arith, count)) in
      other_text name (get_or (take i entries) k d) (λ (same : name ≡ get_or (take i entries) k d).
      let there : text_at now.texts at ≡ name =
      sym (get_or-map (text_at now.texts) indexes k 0 d (omega (arith, count))) ∙ ap (λ x. get_or x k d) listing.names ∙ sym same in
      let index_is : at ≡ index = distinct_index new.texts at index met.table.distinct (omega (arith, extends_long now.texts new.texts met.extends)) met.in_range
      (text_kept now.texts new.texts at met.extends old ∙ there ∙ sym met.names) in
      met.unstamped (ap (λ j. get_or now.stamps j 0) (sym index_is) ∙ listing.all k small)))

  -- one more name is listed
  pub listing_more : (index : ℕ) → IsStamped now new name stamp index → IsListing first new entries stamp (i + 1) (indexes ++ index ∷ [])
  listing_more index met = record {
    extends = extends_twice first.texts now.texts new.texts listing.extends met.extends;
    declared = met.declared ∙ listing.declared;
    differ = ap has_repeated one_more ∙ repeated_push (take i entries) name listing.differ (absent index met);
    in_range = below_push (length new.texts) indexes index (below_more (length now.texts) (length new.texts) indexes (extends_long now.texts new.texts met.extends) listing.in_range) met.in_range;
    names = map_push (text_at new.texts) indexes index
        ∙ ap (λ x. x ++ text_at new.texts index ∷ []) (texts_kept now.texts new.texts indexes met.extends listing.in_range ∙ listing.names)
        ∙ ap (λ x. take i entries ++ x ∷ []) met.names ∙ sym one_more;
    stamps = λ k. stamp_le k (eqb k index) (met.stamps k);
    stamped = λ k is. ap (list_any (bytes_eq (text_at new.texts k))) one_more ∙ list_any-append (bytes_eq (text_at new.texts k)) (take i entries) (name ∷ [])
        ∙ elim (cases_eq k index) [
          | inl same ↦ ap (λ t. list_any (bytes_eq (text_at new.texts k)) (take i entries) || (t || false)) (same_text (text_at new.texts k) name (ap (text_at new.texts) same ∙ met.names))
              ∙ or_true (list_any (bytes_eq (text_at new.texts k)) (take i entries))
          | inr other ↦
              let apart : eqb k index ≡ false = grind (arith, nat_tests) in
              let before : get_or now.stamps k 0 ≡ stamp = sym (met.stamps k ∙ ap (λ b. cond b stamp (get_or now.stamps k 0)) apart) ∙ is in
              ap (λ x. list_any (bytes_eq x) (take i entries) || list_any (bytes_eq (text_at new.texts k)) (name ∷ [])) (text_kept now.texts new.texts k met.extends (stamped_inside met.stamp_each k before))
              ∙ ap (λ t. t || list_any (bytes_eq (text_at new.texts k)) (name ∷ [])) (listing.stamped k before)
        ];
    all = λ j below. elim (cases_lt j i) [
      | inl old ↦ ap (λ n. get_or new.stamps n 0) (get_or-append indexes (index ∷ []) 0 j (omega (arith, count)))
          ∙ met.stamps (get_or indexes j 0) ∙ stamp_kept (eqb (get_or indexes j 0) index) (get_or now.stamps (get_or indexes j 0) 0) (listing.all j old)
      | inr last ↦ ap (λ n. get_or new.stamps (get_or (indexes ++ index ∷ []) n 0) 0) (let e : j ≡ length indexes = omega (arith, count) in e)
          ∙ ap (λ n. get_or new.stamps n 0) (get_or-append_seam indexes index [] 0)
          ∙ met.stamps index ∙ stamp_there (eqb index index) (get_or now.stamps index 0) (let e : eqb index index ≡ true = grind (arith, nat_tests) in e)
    ];
  }
    where
      stamp_le : (k : ℕ) (b : Bool) → get_or new.stamps k 0 ≡ cond b stamp (get_or now.stamps k 0) → get_or new.stamps k 0 ≤ stamp
      stamp_le k true e = omega arith
      stamp_le k false e = omega (arith, listing.stamps k)

      stamp_kept : (b : Bool) (s : ℕ) → s ≡ stamp → cond b stamp s ≡ stamp
      stamp_kept true s e = refl
      stamp_kept false s e = e

      stamp_there : (b : Bool) (s : ℕ) → b ≡ true → cond b stamp s ≡ stamp
      stamp_there b s e = ap (λ t. cond t stamp s) e

-- no name of a list, and all
pub listing_none : (t : Table) (entries : List (List ℕ)) (stamp : ℕ) → ((k : ℕ) → get_or t.stamps k 0 < stamp) → IsListing t t entries stamp 0 []
listing_none t entries stamp fresh = record {
  extends = record { more = []; appended = sym (append-nil t.texts) };
  declared = refl;
  differ = refl;
  in_range = tt;
  names = refl;
  stamps = λ k. omega (arith, fresh k);
  stamped = λ k is. absurd (omega (arith, fresh k));
  all = λ j below. absurd (omega arith);
}

-- all names are listed
pub listing_all : (first now : Table) (entries : List (List ℕ)) (stamp i : ℕ) (indexes : List ℕ) → IsListing first now entries stamp i indexes → length entries ≤ i → IsListed first now entries stamp indexes
listing_all first now entries stamp i indexes listing past =
    let whole = take_all i entries past in
    record {
      extends = listing.extends;
      declared = listing.declared;
      differ = ap has_repeated (sym whole) ∙ listing.differ;
      in_range = listing.in_range;
      names = listing.names ∙ whole;
      stamps = listing.stamps;
    }

-- other stamps for the same names
pub restamped : (t : Table) (stamps : List ℕ) → IsTable t → length stamps ≡ length t.stamps → IsTable (record t { stamps = stamps })
restamped t stamps table long = record {
  number_each = table.number_each;
  stamp_each = long ∙ table.stamp_each;
  distinct = table.distinct;
  numbered = table.numbered;
  known = table.known;
}

module _ (texts : List (List ℕ)) (old : List ℕ) (entries : List (List ℕ)) (stamp from : ℕ) (before : List ℕ) where
  -- one more name is listed
  pub further_more : (now : List ℕ) (i : ℕ) (indexes : List ℕ) (name : List ℕ) (index : ℕ) → ListsFurther texts old now entries stamp from i before indexes → 0 < stamp
      → i < length entries → get_or entries i [] ≡ name → IsAt texts name index → get_or now index 0 ≢ stamp → length old ≡ length texts
      → ListsFurther texts old (set now index stamp) entries stamp from (i + 1) before (indexes ++ index ∷ [])
  further_more now i indexes name index so_far some inside here at unstamped long = record {
    each = length-set now index stamp ∙ so_far.each;
    further = λ first t table names stamps listing.
        let mid : Table = record t { stamps = now } in
        let new : Table = record t { stamps = set now index stamp } in
        let sound : IsTable mid = restamped t now table (so_far.each ∙ ap length (sym stamps)) in
        let within : index < length t.texts = omega (arith, at.in_range, ap length names) in
        let named : text_at t.texts index ≡ name = ap (λ x. text_at x index) names ∙ at.names in
        let met : IsStamped mid new name stamp index = stamped_new mid mid new name stamp index (interned_at mid name index sound within named) unstamped refl refl refl refl in
        listing_more first mid new entries stamp i indexes name some (so_far.further first t table names stamps listing) inside here index met;
  }

-- what a slice holds that was lent as a whole and written over
pub written_over : (n : ℕ) (new old : List ℕ) → length new ≡ length old → n ≡ length old → take n (new ++ drop (length new) old) ≡ new
written_over n new old long whole =
    ap (λ xs. take n (new ++ xs)) (drop_all (length new) old (omega arith)) ∙ ap (take n) (append-nil new) ∙ take_all n new (omega arith)
