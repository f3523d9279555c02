-- Texts that are put one behind the other.
use Rattle.std.proofs.Common.{◌≡◌, ℕ, zero, suc, ◌+◌, ◌-◌, ◌<◌, ◌≤◌, List, [], ◌∷◌, ◌++◌, length, map, take, drop, get_or}
use Rattle.std.proofs.Common.{Result, Ok, Err, IsErr, refl, sym, ap, ◌∙◌, subst, append_assoc, append-nil, arith, length-append, decimal}
use Rattle.std.specs.List.{flat_map, join_with_byte}
use Rattle.std.proofs.lemmas.List.{take_more, take_all}
use Rattle.std.proofs.lemmas.List.Concat.{flat_map-append}
use Rattle.sm_text.specs.Writer.{WriterData, PutsPiece}
use Rattle.sm_instance.specs.declared.inputs.Input.{Input}
use Rattle.sm_report.specs.declared.fields.Field.{Field}
use Rattle.sm_report.specs.Texts.{vector_text}
use Rattle.sm_report.specs.Fields.{IsFieldSound, AreShown, spaced}
use Rattle.sm_report.specs.Putting.{PutsText}

-- one text and then another
pub puts_then : {E : Type 0} {a b c : WriterData} {xs ys : List ℕ} (r : Result (Unit {0}) E) → PutsText {E = E} a b xs (Ok tt)
    → PutsText {E = E} b c ys r → PutsText {E = E} a c (xs ++ ys) r
puts_then {E} {a} {b} {c} {xs} {ys} (Ok done) first then = record {
  ok = then.ok ∙ ap (λ t. t ++ ys) first.ok ∙ append_assoc a.bytes xs ys;
  err = tt;
  fits = λ _. refl;
  room = omega (arith, first.room, then.room);
}
puts_then {E} {a} {b} {c} {xs} {ys} (Err e) first then = record {
  ok = tt;
  err = record {
    front = xs ++ then.err.front;
    rest = then.err.rest;
    held = then.err.held ∙ ap (λ t. t ++ then.err.front) first.ok ∙ append_assoc a.bytes xs then.err.front;
    whole = append_assoc xs then.err.front then.err.rest ∙ ap (λ t. xs ++ t) then.err.whole;
  };
  fits = λ h. then.fits (omega (arith, first.room, h, ap length first.ok, length-append a.bytes xs, length-append xs ys));
  room = omega (arith, first.room, then.room);
}

-- a text that wasn't put whole, in front of another
pub puts_front : {E : Type 0} {a b : WriterData} {xs : List ℕ} (ys : List ℕ) (e : E) → PutsText {E = E} a b xs (Err e)
    → PutsText {E = E} a b (xs ++ ys) (Err e)
puts_front {E} {a} {b} {xs} ys e part = record {
  ok = tt;
  err = record {
    front = part.err.front;
    rest = part.err.rest ++ ys;
    held = part.err.held;
    whole = sym (append_assoc part.err.front part.err.rest ys) ∙ ap (λ t. t ++ ys) part.err.whole;
  };
  fits = λ h. part.fits (omega (arith, h, length-append xs ys));
  room = part.room;
}

-- another error
pub puts_broken : {E : Type 0} {a b : WriterData} {text : List ℕ} (e : E) (r : Result (Unit {0}) E) → IsErr r
    → PutsText {E = E} a b text (Err e) → PutsText {E = E} a b text r
puts_broken e (Ok done) is h = cc
puts_broken e (Err other) is h = record { ok = tt; err = h.err; fits = h.fits; room = h.room }

-- another text that is the same
pub puts_same : {E : Type 0} {a b : WriterData} {xs ys : List ℕ} {r : Result (Unit {0}) E} → xs ≡ ys → PutsText {E = E} a b xs r
    → PutsText {E = E} a b ys r
puts_same {E} {a} {b} {xs} {ys} {r} same h = subst (λ t. PutsText {E = E} a b t r) same h

-- the texts of the items up to one, and those up to the next
flat_map_more_items : {X : Type 0} (h : X → List ℕ) (xs : List X) (i : ℕ) (d : X) → i < length xs
    → flat_map h (take i xs) ++ h (get_or xs i d) ≡ flat_map h (take (i + 1) xs)
flat_map_more_items h xs i d below =
    ap (λ t. flat_map h (take i xs) ++ t) (sym (append-nil (h (get_or xs i d))))
    ∙ sym (flat_map-append h (take i xs) (get_or xs i d ∷ []))
    ∙ ap (flat_map h) (sym (take_more xs i d below))

-- the texts of the items up to one, and the rest
rest_of_items : {X : Type 0} (h : X → List ℕ) (xs : List X) (i : ℕ) → i ≤ length xs
    → (rest : List ℕ) × (flat_map h (take i xs) ++ rest ≡ flat_map h xs)
rest_of_items h xs zero within = (flat_map h xs, refl)
rest_of_items h [] (suc i) within = absurd (omega arith)
rest_of_items h (x ∷ xs) (suc i) within =
    let more = rest_of_items h xs i (omega arith) in
    (more.0, append_assoc (h x) (flat_map h (take i xs)) more.0 ∙ ap (λ t. h x ++ t) more.1)

-- all items are put, behind some other text
pub items_put : {E X : Type 0} (front : List ℕ) (h : X → List ℕ) (xs : List X) (i : ℕ) {a b : WriterData} {text : List ℕ} → length xs ≤ i
    → front ++ flat_map h xs ≡ text
    → PutsText {E = E} a b (front ++ flat_map h (take i xs)) (Ok tt) → PutsText {E = E} a b text (Ok tt)
items_put front h xs i all same so_far = puts_same (ap (λ t. front ++ flat_map h t) (take_all i xs all) ∙ same) so_far

-- an item isn't put whole
pub items_broken : {E X : Type 0} (front : List ℕ) (h : X → List ℕ) (xs : List X) (i : ℕ) (d : X) {a b c : WriterData} {text : List ℕ}
    → (e : E) (r : Result (Unit {0}) E) → IsErr r → i < length xs → front ++ flat_map h xs ≡ text
    → PutsText {E = E} a b (front ++ flat_map h (take i xs)) (Ok tt) → PutsText {E = E} b c (h (get_or xs i d)) (Err e) → PutsText {E = E} a c text r
items_broken front h xs i d e r is below same before here =
    let rest = rest_of_items h xs (i + 1) (omega arith) in
    let item = h (get_or xs i d) in
    let whole = append_assoc (front ++ flat_map h (take i xs)) item rest.0 ∙ append_assoc front (flat_map h (take i xs)) (item ++ rest.0)
    ∙ ap (λ t. front ++ t) (sym (append_assoc (flat_map h (take i xs)) item rest.0)
    ∙ ap (λ t. t ++ rest.0) (flat_map_more_items h xs i d below) ∙ rest.1) ∙ same in
    puts_broken e r is (puts_same whole (puts_front rest.0 e (puts_then (Err e) before here)))

-- fields with a space between them are the first and the others behind spaces
pub joined_is_spaced : (x : List ℕ) (xs : List (List ℕ)) → join_with_byte 32 (x ∷ xs) ≡ x ++ spaced xs
joined_is_spaced x [] = sym (append-nil x)
joined_is_spaced x (y ∷ ys) = ap (λ t. x ++ 32 ∷ t) (joined_is_spaced y ys)

-- spaced fields of two lists are joined
pub spaced-append : (xs ys : List (List ℕ)) → spaced (xs ++ ys) ≡ spaced xs ++ spaced ys
spaced-append xs ys = flat_map-append (λ text. 32 ∷ text) xs ys

-- fields behind a text that has some
pub joined_then : (x : List ℕ) (xs ys : List (List ℕ)) → join_with_byte 32 (x ∷ xs) ++ spaced ys ≡ join_with_byte 32 (x ∷ (xs ++ ys))
joined_then x xs ys =
    ap (λ t. t ++ spaced ys) (joined_is_spaced x xs) ∙ append_assoc x (spaced xs) (spaced ys)
    ∙ ap (λ t. x ++ t) (sym (spaced-append xs ys)) ∙ sym (joined_is_spaced x (xs ++ ys))

-- the texts of items behind spaces
pub spaced-map : {X : Type 0} (f : X → List ℕ) (xs : List X) → spaced (map f xs) ≡ flat_map (λ x. 32 ∷ f x) xs
spaced-map f [] = refl
spaced-map f (x ∷ xs) = ap (λ t. (32 ∷ f x) ++ t) (spaced-map f xs)

-- numbers with commas between them are the first and the others behind commas
joined_by_commas : (x : List ℕ) (ns : List ℕ) → x ++ flat_map (λ n. 44 ∷ decimal n) ns ≡ join_with_byte 44 (x ∷ map decimal ns)
joined_by_commas x [] = append-nil x
joined_by_commas x (n ∷ ns) = ap (λ t. x ++ 44 ∷ t) (joined_by_commas (decimal n) ns)

-- a vector is its first number and the others behind commas
pub vector_is : (ns : List ℕ) → 1 ≤ length ns
    → decimal (get_or ns 0 0) ++ flat_map (λ n. 44 ∷ decimal n) (take (length ns - 1) (drop 1 ns)) ≡ vector_text ns
vector_is [] some = absurd (omega arith)
vector_is (n ∷ ns) some =
    ap (λ t. decimal n ++ flat_map (λ n. 44 ∷ decimal n) t) (take_all (length (n ∷ ns) - 1) ns (omega arith)) ∙ joined_by_commas (decimal n) ns

-- each of some fields is shown
pub shown_at : (input : Input) (fields : List Field) (i : ℕ) (d : Field) → i < length fields → AreShown input fields
    → IsFieldSound input (get_or fields i d)
shown_at input [] i d below shown = absurd (omega arith)
shown_at input (f ∷ fs) zero d below shown = shown.0
shown_at input (f ∷ fs) (suc i) d below shown = shown_at input fs i d (omega arith) shown.1

-- a word and then fields
pub words_put : {E : Type 0} {a b c : WriterData} (word : List ℕ) (fields : List (List ℕ)) (r : Result (Unit {0}) E)
    → PutsPiece {E = E} a b word (Ok tt) → PutsText {E = E} b c (spaced fields) r
    → PutsText {E = E} a c (join_with_byte 32 (word ∷ fields)) r
words_put word fields r first then =
    puts_same (sym (joined_is_spaced word fields)) (puts_then r (record { ok = first.ok; err = tt; fits = λ _. refl; room = first.room }) then)

-- the fields of a line, the last of which are those of a list
pub line_put : {E : Type 0} {a b c : WriterData} {text : List ℕ} (word : List ℕ) (fields list : List (List ℕ)) (r : Result (Unit {0}) E)
    → join_with_byte 32 (word ∷ (fields ++ list)) ≡ text
    → PutsText {E = E} a b (join_with_byte 32 (word ∷ fields)) (Ok tt) → PutsText {E = E} b c (spaced list) r → PutsText {E = E} a c text r
line_put word fields list r same first then = puts_same (joined_then word fields list ∙ same) (puts_then r first then)

-- where the word and the fields weren't put whole, neither was the line
pub line_broken : {E : Type 0} {a b : WriterData} {text : List ℕ} (word : List ℕ) (fields list : List (List ℕ)) (e : E) (r : Result (Unit {0}) E)
    → IsErr r → join_with_byte 32 (word ∷ (fields ++ list)) ≡ text
    → PutsText {E = E} a b (join_with_byte 32 (word ∷ fields)) (Err e) → PutsText {E = E} a b text r
line_broken word fields list e r is same first =
    puts_broken e r is (puts_same (joined_then word fields list ∙ same) (puts_front (spaced list) e first))
