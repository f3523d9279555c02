-- The fields of a list, and those of each of its items.
use Rattle.std.proofs.Common.{◌≡◌, ℕ, ◌<◌, List, [], ◌∷◌, ◌++◌, length, map, refl, sym, ap, ◌∙◌, append-nil, arith, codes, decimal}
use Rattle.std.specs.List.{flat_map}
use Rattle.sm_instance.specs.declared.inputs.Input.{Input}
use Rattle.sm_report.specs.declared.lines.Seat.{Seat}
use Rattle.sm_report.specs.declared.items.Items.{Items}
use Rattle.sm_report.specs.declared.items.Items.TheVariants.{Lefts, Seats, Pairs, Numbers, Figures}
use Rattle.sm_report.specs.Texts.{left_name, seat_text, listed, seated_pairs}
use Rattle.sm_report.specs.Fields.{spaced}
use Rattle.sm_report.specs.Items.{fields_of_items, each_of}
use Rattle.sm_report.proofs.PutLemmas.{spaced-append}

-- where a list is empty there is one field
listed-none : {X : Type 0} (f : X → List ℕ) (xs : List X) → length (map (λ x. f x ∷ []) xs) ≡ 0 → listed (map f xs) ≡ codes "-" ∷ []
listed-none f [] none = refl
listed-none f (x ∷ xs) none = absurd (omega arith)

seated_pairs-none : (input : Input) (list : List (ℕ × Seat)) → length (map (λ (pair : ℕ × Seat). left_name input pair.0 ∷ seat_text input pair.1 ∷ []) list) ≡ 0
    → seated_pairs input list ≡ codes "-" ∷ []
seated_pairs-none input [] none = refl
seated_pairs-none input (x ∷ xs) none = absurd (omega arith)

-- and so for each kind of list
pub fields_of_items-none : (input : Input) (items : Items) → length (each_of input items) ≡ 0 → fields_of_items input items ≡ codes "-" ∷ []
fields_of_items-none input (Lefts list) none = listed-none (left_name input) list.now none
fields_of_items-none input (Seats list) none = listed-none (seat_text input) list.now none
fields_of_items-none input (Pairs list) none = seated_pairs-none input list.now none
fields_of_items-none input (Numbers list) none = listed-none decimal list.now none
fields_of_items-none input (Figures list) none = listed-none decimal list.now none

-- where a list isn't empty its fields are those of each item
flat_map-singles : {X : Type 0} (f : X → List ℕ) (xs : List X) → flat_map spaced (map (λ x. f x ∷ []) xs) ≡ spaced (map f xs)
flat_map-singles f [] = refl
flat_map-singles f (x ∷ xs) =
    ap (λ t. t ++ flat_map spaced (map (λ y. f y ∷ []) xs)) (append-nil (32 ∷ f x)) ∙ ap (λ t. (32 ∷ f x) ++ t) (flat_map-singles f xs)

listed-singles : {X : Type 0} (f : X → List ℕ) (xs : List X) → 0 < length (map (λ x. f x ∷ []) xs)
    → flat_map spaced (map (λ x. f x ∷ []) xs) ≡ spaced (listed (map f xs))
listed-singles f [] some = absurd (omega arith)
listed-singles f (x ∷ xs) some = flat_map-singles f (x ∷ xs)

flat_map-pieces : {X : Type 0} (g : X → List (List ℕ)) (xs : List X) → flat_map spaced (map g xs) ≡ spaced (flat_map g xs)
flat_map-pieces g [] = refl
flat_map-pieces g (x ∷ xs) = ap (λ t. spaced (g x) ++ t) (flat_map-pieces g xs) ∙ sym (spaced-append (g x) (flat_map g xs))

seated_pairs-pieces : (input : Input) (list : List (ℕ × Seat)) → (let g = λ (pair : ℕ × Seat). left_name input pair.0 ∷ seat_text input pair.1 ∷ [] in
    0 < length (map g list) → flat_map spaced (map g list) ≡ spaced (seated_pairs input list))
seated_pairs-pieces input [] some = absurd (omega arith)
seated_pairs-pieces input (pair ∷ list) some = flat_map-pieces (λ (pair : ℕ × Seat). left_name input pair.0 ∷ seat_text input pair.1 ∷ []) (pair ∷ list)

-- and so for each kind of list
pub flat_map-each_of : (input : Input) (items : Items) → 0 < length (each_of input items) → flat_map spaced (each_of input items) ≡ spaced (fields_of_items input items)
flat_map-each_of input (Lefts list) some = listed-singles (left_name input) list.now some
flat_map-each_of input (Seats list) some = listed-singles (seat_text input) list.now some
flat_map-each_of input (Pairs list) some = seated_pairs-pieces input list.now some
flat_map-each_of input (Numbers list) some = listed-singles decimal list.now some
flat_map-each_of input (Figures list) some = listed-singles decimal list.now some
