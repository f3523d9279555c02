-- The text of an instance, part by part.
use Rattle.std.proofs.Common.{◌≡◌, ℕ, ℤ, ◌==◌, ◌||◌, Bool, true, false, List, [], ◌∷◌, ◌++◌, length, map, codes, Option, Some, None, is_some, option_map, unwrap_or, refl, sym, ap, ◌∙◌, append_assoc, append-nil}
use Rattle.std.specs.List.{flat_map, list_any}
use Rattle.std.specs.Option.{option_and_then}
use Rattle.std.specs.Str.{IsUtf8, is_utf8}
use Rattle.std.proofs.lemmas.Option.{same_Some, none-some}
use Rattle.std.proofs.lemmas.Str.{IsUtf8-from_is_utf8, is_utf8-from_IsUtf8}
use Rattle.serde_json.specs.Data.{Data}
use Rattle.serde_json.specs.Find.{get}
use Rattle.serde_json.specs.Read.{read}
use Rattle.sm_agents.specs.Named.{SaidAgent, SaidPair}
use Rattle.sm_agents.specs.declared.kinds.Kind.{Kind}
use Rattle.sm_agents.specs.declared.kinds.Kind.TheVariants.{Marriage, Hospitals, Roommates}
use Rattle.sm_report.specs.Fields.{spaced}
use Rattle.sm_answer.specs.Writing.{text_of}
use Rattle.sm_instance_lines.specs.Printed.{proposer_line, reviewer_line, force_line, forbid_line}
use Rattle.sm_json.specs.declared.agents.Role.TheVariants.{Proposer}
use Rattle.sm_json.specs.Values.{items_in, has_only, every, names_in, weight_in, if_so}
use Rattle.sm_json.specs.Parts.{JsonWeight, both_in, second_in, weight_of, weight_among, pair_weight_in, agents_in, pairs_in, weights_in, order_in, at, at_or, by_member, instance_of, of_parts, two_members, room_members, two_in, room_in, has_capacities}
use Rattle.sm_json.specs.JsonText.{is_second, json_header, json_lines, json_weight_line, order_lines, value_in}
use Rattle.sm_json.specs.Adding.{joined}
use Rattle.sm_json.specs.Roles.{with_end, agents_added, pairs_added, weights_added, order_added}
use Rattle.sm_json.specs.Reading.{instance_added, role_of, has_four, is_seconded, asks_second, items_added, two_added, room_added}

-- lines, and others behind them
mapped : {A : Type 0} (f : A → List ℕ) (xs : List A) (rest : List (List ℕ)) → text_of (map f xs ++ rest) ≡ flat_map (λ x. with_end (f x)) xs ++ text_of rest
mapped f [] rest = refl
mapped f (x ∷ xs) rest =
    ap (λ t. with_end (f x) ++ t) (mapped f xs rest) ∙ sym (append_assoc (with_end (f x)) (flat_map (λ x. with_end (f x)) xs) (text_of rest))

-- the last line
abbrev ending : List ℕ
ending = codes "end\n"

-- the texts of the parts
abbrev proposer_texts : List SaidAgent → List ℕ
proposer_texts p = flat_map (λ a. with_end (proposer_line a)) p

abbrev reviewer_texts : Kind → List SaidAgent → List ℕ
reviewer_texts kind r = flat_map (λ a. with_end (reviewer_line kind a)) r

abbrev weight_texts : List JsonWeight → List ℕ
weight_texts w = flat_map (λ x. with_end (json_weight_line x)) w

abbrev force_texts : List SaidPair → List ℕ
force_texts f = flat_map (λ x. with_end (force_line x)) f

abbrev forbid_texts : List SaidPair → List ℕ
forbid_texts b = flat_map (λ x. with_end (forbid_line x)) b

abbrev order_text : Option (List (List ℕ)) → List ℕ
order_text o = text_of (order_lines o)

order_end : (o : Option (List (List ℕ))) → text_of (order_lines o ++ codes "end" ∷ []) ≡ order_text o ++ ending
order_end None = refl
order_end (Some names) = ap (λ t. t ++ ending) (sym (append-nil (with_end (codes "order" ++ spaced names))))

-- one text behind three others
behind_three : (a b c d e : List ℕ) → a ++ (b ++ (c ++ (d ++ e))) ≡ (a ++ (b ++ (c ++ d))) ++ e
behind_three a b c d e =
    ap (λ t. a ++ (b ++ t)) (sym (append_assoc c d e)) ∙ ap (λ t. a ++ t) (sym (append_assoc b (c ++ d) e)) ∙ sym (append_assoc a (b ++ (c ++ d)) e)

items_text : (w : List JsonWeight) (f b : List SaidPair) (o : Option (List (List ℕ)))
    → text_of (map json_weight_line w ++ (map force_line f ++ (map forbid_line b ++ (order_lines o ++ codes "end" ∷ []))))
    ≡ (weight_texts w ++ (force_texts f ++ (forbid_texts b ++ order_text o))) ++ ending
items_text w f b o =
    mapped json_weight_line w _
    ∙ ap (λ t. weight_texts w ++ t) (mapped force_line f _ ∙ ap (λ t. force_texts f ++ t) (mapped forbid_line b _ ∙ ap (λ t. forbid_texts b ++ t) (order_end o)))
    ∙ behind_three (weight_texts w) (force_texts f) (forbid_texts b) (order_text o) ending

whole_text : (kind : Kind) (p r : List SaidAgent) (w : List JsonWeight) (f b : List SaidPair) (o : Option (List (List ℕ)))
    → text_of (json_lines (instance_of kind p r w f b o))
    ≡ with_end (json_header (is_second w o) kind) ++ (proposer_texts p ++ (reviewer_texts kind r ++ ((weight_texts w ++ (force_texts f ++ (forbid_texts b ++ order_text o))) ++ ending)))
whole_text kind p r w f b o =
    ap (λ t. with_end (json_header (is_second w o) kind) ++ t)
    (mapped proposer_line p _ ∙ ap (λ t. proposer_texts p ++ t) (mapped (reviewer_line kind) r _ ∙ ap (λ t. reviewer_texts kind r ++ t) (items_text w f b o)))

-- where a part isn't there the text isn't; else the header is that of the parts
chain : (kind : Kind) (second : Bool) (P R : Option (List SaidAgent)) (W : Option (List JsonWeight)) (F B : Option (List SaidPair)) (O : Option (Option (List (List ℕ))))
    → ((w : List JsonWeight) (o : Option (List (List ℕ))) → W ≡ Some w → O ≡ Some o → second ≡ is_second w o)
    → instance_added (of_parts kind P R W F B O)
    ≡ joined (Some (with_end (json_header second kind)))
    (joined (option_map proposer_texts P)
    (joined (option_map (reviewer_texts kind) R)
    (joined (joined (option_map weight_texts W) (joined (option_map force_texts F) (joined (option_map forbid_texts B) (option_map order_text O)))) (Some ending))))
chain kind second None R W F B O is = refl
chain kind second (Some p) None W F B O is = refl
chain kind second (Some p) (Some r) None F B O is = refl
chain kind second (Some p) (Some r) (Some w) None B O is = refl
chain kind second (Some p) (Some r) (Some w) (Some f) None O is = refl
chain kind second (Some p) (Some r) (Some w) (Some f) (Some b) None is = refl
chain kind second (Some p) (Some r) (Some w) (Some f) (Some b) (Some o) is = rw (is w o refl refl) (ap Some (whole_text kind p r w f b o))

-- an array of two names and weights has four items where it has a second weight
one_more : (second : Option ℤ) (pair : SaidPair) (first : ℤ) (x : JsonWeight) → option_map (weight_of pair first) (option_map Some second) ≡ Some x → true ≡ is_some x.second
one_more None pair first x e = absurd (none-some x e)
one_more (Some z) pair first x e = ap (λ (y : JsonWeight). is_some y.second) (same_Some _ _ e)

four_more : (p r d : Data) (pair : Option SaidPair) (first : Option ℤ) (more : List Data) (x : JsonWeight)
    → option_and_then (λ pair. option_and_then (λ w. option_map (weight_of pair w) (second_in more)) first) pair ≡ Some x
    → (length (p ∷ r ∷ d ∷ more) == 4) ≡ is_some x.second
four_more p r d None first more x e = absurd (none-some x e)
four_more p r d (Some pair) None more x e = absurd (none-some x e)
four_more p r d (Some pair) (Some first) [] x e = ap (λ (y : JsonWeight). is_some y.second) (same_Some _ _ e)
four_more p r d (Some pair) (Some first) (s ∷ []) x e = one_more (weight_in s) pair first x e
four_more p r d (Some pair) (Some first) (s ∷ t ∷ more) x e = absurd (none-some x e)

four_among : (ds : List Data) (x : JsonWeight) → weight_among ds ≡ Some x → (length ds == 4) ≡ is_some x.second
four_among [] x e = absurd (none-some x e)
four_among (p ∷ []) x e = absurd (none-some x e)
four_among (p ∷ r ∷ []) x e = absurd (none-some x e)
four_among (p ∷ r ∷ d ∷ more) x e = four_more p r d (both_in p r) (weight_in d) more x e

four_is : (items : Option (List Data)) (x : JsonWeight) → option_and_then weight_among items ≡ Some x → unwrap_or (option_map (λ ds. length ds == 4) items) false ≡ is_some x.second
four_is None x e = absurd (none-some x e)
four_is (Some ds) x e = four_among ds x e

-- and so one of an array of weights has
any_four : (ds : List Data) (ws : List JsonWeight) → every pair_weight_in ds ≡ Some ws → list_any has_four ds ≡ list_any (λ (w : JsonWeight). is_some w.second) ws
any_four [] ws e = ap (list_any (λ (w : JsonWeight). is_some w.second)) (same_Some _ _ e)
any_four (d ∷ ds) ws e = by_first (any_four ds) (pair_weight_in d) refl e
  where
    by_rest : ((xs : List JsonWeight) → every pair_weight_in ds ≡ Some xs → list_any has_four ds ≡ list_any (λ (w : JsonWeight). is_some w.second) xs)
        → (x : JsonWeight) (rest : Option (List JsonWeight)) → pair_weight_in d ≡ Some x → every pair_weight_in ds ≡ rest → option_map (λ xs. x ∷ xs) rest ≡ Some ws
        → list_any has_four (d ∷ ds) ≡ list_any (λ (w : JsonWeight). is_some w.second) ws
    by_rest again x None h k e = absurd (none-some ws e)
    by_rest again x (Some xs) h k e =
        ap (λ t. t || list_any has_four ds) (four_is (items_in d) x h)
        ∙ ap (λ t. is_some x.second || t) (again xs k)
        ∙ ap (list_any (λ (w : JsonWeight). is_some w.second)) (same_Some _ _ e)

    by_first : ((xs : List JsonWeight) → every pair_weight_in ds ≡ Some xs → list_any has_four ds ≡ list_any (λ (w : JsonWeight). is_some w.second) xs)
        → (first : Option JsonWeight) → pair_weight_in d ≡ first → option_and_then (λ x. option_map (λ xs. x ∷ xs) (every pair_weight_in ds)) first ≡ Some ws
        → list_any has_four (d ∷ ds) ≡ list_any (λ (w : JsonWeight). is_some w.second) ws
    by_first again None h e = absurd (none-some ws e)
    by_first again (Some x) h e = by_rest again x (every pair_weight_in ds) h refl e

seconded_is : (items : Option (List Data)) (w : List JsonWeight) → option_and_then (every pair_weight_in) items ≡ Some w
    → unwrap_or (option_map (list_any has_four) items) false ≡ list_any (λ (x : JsonWeight). is_some x.second) w
seconded_is None w e = absurd (none-some w e)
seconded_is (Some ds) w e = any_four ds w e

order_is : (names : Option (List (List ℕ))) (o : Option (List (List ℕ))) → option_map Some names ≡ Some o → true ≡ is_some o
order_is None o e = absurd (none-some o e)
order_is (Some names) o e = ap is_some (same_Some _ _ e)

-- what is looked for beforehand is what the parts ask for
second_is : (weights order : Option Data) (w : List JsonWeight) (o : Option (List (List ℕ))) → by_member [] weights_in weights ≡ Some w → by_member None order_in order ≡ Some o
    → asks_second weights order ≡ is_second w o
second_is weights (Some d) w o h e = ap (λ t. t || list_any (λ (x : JsonWeight). is_some x.second) w) (order_is (names_in d) o e)
second_is None None w o h e = rw (← same_Some _ _ h, ← same_Some _ _ e) refl
second_is (Some d) None w o h e = rw (← same_Some _ _ e) (seconded_is (items_in d) w h)

-- parts that may be missing
weights_same : (o : Option Data) → option_map weight_texts (by_member [] weights_in o) ≡ by_member [] weights_added o
weights_same None = refl
weights_same (Some d) = refl

forced_same : (o : Option Data) → option_map force_texts (by_member [] pairs_in o) ≡ by_member [] (pairs_added (codes "force ")) o
forced_same None = refl
forced_same (Some d) = refl

forbidden_same : (o : Option Data) → option_map forbid_texts (by_member [] pairs_in o) ≡ by_member [] (pairs_added (codes "forbid ")) o
forbidden_same None = refl
forbidden_same (Some d) = refl

order_names : (names : Option (List (List ℕ))) → option_map order_text (option_map Some names) ≡ option_map (λ ns. with_end (codes "order" ++ spaced ns)) names
order_names None = refl
order_names (Some ns) = ap Some (append-nil (with_end (codes "order" ++ spaced ns)))

order_same : (o : Option Data) → option_map order_text (by_member None order_in o) ≡ by_member [] order_added o
order_same None = refl
order_same (Some d) = order_names (names_in d)

joined_four : (w w' f f' b b' o o' : Option (List ℕ)) → w ≡ w' → f ≡ f' → b ≡ b' → o ≡ o' → joined w (joined f (joined b o)) ≡ joined w' (joined f' (joined b' o'))
joined_four w w' f f' b b' o o' hw hf hb ho = rw (hw, hf, hb, ho) refl

items_same : (d : Data)
    → joined (option_map weight_texts (by_member [] weights_in (get (codes "weights") d)))
    (joined (option_map force_texts (by_member [] pairs_in (get (codes "forced") d)))
    (joined (option_map forbid_texts (by_member [] pairs_in (get (codes "forbidden") d))) (option_map order_text (by_member None order_in (get (codes "order") d)))))
    ≡ items_added d
items_same d =
    joined_four _ _ _ _ _ _ _ _ (weights_same (get (codes "weights") d)) (forced_same (get (codes "forced") d)) (forbidden_same (get (codes "forbidden") d))
    (order_same (get (codes "order") d))

reviewers_same : (kind : Kind) (r : Data) → option_map (reviewer_texts kind) (agents_in (has_capacities kind) r) ≡ agents_added (role_of kind) r
reviewers_same Marriage r = refl
reviewers_same Hospitals r = refl
reviewers_same Roommates r = refl

in_place : (h p r r' i i' e : Option (List ℕ)) → r ≡ r' → i ≡ i' → joined h (joined p (joined r (joined i e))) ≡ joined h (joined p (joined r' (joined i' e)))
in_place h p r r' i i' e hr hi = rw (hr, hi) refl

parts_text : (kind : Kind) (d p r : Data)
    → instance_added (of_parts kind (agents_in false p) (agents_in (has_capacities kind) r)
    (by_member [] weights_in (get (codes "weights") d)) (by_member [] pairs_in (get (codes "forced") d)) (by_member [] pairs_in (get (codes "forbidden") d))
    (by_member None order_in (get (codes "order") d)))
    ≡ two_added kind d p r
parts_text kind d p r =
    chain kind (asks_second (get (codes "weights") d) (get (codes "order") d)) (agents_in false p) (agents_in (has_capacities kind) r)
    (by_member [] weights_in (get (codes "weights") d)) (by_member [] pairs_in (get (codes "forced") d)) (by_member [] pairs_in (get (codes "forbidden") d))
    (by_member None order_in (get (codes "order") d)) (second_is (get (codes "weights") d) (get (codes "order") d))
    ∙ in_place (Some (with_end (json_header (asks_second (get (codes "weights") d) (get (codes "order") d)) kind))) (agents_added Proposer p) _ _ _ _ (Some ending)
    (reviewers_same kind r) (items_same d)

pub two_text : (kind : Kind) (d p r : Data) → has_only two_members d ≡ true → Some p ≡ get (codes "proposers") d → Some r ≡ get (codes "reviewers") d
    → instance_added (two_in kind d) ≡ two_added kind d p r
two_text kind d p r only hp hr = rw (only, sym hp, sym hr) (parts_text kind d p r)

-- what is no such object has no text
pub two_none_only : (kind : Kind) (d : Data) → has_only two_members d ≡ false → instance_added (two_in kind d) ≡ None
two_none_only kind d only = rw only refl

pub two_none_left : (kind : Kind) (d : Data) → has_only two_members d ≡ true → get (codes "proposers") d ≡ None → instance_added (two_in kind d) ≡ None
two_none_left kind d only none = rw (only, none) refl

none_right : (kind : Kind) (P : Option (List SaidAgent)) (W : Option (List JsonWeight)) (F B : Option (List SaidPair)) (O : Option (Option (List (List ℕ))))
    → instance_added (of_parts kind P None W F B O) ≡ None
none_right kind None W F B O = refl
none_right kind (Some p) W F B O = refl

pub two_none_right : (kind : Kind) (d : Data) → has_only two_members d ≡ true → get (codes "reviewers") d ≡ None → instance_added (two_in kind d) ≡ None
two_none_right kind d only none = rw (only, none) (none_right kind (at (codes "proposers") (agents_in false) d)
    (at_or (codes "weights") [] weights_in d) (at_or (codes "forced") [] pairs_in d) (at_or (codes "forbidden") [] pairs_in d) (at_or (codes "order") None order_in d))

-- roommates
room_parts : (P : Option (List SaidAgent))
    → instance_added (option_map (λ persons. instance_of Roommates persons [] [] [] [] None) P)
    ≡ joined (Some (with_end (json_header false Roommates))) (joined (option_map proposer_texts P) (Some ending))
room_parts None = refl
room_parts (Some p) = ap (λ t. Some (with_end (json_header false Roommates) ++ t)) (mapped proposer_line p (codes "end" ∷ []))

pub room_text : (d p : Data) → has_only room_members d ≡ true → Some p ≡ get (codes "persons") d
    → instance_added (room_in d) ≡ room_added p
room_text d p only hp = rw (only, sym hp) (room_parts (agents_in false p))

pub room_none_only : (d : Data) → has_only room_members d ≡ false → instance_added (room_in d) ≡ None
room_none_only d only = rw only refl

pub room_none_left : (d : Data) → has_only room_members d ≡ true → get (codes "persons") d ≡ None → instance_added (room_in d) ≡ None
room_none_left d only none = rw (only, none) refl

-- the value of bytes
pub value_found : (bytes : List ℕ) (d : Data) → IsUtf8 bytes → read bytes ≡ Some d → value_in bytes ≡ Some d
value_found bytes d utf8 found = ap (λ t. if_so t (read bytes)) (is_utf8-from_IsUtf8 bytes utf8) ∙ found

refused_by : (t : Bool) (bytes : List ℕ) → is_utf8 bytes ≡ t → (IsUtf8 bytes → read bytes ≡ None) → if_so t (read bytes) ≡ None
refused_by true bytes utf8 refused = refused (IsUtf8-from_is_utf8 bytes utf8)
refused_by false bytes other refused = refl

pub value_refused : (bytes : List ℕ) → (IsUtf8 bytes → read bytes ≡ None) → value_in bytes ≡ None
value_refused bytes refused = refused_by (is_utf8 bytes) bytes refl refused

-- a text behind nothing
pub behind_nothing : (text : Option (List ℕ)) (holds : List ℕ) → option_map (λ t. [] ++ t) text ≡ Some holds → text ≡ Some holds
behind_nothing None holds h = h
behind_nothing (Some t) holds h = h
