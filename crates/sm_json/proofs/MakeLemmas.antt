-- Values that are made one after another.
use Rattle.std.proofs.Common.{◌≡◌, ◌≢◌, ℕ, zero, suc, ◌+◌, ◌<◌, ◌≤◌, ◌==◌, Bool, true, false, ◌&&◌, ◌||◌, nat_le, List, [], ◌∷◌, ◌++◌, length, map, take, get_or, All, Vec, Global, IsUtf8, IsAscii, refl, sym, ap, ◌∙◌, subst, arith, eqb-true, leb-true, codes, Option, Some, None, if◌then◌else◌, ℤ, pos, negsuc, w64, Result, Ok, Err, OnOk, IfOk}
use Rattle.std.specs.Int.RustNames.{unsigned_abs, FitsSigned}
use Rattle.std.specs.List.{list_all, zip}
use Rattle.std.proofs.lemmas.Slice.Zip.{length-zip, get_or-zip}
use Rattle.std.specs.declared.alloc.AllocError.{AllocError}
use Rattle.std.proofs.lemmas.List.{take_all, map_more, get_or_default, length-map}
use Rattle.std.proofs.lemmas.Str.{IsUtf8-from_ascii}
use Rattle.sm_text.specs.Limits.{most_weight}
use Rattle.sm_text.specs.Name.{begins_name, is_digit, is_letter, is_name, is_name_byte}
use Rattle.sm_lists.proofs.BoolLemmas.{first_true, second_true}
use Rattle.sm_report.proofs.FieldInverses.{name_bytes}
use Rattle.serde_json.specs.Data.{Data, number, string, array, object, Members, no_members, member, put}
use Rattle.serde_json.specs.Find.{of_integer}
use Rattle.serde_json.specs.View.{view, items_of}
use Rattle.serde_json.specs.declared.value.Value.{Value, Array}
use Rattle.serde_json.proofs.Views.{view-Array}
use Rattle.sm_agents.specs.Written.{AgentData, Written, weighed}
use Rattle.sm_agents.specs.Vectors.{agent_of, agents_of}
use Rattle.sm_agents.specs.declared.agents.Agent.{Agent}
use Rattle.sm_agents.specs.Sound.{IsInstance, AreSoundAgents, AreSoundEntries, IsPairOf}
use Rattle.sm_agents.specs.Named.{SaidPair, SaidWeight, SaidOrder}
use Rattle.sm_agents.specs.declared.kinds.Kind.{Kind}
use Rattle.sm_json.specs.Parts.{has_capacities}
use Rattle.sm_agents.specs.Nonzero.{is_zero}
use Rattle.sm_agents.proofs.NonzeroLemmas.{zero_is}
use Rattle.sm_instance_lines.proofs.ItemLemmas.{weight_there, force_there, forbid_there}
use Rattle.sm_instance_lines.specs.Names.{said_agent, said_pair, said_weight}
use Rattle.sm_json.specs.Making.{array_of, agent_json, pair_json, weight_json, with_order, two_json, said_by, put_if, put_order, sides_put, conditions_put, unless_empty, AreNamed, AreListed, AreAllListed}
use Rattle.sm_agents.specs.Kinds.{kind_name}
use Rattle.sm_agents.proofs.AgentLemmas.{agent_here}

map_joined : {A B : Type 0} (f : A → B) (xs ys : List A) → map f (xs ++ ys) ≡ map f xs ++ map f ys
map_joined f [] ys = refl
map_joined f (x ∷ xs) ys = ap (λ t. f x ∷ t) (map_joined f xs ys)

-- the values of some items, and that of the next
module _ {A : Type 0} (f : A → Data) where
  pub made_more : (all : List A) (i : ℕ) (x : A) (made new : List Value) (v : Value) → i < length all → x ≡ get_or all i x
      → map view made ≡ map f (take i all) → view v ≡ f x → new ≡ made ++ v ∷ [] → map view new ≡ map f (take (i + 1) all)
  made_more all i x made new v below is so_far here grown =
      ap (map view) grown ∙ map_joined view made (v ∷ []) ∙ ap (λ t. t ++ view v ∷ []) so_far ∙ ap (λ d. map f (take i all) ++ d ∷ []) (here ∙ ap f is)
      ∙ sym (map_more f all i x below)

  -- all values are those of an array
  pub made_all : (all : List A) (i : ℕ) (made : Vec Value Global) → length all ≤ i → map view made.items ≡ map f (take i all) → view (Array made) ≡ array_of f all
  made_all all i made over so_far = view-Array made ∙ ap (λ ds. array (items_of ds)) (so_far ∙ ap (map f) (take_all i all over))

-- one more value behind some
pub pushed : (items new : List Value) (v : Value) (ds : List Data) (d : Data) → map view items ≡ ds → view v ≡ d → new ≡ items ++ v ∷ [] → map view new ≡ ds ++ d ∷ []
pushed items new v ds d so_far is grown = ap (map view) grown ∙ map_joined view items (v ∷ []) ∙ ap (λ t. t ++ view v ∷ []) so_far ∙ ap (λ e. ds ++ e ∷ []) is

-- the array of some values
pub array_made : (made : Vec Value Global) (ds : List Data) → map view made.items ≡ ds → view (Array made) ≡ array (items_of ds)
array_made made ds so_far = view-Array made ∙ ap (λ xs. array (items_of xs)) so_far

-- items that are made of others
pub array_through : {A B : Type 0} (f : B → Data) (g : A → B) (xs : List A) → array_of (λ x. f (g x)) xs ≡ array_of f (map g xs)
array_through f g xs = ap (λ ds. array (items_of ds)) (through xs) where
  through : (ys : List _) → map (λ x. f (g x)) ys ≡ map f (map g ys)
  through [] = refl
  through (y ∷ ys) = ap (λ t. f (g y) ∷ t) (through ys)

-- a name is UTF-8
upto : (low high b : ℕ) → high ≤ 127 → (nat_le low b && nat_le b high) ≡ true → b < 128
upto low high b most h = let below = leb-true b high (second_true (nat_le low b) (nat_le b high) h) in omega (arith, below, most)

same_small : (b c : ℕ) → c < 128 → (b == c) ≡ true → b < 128
same_small b c small h = let e = eqb-true b c h in omega (arith, e, small)

one_of : {X : Type 0} (s t : Bool) → (s ≡ true → X) → (t ≡ true → X) → (s || t) ≡ true → X
one_of true t left right h = left refl
one_of false t left right h = right h

name_byte_small : (b : ℕ) → is_name_byte b ≡ true → b < 128
unfolding is_name_byte begins_name
name_byte_small b e =
    one_of ((is_letter b || is_digit b || b == 95) || b == 46) (b == 45)
    (one_of (is_letter b || is_digit b || b == 95) (b == 46)
    (one_of (is_letter b || is_digit b) (b == 95)
    (one_of (is_letter b) (is_digit b)
    (one_of (nat_le 65 b && nat_le b 90) (nat_le 97 b && nat_le b 122) (upto 65 90 b (omega arith)) (upto 97 122 b (omega arith)))
    (upto 48 57 b (omega arith)))
    (same_small b 95 (omega arith))) (same_small b 46 (omega arith))) (same_small b 45 (omega arith)) e

ascii_name : (s : List ℕ) → list_all is_name_byte s ≡ true → IsAscii s
ascii_name [] h i = omega arith
ascii_name (b ∷ s) h zero = name_byte_small b (first_true (is_name_byte b) (list_all is_name_byte s) h)
ascii_name (b ∷ s) h (suc i) = ascii_name s (second_true (is_name_byte b) (list_all is_name_byte s) h) i

pub name_utf8 : (s : List ℕ) → is_name s ≡ true → IsUtf8 s
name_utf8 s h = IsUtf8-from_ascii s (ascii_name s (name_bytes s h))

-- members put one after another
abbrev pub put_all : Members → Members → Members
put_all no_members found = found
put_all (member k d ms) found = put_all ms (put k d found)

-- the members of an instance stand in the order of their names, whether they are put from the last or from the first
pub members_ordered : (kind left right : Data) (weights : List SaidWeight) (forced forbidden : List SaidPair) (order : Option SaidOrder)
    → let ms : Members = unless_empty (codes "forbidden") pair_json forbidden (unless_empty (codes "forced") pair_json forced
    (member (codes "kind") kind (with_order order (member (codes "proposers") left (member (codes "reviewers") right (unless_empty (codes "weights") weight_json weights no_members)))))) in
    (put_if (codes "forbidden") pair_json forbidden (put_if (codes "forced") pair_json forced (put_order order
    (put (codes "kind") kind (put (codes "proposers") left (put (codes "reviewers") right (put_if (codes "weights") weight_json weights no_members)))))) ≡ ms)
    × (put_all ms no_members ≡ ms)
members_ordered kind left right [] [] [] None = (refl, refl)
members_ordered kind left right [] [] [] (Some o) = (refl, refl)
members_ordered kind left right [] [] (z ∷ zs) None = (refl, refl)
members_ordered kind left right [] [] (z ∷ zs) (Some o) = (refl, refl)
members_ordered kind left right [] (y ∷ ys) [] None = (refl, refl)
members_ordered kind left right [] (y ∷ ys) [] (Some o) = (refl, refl)
members_ordered kind left right [] (y ∷ ys) (z ∷ zs) None = (refl, refl)
members_ordered kind left right [] (y ∷ ys) (z ∷ zs) (Some o) = (refl, refl)
members_ordered kind left right (x ∷ xs) [] [] None = (refl, refl)
members_ordered kind left right (x ∷ xs) [] [] (Some o) = (refl, refl)
members_ordered kind left right (x ∷ xs) [] (z ∷ zs) None = (refl, refl)
members_ordered kind left right (x ∷ xs) [] (z ∷ zs) (Some o) = (refl, refl)
members_ordered kind left right (x ∷ xs) (y ∷ ys) [] None = (refl, refl)
members_ordered kind left right (x ∷ xs) (y ∷ ys) [] (Some o) = (refl, refl)
members_ordered kind left right (x ∷ xs) (y ∷ ys) (z ∷ zs) None = (refl, refl)
members_ordered kind left right (x ∷ xs) (y ∷ ys) (z ∷ zs) (Some o) = (refl, refl)

-- agents of an instance have names, and list agents
pub named : (agents : List AgentData) (single : Bool) → AreSoundAgents agents single → AreNamed agents
named agents single sound a below = (sound.sound a below).name

pub all_listed : (agents : List AgentData) (others : ℕ) → AreSoundEntries agents others → AreAllListed agents others
all_listed agents others sound a below i within = (sound.sound a i within).in_range

pub item_named : (agents : List Agent) (i : ℕ) (x : Agent) → AreNamed (agents_of agents) → i < length agents → x ≡ get_or agents i x → is_name x.name.items ≡ true
item_named agents i x names below is =
    subst (λ (a : AgentData). is_name a.name ≡ true) (agent_here agents i x below is) (names i (let e = length-map agents agent_of in omega (arith, e, below)))

pub item_listed : (agents : List Agent) (i others : ℕ) (x : Agent) → AreAllListed (agents_of agents) others → i < length agents → x ≡ get_or agents i x → AreListed x.entries.items others
item_listed agents i others x lists below is =
    subst (λ (a : AgentData). AreListed a.entries others) (agent_here agents i x below is) (lists i (let e = length-map agents agent_of in omega (arith, e, below)))

-- pairs of an instance are pairs of its agents
pub forced_there : (w : Written) → IsInstance w → All (IsPairOf (length w.proposers) (length w.reviewers)) w.forced
forced_there w sound n d below = subst (IsPairOf (length w.proposers) (length w.reviewers)) (get_or_default w.forced n (0, 0) d below) (force_there w sound.seconds_each sound w.forced refl n below)

pub forbidden_there : (w : Written) → IsInstance w → All (IsPairOf (length w.proposers) (length w.reviewers)) w.forbidden
forbidden_there w sound n d below = subst (IsPairOf (length w.proposers) (length w.reviewers)) (get_or_default w.forbidden n (0, 0) d below) (forbid_there w sound.seconds_each sound w.forbidden refl n below)

pub weights_there : (w : Written) → IsInstance w → All (λ (x : ℕ × ℕ × ℤ). IsPairOf (length w.proposers) (length w.reviewers) (weighed x)) w.weights
weights_there w sound n d below =
    subst (λ (x : ℕ × ℕ × ℤ). IsPairOf (length w.proposers) (length w.reviewers) (weighed x)) (get_or_default w.weights n (0, 0, pos 0) d below) (weight_there w sound.seconds_each sound w.weights refl n below)

-- what is put where there is something
pub put_made : {A : Type 0} (key : List ℕ) (f : A → Data) (xs : List A) (ms new : Members) (d : Data) (r : Result (Unit {0}) AllocError) → (xs ≡ [] → ⊥)
    → d ≡ array_of f xs → OnOk r (new ≡ put key d ms) → OnOk r (new ≡ put_if key f xs ms)
put_made key f [] ms new d r some is h = absurd (some refl)
put_made key f (x ∷ xs) ms new d (Ok done) some is h = h ∙ ap (λ y. put key y ms) is
put_made key f (x ∷ xs) ms new d (Err e) some is h = tt

pub some_mapped : {A B : Type 0} (f : A → B) (xs : List A) (t : Bool) → t ≡ (length xs == 0) → t ≡ false → map f xs ≡ [] → ⊥
some_mapped f [] t is none h = cc
some_mapped f (x ∷ xs) t is none h = cc

-- a result, where it is there
pub if_both : {T E : Type 0} (P Q R : T → Type 0) (r : Result T E) → IfOk r P → IfOk r Q → ((x : T) → P x → Q x → R x) → IfOk r R
if_both P Q R (Ok x) p q both = both x p q
if_both P Q R (Err e) p q both = tt

-- the members of an instance with two sides but for its conditions, put one after another
pub sides_are_put : (kind : Kind) (lefts rights : List AgentData) (weights : List ((ℕ × ℕ × ℤ) × ℤ)) (m0 m1 m2 m3 m4 : Members) (K P R : Data)
    → m0 ≡ no_members → m1 ≡ put_if (codes "weights") weight_json (map (said_weight lefts rights) weights) m0
    → R ≡ array_of (agent_json (has_capacities kind)) (map (said_agent lefts) rights) → m2 ≡ put (codes "reviewers") R m1
    → P ≡ array_of (agent_json false) (map (said_agent rights) lefts) → m3 ≡ put (codes "proposers") P m2
    → K ≡ string (kind_name kind) → m4 ≡ put (codes "kind") K m3
    → m4 ≡ sides_put kind lefts rights weights
sides_are_put kind lefts rights weights m0 m1 m2 m3 m4 K P R e0 e1 v2 e2 v3 e3 v4 e4 = rw (e4, e3, e2, e1, e0, v4, v3, v2) refl

-- with the order and the conditions they are those of the value
pub conditions_are_put : (kind : Kind) (lefts rights : List AgentData) (weights : List ((ℕ × ℕ × ℤ) × ℤ)) (forced forbidden : List (ℕ × ℕ)) (order : Option SaidOrder) (ms : Members)
    → ms ≡ put_order order (sides_put kind lefts rights weights)
    → object (conditions_put lefts rights forced forbidden ms) ≡ two_json kind (said_by lefts rights weights forced forbidden order)
conditions_are_put kind lefts rights weights forced forbidden order ms e =
    ap (λ m. object (conditions_put lefts rights forced forbidden m)) e
    ∙ ap object (members_ordered (string (kind_name kind)) (array_of (agent_json false) (map (said_agent rights) lefts))
    (array_of (agent_json (has_capacities kind)) (map (said_agent lefts) rights))
    (map (said_weight lefts rights) weights) (map (said_pair lefts rights) forced) (map (said_pair lefts rights) forbidden) order).0

-- as many seconds as weights
pub zip_long : {A B : Type 0} (xs : List A) (zs : List B) → length zs ≡ length xs → length (zip xs zs) ≡ length xs
zip_long xs zs each = let long = length-zip xs zs in omega (arith, long, each)

-- a weight of one number, and one of two
abbrev weight_items : SaidWeight → Bool → List Data
weight_items x t = string x.pair.proposer ∷ string x.pair.reviewer ∷ number (of_integer x.weight) ∷ (if t then [] else number (of_integer x.second) ∷ [])

pub one_number : (x : SaidWeight) → x.second ≡ pos 0 → array (items_of (string x.pair.proposer ∷ string x.pair.reviewer ∷ number (of_integer x.weight) ∷ [])) ≡ weight_json x
one_number x none = ap (λ z. array (items_of (weight_items x (is_zero z)))) (sym none)

pub two_numbers : (x : SaidWeight) → x.second ≢ pos 0
    → array (items_of (string x.pair.proposer ∷ string x.pair.reviewer ∷ number (of_integer x.weight) ∷ number (of_integer x.second) ∷ [])) ≡ weight_json x
two_numbers x isnt = by_test (is_zero x.second) refl
  where
    by_test : (t : Bool) → is_zero x.second ≡ t → array (items_of (weight_items x false)) ≡ array (items_of (weight_items x t))
    by_test true e = absurd (isnt (zero_is x.second e))
    by_test false e = refl

-- the values of weights beside their second weights, and that of the next
pub made_next : {A B : Type 0} (f : A × B → Data) (xs : List A) (zs : List B) (i : ℕ) (d : A) (e : B) (made new : List Value) (v : Value) → length zs ≡ length xs → i < length xs
    → map view made ≡ map f (take i (zip xs zs)) → view v ≡ f (get_or xs i d, get_or zs i e) → new ≡ made ++ v ∷ [] → map view new ≡ map f (take (i + 1) (zip xs zs))
made_next {A} {B} f xs zs i d e made new v each below so_far here grown =
    let within : i < length zs = omega (arith, each, below) in
    let inside : i < length (zip xs zs) = let long = zip_long xs zs each in omega (arith, long, below) in
    let both : A × B = get_or (zip xs zs) i (d, e) in
    made_more f (zip xs zs) i both made new v inside (get_or_default (zip xs zs) i (d, e) both inside) so_far (here ∙ ap f (sym (get_or-zip xs zs i (d, e) below within))) grown

-- a small number fits
pub small_fits : (z : ℤ) → unsigned_abs z ≤ most_weight → FitsSigned w64 z
small_fits (pos n) h = let l : n < 9223372036854775808 = omega (arith, h) in record { sfits = l }
small_fits (negsuc n) h = let l : n < 9223372036854775808 = omega (arith, h) in record { sfits = l }
