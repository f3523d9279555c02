-- A value in JSON whose compact text is read as the value.
use Rattle.std.proofs.Common.{◌≡◌, ℕ, ◌<◌, ◌≤◌, ◌^◌, suc, Bool, true, false, List, [], ◌∷◌, map, decimal, All, Some, IsUtf8, option_map, refl, sym, ap, ◌∙◌, arith, append-nil}
use Rattle.std.specs.Option.{option_and_then}
use Rattle.std.proofs.lemmas.Fmt.{IsAscii-decimal}
use Rattle.std.proofs.lemmas.List.Elements.{All-head, All-tail}
use Rattle.std.proofs.lemmas.Str.{IsUtf8-append, IsUtf8-nil, IsUtf8-from_ascii}
use Rattle.json.specs.Lex.{tokens}
use Rattle.json.specs.Json as json
use Rattle.json.specs.Print.{quoted}
use Rattle.json.specs.Tree as tree
use Rattle.json.specs.Tree.{HasNumbers, ItemsHaveNumbers, MembersHaveNumbers, json_tokens}
use Rattle.json.proofs.Printed.Decimals.{IsNumber-decimal}
use Rattle.json.proofs.Printed.Tokens.{tokens-print}
use Rattle.json.proofs.Printed.Trees.{value-json_tokens, ArePrintable-json_tokens}
use Rattle.json.proofs.Printed.Utf8.{IsUtf8-are_ascii, IsUtf8-quoted}
use Rattle.serde_json.specs.Data.{Data, null, boolean, number, unsigned, string, array, object, Items, no_items, item, Members, no_members, member, put, depth, items_depth, members_depth}
use Rattle.serde_json.specs.Read.{read, of_json, of_items, of_members, max_depth}
use Rattle.serde_json.specs.View.{items_of}
use Rattle.serde_json.specs.Written.{outline, items_outline, members_outline, comma_if, compact_text, items_text, members_text}
use Rattle.serde_json.proofs.Numbers.{number_of-decimal}
use Rattle.serde_json.proofs.Texts.{print-outline}
use Rattle.sm_json.specs.Making.{array_of}
use Rattle.sm_json.proofs.MakeLemmas.{put_all}

-- the outline of a value nests as deep as the value
mutual
  outline_depth : (d : Data) → tree.depth (outline d) ≡ depth d
  outline_depth null = refl
  outline_depth (boolean b) = refl
  outline_depth (number n) = refl
  outline_depth (string s) = refl
  outline_depth (array ds) = ap suc (items_outline_depth ds)
  outline_depth (object ms) = ap suc (members_outline_depth ms)

  items_outline_depth : (ds : Items) → tree.items_depth (items_outline ds) ≡ items_depth ds
  items_outline_depth no_items = refl
  items_outline_depth (item d ds) = rw (outline_depth d, items_outline_depth ds) refl

  members_outline_depth : (ms : Members) → tree.members_depth (members_outline ms) ≡ members_depth ms
  members_outline_depth no_members = refl
  members_outline_depth (member k d ms) = rw (outline_depth d, members_outline_depth ms) refl

-- a value whose text is read as the value
pub record IsRead (d : Data) : Type 0 where
  pub again : of_json (outline d) ≡ Some d
  pub numbers : HasNumbers (outline d)
  pub utf8 : IsUtf8 (compact_text d)

pub record AreRead (ds : Items) : Type 0 where
  pub again : of_items (items_outline ds) ≡ Some ds
  pub numbers : ItemsHaveNumbers (items_outline ds)
  pub utf8 : (later : Bool) → IsUtf8 (items_text later ds)

pub record AreMembersRead (ms : Members) : Type 0 where
  pub again : (found : Members) → of_members (members_outline ms) found ≡ Some (put_all ms found)
  pub numbers : MembersHaveNumbers (members_outline ms)
  pub utf8 : (later : Bool) → IsUtf8 (members_text later ms)

-- such a text is read
pub compact_read : (d : Data) → IsRead d → depth d ≤ max_depth → read (compact_text d) ≡ Some d
compact_read d is shallow =
    let j : json.Json = outline d in
    ap (λ t. option_and_then of_json (option_and_then (λ p. json.if_last p.0 p.1) (json.value max_depth t)))
    (ap tokens (sym (print-outline d)) ∙ tokens-print (json_tokens j) (ArePrintable-json_tokens j is.numbers) ∙ sym (append-nil (json_tokens j)))
    ∙ ap (λ v. option_and_then of_json (option_and_then (λ p. json.if_last p.0 p.1) v)) (value-json_tokens j max_depth [] (omega (arith, outline_depth d)))
    ∙ is.again

-- a comma
comma : (later : Bool) → IsUtf8 (comma_if later)
comma true = IsUtf8-are_ascii (44 ∷ []) refl
comma false = IsUtf8-nil

behind : (x : ℕ) (xs : List ℕ) → IsUtf8 (x ∷ []) → IsUtf8 xs → IsUtf8 (x ∷ xs)
behind x xs one more = IsUtf8-append (x ∷ []) xs one more

-- items
pub none_read : AreRead no_items
none_read = record { again = refl; numbers = tt; utf8 = λ later. IsUtf8-are_ascii (93 ∷ []) refl }

pub more_read : (d : Data) (ds : Items) → IsRead d → AreRead ds → AreRead (item d ds)
more_read d ds is are = record {
  again = ap (option_and_then (λ x. option_map (item x) (of_items (items_outline ds)))) is.again ∙ ap (option_map (item d)) are.again;
  numbers = (is.numbers, are.numbers);
  utf8 = λ later. IsUtf8-append (comma_if later) _ (comma later) (IsUtf8-append (compact_text d) _ is.utf8 (are.utf8 true));
}

pub array_read : (ds : Items) → AreRead ds → IsRead (array ds)
array_read ds are = record { again = ap (option_map array) are.again; numbers = are.numbers; utf8 = behind 91 _ (IsUtf8-are_ascii (91 ∷ []) refl) (are.utf8 false) }

all_read : {A : Type 0} (S : A → Type 0) (f : A → Data) → ((x : A) → S x → IsRead (f x)) → (xs : List A) → All S xs → AreRead (items_of (map f xs))
all_read S f each [] are = none_read
all_read S f each (x ∷ xs) are = more_read (f x) (items_of (map f xs)) (each x (All-head S x xs are)) (all_read S f each xs (All-tail S x xs are))

pub array_of_read : {A : Type 0} (S : A → Type 0) (f : A → Data) → ((x : A) → S x → IsRead (f x)) → (xs : List A) → All S xs → IsRead (array_of f xs)
array_of_read S f each xs are = array_read (items_of (map f xs)) (all_read S f each xs are)

-- members
pub no_members_read : AreMembersRead no_members
no_members_read = record { again = λ found. refl; numbers = tt; utf8 = λ later. IsUtf8-are_ascii (125 ∷ []) refl }

pub member_read : (k : List ℕ) (d : Data) (ms : Members) → IsUtf8 k → IsRead d → AreMembersRead ms → AreMembersRead (member k d ms)
member_read k d ms key is are = record {
  again = λ found. ap (option_and_then (λ x. of_members (members_outline ms) (put k x found))) is.again ∙ are.again (put k d found);
  numbers = (is.numbers, are.numbers);
  utf8 = λ later. IsUtf8-append (comma_if later) _ (comma later)
      (IsUtf8-append (quoted k) _ (IsUtf8-quoted k key) (behind 58 _ (IsUtf8-are_ascii (58 ∷ []) refl) (IsUtf8-append (compact_text d) _ is.utf8 (are.utf8 true))));
}

pub object_read : (ms : Members) → AreMembersRead ms → put_all ms no_members ≡ ms → IsRead (object ms)
object_read ms are ordered = record {
  again = ap (option_map object) (are.again no_members ∙ ap Some ordered);
  numbers = are.numbers;
  utf8 = behind 123 _ (IsUtf8-are_ascii (123 ∷ []) refl) (are.utf8 false);
}

-- strings and counts
pub string_read : (s : List ℕ) → IsUtf8 s → IsRead (string s)
string_read s utf8 = record { again = refl; numbers = tt; utf8 = IsUtf8-quoted s utf8 }

pub count_read : (n : ℕ) → n < 2 ^ 64 → IsRead (number (unsigned n))
count_read n small = record { again = ap (option_map number) (number_of-decimal n small); numbers = IsNumber-decimal n small; utf8 = IsUtf8-from_ascii (decimal n) (IsAscii-decimal n small) }
