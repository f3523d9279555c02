-- The names of a list, as they stand on a line.
use Rattle.std.proofs.Common.{◌≡◌, ◌≢◌, ℕ, ◌+◌, ◌<◌, ◌≤◌, Bool, true, false, List, [], ◌∷◌, ◌++◌, length, get_or, take, drop, set, refl, sym, ap, subst, inl, inr, ◌∙◌, arith}
use Rattle.std.specs.List.{list_any, list_all}
use Rattle.std.specs.Str.{bytes_eq}
use Rattle.std.proofs.lemmas.Bool.{false≢true}
use Rattle.std.proofs.lemmas.List.{take_more, take_all, length-set, length-drop, get_or-drop, drop-drop}
use Rattle.std.proofs.lemmas.List.Folds.{list_all-append}
use Rattle.sm_text.specs.Name.{is_name}
use Rattle.sm_text.specs.Tokens.{tokens}
use Rattle.sm_keys.specs.Tables.{Table, IsTable, Extends, IsStamped, text_at}
use Rattle.sm_keys.specs.Lines.{IsNameAt, IsListingLine, ListsLineFurther, KeepsNames, AreListed, FindsLine, ListsLine}
use Rattle.sm_keys.proofs.TableLemmas.{cases_eq, interned_at, stamped_new}
use Rattle.sm_keys.proofs.ListingLemmas.{extends_twice, listing_none, listing_more, listing_all, restamped}

-- no name of a line
pub line_none : (t : Table) (line : List ℕ) (stamp : ℕ) → ((k : ℕ) → get_or t.stamps k 0 < stamp) → IsListingLine t t line 0 stamp 0 []
line_none t line stamp fresh = record { listing = listing_none t (tokens line) stamp fresh; left = refl; names = refl }

module _ (line name : List ℕ) (at next i : ℕ) (left : drop i (tokens line) ≡ tokens (drop at line)) (leads : tokens (drop at line) ≡ name ∷ tokens (drop next line)) where
  -- the next token is among all
  pub token_inside : i < length (tokens line)
  token_inside = omega (arith, length-drop i (tokens line), ap length (left ∙ leads))

  pub token_here : get_or (tokens line) i [] ≡ name
  token_here =
      (let e : i ≡ i + 0 = omega arith in ap (λ n. get_or (tokens line) n []) e) ∙ sym (get_or-drop i (tokens line) 0 []) ∙ ap (λ ts. get_or ts 0 []) (left ∙ leads)

  -- the tokens behind it
  pub tokens_left : drop (i + 1) (tokens line) ≡ tokens (drop next line)
  tokens_left = sym (drop-drop 1 i (tokens line)) ∙ ap (drop 1) (left ∙ leads)

  -- a further name
  pub names_more : list_all is_name (take i (tokens line)) ≡ true → is_name name ≡ true → list_all is_name (take (i + 1) (tokens line)) ≡ true
  names_more names is =
      ap (list_all is_name) (take_more (tokens line) i [] token_inside ∙ ap (λ x. take i (tokens line) ++ x ∷ []) token_here)
      ∙ list_all-append is_name (take i (tokens line)) (name ∷ []) ∙ rw (names, is) refl

-- one more name of a line is listed
pub line_more : (first now new : Table) (line : List ℕ) (at next stamp i : ℕ) (indexes : List ℕ) (name : List ℕ) (index : ℕ) → 0 < stamp → IsListingLine first now line at stamp i indexes
    → tokens (drop at line) ≡ name ∷ tokens (drop next line) → is_name name ≡ true → IsStamped now new name stamp index
    → IsListingLine first new line next stamp (i + 1) (indexes ++ index ∷ [])
line_more first now new line at next stamp i indexes name index some so_far leads is met =
    let inside = token_inside line name at next i so_far.left leads in
    let here = token_here line name at next i so_far.left leads in
    record {
      listing = listing_more first now new (tokens line) stamp i indexes name some so_far.listing inside here index met;
      left = tokens_left line name at next i so_far.left leads;
      names = names_more line name at next i so_far.left leads so_far.names is;
    }

-- other blanks before the next token
pub line_moved : (first now : Table) (line : List ℕ) (at next stamp i : ℕ) (indexes : List ℕ) → IsListingLine first now line at stamp i indexes → tokens (drop next line) ≡ tokens (drop at line)
    → IsListingLine first now line next stamp i indexes
line_moved first now line at next stamp i indexes so_far same = record { listing = so_far.listing; left = so_far.left ∙ sym same; names = so_far.names }

-- all names of a line are listed
pub line_all : (first now : Table) (line : List ℕ) (at stamp i : ℕ) (indexes : List ℕ) → IsListingLine first now line at stamp i indexes → tokens (drop at line) ≡ []
    → AreListed first now (tokens line) stamp indexes
line_all first now line at stamp i indexes so_far over =
    let past : length (tokens line) ≤ i = omega (arith, length-drop i (tokens line), ap length (so_far.left ∙ over)) in
    record {
      listed = listing_all first now (tokens line) stamp i indexes so_far.listing past;
      are_names = ap (list_all is_name) (sym (take_all i (tokens line) past)) ∙ so_far.names;
    }

-- some are
pub line_some : (first now new : Table) (line : List ℕ) (at stamp i : ℕ) (indexes : List ℕ) → IsListingLine first now line at stamp i indexes → (indexes ≡ [] → i ≡ 0)
    → Extends now.texts new.texts → new.declared ≡ now.declared → ((k : ℕ) → get_or new.stamps k 0 ≡ get_or now.stamps k 0) → KeepsNames first new stamp indexes
line_some first now new line at stamp i indexes so_far empty more declared stamps = record {
  extends = extends_twice first.texts now.texts new.texts so_far.listing.extends more;
  declared = declared ∙ so_far.listing.declared;
  stamps = λ k. omega (arith, stamps k, so_far.listing.stamps k);
  fresh = λ none k. by_test k (empty none) so_far.listing.stamped;
}
  where
    by_test : (k : ℕ) → i ≡ 0 → ((j : ℕ) → get_or now.stamps j 0 ≡ stamp → list_any (bytes_eq (text_at now.texts j)) (take i (tokens line)) ≡ true) → get_or new.stamps k 0 < stamp
    by_test k none stamped = elim (cases_eq (get_or now.stamps k 0) stamp) [
      | inl same ↦ absurd (false≢true (ap (λ n. list_any (bytes_eq (text_at now.texts k)) (take n (tokens line))) (sym none) ∙ stamped k same))
      | inr other ↦ omega (arith, stamps k, so_far.listing.stamps k, other)
    ]

module _ (texts : List (List ℕ)) (old : List ℕ) (line : List ℕ) (stamp from start : ℕ) (before : List ℕ) where
  -- one more name is listed
  pub line_further : (now : List ℕ) (at next i : ℕ) (indexes : List ℕ) (index : ℕ) → ListsLineFurther texts old now line stamp from at start i before indexes → 0 < stamp
      → IsNameAt texts line at index next → get_or now index 0 ≢ stamp → ListsLineFurther texts old (set now index stamp) line stamp from next start (i + 1) before (indexes ++ index ∷ [])
  line_further now at next i indexes index so_far some here unstamped = record {
    each = length-set now index stamp ∙ so_far.each;
    further = λ first t table names stamps listing.
        let mid : Table = record t { stamps = now } in
        let new : Table = record t { stamps = set now index stamp } in
        let sound : IsTable mid = restamped t now table (so_far.each ∙ ap length (sym stamps)) in
        let within : index < length t.texts = omega (arith, here.in_range, ap length names) in
        let name = text_at texts index in
        let named : text_at t.texts index ≡ name = ap (λ x. text_at x index) names in
        let met : IsStamped mid new name stamp index = stamped_new mid mid new name stamp index (interned_at mid name index sound within named) unstamped refl refl refl refl in
        line_more first mid new line at next stamp i indexes name index some (so_far.further first t table names stamps listing) here.leads here.is_name met;
  }

-- no name has a stamp any more
pub line_forgotten : (old mid new : Table) (entries : List (List ℕ)) (stamp : ℕ) (all : Bool) (indexes : List ℕ) → all ≡ false → 0 < stamp → FindsLine old mid entries stamp all indexes
    → new.texts ≡ mid.texts → new.declared ≡ mid.declared → ((k : ℕ) → get_or new.stamps k 0 ≡ 0) → ListsLine old new entries stamp all indexes
line_forgotten old mid new entries stamp true indexes e some keeps texts declared zero = absurd (false≢true (sym e))
line_forgotten old mid new entries stamp false indexes e some keeps texts declared zero = record {
  extends = subst (Extends old.texts) (sym texts) keeps.extends;
  declared = declared ∙ keeps.declared;
  fresh = λ k. omega (arith, zero k, some);
}
