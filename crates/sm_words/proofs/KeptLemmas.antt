-- The values that are kept are those that the words give.
use Rattle.std.proofs.Common.{◌≡◌, ℕ, Bool, true, false, cond, List, [], ◌∷◌, ◌++◌, Option, Some, None, option_map, refl, sym, ap, ◌∙◌, subst, codes}
use Rattle.std.specs.Prelude.{not, is_some, ◌&&◌}
use Rattle.std.specs.List.{list_all}
use Rattle.std.specs.Option.{option_and_then, option_map_or}
use Rattle.std.specs.Str.{bytes_eq}
use Rattle.std.proofs.lemmas.Bool.{false≢true, and_from}
use Rattle.std.proofs.lemmas.Option.{none-some, same_Some}
use Rattle.sm_lists.proofs.BoolLemmas.{first_true, second_true}
use Rattle.sm_report.specs.Meanings.{look_up, sides, measures, limit_named}
use Rattle.sm_report.specs.Vectors.{vector_in}
use Rattle.sm_report.proofs.HeadInverses.{EachRow, looked_up}
use Rattle.sm_report.proofs.InverseLemmas.{text_same}
use Rattle.sm_words.specs.declared.operands.Command.{Command}
use Rattle.sm_words.specs.declared.operands.Command.TheVariants as command
use Rattle.sm_words.specs.declared.operands.Operand.{Operand}
use Rattle.sm_words.specs.declared.operands.Operand.TheVariants as operand
use Rattle.sm_words.specs.Tables.{operands_of, is_value, shapes, shows, forms, size_named, seed_named}
use Rattle.sm_words.specs.Operands.{has_name, name_in, text_in, given_by, is_operand, may_follow}
use Rattle.sm_words.specs.Kept.{GivenData, ValueData, OfSide, OfAfter, OfLimit, OfBy, OfShape, OfSize, OfSeed, OfShow, OfForm, value_named, once, with_value, with_word, kept_from, kept_of}

-- of a word that is an operand of a command, the text is a value of the operand that has its name
name_known : (c : Command) (word name : List ℕ) (o : Operand) → is_operand c word ≡ true → bytes_eq name (name_in word) ≡ true → look_up (operands_of c) name ≡ Some o → is_value o (text_in word) ≡ true
name_known c word name o fits same is =
    let found : look_up (operands_of c) (name_in word) ≡ Some o = ap (look_up (operands_of c)) (sym (text_same name (name_in word) same)) ∙ is in
    by_name (has_name word) (look_up (operands_of c) (name_in word)) fits found where
      by_name : (t : Bool) (found : Option Operand) → (t && option_map_or (λ operand. is_value operand (text_in word)) found false) ≡ true → found ≡ Some o → is_value o (text_in word) ≡ true
      by_name false found fits e = absurd (false≢true fits)
      by_name true found fits e = ap (λ found. option_map_or (λ operand. is_value operand (text_in word)) found false) (sym e) ∙ fits

name_unknown : (c : Command) (word name : List ℕ) → is_operand c word ≡ true → bytes_eq name (name_in word) ≡ true → look_up (operands_of c) name ≡ None → ⊥
name_unknown c word name fits same is =
    let found : look_up (operands_of c) (name_in word) ≡ None = ap (look_up (operands_of c)) (sym (text_same name (name_in word) same)) ∙ is in
    by_name (has_name word) (look_up (operands_of c) (name_in word)) fits found where
      by_name : (t : Bool) (found : Option Operand) → (t && option_map_or (λ operand. is_value operand (text_in word)) found false) ≡ true → found ≡ None → ⊥
      by_name false found fits e = false≢true fits
      by_name true found fits e = false≢true (ap (λ found. option_map_or (λ operand. is_value operand (text_in word)) found false) (sym e) ∙ fits)

-- where all words are operands of a command, the text of a name is a value of the operand that has it
given_right : (c : Command) (name : List ℕ) (o : Operand) → look_up (operands_of c) name ≡ Some o → (words : List (List ℕ)) → list_all (is_operand c) words ≡ true → (text : List ℕ) → look_up (given_by words) name ≡ Some text → is_value o text ≡ true
given_right c name o is [] all text e = absurd (none-some text e)
given_right c name o is (word ∷ words) all text e =
    by_name (given_right c name o is words (second_true (is_operand c word) (list_all (is_operand c) words) all) text) (bytes_eq name (name_in word)) refl e where
      by_name : (look_up (given_by words) name ≡ Some text → is_value o text ≡ true) → (t : Bool) → bytes_eq name (name_in word) ≡ t → cond t (Some (text_in word)) (look_up (given_by words) name) ≡ Some text → is_value o text ≡ true
      by_name deep true same e = subst (λ t. is_value o t ≡ true) (same_Some _ _ e) (name_known c word name o (first_true (is_operand c word) (list_all (is_operand c) words) all) same is)
      by_name deep false other e = deep e

-- and a name that the command doesn't know has none
pub given_none : (c : Command) (name : List ℕ) → look_up (operands_of c) name ≡ None → (words : List (List ℕ)) → list_all (is_operand c) words ≡ true → look_up (given_by words) name ≡ None
given_none c name is [] all = refl
given_none c name is (word ∷ words) all =
    by_name (given_none c name is words (second_true (is_operand c word) (list_all (is_operand c) words) all)) (bytes_eq name (name_in word)) refl where
      by_name : look_up (given_by words) name ≡ None → (t : Bool) → bytes_eq name (name_in word) ≡ t → cond t (Some (text_in word)) (look_up (given_by words) name) ≡ None
      by_name deep true same = absurd (name_unknown c word name (first_true (is_operand c word) (list_all (is_operand c) words) all) same is)
      by_name deep false other = deep

-- the text of a name where one more is given
abbrev or_text : Option (List ℕ) → List ℕ → Option (List ℕ)
or_text None text = Some text
or_text (Some old) text = Some old

abbrev with_more : (List ℕ → Option (List ℕ)) → (name text : List ℕ) → List ℕ → Option (List ℕ)
with_more text_of name text n = cond (bytes_eq n name) (or_text (text_of n) text) (text_of n)

given_more : (words : List (List ℕ)) (word name : List ℕ) → look_up (given_by (words ++ word ∷ [])) name ≡ with_more (look_up (given_by words)) (name_in word) (text_in word) name
given_more [] word name = refl
given_more (w ∷ words) word name =
    by_name (bytes_eq name (name_in w)) (bytes_eq name (name_in word)) (given_more words word name) where
      by_name : {a : Option (List ℕ)} (t s : Bool) → a ≡ cond s (or_text (look_up (given_by words) name) (text_in word)) (look_up (given_by words) name)
          → cond t (Some (text_in w)) a ≡ cond s (or_text (cond t (Some (text_in w)) (look_up (given_by words) name)) (text_in word)) (cond t (Some (text_in w)) (look_up (given_by words) name))
      by_name true true e = refl
      by_name true false e = refl
      by_name false s e = e

kept_more : (words : List (List ℕ)) (word : List ℕ) → kept_of (words ++ word ∷ []) ≡ kept_from (with_more (look_up (given_by words)) (name_in word) (text_in word))
kept_more words word = λ i. kept_from (λ name. given_more words word name i)

-- One slot of what is kept: it takes a value where it has none.
module _ {X : Type 0} (g : GivenData) (of : X → ValueData) (read : List ℕ → Option X) (put : Option X → GivenData) (old : Option (List ℕ)) (text : List ℕ) where
  abbrev AfterSlot : Option X → Type 0
  AfterSlot new = option_and_then (λ value. with_value value g) (option_map of new) ≡ cond (is_some new && not (is_some old)) (Some (put (option_and_then read (or_text old text)))) None

  slot : ((v : X) → with_value (of v) g ≡ option_map put (once (option_and_then read old) v)) → ((t : List ℕ) → old ≡ Some t → is_some (read t) ≡ true) → AfterSlot (read text)
  slot puts right = by_value (read text) refl where
    by_old : (v : X) → read text ≡ Some v → (o : Option (List ℕ)) → ((t : List ℕ) → o ≡ Some t → is_some (read t) ≡ true)
        → option_map put (once (option_and_then read o) v) ≡ cond (not (is_some o)) (Some (put (option_and_then read (or_text o text)))) None
    by_old v is None right = ap (λ s. Some (put s)) (sym is)
    by_old v is (Some t) right = full (read t) (right t refl) where
      full : (s : Option X) → is_some s ≡ true → option_map put (once s v) ≡ None
      full None e = absurd (false≢true e)
      full (Some x) e = refl

    by_value : (new : Option X) → read text ≡ new → AfterSlot new
    by_value None is = refl
    by_value (Some v) is = puts v ∙ by_old v is old right

-- an operand by its name
abbrev name_of : Operand → List ℕ
name_of operand.Side = codes "side"
name_of operand.After = codes "after"
name_of operand.Limit = codes "limit"
name_of operand.By = codes "by"
name_of operand.Shape = codes "shape"
name_of operand.Size = codes "size"
name_of operand.Seed = codes "seed"
name_of operand.Show = codes "show"
name_of operand.Form = codes "form"

abbrev IsNamed : List ℕ → Operand → Type 0
IsNamed name o = name ≡ name_of o

all_named : (c : Command) → EachRow IsNamed (operands_of c)
all_named command.Solve = (refl, (refl, tt))
all_named command.Reduced = (refl, tt)
all_named command.Rotations = (refl, tt)
all_named command.List = (refl, (refl, (refl, tt)))
all_named command.Pairs = (refl, tt)
all_named command.Regret = (refl, tt)
all_named command.Weight = (refl, (refl, tt))
all_named command.Meet = tt
all_named command.Join = tt
all_named command.Survey = (refl, (refl, tt))
all_named command.Check = tt
all_named command.Make = (refl, (refl, (refl, (refl, tt))))
all_named command.Rest = tt
all_named command.Median = tt
all_named command.Route = tt
all_named command.Export = tt

-- one value more, by its operand
module _ (text_of : List ℕ → Option (List ℕ)) (text : List ℕ) where
  abbrev kept : GivenData
  kept = kept_from text_of

  operand_taken : (o : Operand) → ((t : List ℕ) → text_of (name_of o) ≡ Some t → is_value o t ≡ true)
      → option_and_then (λ value. with_value value kept) (value_named o text)
      ≡ cond (is_value o text && not (is_some (text_of (name_of o)))) (Some (kept_from (with_more text_of (name_of o) text))) None
  operand_taken operand.Side right = slot kept OfSide (look_up sides) (λ s. record kept { side = s }) (text_of (codes "side")) text (λ v. refl) right
  operand_taken operand.After right = slot kept OfAfter vector_in (λ s. record kept { after = s }) (text_of (codes "after")) text (λ v. refl) right
  operand_taken operand.Limit right = slot kept OfLimit limit_named (λ s. record kept { limit = s }) (text_of (codes "limit")) text (λ v. refl) right
  operand_taken operand.By right = slot kept OfBy (look_up measures) (λ s. record kept { by = s }) (text_of (codes "by")) text (λ v. refl) right
  operand_taken operand.Shape right = slot kept OfShape (look_up shapes) (λ s. record kept { shape = s }) (text_of (codes "shape")) text (λ v. refl) right
  operand_taken operand.Size right = slot kept OfSize size_named (λ s. record kept { size = s }) (text_of (codes "size")) text (λ v. refl) right
  operand_taken operand.Seed right = slot kept OfSeed seed_named (λ s. record kept { seed = s }) (text_of (codes "seed")) text (λ v. refl) right
  operand_taken operand.Show right = slot kept OfShow (look_up shows) (λ s. record kept { show = s }) (text_of (codes "show")) text (λ v. refl) right
  operand_taken operand.Form right = slot kept OfForm (look_up forms) (λ s. record kept { form = s }) (text_of (codes "form")) text (λ v. refl) right

-- one word more, by its operand
module _ (c : Command) (words : List (List ℕ)) (word : List ℕ) where
  abbrev AfterWord : (t : Bool) → Option Operand → List ℕ → Type 0
  AfterWord t o name =
      option_and_then (λ value. with_value value (kept_of words)) (cond t (option_and_then (λ operand. value_named operand (text_in word)) o) None)
      ≡ cond ((t && option_map_or (λ operand. is_value operand (text_in word)) o false) && not (is_some (look_up (given_by words) name)))
      (Some (kept_from (with_more (look_up (given_by words)) name (text_in word)))) None

  by_operand : list_all (is_operand c) words ≡ true → (o : Option Operand) → look_up (operands_of c) (name_in word) ≡ o → AfterWord true o (name_in word)
  by_operand all None is = refl
  by_operand all (Some o) is =
      let named : name_in word ≡ name_of o = looked_up IsNamed (operands_of c) (all_named c) (name_in word) o is in
      let known : look_up (operands_of c) (name_of o) ≡ Some o = ap (look_up (operands_of c)) (sym named) ∙ is in
      subst (λ name. AfterWord true (Some o) name) (sym named) (operand_taken (look_up (given_by words)) (text_in word) o (given_right c (name_of o) o known words all))

  by_mark : list_all (is_operand c) words ≡ true → (t : Bool) → AfterWord t (look_up (operands_of c) (name_in word)) (name_in word)
  by_mark all false = refl
  by_mark all true = by_operand all (look_up (operands_of c) (name_in word)) refl

  -- it is kept exactly where it may follow
  pub word_taken : list_all (is_operand c) words ≡ true → with_word c word (kept_of words) ≡ cond (may_follow c words word) (Some (kept_of (words ++ word ∷ []))) None
  word_taken all = by_mark all (has_name word) ∙ ap (λ g. cond (may_follow c words word) (Some g) None) (sym (kept_more words word))

-- words that are right are operands of the command
pub follows : (c : Command) (words : List (List ℕ)) (word : List ℕ) → list_all (is_operand c) words ≡ true → may_follow c words word ≡ true → list_all (is_operand c) (words ++ word ∷ []) ≡ true
follows c words word all fits = go words all where
  is : is_operand c word ≡ true
  is = first_true (is_operand c word) (not (is_some (look_up (given_by words) (name_in word)))) fits

  go : (ws : List (List ℕ)) → list_all (is_operand c) ws ≡ true → list_all (is_operand c) (ws ++ word ∷ []) ≡ true
  go [] all = and_from (is_operand c word) true is refl
  go (w ∷ ws) all = and_from (is_operand c w) (list_all (is_operand c) (ws ++ word ∷ [])) (first_true (is_operand c w) (list_all (is_operand c) ws) all) (go ws (second_true (is_operand c w) (list_all (is_operand c) ws) all))
