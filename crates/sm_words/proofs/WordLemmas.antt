-- The words, tried from the left.
use Rattle.std.proofs.Common.{◌≡◌, ℕ, suc, ◌+◌, ◌<◌, Bool, true, false, cond, List, ◌∷◌, length, drop, get_or, Some, Err, String, string_bytes, sym, ap, ◌∙◌, ◌-◌, ◌≤◌, take, add-one, drop-cons, length-drop, arith, [], ◌++◌, None, refl, subst, append_assoc}
use Rattle.std.proofs.lemmas.List.{take_all, length-append}
use Rattle.std.proofs.lemmas.Option.{none-some, same_Some}
use Rattle.std.specs.List.{list_all}
use Rattle.std.specs.Option.{option_map_or}
use Rattle.std.specs.declared.alloc.Global.{Global}
use Rattle.sm_report.specs.Meanings.{look_up}
use Rattle.sm_words.specs.declared.operands.Command.{Command}
use Rattle.sm_words.specs.Tables.{commands}
use Rattle.sm_words.specs.Operands.{is_operand, may_follow}
use Rattle.sm_words.specs.Words.{right_words, asked, words_meaning, texts}
use Rattle.sm_words.specs.Kept.{GivenData, with_word, kept_of}
use Rattle.sm_words.proofs.KeptLemmas.{word_taken, follows}

texts_from : (words : List (String Global)) (i : ℕ) (w : String Global) → i < length words → w ≡ get_or words i w → texts (drop i words) ≡ string_bytes w ∷ texts (drop (i + 1) words)
texts_from words i w here is =
    ap texts (drop-cons words i w here) ∙ ap (λ (x : String Global). string_bytes x ∷ texts (drop (suc i) words)) (sym is) ∙ ap (λ n. string_bytes w ∷ texts (drop n words)) (sym (add-one i))

-- the words so far are right and kept, and trying the rest comes to what trying all of them comes to
pub record IsTrying (command : Command) (number : ℕ) (given : GivenData) (rest all : List (List ℕ)) : Type 0 where
  pub before : List (List ℕ)
  pub splits : before ++ rest ≡ all
  pub numbered : number ≡ length before + 2
  pub operands : list_all (is_operand command) before ≡ true
  pub kept : given ≡ kept_of before
  pub so_far : right_words command before rest ≡ right_words command [] all

-- two answers about a word are one
same_answer : {X : Type 0} (a b : Bool) (x y : X) → cond a (Some x) None ≡ cond b (Some y) None → a ≡ b
same_answer true true x y e = refl
same_answer true false x y e = absurd (none-some x (sym e))
same_answer false true x y e = absurd (none-some y e)
same_answer false false x y e = refl

module _ (command : Command) (number : ℕ) (g g' : GivenData) (word : List ℕ) (rest all : List (List ℕ)) (fits : Bool) (t : IsTrying command number g (word ∷ rest) all) (took : with_word command word g ≡ cond fits (Some g') None) where
  abbrev more : List (List ℕ)
  more = t.before ++ word ∷ []

  answers : cond fits (Some g') None ≡ cond (may_follow command t.before word) (Some (kept_of more)) None
  answers = sym took ∙ ap (with_word command word) t.kept ∙ word_taken command t.before word t.operands

  follow : may_follow command t.before word ≡ fits
  follow = sym (same_answer fits (may_follow command t.before word) g' (kept_of more) answers)

  by_word : cond fits (right_words command more rest) (Err (length t.before + 2)) ≡ right_words command [] all
  by_word = ap (λ b. cond b (right_words command more rest) (Err (length t.before + 2))) (sym follow) ∙ t.so_far

  -- a word was taken
  trying_next : fits ≡ true → IsTrying command (number + 1) g' rest all
  trying_next good =
      let fit = follow ∙ good in
      record {
        before = more;
        splits = append_assoc t.before (word ∷ []) rest ∙ t.splits;
        numbered = let h = t.numbered in let e = length-append t.before (word ∷ []) in omega arith;
        operands = follows command t.before word t.operands fit;
        kept = same_Some _ _ (ap (λ b. cond b (Some g') None) (sym good) ∙ answers ∙ ap (λ b. cond b (Some (kept_of more)) None) fit);
        so_far = ap (λ b. cond b (right_words command more rest) (Err (length t.before + 2))) (sym good) ∙ by_word;
      }

  -- a word is faulty
  trying_stopped : fits ≡ false → right_words command [] all ≡ Err number
  trying_stopped wrong = sym by_word ∙ ap (λ b. cond b (right_words command more rest) (Err (length t.before + 2))) wrong ∙ ap Err (sym t.numbered)

-- the same in the loop over the words
module _ (command : Command) (number : ℕ) (g g' : GivenData) (words : List (String Global)) (i : ℕ) (w : String Global) (text : List ℕ) (fits : Bool) (t : IsTrying command number g (texts (drop i words)) (texts words)) (here : i < length words) (is : w ≡ get_or words i w) (shows : text ≡ string_bytes w) (took : with_word command text g ≡ cond fits (Some g') None) where
  abbrev rest : List (List ℕ)
  rest = texts (drop (i + 1) words)

  trying : IsTrying command number g (text ∷ rest) (texts words)
  trying = subst (λ r. IsTrying command number g r (texts words)) (texts_from words i w here is ∙ ap (λ x. x ∷ rest) (sym shows)) t

  pub loop_next : fits ≡ true → IsTrying command (number + 1) g' (texts (drop (i + 1) words)) (texts words)
  loop_next = trying_next command number g g' text rest (texts words) fits trying took

  pub loop_stopped : fits ≡ false → right_words command [] (texts words) ≡ Err number
  loop_stopped = trying_stopped command number g g' text rest (texts words) fits trying took

-- the words behind the first, as a slice pattern gives them
abbrev pub others : List (String Global) → List (String Global)
others words = take (length words - 1) (drop 1 words)

others_are : (words : List (String Global)) → others words ≡ drop 1 words
others_are words = let h : length (drop 1 words) ≤ length words - 1 = omega (arith, length-drop 1 words) in take_all (length words - 1) (drop 1 words) h

-- the first word is a command
pub words_meaning-asked : (words : List (String Global)) (w : String Global) (text : List ℕ) (command : Command) → 0 < length words → w ≡ get_or words 0 w → text ≡ string_bytes w → look_up commands text ≡ Some command
    → words_meaning (texts words) ≡ asked command (texts (others words))
words_meaning-asked words w text command here is shows named =
    let operands = texts (drop 1 words) in
    ap words_meaning (texts_from words 0 w here is ∙ ap (λ t. t ∷ operands) (sym shows))
    ∙ ap (λ o. option_map_or (λ c. asked c operands) o (Err 1)) named
    ∙ ap (λ ws. asked command (texts ws)) (sym (others_are words))
