-- How words give operands.
use Rattle.std.specs.Prelude.{ℕ, ◌==◌, nat_lt, Bool, false, not, ◌&&◌, List, length, map, Option, is_some}
use Rattle.std.specs.List.{before_first, after_first, position_or_len}
use Rattle.std.specs.Option.{option_and_then, option_map_or}
use Rattle.sm_report.specs.Meanings.{look_up}
use Rattle.sm_words.specs.declared.operands.Command.{Command}
use Rattle.sm_words.specs.Tables.{operands_of, is_value}

-- a word is a name, `=` and a value, which is all behind the first `=`
abbrev pub is_equals : ℕ → Bool
is_equals b = b == 61

-- a word has an `=`
abbrev pub has_name : List ℕ → Bool
has_name word = nat_lt (position_or_len is_equals word) (length word)

-- what stands before the first `=`
abbrev pub name_in : List ℕ → List ℕ
name_in word = before_first is_equals word

-- what stands behind it
abbrev pub text_in : List ℕ → List ℕ
text_in word = after_first is_equals word

-- the operands that words give: the name and the text of each
abbrev pub given_by : List (List ℕ) → List (List ℕ × List ℕ)
given_by words = map (λ word. (name_in word, text_in word)) words

-- the value that words give to the operand of a name
abbrev pub value_given : {X : Type 0} → List ℕ → (List ℕ → Option X) → List (List ℕ) → Option X
value_given name value words = option_and_then value (look_up (given_by words) name)

-- a word gives an operand of the command a right value
abbrev pub is_operand : Command → List ℕ → Bool
is_operand command word =
    has_name word && option_map_or (λ operand. is_value operand (text_in word)) (look_up (operands_of command) (name_in word)) false

-- and it may stand behind other words: none of these gives the operand
abbrev pub may_follow : Command → List (List ℕ) → List ℕ → Bool
may_follow command words word = is_operand command word && not (is_some (look_up (given_by words) (name_in word)))
