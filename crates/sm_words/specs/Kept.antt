-- The values of operands as they are kept while the words are tried.
use Rattle.std.specs.Prelude.{◌≡◌, ℕ, Bool, List, [], codes, Option, Some, None, option_map, if◌then◌else◌, Ok}
use Rattle.std.specs.Option.{option_and_then}
use Rattle.sm_agents.specs.declared.kinds.Measure.{Measure}
use Rattle.sm_agents.specs.declared.kinds.Side.{Side}
use Rattle.sm_make.specs.declared.shape.Shape.{Shape}
use Rattle.sm_report.specs.Meanings.{look_up, sides, measures, limit_named}
use Rattle.sm_report.specs.Vectors.{vector_in}
use Rattle.sm_words.specs.declared.jobs.Form.{Form}
use Rattle.sm_words.specs.declared.operands.Command.{Command}
use Rattle.sm_words.specs.declared.operands.Given.{Given}
use Rattle.sm_words.specs.declared.operands.Operand.{Operand}
use Rattle.sm_words.specs.declared.operands.Operand.TheVariants as operand
use Rattle.sm_words.specs.declared.operands.Value.{Value}
use Rattle.sm_words.specs.declared.operands.Value.TheVariants as value
use Rattle.sm_words.specs.Tables.{operands_of, shapes, shows, forms, size_named, seed_named}
use Rattle.sm_words.specs.Operands.{has_name, name_in, text_in, given_by}
use Rattle.sm_words.specs.Words.{right_words}

-- the value of an operand, as plain data
pub data ValueData : Type 0 where
  OfSide : Side → ValueData
  OfAfter : List ℕ → ValueData
  OfLimit : ℕ → ValueData
  OfBy : Measure → ValueData
  OfShape : Shape → ValueData
  OfSize : ℕ → ValueData
  OfSeed : ℕ → ValueData
  OfShow : Bool → ValueData
  OfForm : Form → ValueData

-- a value as plain data
abbrev pub value_of : Value → ValueData
value_of (value.OfSide side) = OfSide side
value_of (value.OfAfter after) = OfAfter after.items
value_of (value.OfLimit limit) = OfLimit limit
value_of (value.OfBy by) = OfBy by
value_of (value.OfShape shape) = OfShape shape
value_of (value.OfSize size) = OfSize size
value_of (value.OfSeed seed) = OfSeed seed
value_of (value.OfShow summary) = OfShow summary
value_of (value.OfForm form) = OfForm form

-- the value that a text gives to an operand
abbrev pub value_named : Operand → List ℕ → Option ValueData
value_named operand.Side text = option_map OfSide (look_up sides text)
value_named operand.After text = option_map OfAfter (vector_in text)
value_named operand.Limit text = option_map OfLimit (limit_named text)
value_named operand.By text = option_map OfBy (look_up measures text)
value_named operand.Shape text = option_map OfShape (look_up shapes text)
value_named operand.Size text = option_map OfSize (size_named text)
value_named operand.Seed text = option_map OfSeed (seed_named text)
value_named operand.Show text = option_map OfShow (look_up shows text)
value_named operand.Form text = option_map OfForm (look_up forms text)

-- the values that are kept: for each operand its value, if it was given
pub record GivenData : Type 0 where
  pub side : Option Side
  pub after : Option (List ℕ)
  pub limit : Option ℕ
  pub by : Option Measure
  pub shape : Option Shape
  pub size : Option ℕ
  pub seed : Option ℕ
  pub show : Option Bool
  pub form : Option Form

-- the same of the values in code
abbrev pub given_of : Given → GivenData
given_of g = record {
  side = g.side;
  after = option_map (λ v. v.items) g.after;
  limit = g.limit;
  by = g.by;
  shape = g.shape;
  size = g.size;
  seed = g.seed;
  show = g.show;
  form = g.form;
}

-- the values by the text of each name
abbrev pub kept_from : (List ℕ → Option (List ℕ)) → GivenData
kept_from text_of = record {
  side = option_and_then (look_up sides) (text_of (codes "side"));
  after = option_and_then vector_in (text_of (codes "after"));
  limit = option_and_then limit_named (text_of (codes "limit"));
  by = option_and_then (look_up measures) (text_of (codes "by"));
  shape = option_and_then (look_up shapes) (text_of (codes "shape"));
  size = option_and_then size_named (text_of (codes "size"));
  seed = option_and_then seed_named (text_of (codes "seed"));
  show = option_and_then (look_up shows) (text_of (codes "show"));
  form = option_and_then (look_up forms) (text_of (codes "form"));
}

-- the values that words give
abbrev pub kept_of : List (List ℕ) → GivenData
kept_of words = kept_from (look_up (given_by words))

-- each operand stands at most once
abbrev pub once : {T : Type 0} → Option T → T → Option (Option T)
once None value = Some (Some value)
once (Some old) value = None

-- one more operand is given, where it wasn't yet
abbrev pub with_value : ValueData → GivenData → Option GivenData
with_value (OfSide v) g = option_map (λ s. record g { side = s }) (once g.side v)
with_value (OfAfter v) g = option_map (λ s. record g { after = s }) (once g.after v)
with_value (OfLimit v) g = option_map (λ s. record g { limit = s }) (once g.limit v)
with_value (OfBy v) g = option_map (λ s. record g { by = s }) (once g.by v)
with_value (OfShape v) g = option_map (λ s. record g { shape = s }) (once g.shape v)
with_value (OfSize v) g = option_map (λ s. record g { size = s }) (once g.size v)
with_value (OfSeed v) g = option_map (λ s. record g { seed = s }) (once g.seed v)
with_value (OfShow v) g = option_map (λ s. record g { show = s }) (once g.show v)
with_value (OfForm v) g = option_map (λ s. record g { form = s }) (once g.form v)

-- what a word gives to a command's operands
abbrev pub value_in : Command → List ℕ → Option ValueData
value_in command word =
    if has_name word then option_and_then (λ operand. value_named operand (text_in word)) (look_up (operands_of command) (name_in word)) else None

-- one more word gives an operand of the command
abbrev pub with_word : Command → List ℕ → GivenData → Option GivenData
with_word command word given = option_and_then (λ value. with_value value given) (value_in command word)

-- the words of a command are right, and their values are kept
pub record AreKept (command : Command) (words : List (List ℕ)) (given : GivenData) : Type 0 where
  pub right : right_words command [] words ≡ Ok words
  pub kept : given ≡ kept_of words
