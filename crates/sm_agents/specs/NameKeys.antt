-- Names that are keys of a set.
use Rattle.std.specs.Prelude.{ℕ, List, map}
use Rattle.sm_agents.specs.declared.name_key.NameKey.{NameKey}
use Rattle.sm_agents.specs.declared.name_key.Sought.{Sought}

-- the name that is a key
abbrev pub text_of : NameKey → List ℕ
text_of key = key.text.items

-- the name that is looked for
abbrev pub name_of : Sought → List ℕ
name_of sought = sought.name.now

-- the names that are keys
abbrev pub texts_of : List NameKey → List (List ℕ)
texts_of keys = map text_of keys
