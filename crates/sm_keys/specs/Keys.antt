-- Names and texts that are keys of a set.
use Rattle.std.specs.Prelude.{ℕ, List, map}
use Rattle.sm_keys.specs.declared.key.Key.{Key}
use Rattle.sm_keys.specs.declared.text_key.TextKey.{TextKey}

-- the name that is a key
abbrev pub text_of : Key → List ℕ
text_of key = key.text.now

-- the names that are keys
abbrev pub key_texts : List Key → List (List ℕ)
key_texts keys = map text_of keys

-- the text that is a key
abbrev pub spelled : TextKey → List ℕ
spelled key = key.text.now

-- the texts that are keys
abbrev pub spellings : List TextKey → List (List ℕ)
spellings keys = map spelled keys
