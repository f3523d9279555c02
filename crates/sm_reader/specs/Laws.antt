-- What a text means is sound.
use Rattle.std.specs.Prelude.{◌≡◌, ℕ, List, Ok}
use Rattle.sm_instance.specs.Inputs.{IsInput}
use Rattle.sm_reader.specs.InstanceText.{ReadText, instance_text}

-- the instance that a text means is one
abbrev pub TextIsSound : Type 0
TextIsSound = (text : List ℕ) (read : ReadText) → instance_text text ≡ Ok read → IsInput read.input
