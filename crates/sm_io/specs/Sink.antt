-- What a call of `put` does to the bytes that were taken so far, where a sink tells them.
use Rattle.std.specs.Prelude.{◌≡◌, ℕ, List, ◌++◌, take, Option, IfSome, IsSomeAnd}
use Rattle.sm_io.specs.declared.Put.{Put}
use Rattle.sm_io.specs.declared.Put.TheVariants.{Done, Failed}

-- the bytes held have grown by this text: a sink that tells them after told them before
abbrev pub Grows : Option (List ℕ) → Option (List ℕ) → List ℕ → Type 0
Grows before after text = IfSome after (λ now. IsSomeAnd before (λ old. now ≡ old ++ text))

-- the bytes held have grown by a front of this text: its first `count` bytes
pub record IsPart (before after : Option (List ℕ)) (text : List ℕ) : Type 0 where
  pub count : ℕ
  pub grows : Grows before after (take count text)

-- a call with this piece: `Done` takes all of it, `Failed` a front of it
abbrev pub Puts : Option (List ℕ) → Option (List ℕ) → Put → List ℕ → Type 0
Puts before after Done piece = Grows before after piece
Puts before after Failed piece = IsPart before after piece
