-- What a call of `take` does to the bytes that are still to come, where a source tells them.
use Rattle.std.specs.Prelude.{◌≡◌, ℕ, ◌≤◌, ◌⊎◌, List, [], length, take, Option, IfSome}
use Rattle.std.specs.Io.KnownBytes.{Consumes}
use Rattle.sm_io.specs.declared.Taken.{Taken}
use Rattle.sm_io.specs.declared.Taken.TheVariants.{Got, End, Failed}

-- a source that tells its bytes has these to come
abbrev pub Agrees : Option (List ℕ) → List ℕ → Type 0
Agrees left bytes = IfSome left (λ told. told ≡ bytes)

-- A call with a buffer that is `into` afterwards: `Got n` gives the next n bytes, `End` comes only where nothing is left or the buffer
-- has no room, and neither `End` nor `Failed` takes a byte. A source that told its bytes before the call tells them after it;
-- of one that didn't, only the bounds of n are said.
abbrev pub Takes : Option (List ℕ) → Option (List ℕ) → Taken → List ℕ → Type 0
Takes before after (Got n) into = (1 ≤ n) × (n ≤ length into) × Consumes before after (take n into)
Takes before after End into = Consumes before after [] × IfSome before (λ told. (told ≡ []) ⊎ (length into ≡ 0))
Takes before after Failed into = Consumes before after []
