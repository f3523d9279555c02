-- A sink in memory that never fails.
use Rattle.std.specs.Prelude.{ℕ, ◌+◌, List, ◌++◌, length, nat_le, if◌then◌else◌, Option, Some, None, option_and_then}

-- all the bytes put so far, or None once they are more than the sink holds at most
pub record SteadyBytes : Type 0 where
  pub held : Option (List ℕ)
  pub room : ℕ

-- the bytes held after a call with this piece
abbrev pub held_after : SteadyBytes → List ℕ → Option (List ℕ)
held_after s piece = option_and_then (λ held. if nat_le (length held + length piece) s.room then Some (held ++ piece) else None) s.held
