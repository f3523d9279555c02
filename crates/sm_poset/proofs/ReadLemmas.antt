-- What is read from vectors, and written through slices of them.
use Rattle.std.proofs.Common.{◌≡◌, ℕ, ◌<◌, List, [], Vec, length, get_or, sym, ap, ◌∙◌}
use Rattle.std.specs.declared.alloc.Global.{Global}
use Rattle.std.proofs.lemmas.List.{get_or-map}
use Rattle.sm_poset.specs.Moves.{moves_at, moves_in}

-- a vector that is read of the moves holds those of its proposer
pub moves_read : (vectors : List (Vec (ℕ × ℕ) Global)) (p : ℕ) (v : Vec (ℕ × ℕ) Global) → p < length vectors → v ≡ get_or vectors p v → v.items ≡ moves_at (moves_in vectors) p
moves_read vectors p v h e = ap (λ (v : Vec (ℕ × ℕ) Global). v.items) e ∙ sym (get_or-map (λ (v : Vec (ℕ × ℕ) Global). v.items) vectors p v [] h)
