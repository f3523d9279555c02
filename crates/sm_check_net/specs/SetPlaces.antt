-- The places of the proposers in the matching of a set of rotations, by the moves of these.
use Rattle.std.specs.Prelude.{◌≡◌, ℕ, zero, suc, ◌==◌, if◌then◌else◌, max, Bool, Option, List, length}
use Rattle.std.specs.Option.{option_map}
use Rattle.sm_market.specs.Matching.{held}
use Rattle.sm_theory.specs.ClosedSets.{is_member}
use Rattle.sm_check_net.specs.declared.moves.Move.{Move}
use Rattle.sm_check_net.specs.Moves.{move_at, row_of_moves}

-- the worse of p's place and the one to which a move leads, where the move is p's
abbrev pub lowered : ℕ → Move → ℕ → ℕ
lowered p step i = if step.proposer == p then max i step.to else i

-- the same for the first n of these moves, and for those of the members among the first n rotations
abbrev pub lowered_by : ℕ → List Move → (n i : ℕ) → ℕ
lowered_by p moves zero i = i
lowered_by p moves (suc n) i = lowered p (move_at moves n) (lowered_by p moves n i)

-- the worst for p among place i and those to which the members among the first n rotations move it
abbrev pub worst_by : ℕ → List (List Move) → List Bool → (n i : ℕ) → ℕ
worst_by p rows set zero i = i
worst_by p rows set (suc n) i =
    if is_member set n then lowered_by p (row_of_moves rows n) (length (row_of_moves rows n)) (worst_by p rows set n i) else worst_by p rows set n i

-- a place for each proposer, made of the one that it holds at first
pub record AreMade (first : List (Option ℕ)) (made : ℕ → ℕ → ℕ) (places : List (Option ℕ)) : Type 0 where
  pub one_each : length places ≡ length first
  pub each : (p : ℕ) → held places p ≡ option_map (made p) (held first p)
