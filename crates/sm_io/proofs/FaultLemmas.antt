-- Counts of faults over several calls.
use Rattle.std.proofs.Common.{ℕ, ◌≤◌, inl, inr, arith}
use Rattle.sm_io.specs.Faults.{Rose}

-- a count that rises later has risen since before
pub Rose-sooner : (a b c : ℕ) → a ≤ b → Rose b c → Rose a c
Rose-sooner a b c p (inl rose) = inl (omega arith)
Rose-sooner a b c p (inr top) = inr top
