use Rattle.std.proofs.Common.{◌≡◌, ℕ, ◌++◌, take}
use Rattle.std.specs.List.{flat_map}
use Rattle.sm_check_net.specs.Spans.{AreNodesFor, forced_pairs}
use Rattle.sm_check_net.proofs.spans.add_forced.Given as goal

abbrev pub invariant-loop-p : goal.invariant-loop-p
invariant-loop-p l = (entry exit : ℕ → ℕ → ℕ) → AreNodesFor l.keys entry l.entries → AreNodesFor l.keys exit l.exits
    → l.bonds.items ≡ l.initial.bonds.items ++ flat_map (forced_pairs entry exit l.sink) (take l.p-index l.forced)
