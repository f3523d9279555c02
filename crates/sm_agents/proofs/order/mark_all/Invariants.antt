use Rattle.std.proofs.Common.{◌≡◌, ◌<◌, ◌||◌, ◌==◌, ℕ, false, get_or, length, take}
use Rattle.std.specs.List.{list_any}
use Rattle.sm_agents.proofs.order.mark_all.Given as goal

-- the numbers so far are marked
abbrev pub invariant-numbers : goal.invariant-numbers
invariant-numbers l = record {
  each : length l.marks ≡ length l.fn.marks;
  marked : (n : ℕ) → n < length l.fn.marks → get_or l.marks n false ≡ (get_or l.fn.marks n false || list_any (λ (m : ℕ). m == n) (take l.number-index l.numbers));
}
