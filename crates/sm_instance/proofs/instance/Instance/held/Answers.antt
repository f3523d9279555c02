use Rattle.std.proofs.Common.{◌≢◌, ◌<◌, ℕ, ℤ, List, length, map, sym, subst}
use Rattle.sm_agents.specs.Written.{weighed}
use Rattle.sm_lists.specs.Pairs.{pair_at}
use Rattle.sm_agents.proofs.ItemLemmas.{weights_differ}
use Rattle.sm_instance.proofs.instance.Instance.held.Goals as goal

pub of-requires-clause-differ : goal.of-requires-clause-differ
of-requires-clause-differ c =
    let parts = c.args.parts in
    let Differ : List (ℕ × ℕ × ℤ) → Type 0 = λ ws. (n k : ℕ) → k < n → n < length ws → pair_at (map weighed ws) k ≢ pair_at (map weighed ws) n in
    subst Differ (sym c.deref.ensures.value) (weights_differ parts.weights.items parts.forced.items parts.forbidden.items c.requires.instance.items)
