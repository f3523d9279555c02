-- The residual steps of a flow in a net of gains, needs and bonds, by their pairs of nodes.
use Rattle.std.specs.Prelude.{ℕ, zero, suc, ◌+◌, ◌==◌, ◌&&◌, nat_lt, not, if◌then◌else◌, Bool, List, [], ◌∷◌, ◌++◌, length}
use Rattle.std.specs.List.{flat_map}
use Rattle.sm_lists.specs.Rows.{row}
use Rattle.sm_theory.specs.Net.{Net, sink_of}
use Rattle.sm_theory.specs.declared.flow_lines.FlowLine.{FlowLine}
use Rattle.sm_theory.specs.FlowLines.{amount_on}
use Rattle.sm_check_net.specs.CheckedNets.{NetParts, net_of_parts}

-- a pair, where a test holds
abbrev pub pair_if : Bool → ℕ → ℕ → List (ℕ × ℕ)
pair_if holds i j = if holds then (i, j) ∷ [] else []

-- the pairs of the first n things
abbrev pub joined : (ℕ → List (ℕ × ℕ)) → ℕ → List (ℕ × ℕ)
joined f zero = []
joined f (suc n) = joined f n ++ f n

-- an unbounded edge may lead from one node to another: it is no loop, leads to no source, and not from the source to the sink
abbrev pub may_lead : Net → ℕ → ℕ → Bool
may_lead net i j = not (j == 0) && (nat_lt j (suc (sink_of net)) && (not (i == j) && not (i == 0 && j == sink_of net)))

-- the steps along unbounded edges
abbrev pub need_steps_of : Net → ℕ → List ℕ → List (ℕ × ℕ)
need_steps_of net k needs = flat_map (λ i. pair_if (may_lead net (k + 1) (i + 1)) (k + 1) (i + 1)) needs

-- the steps from rotation k to what it needs
abbrev pub need_steps : Net → List (List ℕ) → ℕ → List (ℕ × ℕ)
need_steps net needs k = need_steps_of net k (row needs k)

-- the steps along the bonds
abbrev pub bond_steps : Net → List (ℕ × ℕ) → List (ℕ × ℕ)
bond_steps net bonds = flat_map (λ bond. pair_if (may_lead net bond.0 bond.1) bond.0 bond.1) bonds

-- those against edges with positive amounts
abbrev pub back_steps : List FlowLine → List (ℕ × ℕ)
back_steps lines = flat_map (λ line. pair_if (nat_lt 0 line.amount) line.to line.from) lines

-- those along bounded edges with room left, from the source and to the sink
abbrev pub supply_steps : Net → List FlowLine → ℕ → List (ℕ × ℕ)
supply_steps net lines k = pair_if (nat_lt (amount_on lines 0 (k + 1)) (net.supply k)) 0 (k + 1)

-- the step from rotation k to the sink, where the edge has room left
abbrev pub drain_steps : Net → List FlowLine → ℕ → List (ℕ × ℕ)
drain_steps net lines k = pair_if (nat_lt (amount_on lines (k + 1) (sink_of net)) (net.drain k)) (k + 1) (sink_of net)

-- all of them
abbrev pub residual_steps : NetParts → List FlowLine → List (ℕ × ℕ)
residual_steps parts lines = let net = net_of_parts parts in
    (((joined (need_steps net parts.needs) (length parts.needs) ++ bond_steps net parts.bonds) ++ back_steps lines)
    ++ joined (supply_steps net lines) (length parts.gains)) ++ joined (drain_steps net lines) (length parts.gains)
