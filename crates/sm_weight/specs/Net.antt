-- The net of gains, needs and conditions, and its edges before those with the same ends are one.
use Rattle.std.specs.Prelude.{◌≡◌, ℕ, zero, suc, ◌+◌, List, [], ◌∷◌, ◌++◌, Some, ℤ, pos, negsuc, false, Bool, length, slice_index_or}
use Rattle.std.specs.List.{flat_map}
use Rattle.sm_market.specs.Lists.{Lists, row}
use Rattle.sm_market.specs.Matching.{Places}
use Rattle.sm_theory.specs.Conditions.{entry_node, exit_node, allows_nothing}
use Rattle.sm_theory.specs.Chains.{AreNeeds}
use Rattle.sm_poset.specs.Posets.{RotationPoset}
use Rattle.sm_weight.specs.declared.edges.Edge.{Edge}
use Rattle.sm_weight.specs.Edges.{loose, AreEdges}
use Rattle.sm_weight.specs.Lightest.{poset_net, AreGains}

-- a pair allows nothing by itself
abbrev pub is_barred : RotationPoset → (levels : List (List ℕ)) → (forced forbidden : List (ℕ × ℕ)) → Bool
is_barred poset levels forced forbidden = allows_nothing poset.lists levels forced forbidden poset.first.places poset.rotations

-- the edges of the net, which has the same ones whichever lists of the predecessors it is made from, where no pair allows
-- nothing by itself
abbrev pub AreNetEdges : RotationPoset → (levels : List (List ℕ)) → (gains : List ℤ) → (forced forbidden : List (ℕ × ℕ)) → List Edge → Type 0
AreNetEdges poset levels gains forced forbidden edges = (weights : List (List ℤ)) → AreGains poset weights gains
    → is_barred poset levels forced forbidden ≡ false → (needs : List (List ℕ)) → AreNeeds poset.lists poset.rotations needs
    → AreEdges (poset_net poset levels weights forced forbidden needs) edges

-- the edges of the first n things
abbrev pub joined : (ℕ → List Edge) → ℕ → List Edge
joined f zero = []
joined f (suc n) = joined f n ++ f n

-- from rotation k to those that it needs
abbrev pub need_edges_of : ℕ → List ℕ → List Edge
need_edges_of k needs = flat_map (λ i. loose (k + 1) (i + 1)) needs

-- the edges from rotation k to its predecessors
abbrev pub need_edges : List (List ℕ) → ℕ → List Edge
need_edges needs k = need_edges_of k (row needs k)

-- from the source to rotation k where its gain is negative, and from there to the sink where it is positive
abbrev pub gain_edge : ℕ → ℕ → ℤ → List Edge
gain_edge sink k (pos zero) = []
gain_edge sink k (pos (suc n)) = record { from = k + 1; to = sink; room = Some (suc n) } ∷ []
gain_edge sink k (negsuc n) = record { from = 0; to = k + 1; room = Some (suc n) } ∷ []

-- the edge of the gain of rotation k
abbrev pub gain_edges : ℕ → List ℤ → ℕ → List Edge
gain_edges sink gains k = gain_edge sink k (slice_index_or gains k (pos 0))

-- from the source to the entry of a forced pair and from its exit to the sink
abbrev pub forced_edges : Lists → List (List ℕ) → Places → List (List (ℕ × ℕ)) → ℕ × ℕ → List Edge
forced_edges l levels first rotations c =
    loose 0 (entry_node l levels first rotations c.0 c.1) ++ loose (exit_node l levels rotations c.0 c.1) (suc (length rotations))

-- from the entry of a forbidden pair to its exit
abbrev pub forbidden_edges : Lists → List (List ℕ) → Places → List (List (ℕ × ℕ)) → ℕ × ℕ → List Edge
forbidden_edges l levels first rotations c = loose (entry_node l levels first rotations c.0 c.1) (exit_node l levels rotations c.0 c.1)

-- all of them, where the rotations need these
abbrev pub raw_edges : Lists → List (List ℕ) → (forced forbidden : List (ℕ × ℕ)) → Places → List (List (ℕ × ℕ)) → (needs : List (List ℕ)) → (gains : List ℤ) → List Edge
raw_edges l levels forced forbidden first rotations needs gains =
    ((joined (need_edges needs) (length needs) ++ joined (gain_edges (suc (length rotations)) gains) (length gains))
    ++ flat_map (forced_edges l levels first rotations) forced) ++ flat_map (forbidden_edges l levels first rotations) forbidden
