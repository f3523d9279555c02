-- Nets whose cuts are sets of rotations. The nodes are the source, one inner node for each rotation, and the sink.
-- Bounded edges lead from the source and to the sink alone. From one node to another there is at most one edge: where an
-- unbounded one is there, a bounded one counts for nothing.
use Rattle.std.specs.Prelude.{◌≡◌, ℕ, zero, suc, ◌<◌, ◌≤◌, ◌⊎◌, nat_lt, ◌==◌, if◌then◌else◌, Bool, true, false, List, [], ◌∷◌, length}
use Rattle.sm_theory.specs.ClosedSets.{is_member}
use Rattle.sm_lists.specs.Sums.{sum_to}

-- how many inner nodes there are, the rooms of the edges from the source to them and from them to the sink, and which
-- edges are unbounded (Ford and Fulkerson 1956). Node 0 is the source, node k + 1 the inner node k, and the last node
-- the sink.
pub record Net : Type 0 where
  pub size : ℕ
  pub supply : ℕ → ℕ
  pub drain : ℕ → ℕ
  pub unbounded : ℕ → ℕ → Bool

-- the sink comes behind the source and the inner nodes
abbrev pub sink_of : Net → ℕ
sink_of net = suc net.size

-- the room of a bounded edge, and 0 where there is none
abbrev pub room_of : Net → ℕ → ℕ → ℕ
room_of net zero zero = 0
room_of net (suc i) zero = 0
room_of net zero (suc k) = if nat_lt k net.size then net.supply k else 0
room_of net (suc i) (suc k) = if k == net.size then net.drain i else 0

-- no edge leads to the source
abbrev pub is_unbounded : Net → ℕ → ℕ → Bool
is_unbounded net i zero = false
is_unbounded net i (suc k) = net.unbounded i (suc k)

-- the edge from i to j has no bound
abbrev pub IsUnbounded : Net → ℕ → ℕ → Type 0
IsUnbounded net i j = is_unbounded net i j ≡ true

-- there is an edge from one node to another
abbrev pub HasEdge : Net → ℕ → ℕ → Type 0
HasEdge net i j = IsUnbounded net i j ⊎ (0 < room_of net i j)

-- the nodes of a set of rotations: the source is one of them, and the sink isn't
abbrev pub is_in : List Bool → ℕ → Bool
is_in set zero = true
is_in set (suc k) = is_member set k

-- no step of this kind goes out of the set
abbrev pub NoneLeaves : Net → (ℕ → ℕ → Type 0) → List Bool → Type 0
NoneLeaves net Step set = (i j : ℕ) → i < suc (sink_of net) → j < suc (sink_of net) → is_in set i ≡ true → is_in set j ≡ false → ¬ Step i j

-- a set that no unbounded edge leaves
pub record IsCut (net : Net) (set : List Bool) : Type 0 where
  pub one_each : length set ≡ net.size
  pub bounded : NoneLeaves net (IsUnbounded net) set

-- the rooms of the edges that leave a set: from its members to the sink, and from the source to the others
-- (Ford and Fulkerson 1956)
abbrev pub cut_of : Net → List Bool → ℕ
cut_of net set = sum_to (λ k. if is_member set k then net.drain k else net.supply k) net.size

-- a cut that no other is below
pub record IsLeastCut (net : Net) (set : List Bool) : Type 0 where
  pub cut : IsCut net set
  pub least : (other : List Bool) → IsCut net other → cut_of net set ≤ cut_of net other

-- a path of such steps, by the nodes behind its first
abbrev pub IsPath : (ℕ → ℕ → Type 0) → ℕ → List ℕ → ℕ → Type 0
IsPath Step i [] j = i ≡ j
IsPath Step i (k ∷ path) j = Step i k × IsPath Step k path j

-- some path of such steps leads from i to j
pub record IsReachable (Step : ℕ → ℕ → Type 0) (i j : ℕ) : Type 0 where
  pub path : List ℕ
  pub is : IsPath Step i path j
