-- Flows by their lines: amounts on edges.
use Rattle.std.specs.Prelude.{◌≡◌, ℕ, suc, ◌==◌, ◌&&◌, ◌<◌, ◌≤◌, ◌⊎◌, if◌then◌else◌, List, length, slice_index_or, sum_by}
use Rattle.std.specs.List.{All}
use Rattle.sm_theory.specs.Net.{Net, sink_of, room_of, IsUnbounded, HasEdge}
use Rattle.sm_theory.specs.declared.flow_lines.FlowLine.{FlowLine}

-- the line with a number
abbrev pub line_at : List FlowLine → ℕ → FlowLine
line_at lines k = slice_index_or lines k (record { from = 0; to = 0; amount = 0 })

-- the amount from one node to another, that from a node, and that to a node
abbrev pub amount_on : List FlowLine → ℕ → ℕ → ℕ
amount_on lines i j = sum_by (λ line. if line.from == i && line.to == j then line.amount else 0) lines

-- the amount that leaves a node
abbrev pub amount_from : List FlowLine → ℕ → ℕ
amount_from lines i = sum_by (λ line. if line.from == i then line.amount else 0) lines

-- the amount that comes to a node
abbrev pub amount_to : List FlowLine → ℕ → ℕ
amount_to lines j = sum_by (λ line. if line.to == j then line.amount else 0) lines

-- the ends of the lines are among so many nodes
abbrev pub AreOnNodes : (nodes : ℕ) → List FlowLine → Type 0
AreOnNodes nodes lines = (a : ℕ) → a < length lines → ((line_at lines a).from < nodes) × ((line_at lines a).to < nodes)

-- the amounts are within the rooms
abbrev pub AreWithin : Net → List FlowLine → Type 0
AreWithin net lines = (i j : ℕ) → ¬ IsUnbounded net i j → amount_on lines i j ≤ room_of net i j

-- as much comes to each of so many inner nodes as leaves it
abbrev pub IsConserved : (size : ℕ) → List FlowLine → Type 0
IsConserved size lines = (k : ℕ) → k < size → amount_to lines (suc k) ≡ amount_from lines (suc k)

-- two lines are on one edge
abbrev pub HaveSameEnds : FlowLine → FlowLine → Type 0
HaveSameEnds x y = (x.from ≡ y.from) × (x.to ≡ y.to)

-- a line is on an edge of the net that leads not from the source to the sink and that no line before names
pub record IsNewEdge (net : Net) (before : List FlowLine) (line : FlowLine) : Type 0 where
  pub not_through : ¬ ((line.from ≡ 0) × (line.to ≡ sink_of net))
  pub edge : HasEdge net line.from line.to
  pub new : All (λ other. ¬ HaveSameEnds other line) before

-- a positive amount within the room of its edge
pub record IsWithinRoom (net : Net) (line : FlowLine) : Type 0 where
  pub positive : 0 < line.amount
  pub within : IsUnbounded net line.from line.to ⊎ (line.amount ≤ room_of net line.from line.to)

-- the ends of one edge are before those of another: it leads from an earlier node, or from the same one to an earlier node
abbrev pub AreEndsBefore : (from to other_from other_to : ℕ) → Type 0
AreEndsBefore from to other_from other_to = (from < other_from) ⊎ ((from ≡ other_from) × (to < other_to))

-- the ends of one line are before those of another
abbrev pub IsLineBefore : FlowLine → FlowLine → Type 0
IsLineBefore x y = AreEndsBefore x.from x.to y.from y.to

-- positive amounts on edges of a net, in the order of their ends, so that each edge comes once
pub record AreFlowLines (net : Net) (lines : List FlowLine) : Type 0 where
  pub rising : (a b : ℕ) → a < b → b < length lines → IsLineBefore (line_at lines a) (line_at lines b)
  pub positive : (a : ℕ) → a < length lines → 0 < (line_at lines a).amount
  pub edges : (a : ℕ) → a < length lines → HasEdge net (line_at lines a).from (line_at lines a).to
  pub nodes : AreOnNodes (suc (sink_of net)) lines
