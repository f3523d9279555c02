-- The net of gains, needs and bonds. A bond is an unbounded edge that a condition asks for.
use Rattle.std.specs.Prelude.{◌≡◌, ℕ, suc, ◌<◌, ◌==◌, ◌&&◌, ◌||◌, not, List, length, slice_index, slice_index_or, ℤ, pos}
use Rattle.sm_lists.specs.Rows.{row}
use Rattle.sm_theory.specs.Net.{Net, sink_of, HasEdge}
use Rattle.sm_theory.specs.declared.flow_lines.FlowLine.{FlowLine}
use Rattle.sm_market.specs.Lists.{Lists}
use Rattle.sm_theory.specs.Chains.{AreNeedsOf}
use Rattle.sm_theory.specs.Conditions.{rise_of, fall_of, leads_to_need}
use Rattle.sm_check_net.specs.Pairs.{has_pair}

-- the gain of rotation k
abbrev pub gain_at : List ℤ → ℕ → ℤ
gain_at gains k = slice_index_or gains k (pos 0)

-- the gains of the rotations, what each needs, and the bonds
pub record NetParts : Type 0 where
  pub gains : List ℤ
  pub needs : List (List ℕ)
  pub bonds : List (ℕ × ℕ)

-- the rooms by the gains; the unbounded edges are those from rotations to what they need and the bonds, without loops and
-- without an edge from the source to the sink (Irving, Leather and Gusfield 1987)
abbrev pub net_of_parts : NetParts → Net
net_of_parts parts = record {
  size = length parts.gains;
  supply = λ k. fall_of (gain_at parts.gains k);
  drain = λ k. rise_of (gain_at parts.gains k);
  unbounded = λ i j. not (i == j) && (not (i == 0 && j == suc (length parts.gains)) && (leads_to_need parts.needs i j || has_pair parts.bonds i j));
}

-- whichever order the bonds have
pub record HasParts (parts : NetParts) (gains : List ℤ) (needs : List (List ℕ)) (bonds : List (ℕ × ℕ)) : Type 0 where
  pub same_gains : parts.gains ≡ gains
  pub same_needs : parts.needs ≡ needs
  pub same_bonds : (i j : ℕ) → has_pair parts.bonds i j ≡ has_pair bonds i j

-- the numbers of each row rise
pub record AreRowsRising (rows : List (List ℕ)) : Type 0 where
  pub rising : (k a b : ℕ) → a < b → b < length (row rows k) → slice_index (row rows k) a < slice_index (row rows k) b

-- the numbers of each row are below n
pub record AreNumbersBelow (n : ℕ) (rows : List (List ℕ)) : Type 0 where
  pub below : (k a : ℕ) → a < length (row rows k) → slice_index (row rows k) a < n

-- the needs are the predecessors of the rotations
pub record NeedsAreOf (l : Lists) (rotations : List (List (ℕ × ℕ))) (parts : NetParts) : Type 0 where
  pub one_each : length rotations ≡ length parts.gains
  pub each : (j : ℕ) → j < length rotations → AreNeedsOf l rotations j (row parts.needs j)

-- a line is on an edge that leads not from the source to the sink
pub record IsOnEdge (net : Net) (line : FlowLine) : Type 0 where
  pub not_through : ¬ ((line.from ≡ 0) × (line.to ≡ sink_of net))
  pub edge : HasEdge net line.from line.to
