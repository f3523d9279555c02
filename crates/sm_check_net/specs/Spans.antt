-- The nodes at which proposers come to levels and leave them, by the moves of the rotations, and the bonds that conditions
-- ask for.
use Rattle.std.specs.Prelude.{◌≡◌, ℕ, zero, suc, ◌<◌, ◌==◌, ◌&&◌, not, if◌then◌else◌, Bool, Option, Some, List, [], ◌∷◌, ◌++◌, length, slice_index}
use Rattle.std.specs.List.{list_any, position_or_len, flat_map}
use Rattle.sm_lists.specs.Rows.{row}
use Rattle.sm_market.specs.Matching.{held}
use Rattle.sm_theory.specs.Conditions.{level_at, has_level}
use Rattle.sm_check_net.specs.declared.moves.Move.{Move}
use Rattle.sm_check_net.specs.declared.spans.Passage.{Passage}
use Rattle.sm_check_net.specs.declared.spans.Passage.TheVariants.{Entry, Exit}
use Rattle.sm_check_net.specs.Moves.{move_at}
use Rattle.sm_check_net.specs.Pairs.{IsFirstAt}
use Rattle.sm_lists.specs.Pairs.{pair_at}

-- a move leads p to a place of the level, and from a place of the level to one of another
abbrev pub comes_to : List (List ℕ) → ℕ → ℕ → Move → Bool
comes_to levels p level step = step.proposer == p && level_at levels p step.to == level

-- a move leads p from a place of the level to one of another
abbrev pub goes_off : List (List ℕ) → ℕ → ℕ → Move → Bool
goes_off levels p level step = step.proposer == p && (level_at levels p step.from == level && not (level_at levels p step.to == level))

-- a move passes p's level: it leads p to it, or off it
abbrev pub passes : Passage → List (List ℕ) → ℕ → ℕ → Move → Bool
passes Entry = comes_to
passes Exit = goes_off

-- one of the moves does
abbrev pub some_pass : Passage → List (List ℕ) → ℕ → ℕ → List Move → Bool
some_pass passage levels p level moves = list_any (passes passage levels p level) moves

-- the node at which p comes to the level, and the one at which it leaves it
abbrev pub entry_by : List (List ℕ) → List (Option ℕ) → List (List Move) → ℕ → ℕ → ℕ
entry_by levels first rows p level = if has_level levels p level (held first p) then 0 else suc (position_or_len (some_pass Entry levels p level) rows)

-- the node at which p leaves the level: that of the first rotation which leads p off it, else the sink
abbrev pub exit_by : List (List ℕ) → List (List Move) → ℕ → ℕ → ℕ
exit_by levels rows p level = suc (position_or_len (some_pass Exit levels p level) rows)

-- the edges of a forced pair of a proposer and a level, and that of a forbidden one
abbrev pub forced_pairs : (entry exit : ℕ → ℕ → ℕ) → (sink : ℕ) → ℕ × ℕ → List (ℕ × ℕ)
forced_pairs entry exit sink c = (0, entry c.0 c.1) ∷ (exit c.0 c.1, sink) ∷ []

-- the edge of a forbidden pair of a proposer and a level
abbrev pub forbidden_pairs : (entry exit : ℕ → ℕ → ℕ) → ℕ × ℕ → List (ℕ × ℕ)
forbidden_pairs entry exit c = (entry c.0 c.1, exit c.0 c.1) ∷ []

-- the bonds that the forced and the forbidden pairs ask for
abbrev pub bonds_of : List (List ℕ) → List (Option ℕ) → List (List Move) → (forced forbidden : List (ℕ × ℕ)) → List (ℕ × ℕ)
bonds_of levels first rows forced forbidden =
    flat_map (forced_pairs (entry_by levels first rows) (exit_by levels rows) (suc (length rows))) forced
    ++ flat_map (forbidden_pairs (entry_by levels first rows) (exit_by levels rows)) forbidden

-- a node for each pair of a proposer and a level, kept where the pair first stands among these
pub record AreNodesFor (keys : List (ℕ × ℕ)) (node : ℕ → ℕ → ℕ) (nodes : List ℕ) : Type 0 where
  pub one_each : length nodes ≡ length keys
  pub each : (x i j : ℕ) → IsFirstAt keys (i, j) x → slice_index nodes x ≡ node i j

-- a node takes the place of the sink, where a test holds
abbrev pub marked : Bool → (node sink before : ℕ) → ℕ
marked holds node sink before = if holds && before == sink then node else before

-- the same for the first n numbers, which are those of the tests that hold, and count from 1
abbrev pub marks : (ℕ → Bool) → (n sink before : ℕ) → ℕ
marks test zero sink before = before
marks test (suc n) sink before = marked (test n) (suc n) sink (marks test n sink before)

-- the places of the moves have levels
pub record HaveLevels (levels : List (List ℕ)) (moves : List Move) : Type 0 where
  pub proposers : (i : ℕ) → i < length moves → (move_at moves i).proposer < length levels
  pub from : (i : ℕ) → i < length moves → (move_at moves i).from < length (row levels (move_at moves i).proposer)
  pub to : (i : ℕ) → i < length moves → (move_at moves i).to < length (row levels (move_at moves i).proposer)

-- so have those that are held at first
abbrev pub HaveFirstLevels : List (List ℕ) → List (Option ℕ) → Type 0
HaveFirstLevels levels first = (p i : ℕ) → held first p ≡ Some i → i < length (row levels p)

-- the first numbers of pairs are below n
abbrev pub AreFirstBelow : (n : ℕ) → List (ℕ × ℕ) → Type 0
AreFirstBelow n pairs = (c : ℕ) → c < length pairs → (pair_at pairs c).0 < n
