-- What a step learns of rotations that aren't held: wherever one of them enters, with all that it needs, the level changes at some
-- position.
use Rattle.std.specs.Prelude.{◌≡◌, ℕ, ◌+◌, ◌<◌, ◌≤◌, Bool, List, length, slice_index, Contains}
use Rattle.sm_market.specs.Lists.{row}
use Rattle.sm_theory.specs.ClosedSets.{IsMember}
use Rattle.sm_board.specs.Board.{Board, level, IsClosedIn}
use Rattle.sm_board.specs.Courses.{Course, IsBroken}
use Rattle.sm_lister.specs.declared.bars.Bars.{Bars}

-- each closed set with this rotation has a new one that changes a level before `bar`
abbrev pub IsBarred : Course → (held : List Bool) → (x bar : ℕ) → Type 0
IsBarred t held x bar = (D : List Bool) → IsClosedIn t.board D → IsMember D x → IsBroken t bar held D

-- so has each closed set that is above what is held at a position, with this position for `bar`
abbrev pub IsBarredAt : Course → (held : List Bool) → ℕ → Type 0
IsBarredAt t held i = (D : List Bool) → IsClosedIn t.board D
    → level t.board held (slice_index t.order i) < level t.board D (slice_index t.order i) → IsBroken t i held D

-- room for all rotations
pub record HasRoom (t : Course) (bars : Bars) : Type 0 where
  pub place_each : length bars.places.items ≡ length t.board.needs
  pub looked_each : length bars.looked.items ≡ length t.board.needs
  pub position_each : length bars.positions.items ≡ length t.board.needs

-- wherever one of the first n of these rotations enters, the level at its position changes, if there is such a position
abbrev pub ArePositions : Course → (held : List Bool) → (looked positions : List ℕ) → ℕ → Type 0
ArePositions t held looked positions n = (k : ℕ) → k < n → slice_index positions k < length t.order
    → IsBarred t held (slice_index looked k) (slice_index positions k + 1)

-- this is so of all that were looked at
pub record AreBars (t : Course) (held : List Bool) (bars : Bars) : Type 0 where
  pub room : HasRoom t bars
  pub few : bars.count ≤ length t.board.needs
  pub barred : ArePositions t held bars.looked.items bars.positions.items bars.count

-- a rotation is one of the first n, with this position
pub record IsNoted (looked positions : List ℕ) (n x position : ℕ) : Type 0 where
  pub place : ℕ
  pub before : place < n
  pub is : slice_index looked place ≡ x
  pub at : slice_index positions place ≡ position

-- a rotation needs this one, which isn't held
pub record IsMissing (b : Board) (held : List Bool) (x y : ℕ) : Type 0 where
  pub need : Contains (row b.needs x) y
  pub new : ¬ IsMember held y

-- the rotations that were looked at from a place on lead to this one: closed sets with one of them have it
abbrev pub LeadTo : Board → (looked : List ℕ) → (from n x : ℕ) → Type 0
LeadTo b looked from n x = (k : ℕ) (D : List Bool) → from ≤ k → k < n → IsClosedIn b D → IsMember D (slice_index looked k) → IsMember D x

-- more rotations were looked at: wherever a new one of them or x enters, the level at a position changes, if there is such a position
pub record IsFollowed (t : Course) (held : List Bool) (x position : ℕ) (before after : Bars) : Type 0 where
  pub room : HasRoom t after
  pub more : before.count ≤ after.count
  pub few : after.count ≤ length t.board.needs
  pub front : (k : ℕ) → k < before.count → slice_index after.looked.items k ≡ slice_index before.looked.items k
  pub same : after.positions ≡ before.positions
  pub barred : (k : ℕ) → before.count ≤ k → k < after.count → position < length t.order → IsBarred t held (slice_index after.looked.items k) (position + 1)
  pub here : position < length t.order → IsBarred t held x (position + 1)
