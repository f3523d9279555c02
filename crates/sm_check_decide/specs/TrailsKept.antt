-- What a trail keeps.
use Rattle.std.specs.Prelude.{◌≡◌, ◌<◌, ◌≤◌, ◌^◌, ℕ, List, length, slice_index}

-- how a trail is kept: its numbers stand first in `order`, and of each it is kept at which spot it stands. What else is
-- kept is of no account (Briggs and Torczon 1993).
pub record IsKeptTrail (order spots : List ℕ) (count : ℕ) : Type 0 where
  pub one_each : length spots ≡ length order
  pub few : length order < 2 ^ 32
  pub within : count ≤ length order
  pub below : (k : ℕ) → k < count → slice_index order k < length order
  pub there : (k : ℕ) → k < count → slice_index spots (slice_index order k) ≡ k
