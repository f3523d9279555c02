-- The first of some texts that can't stand where it stands.
use Rattle.std.specs.Prelude.{◌≡◌, ℕ, suc, ◌+◌, ◌<◌, ◌⊎◌, List, length, take}

-- Of texts that should be all of something, of which some texts are the first ones, text k is the first bad one: those before it
-- are first ones, and with it they aren't. Or all are first ones and they aren't all; then it is the one behind the last.
pub record IsFirstBad (AreFirst AreAll : List (List ℕ) → Type 0) (texts : List (List ℕ)) (k : ℕ) : Type 0 where
  pub before : AreFirst (take k texts)
  pub here : (k < length texts × ¬ AreFirst (take (suc k) texts)) ⊎ (k ≡ length texts × ¬ AreAll texts)

-- the same by the number of its line, where the first of the texts stands on line `first_line` of a file, counted from 1
pub record IsFirstBadAt (AreFirst AreAll : List (List ℕ) → Type 0) (texts : List (List ℕ)) (first_line at : ℕ) : Type 0 where
  pub number : ℕ
  pub bad : IsFirstBad AreFirst AreAll texts number
  pub there : at ≡ first_line + number
