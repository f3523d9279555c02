-- Tables of roommates as bounds: each person has a bound on its list, and who stands behind it is cut from that list and
-- cuts that person from its own. All tables that the two phases make are of this form (Irving 1985).
use Rattle.std.specs.Prelude.{◌≡◌, ℕ, ◌<◌, ◌≤◌, ◌⊎◌, List, length, slice_index}
use Rattle.sm_lists.specs.Rows.{row, place_of}
use Rattle.sm_theory.specs.Rooms.{IsAcceptable}

-- y is left on x's list
pub record IsLeft (rows : List (List ℕ)) (b : ℕ → ℕ) (x y : ℕ) : Type 0 where
  pub acc : IsAcceptable rows x y
  pub here : place_of rows x y ≤ b x
  pub there : place_of rows y x ≤ b y

-- y is the first that is left on x's list
pub record IsFirst (rows : List (List ℕ)) (b : ℕ → ℕ) (x y : ℕ) : Type 0 where
  pub left : IsLeft rows b x y
  pub least : (z : ℕ) → IsLeft rows b x z → place_of rows x y ≤ place_of rows x z

-- y is left on x's list, at its bound, and so is the last
pub record IsLast (rows : List (List ℕ)) (b : ℕ → ℕ) (x y : ℕ) : Type 0 where
  pub left : IsLeft rows b x y
  pub at : place_of rows x y ≡ b x

-- y is the second that is left on x's list
pub record IsSecond (rows : List (List ℕ)) (b : ℕ → ℕ) (x y : ℕ) : Type 0 where
  pub left : IsLeft rows b x y
  pub foremost : ℕ
  pub first : IsFirst rows b x foremost
  pub behind : place_of rows x foremost < place_of rows x y
  pub least : (z : ℕ) → IsLeft rows b x z → place_of rows x foremost < place_of rows x z → place_of rows x y ≤ place_of rows x z

-- x's list has a last
pub record HasLast (rows : List (List ℕ)) (b : ℕ → ℕ) (x : ℕ) : Type 0 where
  pub last : ℕ
  pub final : IsLast rows b x last

-- each list that isn't empty ends at its bound, and so does each list with somebody behind its bound; who is first on a
-- list has that person last, and the other way round
pub record IsGoodAt (rows : List (List ℕ)) (b : ℕ → ℕ) : Type 0 where
  pub ends : (x y : ℕ) → IsLeft rows b x y → HasLast rows b x
  pub past : (x y : ℕ) → IsAcceptable rows x y → b x < place_of rows x y → HasLast rows b x
  pub first_last : (x y : ℕ) → IsFirst rows b x y → IsLast rows b y x
  pub last_first : (x y : ℕ) → IsLast rows b x y → IsFirst rows b y x

-- y has a holder: somebody at its bound who has y first
pub record HasHolder (rows : List (List ℕ)) (b : ℕ → ℕ) (y : ℕ) : Type 0 where
  pub by : ℕ
  pub final : IsLast rows b y by
  pub first : IsFirst rows b by y

-- whose list has been cut has a holder
pub record IsProposing (rows : List (List ℕ)) (b : ℕ → ℕ) : Type 0 where
  pub each : (y : ℕ) → (length (row rows y) ≤ b y) ⊎ HasHolder rows b y

-- v is last on the list of x's second
pub record IsNextPerson (rows : List (List ℕ)) (b : ℕ → ℕ) (x v : ℕ) : Type 0 where
  pub over : ℕ
  pub second : IsSecond rows b x over
  pub final : IsLast rows b over v

-- bounds that are kept in a list
abbrev pub bound_in : List ℕ → ℕ → ℕ
bound_in bounds x = slice_index bounds x
