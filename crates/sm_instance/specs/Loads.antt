-- What the search for a breach, or for a blocking pair, finds on the way.
use Rattle.std.specs.Prelude.{◌≡◌, ℕ, ◌<◌, ◌≤◌, ◌||◌, ◌&&◌, ◌==◌, nat_lt, if◌then◌else◌, Bool, List, Option, Some, None}
use Rattle.sm_agents.specs.Written.{Written, entry, place_of, capacity_of, IsAcceptable}
use Rattle.sm_instance.specs.Matching.{held, load_before}
use Rattle.sm_instance.specs.Stable.{HasWorse, Blocks}
use Rattle.sm_lists.specs.declared.compact_naming.CompactNaming.{CompactNaming}

-- the first number of which P holds, if it holds of any
abbrev pub IsFirstOf : (ℕ → Type 0) → Option ℕ → Type 0
IsFirstOf P None = (p : ℕ) → ¬ P p
IsFirstOf P (Some p) = P p × ((q : ℕ) → q < p → ¬ P q)

-- p holds a place of a reviewer that isn't acceptable to it
pub record IsUnacceptable (w : Written) (places : List (Option ℕ)) (p : ℕ) : Type 0 where
  pub at : ℕ
  pub holds : held places p ≡ Some at
  pub one_sided : ¬ IsAcceptable w p (entry w.proposers p at)

-- p is at r, whom earlier proposers fill
pub record IsOverfull (w : Written) (places : List (Option ℕ)) (r p : ℕ) : Type 0 where
  pub at : ℕ
  pub holds : held places p ≡ Some at
  pub there : entry w.proposers p at ≡ r
  pub full : capacity_of w.reviewers r ≤ load_before w places p r

-- p is at a reviewer below k, whom earlier proposers fill
pub record IsOverfullBelow (w : Written) (places : List (Option ℕ)) (k p : ℕ) : Type 0 where
  pub reviewer : ℕ
  pub below : reviewer < k
  pub overfull : IsOverfull w places reviewer p

-- the least liked of the proposers of r stands at this place of its list
pub record IsWorst (w : Written) (places : List (Option ℕ)) (r worst : ℕ) : Type 0 where
  pub above : (q i : ℕ) → held places q ≡ Some i → entry w.proposers q i ≡ r → place_of w.reviewers r q ≤ worst
  pub attained : (p : ℕ) → place_of w.reviewers r p < worst → HasWorse w places r p

-- the first proposer that blocks with r, with the place of r on its list
pub record IsFirstBlockingWith (w : Written) (places : List (Option ℕ)) (r : ℕ) (n : CompactNaming) : Type 0 where
  pub blocks : Blocks w places n.by r
  pub at : n.place ≡ place_of w.proposers n.by r
  pub earlier : (q : ℕ) → q < n.by → ¬ Blocks w places q r

-- the first pair that blocks of those with a reviewer below k
pub record IsFirstPairBelow (w : Written) (places : List (Option ℕ)) (k : ℕ) (n : CompactNaming) : Type 0 where
  pub reviewer : ℕ
  pub below : reviewer < k
  pub blocks : Blocks w places n.by reviewer
  pub at : n.place ≡ place_of w.proposers n.by reviewer
  pub earlier_proposers : (q s : ℕ) → s < k → q < n.by → ¬ Blocks w places q s
  pub earlier_places : (s : ℕ) → s < k → place_of w.proposers n.by s < n.place → ¬ Blocks w places n.by s

-- the first pair that blocks with a reviewer below k, if there is one
abbrev pub IsFirstBelow : Written → List (Option ℕ) → ℕ → Option CompactNaming → Type 0
IsFirstBelow w places k None = (p s : ℕ) → s < k → ¬ Blocks w places p s
IsFirstBelow w places k (Some n) = IsFirstPairBelow w places k n

-- the sooner of two pairs, by proposer and then by place
abbrev pub is_sooner : CompactNaming → CompactNaming → Bool
is_sooner m n = nat_lt m.by n.by || m.by == n.by && nat_lt m.place n.place

-- the sooner of two pairs, where either may be missing
abbrev pub sooner_of : Option CompactNaming → Option CompactNaming → Option CompactNaming
sooner_of None b = b
sooner_of (Some m) None = Some m
sooner_of (Some m) (Some n) = if is_sooner n m then Some n else Some m
