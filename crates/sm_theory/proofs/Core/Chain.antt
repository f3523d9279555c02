-- Complete chains, their predecessors, and the matching of a set.
use Rattle.std.proofs.Common.{◌≡◌, ℕ, zero, suc, ◌<◌, ◌≤◌, ◌⊎◌, inl, inr, arith, sym, ap, ◌∙◌, le_of_eq, le_trans}
use Rattle.sm_lists.proofs.Counting.{Decided, lt_or_le, eq_or_ne, Last, last_below}
use Rattle.sm_market.proofs.Core.{Sides, Stand, Fit, Stable, Pair, one_reviewer, same_place, easy}
use Rattle.sm_market.proofs.CoreLaws.{whole}
use Rattle.sm_theory.proofs.Core.Cycle.{Cycle, turn, turn_in, target, Exposed, Moves, moves_or_not, moves_at}
use Rattle.sm_theory.proofs.Core.Rotation.{Elim, goes_down, never_up, never_worse, new_pair}

-- stages M 0 .. M t, and the cycle eliminated at each turn
pub record Chain (s : Sides) (t : ℕ) (M : ℕ → Stand) (c : ℕ → Cycle) : Type 0 where
  pub stable : (k : ℕ) → k ≤ t → Stable s (M k)
  pub exposed : (k : ℕ) → k < t → Exposed s (M k) (c k)
  pub onward : (k : ℕ) → k < t → Elim s (M k) (c k) (M (suc k))
  pub best : (n : Stand) → Stable s n → (p : ℕ) → (M 0).a p ≤ n.a p
  pub worst : (n : Stand) → Stable s n → (p : ℕ) → n.a p ≤ (M t).a p

-- the same of matchings that needn't be stable, nor begin with the best or end with the worst
pub record Way (s : Sides) (t : ℕ) (M : ℕ → Stand) (c : ℕ → Cycle) : Type 0 where
  pub fit : (k : ℕ) → k ≤ t → Fit s (M k)
  pub exposed : (k : ℕ) → k < t → Exposed s (M k) (c k)
  pub onward : (k : ℕ) → k < t → Elim s (M k) (c k) (M (suc k))

-- a chain is a way
pub way_of : {s : Sides} {t : ℕ} {M : ℕ → Stand} {c : ℕ → Cycle} → Chain s t M c → Way s t M c
way_of ch = record { fit = λ k h. (ch.stable k h).fit; exposed = ch.exposed; onward = ch.onward }

-- early moves some proposer to a reviewer from which late moves it
pub record Before (early late : Cycle) : Type 0 where
  pub at : ℕ
  pub below : at < early.size
  pub at' : ℕ
  pub below' : at' < late.size
  pub who_is : early.who at ≡ late.who at'
  pub has_is : target early at ≡ late.has at'

-- late moves some proposer past a reviewer that early moves from one that it likes less to one that it likes more
pub record Passes (s : Sides) (early late : Cycle) : Type 0 where
  pub at : ℕ
  pub below : at < early.size
  pub at' : ℕ
  pub below' : at' < late.size
  pub behind : s.place (late.who at') (late.has at') < s.place (late.who at') (target early at)
  pub before : s.place (late.who at') (target early at) < s.place (late.who at') (target late at')
  pub gains : s.rank (target early at) (early.who at) < s.rank (target early at) (late.who at')
  pub loses : s.rank (target early at) (late.who at') < s.rank (target early at) (early.who (turn early.size at))

-- early is a predecessor of late, of the first or the second kind
abbrev pub Needs : Sides → Cycle → Cycle → Type 0
Needs s early late = Before early late ⊎ Passes s early late

-- with each member C has its predecessors
abbrev pub Closed : Sides → ℕ → (ℕ → Cycle) → (ℕ → Type 0) → Type 0
Closed s t c C = (i j : ℕ) → i < t → j < t → C j → Needs s (c i) (c j) → C i

-- p stands in n where some member of C takes it
pub record Attained (t : ℕ) (M : ℕ → Stand) (c : ℕ → Cycle) (C : ℕ → Type 0) (n : Stand) (p : ℕ) : Type 0 where
  pub at : ℕ
  pub below : at < t
  pub member : C at
  pub moves : Moves (c at) p
  pub is : n.a p ≡ (M (suc at)).a p

-- n gives each proposer the worst of its first place and those to which members of C move it
pub record IsOf (t : ℕ) (M : ℕ → Stand) (c : ℕ → Cycle) (C : ℕ → Type 0) (n : Stand) : Type 0 where
  pub low : (p : ℕ) → (M 0).a p ≤ n.a p
  pub reach : (p k : ℕ) → k < t → C k → Moves (c k) p → (M (suc k)).a p ≤ n.a p
  pub attained : (p : ℕ) → (n.a p ≡ (M 0).a p) ⊎ Attained t M c C n p

-- whether a cycle has p is decided
pub Decided-moves : (c : Cycle) (p : ℕ) → Decided (Moves c p)
Decided-moves c p = elim (moves_or_not c p) [ inl w ↦ inl w | inr none ↦ inr (λ w. none w.at w.below w.holds) ]

-- a cycle that doesn't have p has it at no place
pub not_moves : (c : Cycle) (p : ℕ) → (Moves c p → ⊥) → (i : ℕ) → i < c.size → c.who i ≡ p → ⊥
not_moves c p none i h e = none (rw e at (moves_at c i h))

-- a reviewer between what p has and its successor, in terms of a pair
-- who does no better in n than in m: the partner that it has in m does no worse in n
pub seat_low : {s : Sides} {m n : Stand} {p r : ℕ} → Stable s n → Pair s m p r → m.a p ≤ n.a p → n.b r ≤ m.b r
seat_low {s} {m} {n} {p} {r} hn pair le = elim (lt_or_le (m.a p) (n.a p)) [
  | inl h ↦ omega (arith, easy hn pair h)
  | inr h ↦ let w : Pair s n p r = same_place hn.fit pair (omega arith) in omega (arith, w.rank_is, pair.rank_is)
]

-- who does no worse in n than in m: the partner that it has in m does no better in n
pub seat_high : {s : Sides} {m n : Stand} {p r : ℕ} → Stable s m → Stable s n → Pair s m p r → n.a p ≤ m.a p → m.b r ≤ n.b r
seat_high {s} {m} {n} {p} {r} hm hn pair le = elim (lt_or_le (n.a p) (m.a p)) [
  | inl h ↦ let w = whole hn hm p h in let v : m.b r < n.b r = rw (one_reviewer w.pair pair) at w.prefers in omega arith
  | inr h ↦ let w : Pair s n p r = same_place hn.fit pair (omega arith) in omega (arith, w.rank_is, pair.rank_is)
]

module _ {s : Sides} {t : ℕ} {M : ℕ → Stand} {c : ℕ → Cycle} (ch : Way s t M c) where
  -- a rotation that has p takes it down its list
  pub up_at : (k p : ℕ) → k < t → Moves (c k) p → (M k).a p < (M (suc k)).a p
  up_at k p h w = let less = goes_down (ch.fit k (omega arith)) (ch.exposed k h) (ch.onward k h) w.at w.below in rw w.holds at less

  -- a rotation that hasn't p leaves it where it is
  pub stay : (k p : ℕ) → k < t → (Moves (c k) p → ⊥) → (M (suc k)).a p ≡ (M k).a p
  stay k p h none = (ch.onward k h).still p (not_moves (c k) p none)

  -- along the way each proposer goes down its list or stays
  pub rise : (p i j : ℕ) → i ≤ j → j ≤ t → (M i).a p ≤ (M j).a p
  rise p i zero h g = le_of_eq (ap (λ k. (M k).a p) (omega arith))
  rise p i (suc j) h g = elim (eq_or_ne i (suc j)) [
    | inl e ↦ le_of_eq (ap (λ k. (M k).a p) e)
    | inr e ↦ le_trans (rise p i j (omega arith) (omega arith)) (never_up (ch.fit j (omega arith)) (ch.exposed j (omega arith)) (ch.onward j (omega arith)) p)
  ]

  -- and each reviewer goes up its list or stays
  pub fall : (r i j : ℕ) → i ≤ j → j ≤ t → (M j).b r ≤ (M i).b r
  fall r i zero h g = le_of_eq (ap (λ k. (M k).b r) (omega arith))
  fall r i (suc j) h g = elim (eq_or_ne i (suc j)) [
    | inl e ↦ le_of_eq (ap (λ k. (M k).b r) (sym e))
    | inr e ↦ le_trans (never_worse (ch.fit j (omega arith)) (ch.exposed j (omega arith)) (ch.onward j (omega arith)) r) (fall r i j (omega arith) (omega arith))
  ]

  -- while nothing moves p it stands still
  pub quiet : (p i j : ℕ) → i ≤ j → j ≤ t → ((k : ℕ) → i ≤ k → k < j → Moves (c k) p → ⊥) → (M j).a p ≡ (M i).a p
  quiet p i zero h g none = ap (λ k. (M k).a p) (omega arith)
  quiet p i (suc j) h g none = elim (eq_or_ne i (suc j)) [
    | inl e ↦ ap (λ k. (M k).a p) (sym e)
    | inr e ↦ stay j p (omega arith) (none j (omega arith) (omega arith)) ∙ quiet p i j (omega arith) (omega arith) (λ k x y. none k x (omega arith))
  ]

  -- the last rotation before k that has p, or none has
  pub last_move : (p k : ℕ) → Last k (λ j. Moves (c j) p) ⊎ ((j : ℕ) → j < k → Moves (c j) p → ⊥)
  last_move p k = last_below k (λ j. Moves (c j) p) (λ j _. Decided-moves (c j) p)

  -- after its last move p stays
  pub since_last : (p k : ℕ) → k ≤ t → (w : Last k (λ j. Moves (c j) p)) → (M k).a p ≡ (M (suc w.at)).a p
  since_last p k h w = quiet p (suc w.at) k w.below h (λ j x y. w.later j x y)

  -- where no rotation before k has p, it is where it began
  pub since_start : (p k : ℕ) → k ≤ t → ((j : ℕ) → j < k → Moves (c j) p → ⊥) → (M k).a p ≡ (M 0).a p
  since_start p k h none = quiet p 0 k (omega arith) h (λ j _ y. none j y)

  -- what p has once k moved it
  pub moved_to : (k i : ℕ) → k < t → i < (c k).size → Pair s (M (suc k)) ((c k).who i) (target (c k) i)
  moved_to k i h g = new_pair (ch.fit k (omega arith)) (ch.exposed k h) (ch.onward k h) i g

  -- k takes p from where what moves it last before k took it
  pub handed_on : (p k : ℕ) → k < t → (mv : Moves (c k) p) → (w : Last k (λ j. Moves (c j) p)) → target (c w.at) w.holds.at ≡ (c k).has mv.at
  handed_on p k h mv w = one_reviewer new old'
    where
      new : Pair s (M (suc w.at)) p (target (c w.at) w.holds.at)
      new = rw w.holds.holds at (moved_to w.at w.holds.at (omega (arith, w.below)) w.holds.below)

      old : Pair s (M k) p ((c k).has mv.at)
      old = rw mv.holds at ((ch.exposed k h).paired mv.at mv.below)

      old' : Pair s (M (suc w.at)) p ((c k).has mv.at)
      old' = same_place (ch.fit (suc w.at) (omega (arith, w.below))) old (since_last p k (omega arith) w)

  -- and the first that moves p from where it is at first
  pub handed_first : (p k : ℕ) → k < t → (mv : Moves (c k) p) → ((j : ℕ) → j < k → Moves (c j) p → ⊥) → Pair s (M 0) p ((c k).has mv.at)
  handed_first p k h mv none = same_place (ch.fit 0 (omega arith)) old (since_start p k (omega arith) none)
    where
      old : Pair s (M k) p ((c k).has mv.at)
      old = rw mv.holds at ((ch.exposed k h).paired mv.at mv.below)

  -- what moves p last before k is a predecessor of k, where k moves p
  pub last_needed : (p k : ℕ) → k < t → Moves (c k) p → (w : Last k (λ j. Moves (c j) p)) → Needs s (c w.at) (c k)
  last_needed p k h mv w = inl (record { at = w.holds.at; below = w.holds.below; at' = mv.at; below' = mv.below; who_is = w.holds.holds ∙ sym mv.holds; has_is = handed_on p k h mv w })

  -- a reviewer that is passed over at k has somebody that it likes at least as well
  pub passed : (k i r : ℕ) → k < t → i < (c k).size → s.place ((c k).who i) ((c k).has i) < s.place ((c k).who i) r → s.place ((c k).who i) r < s.place ((c k).who i) (target (c k) i) → (M k).b r ≤ s.rank r ((c k).who i)
  passed k i r h g x y = ((ch.exposed k h).next i g).first r (omega (arith, ((ch.exposed k h).paired i g).place_is)) y

  -- predecessors have lower numbers
  pub needs_lower : (i j : ℕ) → i < t → j < t → Needs s (c i) (c j) → i < j
  needs_lower i j h g (inl w) = elim (lt_or_le i j) [
    | inl k ↦ k
    | inr k ↦
        let p : ℕ = (c j).who w.at' in
        let new : Pair s (M (suc i)) p ((c j).has w.at') = rw (w.who_is, w.has_is) at (moved_to i w.at h w.below) in
        let old = (ch.exposed j g).paired w.at' w.below' in
        let up = up_at j p g (moves_at (c j) w.at' w.below') in
        absurd (omega (arith, new.place_is, old.place_is, rise p (suc j) (suc i) (omega arith) h))
  ]
  needs_lower i j h g (inr w) = elim (lt_or_le i j) [
    | inl k ↦ k
    | inr k ↦
        let r : ℕ = target (c i) w.at in
        let old = (ch.exposed i h).paired (turn (c i).size w.at) (turn_in (c i).size w.at w.below) in
        absurd (omega (arith, passed j w.at' r g w.below' w.behind w.before, w.loses, old.rank_is, fall r j i k (omega arith)))
  ]

  module _ {C : ℕ → Type 0} (closed : Closed s t c C) where
    -- of the rotations that move p a closed set has an initial part
    pub initial : (p k : ℕ) → k < t → C k → Moves (c k) p → (j : ℕ) → j < k → Moves (c j) p → C j
    initial p k h member mv j g mv' = fuel k k (omega arith) h member mv g
      where
        fuel : (n k : ℕ) → k ≤ n → k < t → C k → Moves (c k) p → j < k → C j
        fuel zero k x h member mv g = absurd (omega arith)
        fuel (suc n) k x h member mv g = elim (last_move p k) [
          | inr none ↦ absurd (none j g mv')
          | inl w ↦
              let inside : C w.at = closed w.at k (omega (arith, w.below)) h member (last_needed p k h mv w) in
              elim (eq_or_ne w.at j) [
                | inl e ↦ rw e at inside
                | inr e ↦ elim (lt_or_le j w.at) [
                  | inl less ↦ fuel n w.at (omega (arith, w.below)) (omega (arith, w.below)) inside w.holds less
                  | inr more ↦ absurd (w.later j (omega arith) g mv')
                ]
              ]
        ]

    -- where a closed set lacks k, its matching gives the proposers of k what they have before k, or better
    pub upper : {n : Stand} → IsOf t M c C n → (k p : ℕ) → k < t → (C k → ⊥) → Moves (c k) p → n.a p ≤ (M k).a p
    upper {n} of k p h out mv = elim (of.attained p) [
      | inl e ↦ omega (arith, e, rise p 0 k (omega arith) (omega arith))
      | inr w ↦ elim (lt_or_le w.at k) [
        | inl less ↦ omega (arith, w.is, rise p (suc w.at) k less (omega arith))
        | inr more ↦ elim (eq_or_ne w.at k) [
          | inl e ↦ absurd (out (rw e at w.member))
          | inr e ↦ absurd (out (initial p w.at w.below w.member w.moves k (omega arith) mv))
        ]
      ]
    ]

    -- where all that move p before k are in one set, and p is worse in the matching of a closed one, that one has k
    pub next_inside : {D : ℕ → Type 0} {n m : Stand} → IsOf t M c C n → IsOf t M c D m → (k p : ℕ) → k < t → Moves (c k) p → ((j : ℕ) → j < k → Moves (c j) p → D j) → m.a p < n.a p → (C k → ⊥) → ⊥
    next_inside {D} {n} {m} on om k p h mv before less out = elim (last_move p k) [
      | inr none ↦ omega (arith, upper on k p h out mv, since_start p k (omega arith) none, om.low p)
      | inl w ↦ omega (arith, upper on k p h out mv, since_last p k (omega arith) w, om.reach p w.at (omega (arith, w.below)) (before w.at w.below w.holds) w.holds)
    ]
