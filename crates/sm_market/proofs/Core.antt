-- Markets and matchings as functions on numbers: what the proofs about stable matchings go over. An agent's standing is
-- the place of its partner on its list, or the list's length where it is unmatched, so that lower is better.
use Rattle.std.proofs.Common.{◌≡◌, ℕ, ◌<◌, ◌≤◌, inl, inr, arith, sym, ap, ◌∙◌}
use Rattle.sm_lists.proofs.Counting.{lt_or_le, less_same_more}

-- the lists of one side: `place p r` is r's place on p's list, at or past `len p` where r isn't on it; `at p i` is
-- whom the list names at place i
pub record Half (bound : ℕ) (len : ℕ → ℕ) (place at : ℕ → ℕ → ℕ) (len' : ℕ → ℕ) (rank : ℕ → ℕ → ℕ) : Type 0 where
  pub few : (p : ℕ) → bound ≤ p → len p ≡ 0
  pub place_at : (p i : ℕ) → i < len p → place p (at p i) ≡ i
  pub at_place : (p r : ℕ) → place p r < len p → at p (place p r) ≡ r
  pub back : (p r : ℕ) → place p r < len p → rank r p < len' r

-- the lists of both sides; `rank` is a place on a reviewer's list, and what has a dash is the reviewers'
pub record Sides : Type 0 where
  pub bound : ℕ
  pub len : ℕ → ℕ
  pub place : ℕ → ℕ → ℕ
  pub at : ℕ → ℕ → ℕ
  pub bound' : ℕ
  pub len' : ℕ → ℕ
  pub rank : ℕ → ℕ → ℕ
  pub at' : ℕ → ℕ → ℕ
  pub left : Half bound len place at len' rank
  pub right : Half bound' len' rank at' len place

-- the standings of both sides
pub record Stand : Type 0 where
  pub a : ℕ → ℕ
  pub b : ℕ → ℕ

-- the sides exchanged
abbrev pub flip : Sides → Sides
flip s = record { bound = s.bound'; len = s.len'; place = s.rank; at = s.at'; bound' = s.bound; len' = s.len; rank = s.place; at' = s.at; left = s.right; right = s.left }

-- the standings of the two sides exchanged
abbrev pub turned : Stand → Stand
turned m = record { a = m.b; b = m.a }

-- each agent of one side that is matched is held in turn by whom it has
pub record Kept (len : ℕ → ℕ) (place rank : ℕ → ℕ → ℕ) (a b : ℕ → ℕ) : Type 0 where
  pub within : (p : ℕ) → a p ≤ len p
  pub kept : (p r : ℕ) → a p < len p → place p r ≡ a p → rank r p ≡ b r

-- a matching: the agents of both sides are held in turn
pub record Fit (s : Sides) (m : Stand) : Type 0 where
  pub left : Kept s.len s.place s.rank m.a m.b
  pub right : Kept s.len' s.rank s.place m.b m.a

-- a matching without a blocking pair
pub record Stable (s : Sides) (m : Stand) : Type 0 where
  pub fit : Fit s m
  pub unblocked : (p r : ℕ) → s.place p r < s.len p → s.place p r < m.a p → s.rank r p < m.b r → ⊥

-- p and r are partners
pub record Pair (s : Sides) (m : Stand) (p r : ℕ) : Type 0 where
  pub place_is : s.place p r ≡ m.a p
  pub matched : m.a p < s.len p
  pub rank_is : s.rank r p ≡ m.b r
  pub matched' : m.b r < s.len' r

-- a matching is one with the sides exchanged
pub Fit-turned : {s : Sides} {m : Stand} → Fit s m → Fit (flip s) (turned m)
Fit-turned f = record { left = f.right; right = f.left }

-- a stable matching is stable with the sides exchanged
pub Stable-turned : {s : Sides} {m : Stand} → Stable s m → Stable (flip s) (turned m)
Stable-turned {s} h = record { fit = Fit-turned h.fit; unblocked = λ r p on better gains. h.unblocked p r (s.right.back r p on) gains better }

-- partners are partners with the sides exchanged
pub Pair-turned : {s : Sides} {m : Stand} {p r : ℕ} → Pair s m p r → Pair (flip s) (turned m) r p
Pair-turned h = record { place_is = h.rank_is; matched = h.matched'; rank_is = h.place_is; matched' = h.matched }

-- whom a matched proposer has at its standing is its partner
pub pair_at : {s : Sides} {m : Stand} (p r : ℕ) → Fit s m → m.a p < s.len p → s.place p r ≡ m.a p → Pair s m p r
pair_at {s} {m} p r f h e = let k = f.left.kept p r h e in record { place_is = e; matched = h; rank_is = k; matched' = rw k at (s.left.back p r (omega arith)) }

-- a matched proposer and whom its list names at its standing are partners
pub pair_of : {s : Sides} {m : Stand} (p : ℕ) → Fit s m → m.a p < s.len p → Pair s m p (s.at p (m.a p))
pair_of {s} {m} p f h = pair_at p (s.at p (m.a p)) f h (s.left.place_at p (m.a p) h)

-- the same of a reviewer and whom it has at its standing
pub pair_at' : {s : Sides} {m : Stand} (p r : ℕ) → Fit s m → m.b r < s.len' r → s.rank r p ≡ m.b r → Pair s m p r
pair_at' {s} {m} p r f h e = Pair-turned (pair_at r p (Fit-turned f) h e)

-- a matched reviewer and whom its list names at its standing are partners
pub pair_of' : {s : Sides} {m : Stand} (r : ℕ) → Fit s m → m.b r < s.len' r → Pair s m (s.at' r (m.b r)) r
pair_of' r f h = Pair-turned (pair_of r (Fit-turned f) h)

-- nobody has two partners
pub one_reviewer : {s : Sides} {m : Stand} {p r q : ℕ} → Pair s m p r → Pair s m p q → r ≡ q
one_reviewer {s} {m} {p} {r} {q} h k =
    sym (s.left.at_place p r (omega (arith, h.place_is, h.matched))) ∙ ap (s.at p) (h.place_is ∙ sym k.place_is) ∙ s.left.at_place p q (omega (arith, k.place_is, k.matched))

-- no reviewer has two proposers
pub one_proposer : {s : Sides} {m : Stand} {p q r : ℕ} → Pair s m p r → Pair s m q r → p ≡ q
one_proposer h k = one_reviewer (Pair-turned h) (Pair-turned k)

-- who stands alike in two matchings has the same partner in both
pub same_place : {s : Sides} {m n : Stand} {p r : ℕ} → Fit s n → Pair s m p r → m.a p ≡ n.a p → Pair s n p r
same_place {s} {m} {n} {p} {r} f h e = pair_at p r f (omega (arith, h.matched)) (h.place_is ∙ e)

-- the same of a reviewer that stands alike
pub same_rank : {s : Sides} {m n : Stand} {p r : ℕ} → Fit s n → Pair s m p r → m.b r ≡ n.b r → Pair s n p r
same_rank f h e = Pair-turned (same_place (Fit-turned f) (Pair-turned h) e)

-- the easy half of opposition: who prefers its partner in m to what it has in n is less liked by that partner than
-- what the partner has in n
pub easy : {s : Sides} {m n : Stand} {p r : ℕ} → Stable s n → Pair s m p r → m.a p < n.a p → n.b r < m.b r
easy {s} {m} {n} {p} {r} h pair less = elim (lt_or_le (n.b r) (m.b r)) [
  | inl k ↦ k
  | inr k ↦ elim (lt_or_le (m.b r) (n.b r)) [
    | inl j ↦ absurd (h.unblocked p r (omega (arith, pair.place_is, pair.matched)) (omega (arith, pair.place_is)) (omega (arith, pair.rank_is)))
    | inr j ↦ let w : Pair s n p r = same_rank h.fit pair (omega arith) in omega (arith, w.place_is, pair.place_is)
  ]
]

-- the same from the reviewers' side
pub easy' : {s : Sides} {m n : Stand} {p r : ℕ} → Stable s n → Pair s m p r → m.b r < n.b r → n.a p < m.a p
easy' h pair less = easy (Stable-turned h) (Pair-turned pair) less

-- two matchings in which the proposers stand alike are one
pub same_reviewers : {s : Sides} {m n : Stand} → Fit s m → Fit s n → ((p : ℕ) → m.a p ≡ n.a p) → (r : ℕ) → m.b r ≡ n.b r
same_reviewers {s} {m} {n} hm hn alike r = elim (less_same_more (m.b r) (n.b r)) [
  | inl h ↦ let w = pair_of' r hm (omega (arith, hn.right.within r)) in
      let e = alike (s.at' r (m.b r)) in
      let v : Pair s n (s.at' r (m.b r)) r = pair_at (s.at' r (m.b r)) r hn (omega (arith, w.matched)) (w.place_is ∙ e) in
      omega (arith, w.rank_is, v.rank_is)
  | inr d ↦ elim d [
    | inl h ↦ h
    | inr h ↦ let w = pair_of' r hn (omega (arith, hm.right.within r)) in
        let e = alike (s.at' r (n.b r)) in
        let v : Pair s m (s.at' r (n.b r)) r = pair_at (s.at' r (n.b r)) r hm (omega (arith, w.matched)) (w.place_is ∙ sym e) in
        omega (arith, w.rank_is, v.rank_is)
  ]
]
