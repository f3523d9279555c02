-- The walk of a lister.
use Rattle.std.proofs.Common.{◌≡◌, ◌≢◌, ℕ, ◌+◌, ◌<◌, ◌≤◌, ◌⊎◌, inl, inr, arith, refl, sym, ◌∙◌, subst, List, length, Bool, slice_index}
use Rattle.std.proofs.lemmas.List.FromFn.{get_or-map-range_with_len, length-map-range_with_len}
use Rattle.sm_market.specs.Lists.{row}
use Rattle.sm_lists.proofs.Counting.{Decided, Decided-lt, Decided-eq, Decided-le, Decided-and, First, search_below, eq_or_ne, lt_or_le, less_same_more}
use Rattle.sm_theory.specs.ClosedSets.{IsMember}
use Rattle.sm_theory.specs.Vectors.{IsOrder, IsBefore}
use Rattle.sm_theory.proofs.Vectors.Order.{compared, alike_equal, Less, More, Alike}
use Rattle.sm_board.specs.Board.{Board, IsBoard, leave, stay_level, stay, level, IsInside, Gates, Fits, Changes}
use Rattle.sm_board.specs.Walks.{vector, AgreesUpTo, Reaches, IsMark, IsUp, IsNextUp, NoneFrom, UpWhereRaised, NoneWhereNotRaised, NoneWithoutTurn, NextUpIsFirst, WalkGoesOn, WalkBegins, FollowOn, FollowEnds}
use Rattle.sm_board.proofs.MemberLemmas.{members_few}
use Rattle.sm_board.proofs.BoardLemmas.{members_are_first, stays_grow, level_stays, level_rises}

-- the vector has the level of each proposer
pub vector_at : (b : Board) (C : List Bool) (p : ℕ) → p < length b.leaves → slice_index (vector b C) p ≡ level b C p
vector_at b C p less = get_or-map-range_with_len (level b C) 0 (length b.leaves) p p 0 less (omega arith)

-- and one number for each
pub vector_long : (b : Board) (C : List Bool) → length (vector b C) ≡ length b.leaves
vector_long b C = length-map-range_with_len (level b C) 0 (length b.leaves)

-- an up set reaches v one position further
reaches_more : {b : Board} {g : Gates} {order v : List ℕ} {i : ℕ} {D : List Bool} → IsUp b g order v i D → Reaches b order v (i + 1) D
reaches_more {b} {g} {order} {v} {i} {D} u j less = elim (eq_or_ne j i) [
  | inl e ↦ subst (λ k. slice_index v (slice_index order k) ≤ level b D (slice_index order k)) (sym e) (let a = u.above in omega arith)
  | inr ne ↦ omega (arith, u.agrees j (omega arith))
]

-- the mark is inside each set that reaches v behind the position
pub up_where_raised : UpWhereRaised
up_where_raised b g order v i C new m r = record {
  up = record { fits = r.fits; agrees = λ j less. r.same j less ∙ m.agrees j (omega arith); above = let a = r.reaches in omega arith };
  least = λ D f reach above. r.least D f (m.least D f (all D reach above)) (omega arith);
}
  where
    all : (D : List Bool) → Reaches b order v i D → slice_index v (slice_index order i) < level b D (slice_index order i) → Reaches b order v (i + 1) D
    all D reach above j less = elim (eq_or_ne j i) [
      | inl e ↦ subst (λ k. slice_index v (slice_index order k) ≤ level b D (slice_index order k)) (sym e) (omega arith)
      | inr ne ↦ reach j (omega arith)
    ]

-- one position less, where none is up there
none_more : (b : Board) (g : Gates) (order v : List ℕ) (i : ℕ) → NoneFrom b g order v (i + 1) → ((D : List Bool) → IsUp b g order v i D → ⊥) → NoneFrom b g order v i
none_more b g order v i none here j D le less u = elim (eq_or_ne i j) [
  | inl e ↦ here D (subst (λ k. IsUp b g order v k D) (sym e) u)
  | inr ne ↦ none j D (omega arith) less u
]

-- a set above v at the position would be one that the raise looks for
pub none_where_not_raised : NoneWhereNotRaised
none_where_not_raised b g order v i C m r none = none_more b g order v i none (λ D u.
    r D u.fits (m.least D u.fits (reaches_more u)) (let a = u.above in omega arith) (λ j less. u.agrees j less ∙ sym (m.agrees j (omega arith))))

Decided-changes : (b : Board) (x p : ℕ) → Decided (Changes b x p)
Decided-changes b x p = elim (search_below (length (row b.leaves p)) (λ a. (leave b p a ≡ x) × (stay_level b p a < stay_level b p (a + 1))) (λ a _. Decided-and (Decided-eq (leave b p a) x) (Decided-lt (stay_level b p a) (stay_level b p (a + 1))))) [
  | inl w ↦ inl (record { at = w.at; within = w.below; is = w.holds.0; rises = w.holds.1 })
  | inr none ↦ inr (λ c. none c.at c.within (c.is, c.rises))
]

-- a new member that changes p's level, where that rises
record Riser (b : Board) (C D : List Bool) (p : ℕ) : Type 0 where
  one : ℕ
  inside : IsMember D one
  outside : IsMember C one → ⊥
  changes : Changes b one p

riser : {b : Board} {g : Gates} {C D : List Bool} (p : ℕ) → IsBoard b → IsInside C D → Fits b g C → Fits b g D → p < length b.leaves → level b C p < level b D p → Riser b C D p
riser {b} {g} {C} {D} p h inside c d less rises = elim (search_below (stay b D p) (λ a. (stay b C p ≤ a) × (stay_level b p a < stay_level b p (a + 1))) (λ a _. Decided-and (Decided-le (stay b C p) a) (Decided-lt (stay_level b p a) (stay_level b p (a + 1))))) [
  | inl w ↦
      let few = members_few D (row b.leaves p) in
      let on : w.at < length (row b.leaves p) = omega (arith, w.below) in
      record {
        one = leave b p w.at;
        inside = (members_are_first b D p w.at h d.closed on).1 w.below;
        outside = λ m. let k = (members_are_first b C p w.at h c.closed on).0 m in omega (arith, w.holds.0);
        changes = record { at = w.at; within = on; is = refl; rises = w.holds.1 };
      }
  | inr none ↦ absurd (omega (
    arith,
    rises,
    level_stays b C D p h inside c.closed d.closed less (λ x m out ch.
        let at : ch.at < stay b D p = (members_are_first b D p ch.at h d.closed ch.within).0 (subst (IsMember D) (sym ch.is) m) in
        none ch.at at (behind x out ch, ch.rises)),
  ))
]
  where
    behind : (x : ℕ) → (IsMember C x → ⊥) → (ch : Changes b x p) → stay b C p ≤ ch.at
    behind x out ch = elim (lt_or_le ch.at (stay b C p)) [
      | inl k ↦ absurd (out (subst (IsMember C) ch.is ((members_are_first b C p ch.at h c.closed ch.within).1 k)))
      | inr k ↦ k
    ]

-- a set above v at the position has a new member that changes the level there first
pub none_without_turn : NoneWithoutTurn
none_without_turn b g order v i C h o inside m turn none = none_more b g order v i none (λ D u.
    let p : ℕ = slice_index order i in
    let sub : IsInside C D = m.least D u.fits (reaches_more u) in
    let rises : level b C p < level b D p = let a = u.above in omega (arith, m.agrees i (omega arith)) in
    let w : Riser b C D p = riser p h sub m.fits u.fits (o.in_range i inside) rises in
    first_at D u sub w (search_below i (λ j. Changes b w.one (slice_index order j)) (λ j _. Decided-changes b w.one (slice_index order j))))
  where
    first_at : (D : List Bool) → IsUp b g order v i D → IsInside C D → (w : Riser b C D (slice_index order i)) → First i (λ j. Changes b w.one (slice_index order j)) ⊎ ((j : ℕ) → j < i → Changes b w.one (slice_index order j) → ⊥) → ⊥
    first_at D u sub w (inr before) = turn w.one (record { within = omega arith; changes = λ _. w.changes; none_before = before })
    first_at D u sub w (inl f) =
        let up = level_rises b C D (slice_index order f.at) w.one h sub m.fits.closed u.fits.closed (o.in_range f.at (omega (arith, f.below))) w.inside w.outside f.holds in
        omega (arith, u.agrees f.at f.below, m.agrees f.at (omega (arith, f.below)))

-- a set inside another has no later vector
inside_first : {b : Board} {order : List ℕ} (C D : List Bool) → IsBoard b → IsOrder (length b.leaves) order → IsInside C D → (vector b C ≡ vector b D) ⊎ IsBefore order (vector b C) (vector b D)
inside_first {b} {order} C D h o sub = elim (compared order (vector b C) (vector b D)) [
  | Less w ↦ inr w
  | Alike w ↦ inl (alike_equal o (vector b C) (vector b D) (vector_long b C) (vector_long b D) w)
  | More w ↦ absurd (
      let p : ℕ = slice_index order w.at in
      let on : p < length b.leaves = o.in_range w.at w.within in
      omega (arith, w.smaller, vector_at b C p on, vector_at b D p on, (stays_grow b C D p h sub on).1))
]

-- a vector behind v as a set that is up, and back
pub up_of : {b : Board} {g : Gates} {order v : List ℕ} {D : List Bool} → IsOrder (length b.leaves) order → Fits b g D → (w : IsBefore order v (vector b D)) → IsUp b g order v w.at D
up_of {b} {g} {order} {v} {D} o f w = record {
  fits = f;
  agrees = λ j x. sym (vector_at b D (slice_index order j) (o.in_range j (omega (arith, w.within)))) ∙ sym (w.alike j x);
  above = omega (arith, w.smaller, vector_at b D (slice_index order w.at) (o.in_range w.at w.within));
}

-- a set above v has a vector behind v
pub before_of : {b : Board} {g : Gates} {order v : List ℕ} {i : ℕ} {D : List Bool} → IsOrder (length b.leaves) order → i < length order → IsUp b g order v i D → IsBefore order v (vector b D)
before_of {b} {g} {order} {v} {i} {D} o x u = record {
  at = i;
  within = x;
  smaller = omega (arith, u.above, vector_at b D (slice_index order i) (o.in_range i x));
  alike = λ j y. sym (u.agrees j y) ∙ sym (vector_at b D (slice_index order j) (o.in_range j (omega arith)));
}

-- a set above v further up would be above v at or behind the position
pub next_up_is_first : NextUpIsFirst
next_up_is_first b g order v i new h o x n none = record { above = before_of o x n.up; first = λ D f w. go D f w (less_same_more w.at i) }
  where
    go : (D : List Bool) → Fits b g D → (w : IsBefore order v (vector b D)) → (w.at < i) ⊎ ((w.at ≡ i) ⊎ (i < w.at)) → (vector b new ≡ vector b D) ⊎ IsBefore order (vector b new) (vector b D)
    go D f w (inr (inr k)) = absurd (none w.at D (omega arith) w.within (up_of o f w))
    go D f w (inr (inl e)) =
        let u : IsUp b g order v i D = subst (λ k. IsUp b g order v k D) e (up_of o f w) in
        inside_first new D h o (n.least D f (λ j y. let a = u.agrees j y in omega arith) u.above)
    go D f w (inl k) = inr (record {
      at = w.at;
      within = w.within;
      smaller = omega (arith, w.smaller, as_v w.at k);
      alike = λ j y. as_v j (omega arith) ∙ w.alike j y;
    })
      where
        as_v : (j : ℕ) → j < i → slice_index (vector b new) (slice_index order j) ≡ slice_index v (slice_index order j)
        as_v j y = vector_at b new (slice_index order j) (o.in_range j (omega arith)) ∙ n.up.agrees j y

-- the vector of a set at a position
at_position : (b : Board) (order : List ℕ) (C : List Bool) → IsOrder (length b.leaves) order → (j : ℕ) → j < length order → slice_index (vector b C) (slice_index order j) ≡ level b C (slice_index order j)
at_position b order C o j y = vector_at b C (slice_index order j) (o.in_range j y)

-- a mark up to the position is one for the vector of the next set up too
pub mark_before : {b : Board} {g : Gates} {order v : List ℕ} {i : ℕ} {new C : List Bool} → IsOrder (length b.leaves) order → i < length order → IsNextUp b g order v i new → (t : ℕ) → t ≤ i → IsMark b g order v t C → IsMark b g order (vector b new) t C
mark_before {b} {g} {order} {v} {i} {new} {C} o x n t before m = record {
  fits = m.fits;
  agrees = λ j y. m.agrees j y ∙ sym (n.up.agrees j (omega arith)) ∙ sym (at_position b order new o j (omega arith));
  least = λ D f reach. m.least D f (λ j y. omega (arith, reach j y, at_position b order new o j (omega arith), n.up.agrees j (omega arith)));
}

-- and behind it the new set is the mark
pub mark_behind : {b : Board} {g : Gates} {order v : List ℕ} {i : ℕ} {new : List Bool} → IsOrder (length b.leaves) order → i < length order → IsNextUp b g order v i new → (t : ℕ) → i < t → t ≤ length order → IsMark b g order (vector b new) t new
mark_behind {b} {g} {order} {v} {i} {new} o x n t behind le = record {
  fits = n.up.fits;
  agrees = λ j y. sym (at_position b order new o j (omega arith));
  least = λ D f reach. n.least D f
      (λ j y. omega (arith, reach j (omega arith), at_position b order new o j (omega arith), n.up.agrees j y))
      (omega (arith, reach i behind, at_position b order new o i x, n.up.above));
}

-- the marks up to the position stay, and behind it the new set is the least
pub walk_goes_on : WalkGoesOn
walk_goes_on b g order v i mark then new o x marks n old now = record { marks = all; none = λ j D a c. absurd (omega arith) }
  where
    all : (t : ℕ) → t ≤ length order → IsMark b g order (vector b new) t (then t)
    all t le = elim (lt_or_le i t) [
      | inr before ↦ subst (IsMark b g order (vector b new) t) (sym (old t before)) (mark_before o x n t before (marks t before))
      | inl behind ↦ subst (IsMark b g order (vector b new) t) (sym (now t behind)) (mark_behind o x n t behind le)
    ]

-- the least set is the mark everywhere
pub walk_begins : WalkBegins
walk_begins b g order C h o w = (
  record {
    marks = λ t le. record {
      fits = w.one;
      agrees = λ j y. sym (vector_at b C (slice_index order j) (o.in_range j (omega arith)));
      least = λ D f reach. w.least D f;
    };
    none = λ j D a c. absurd (omega arith);
  },
  (λ D f. inside_first C D h o (w.least D f)),
)

-- what is found has the level of v, or a higher one
pub follow_on : FollowOn
follow_on b g order v i C new h o x m r = (
  (λ e. record { fits = r.fits; agrees = agrees e; least = least }),
  (λ above. (
    record {
      up = record { fits = r.fits; agrees = λ j y. r.same j y ∙ m.agrees j y; above = above };
      least = λ D f reach a. r.least D f (m.least D f reach) (omega arith);
    },
    (λ j D le y u.
        let sub : IsInside new D = r.least D u.fits (m.least D u.fits (λ k z. let a = u.agrees k (omega arith) in omega arith)) (let a = u.agrees i (omega arith) in omega arith) in
        omega (arith, u.agrees i (omega arith), (stays_grow b new D (slice_index order i) h sub (o.in_range i x)).1)),
  )),
)
  where
    agrees : level b new (slice_index order i) ≡ slice_index v (slice_index order i) → AgreesUpTo b order v (i + 1) new
    agrees e j y = elim (eq_or_ne j i) [
      | inl k ↦ subst (λ a. level b new (slice_index order a) ≡ slice_index v (slice_index order a)) (sym k) e
      | inr ne ↦ r.same j (omega arith) ∙ m.agrees j (omega arith)
    ]

    least : (D : List Bool) → Fits b g D → Reaches b order v (i + 1) D → IsInside new D
    least D f reach = r.least D f (m.least D f (λ j y. reach j (omega arith))) (reach i (omega arith))

-- a set that reaches v at the position would be one that the raise looks for
pub follow_ends : FollowEnds
follow_ends b g order v i C m r j D le less u =
    let reach : Reaches b order v i D = λ k y. let a = u.agrees k (omega arith) in omega arith in
    r D u.fits (m.least D u.fits reach) (here (eq_or_ne i j)) (λ k y. u.agrees k (omega arith) ∙ sym (m.agrees k y))
  where
    here : (i ≡ j) ⊎ (i ≢ j) → slice_index v (slice_index order i) ≤ level b D (slice_index order i)
    here (inl e) = subst (λ k. slice_index v (slice_index order k) ≤ level b D (slice_index order k)) (sym e) (let a = u.above in omega arith)
    here (inr ne) = let a = u.agrees i (omega arith) in omega arith
