-- Who is left on a list that is cut behind bounds: the first, the second and the last.
use Rattle.std.proofs.Common.{◌≡◌, ℕ, zero, suc, ◌<◌, ◌≤◌, inl, inr, arith, sym, ap, ◌∙◌, List, length}
use Rattle.sm_lists.specs.Rows.{row, entry, place_of}
use Rattle.sm_lists.proofs.Counting.{Decided, Decided-lt, Decided-le, Decided-eq, Decided-not, Decided-and, lt_or_le, search_below}
use Rattle.sm_lists.proofs.PlaceLemmas.{entry-place_of}
use Rattle.sm_theory.specs.Rooms.{IsAcceptable}
use Rattle.sm_room.specs.Bounds.{IsLeft, IsFirst, IsLast, IsSecond}
use Rattle.sm_lists.proofs.RowLemmas.{row_in_range}

-- acceptance is mutual
pub turn : (rows : List (List ℕ)) (x y : ℕ) → IsAcceptable rows x y → IsAcceptable rows y x
turn rows x y h = record { apart = λ e. h.apart (sym e); listed = h.returned; returned = h.listed }

-- who is acceptable to somebody is a person
pub inside_rows : (rows : List (List ℕ)) (x y : ℕ) → IsAcceptable rows x y → x < length rows
inside_rows rows x y h = row_in_range rows x (place_of rows x y) h.listed

-- who stands at one place is one person
pub one_at : (rows : List (List ℕ)) (x y z : ℕ) → IsAcceptable rows x y → IsAcceptable rows x z → place_of rows x y ≡ place_of rows x z → y ≡ z
one_at rows x y z h k e = sym (entry-place_of rows x y h.listed) ∙ ap (entry rows x) e ∙ entry-place_of rows x z k.listed

-- whether two persons are acceptable to each other is decided
pub Decided-acceptable : (rows : List (List ℕ)) (x y : ℕ) → Decided (IsAcceptable rows x y)
Decided-acceptable rows x y = elim (Decided-and (Decided-not (Decided-eq x y)) (Decided-and (Decided-lt (place_of rows x y) (length (row rows x))) (Decided-lt (place_of rows y x) (length (row rows y))))) [
  | inl w ↦ inl (record { apart = w.0; listed = w.1.0; returned = w.1.1 })
  | inr w ↦ inr (λ v. w (v.apart, (v.listed, v.returned)))
]

-- who is left on a list has its owner left on its own
pub IsLeft-turn : {rows : List (List ℕ)} {b : ℕ → ℕ} {x y : ℕ} → IsLeft rows b x y → IsLeft rows b y x
IsLeft-turn {rows} {b} {x} {y} h = record { acc = turn rows x y h.acc; here = h.there; there = h.here }

-- a list has no more than one first
pub one_first : {rows : List (List ℕ)} {b : ℕ → ℕ} {x y z : ℕ} → IsFirst rows b x y → IsFirst rows b x z → y ≡ z
one_first {rows} {b} {x} {y} {z} f g = one_at rows x y z f.left.acc g.left.acc (omega (arith, f.least z g.left, g.least y f.left))

-- and one last
pub one_final : {rows : List (List ℕ)} {b : ℕ → ℕ} {x y z : ℕ} → IsLast rows b x y → IsLast rows b x z → y ≡ z
one_final {rows} {b} {x} {y} {z} f g = one_at rows x y z f.left.acc g.left.acc (omega (arith, f.at, g.at))

-- the first before a second stands where the first does
pub same_foremost : {rows : List (List ℕ)} {b : ℕ → ℕ} {x y z : ℕ} → (f : IsSecond rows b x y) → IsFirst rows b x z → place_of rows x f.foremost ≡ place_of rows x z
same_foremost {rows} {b} {x} {y} {z} f g = omega (arith, f.first.least z g.left, g.least f.foremost f.first.left)

-- a list has no more than one second
pub one_second : {rows : List (List ℕ)} {b : ℕ → ℕ} {x y z : ℕ} → IsSecond rows b x y → IsSecond rows b x z → y ≡ z
one_second {rows} {b} {x} {y} {z} f g =
    let e = same_foremost f g.first in
    one_at rows x y z f.left.acc g.left.acc (omega (arith, f.least z g.left (omega (arith, e, g.behind)), g.least y f.left (omega (arith, e, f.behind))))

-- the least by a measure of those below n for whom P holds
pub record Least (P : ℕ → Type 0) (m : ℕ → ℕ) : Type 0 where
  pub at : ℕ
  pub holds : P at
  pub least : (z : ℕ) → P z → m at ≤ m z

-- where P holds of some number below n, it holds of one with the least measure
pub find_least : (n : ℕ) (P : ℕ → Type 0) (m : ℕ → ℕ) → ((z : ℕ) → Decided (P z)) → ((z : ℕ) → P z → z < n) → (k y : ℕ) → m y ≤ k → P y → Least P m
find_least n P m d inside zero y le p = record { at = y; holds = p; least = λ z q. omega arith }
find_least n P m d inside (suc k) y le p = elim (search_below n (λ z. P z × m z < m y) (λ z _. Decided-and (d z) (Decided-lt (m z) (m y)))) [
  | inl w ↦ find_least n P m d inside k w.at (omega (arith, w.holds.1)) w.holds.0
  | inr none ↦ record { at = y; holds = p; least = λ z q. elim (lt_or_le (m z) (m y)) [ inl l ↦ absurd (none z (inside z q) (q, l)) | inr l ↦ l ] }
]

-- x's list has a first
pub record HasFirst (rows : List (List ℕ)) (b : ℕ → ℕ) (x : ℕ) : Type 0 where
  pub foremost : ℕ
  pub first : IsFirst rows b x foremost

-- x's list has a second
pub record HasSecond (rows : List (List ℕ)) (b : ℕ → ℕ) (x : ℕ) : Type 0 where
  pub next : ℕ
  pub second : IsSecond rows b x next

-- a second that isn't behind y
pub record HadSecond (rows : List (List ℕ)) (b : ℕ → ℕ) (x y : ℕ) : Type 0 where
  pub next : ℕ
  pub second : IsSecond rows b x next
  pub early : place_of rows x next ≤ place_of rows x y

module _ {rows : List (List ℕ)} where
  -- whether somebody is left on a list is decided
  pub Decided-left : (b : ℕ → ℕ) (x y : ℕ) → Decided (IsLeft rows b x y)
  Decided-left b x y = elim (Decided-and (Decided-acceptable rows x y) (Decided-and (Decided-le (place_of rows x y) (b x)) (Decided-le (place_of rows y x) (b y)))) [
    | inl w ↦ inl (record { acc = w.0; here = w.1.0; there = w.1.1 })
    | inr w ↦ inr (λ v. w (v.acc, (v.here, v.there)))
  ]

  -- who is left on a list is a person
  pub in_range : (b : ℕ → ℕ) (x y : ℕ) → IsLeft rows b x y → y < (length rows)
  in_range b x y h = inside_rows rows y x (turn rows x y h.acc)

  -- a list that isn't empty has a first
  pub has_first : {b : ℕ → ℕ} {x y : ℕ} → IsLeft rows b x y → HasFirst rows b x
  has_first {b} {x} {y} h =
      let w = find_least (length rows) (IsLeft rows b x) (place_of rows x) (Decided-left b x) (in_range b x) (place_of rows x y) y (omega arith) h in
      record { foremost = w.at; first = record { left = w.holds; least = w.least } }

  -- and a second, where somebody stands behind the first
  pub has_second : {b : ℕ → ℕ} {x f y : ℕ} → IsFirst rows b x f → IsLeft rows b x y → place_of rows x f < place_of rows x y → HasSecond rows b x
  has_second {b} {x} {f} {y} first h behind =
      let w = find_least (length rows) (λ z. IsLeft rows b x z × place_of rows x f < place_of rows x z) (place_of rows x) (λ z. Decided-and (Decided-left b x z) (Decided-lt (place_of rows x f) (place_of rows x z)))
      (λ z q. in_range b x z q.0) (place_of rows x y) y (omega arith) (h, behind) in
      record { next = w.at; second = record { left = w.holds.0; foremost = f; first = first; behind = w.holds.1; least = λ z i l. w.least z (i, l) } }

  -- who is left was left before, where bounds have fallen since
  module _ (b c : ℕ → ℕ) (lower : (y : ℕ) → c y ≤ b y) where
    -- on each list who is left was left before
    pub left_before : {x y : ℕ} → IsLeft rows c x y → IsLeft rows b x y
    left_before {x} {y} h = record { acc = h.acc; here = omega (arith, h.here, lower x); there = omega (arith, h.there, lower y) }

    -- and where there is a second there was one, no further behind
    pub had_second : {x y : ℕ} → IsSecond rows c x y → HadSecond rows b x y
    had_second {x} {y} s =
        let f = has_first (left_before s.left) in
        let less : place_of rows x f.foremost < place_of rows x y = let le = f.first.least s.foremost (left_before s.first.left) in omega (arith, le, s.behind) in
        let w = has_second f.first (left_before s.left) less in
        record { next = w.next; second = w.second; early = w.second.least y (left_before s.left) (omega (arith, same_foremost w.second f.first, less)) }
