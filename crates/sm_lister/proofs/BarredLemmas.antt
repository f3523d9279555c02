-- Rotations that can't enter.
use Rattle.std.proofs.Common.{◌≡◌, ℕ, ◌+◌, ◌<◌, ◌≤◌, inl, inr, arith, sym, ap, ◌∙◌, subst, List, length, Bool, slice_index, set}
use Rattle.std.proofs.lemmas.List.{get_or-set_same, get_or-set_other, length-map}
use Rattle.sm_lists.proofs.Counting.{lt_or_le, eq_or_ne}
use Rattle.sm_market.specs.Lists.{row}
use Rattle.sm_theory.specs.ClosedSets.{IsMember}
use Rattle.sm_theory.specs.Vectors.{IsOrder}
use Rattle.sm_board.specs.Board.{Board, IsBoard, firsts, leave, stay, level, IsInside, IsClosedIn, Gates}
use Rattle.sm_board.specs.Courses.{Course, IsCourse, Held, IsHeld, IsBroken}
use Rattle.sm_board.specs.Walks.{IsUp, NoneFrom}
use Rattle.sm_board.proofs.BoardLemmas.{members_are_first, stays_in, never_falls}
use Rattle.sm_board.proofs.MemberLemmas.{members_few}
use Rattle.sm_lister.specs.Walking.{IsUnderWay}
use Rattle.sm_lister.specs.Barred.{IsBarred, IsBarredAt, AreBars, IsNoted, LeadTo}
use Rattle.sm_lister.specs.declared.bars.Bars.{Bars}
use Rattle.sm_lister.proofs.SkipLemmas.{marks_fewer}

-- a later bar
pub broken_later : {t : Course} {bar then : ℕ} {C D : List Bool} → bar ≤ then → IsBroken t bar C D → IsBroken t then C D
broken_later le w = record { rotation = w.rotation; member = w.member; new = w.new; position = w.position; early = let a = w.early in omega arith; changes = w.changes }

-- a rotation that isn't held changes the level at its own first position
pub barred_itself : {t : Course} {C : List Bool} (x : ℕ) → IsCourse t → x < length t.board.needs → (IsMember C x → ⊥) → slice_index t.first x < length t.order → IsBarred t C x (slice_index t.first x + 1)
barred_itself {t} {C} x course few new less D d m = record {
  rotation = x;
  member = m;
  new = new;
  position = slice_index t.first x;
  early = omega arith;
  changes = (course.first_are x few).changes less;
}

-- a closed set that is above another one has what ends a proposer's stay there
pub above_has : {b : Board} {D : List Bool} (C : List Bool) (p : ℕ) → IsBoard b → IsClosedIn b D → p < length b.leaves → level b C p < level b D p → (stay b C p < length (row b.leaves p)) × IsMember D (leave b p (stay b C p))
above_has {b} {D} C p board d less up =
    let later : stay b C p < stay b D p = elim (lt_or_le (stay b C p) (stay b D p)) [
      | inl k ↦ k
      | inr le ↦ absurd (omega (arith, never_falls board p (stay b D p) (stay b C p) le (stays_in board C p less)))
    ] in
    let few : stay b C p < length (row b.leaves p) = omega (arith, members_few D (row b.leaves p)) in
    (few, (members_are_first b D p (stay b C p) board d few).1 later)

-- where something new in a closed set changes a level before a position, the two sets differ there
pub broken_differs : {t : Course} {bar : ℕ} {C D : List Bool} → IsBoard t.board → IsClosedIn t.board C → IsClosedIn t.board D → (w : IsBroken t bar C D) → slice_index t.order w.position < length t.board.leaves → level t.board C (slice_index t.order w.position) < level t.board D (slice_index t.order w.position)
broken_differs {t} {bar} {C} {D} board c d w less =
    let q = slice_index t.order w.position in
    let ch = w.changes in
    let in_d : ch.at < stay t.board D q = (members_are_first t.board D q ch.at board d ch.within).0 (subst (IsMember D) (sym ch.is) w.member) in
    let in_c : stay t.board C q ≤ ch.at = elim (lt_or_le ch.at (stay t.board C q)) [
      | inl k ↦ absurd (w.new (subst (IsMember C) ch.is ((members_are_first t.board C q ch.at board c ch.within).1 k)))
      | inr le ↦ le
    ] in
    let low = never_falls board q (stay t.board C q) ch.at in_c (omega (arith, stays_in board D q less)) in
    let high = never_falls board q (ch.at + 1) (stay t.board D q) (omega arith) (stays_in board D q less) in
    let rises = ch.rises in
    omega arith

-- none is above the vector at a position that is barred
pub none_barred : {t : Course} {g : Gates} {h : Held} {v marks : List ℕ} (i : ℕ) → IsBoard t.board → IsUnderWay t g h v marks (i + 1) → IsBarredAt t h.set i → NoneFrom t.board g t.order v i
none_barred {t} {g} {h} {v} {marks} i board w bar j D le less up = elim (eq_or_ne j i) [
  | inl e ↦ here (subst (λ k. IsUp t.board g t.order v k D) e up)
  | inr ne ↦ w.none j D (omega arith) less up
]
  where
    here : IsUp t.board g t.order v i D → ⊥
    here up =
        let order = w.made.order in
        let b = bar D up.fits.closed (let a = up.above in let e = w.agrees i (omega arith) in omega arith) in
        let early = b.early in
        let within = w.within in
        let differs = broken_differs board w.closed up.fits.closed b (order.in_range b.position (omega (arith, order.long))) in
        omega (arith, w.agrees b.position (omega arith), up.agrees b.position early)

-- a walk goes on below a position that is barred
pub under_way_barred : {t : Course} {g : Gates} {h : Held} {v marks : List ℕ} (i : ℕ) → IsBoard t.board → IsUnderWay t g h v marks (i + 1) → IsBarredAt t h.set i → IsUnderWay t g h v marks i
under_way_barred i board w bar = record {
  made = w.made;
  within = let a = w.within in omega arith;
  are = marks_fewer i (omega arith) w.are;
  closed = w.closed;
  agrees = λ j x. w.agrees j (omega arith);
  none = none_barred i board w bar;
}

-- one more rotation is looked at, and another one takes its place to which all lead
pub leads_more : {b : Board} {from x : ℕ} (looked : List ℕ) (n y : ℕ) → n < length looked → LeadTo b looked from n x → ((D : List Bool) → IsClosedIn b D → IsMember D x → IsMember D y) → LeadTo b (set looked n x) from (n + 1) y
leads_more {b} {from} {x} looked n y less leads next k D le few d m = elim (eq_or_ne k n) [
  | inl e ↦ next D d (subst (IsMember D) (ap (slice_index (set looked n x)) e ∙ get_or-set_same looked n x 0 less) m)
  | inr ne ↦ next D d (leads k D le (omega arith) d (subst (IsMember D) (get_or-set_other looked n k x 0 ne) m))
]

-- the first ones stay
pub front_keeps : {start : ℕ} (looked first : List ℕ) (n x : ℕ) → start ≤ n → ((k : ℕ) → k < start → slice_index looked k ≡ slice_index first k) → (k : ℕ) → k < start → slice_index (set looked n x) k ≡ slice_index first k
front_keeps {start} looked first n x le same k less = get_or-set_other looked n k x 0 (λ e. omega arith) ∙ same k less

-- what was noted for one of the first ones holds
pub noted_is : {t : Course} {C : List Bool} {before : Bars} (after : Bars) (x position : ℕ) → AreBars t C before → ((k : ℕ) → k < before.count → slice_index after.looked.items k ≡ slice_index before.looked.items k) → after.positions ≡ before.positions → IsNoted after.looked.items after.positions.items before.count x position → position < length t.order → IsBarred t C x (position + 1)
noted_is {t} {C} {before} after x position w front same n less =
    let at : slice_index before.positions.items n.place ≡ position = sym (ap (λ v. slice_index v.items n.place) same) ∙ n.at in
    let is : slice_index before.looked.items n.place ≡ x = sym (front n.place n.before) ∙ n.is in
    let bar = w.barred n.place n.before (omega (arith, at)) in
    λ D d m. subst (λ q. IsBroken t (q + 1) C D) at (bar D d (subst (IsMember D) (sym is) m))

-- where all that were looked at lead to one that is barred, they are barred
pub all_barred : {t : Course} {C : List Bool} {from n x position : ℕ} (looked : List ℕ) → LeadTo t.board looked from n x → (position < length t.order → IsBarred t C x (position + 1)) → (k : ℕ) → from ≤ k → k < n → position < length t.order → IsBarred t C (slice_index looked k) (position + 1)
all_barred looked leads bar k le few less D d m = bar less D d (leads k D le few d m)

-- where fewer are held no more may enter
pub bars_fewer : {t : Course} {C D : List Bool} {bars : Bars} → IsInside C D → AreBars t D bars → AreBars t C bars
bars_fewer inside w = record {
  room = w.room;
  few = w.few;
  barred = λ k less on E e m.
      let b = w.barred k less on E e m in
      record { rotation = b.rotation; member = b.member; new = λ in_it. b.new (inside b.rotation in_it); position = b.position; early = b.early; changes = b.changes };
}

-- the proposer at a position of an order
pub placed : {n : ℕ} {order : List ℕ} (i p : ℕ) → IsOrder n order → i < n → p ≡ slice_index order i → p < n
placed i p o less at = let a = o.in_range i (omega (arith, o.long)) in omega arith

-- as many moves as the rotations that they name
pub moves_long : {b c : Board} (moves : List (ℕ × ℕ)) (p : ℕ) → firsts moves ≡ row c.leaves p → c ≡ b → length moves ≡ length (row b.leaves p)
moves_long {b} {c} moves p is same = sym (length-map moves (λ pair. pair.0)) ∙ ap length is ∙ ap (λ board. length (row board.leaves p)) same

-- at a last stay nothing is above
pub barred_last : {t : Course} {h : Held} (i p a : ℕ) → IsBoard t.board → IsOrder (length t.board.leaves) t.order → IsHeld t.board h → i < length t.board.leaves → p ≡ slice_index t.order i → a ≡ slice_index h.stays p → length (row t.board.leaves p) ≤ a → IsBarredAt t h.set i
barred_last {t} {h} i p a board order held less at is last D d up =
    let in_it = placed i p order less at in
    absurd (let few = (above_has h.set p board d in_it (subst (λ q. level t.board h.set q < level t.board D q) (sym at) up)).0 in omega (arith, held.at_is p in_it))

-- a position is barred where the rotation is that ends the stay there
pub barred_next : {t : Course} {h : Held} (i p a x bar : ℕ) → IsBoard t.board → IsOrder (length t.board.leaves) t.order → IsHeld t.board h → i < length t.board.leaves → p ≡ slice_index t.order i → a ≡ slice_index h.stays p → x ≡ leave t.board p a → bar ≤ i → IsBarred t h.set x bar → IsBarredAt t h.set i
barred_next {t} {h} i p a x bar board order held less at is ends le barred D d up =
    let in_it = placed i p order less at in
    let has = (above_has h.set p board d in_it (subst (λ q. level t.board h.set q < level t.board D q) (sym at) up)).1 in
    broken_later le (barred D d (subst (IsMember D) (sym (ends ∙ ap (leave t.board p) (is ∙ held.at_is p in_it))) has))
