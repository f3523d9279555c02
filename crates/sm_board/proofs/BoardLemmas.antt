-- Sets of a board, the stays of the proposers in them, and their levels.
use Rattle.std.proofs.Common.{◌≡◌, ℕ, zero, suc, ◌+◌, ◌-◌, ◌<◌, ◌≤◌, inl, inr, arith, refl, sym, ap, ◌∙◌, subst, List, length, Bool}
use Rattle.std.proofs.lemmas.List.{get_or_default}
use Rattle.sm_market.specs.Lists.{row}
use Rattle.sm_lists.proofs.Counting.{eq_or_ne, lt_or_le}
use Rattle.sm_theory.specs.ClosedSets.{IsMember}
use Rattle.sm_board.specs.Board.{Board, IsBoard, leave, stay_level, stay, IsClosedIn}
use Rattle.sm_board.specs.BoardLaws.{MembersAreFirst, StaysGrow, LeaveIsIn, PastIsShut, LevelStays, LevelRises, EnterEndsStays}
use Rattle.sm_board.proofs.MemberLemmas.{members_few, Chained, front, more_members, members_in-set_other, members_in-set_member}

-- of the rotations that move p a closed set has with each the one before it
pub chained : {b : Board} {C : List Bool} → IsBoard b → IsClosedIn b C → (p : ℕ) → Chained C (row b.leaves p)
chained {b} {C} h c p a less m = c.closed (leave b p a) (leave b p (a + 1)) m (h.lead p a less)

-- those that move p and are members are the first ones
pub members_are_first : MembersAreFirst
members_are_first b C p a h c less = front C (row b.leaves p) (chained h c p) a less

-- each stay has a level
pub stays_in : {b : Board} → IsBoard b → (C : List Bool) (p : ℕ) → p < length b.leaves → stay b C p < length (row b.levels p)
stays_in {b} h C p less = omega (arith, members_few C (row b.leaves p), h.long p less)

-- levels never fall, from one stay to the same or a later one
pub never_falls : {b : Board} → IsBoard b → (p i j : ℕ) → i ≤ j → j < length (row b.levels p) → stay_level b p i ≤ stay_level b p j
never_falls {b} h p i j le less = elim (eq_or_ne i j) [
  | inl e ↦ omega (arith, ap (stay_level b p) e)
  | inr ne ↦ h.rising p i j (omega arith) less
]

-- more members are counted, and levels never fall
pub stays_grow : StaysGrow
stays_grow b C D p h inside less =
    let more = more_members C D (row b.leaves p) inside in
    (more, never_falls h p (stay b C p) (stay b D p) more (stays_in h D p less))

-- the greater set has a later stay, so what ends this one is a member
pub leave_is_in : LeaveIsIn
leave_is_in b C D p h inside d ne =
    let more = more_members C D (row b.leaves p) inside in
    let few = members_few D (row b.leaves p) in
    (members_are_first b D p (stay b C p) h d (omega arith)).1 (omega arith)

-- stays grow, and what is open lies before the last open one
pub past_is_shut : PastIsShut
past_is_shut b g C D p h inside past w =
    let more = more_members C D (row b.leaves p) inside in
    omega (arith, w.before)

-- levels that don't rise between two stays are the same at both
level_flat : {b : Board} → IsBoard b → (p i m : ℕ) → i + m < length (row b.levels p) → ((a : ℕ) → i ≤ a → a < i + m → stay_level b p a < stay_level b p (a + 1) → ⊥) → stay_level b p i ≡ stay_level b p (i + m)
level_flat {b} h p i zero less none = ap (stay_level b p) (omega arith)
level_flat {b} h p i (suc m) less none =
    let before = level_flat h p i m (omega arith) (λ a x y. none a x (omega arith)) in
    let e : i + suc m ≡ i + m + 1 = omega arith in
    let up = never_falls h p (i + m) (i + m + 1) (omega arith) (omega arith) in
    let same : stay_level b p (i + m) ≡ stay_level b p (i + m + 1) = elim (lt_or_le (stay_level b p (i + m)) (stay_level b p (i + m + 1))) [
      | inl rises ↦ absurd (none (i + m) (omega arith) (omega arith) rises)
      | inr le ↦ omega arith
    ] in
    before ∙ same ∙ ap (stay_level b p) (sym e)

-- the level could change only where a new member raises it
pub level_stays : LevelStays
level_stays b C D p h inside c d less none =
    let more = more_members C D (row b.leaves p) inside in
    let few = members_few D (row b.leaves p) in
    let e : stay b C p + (stay b D p - stay b C p) ≡ stay b D p = omega arith in
    level_flat h p (stay b C p) (stay b D p - stay b C p) (omega (arith, stays_in h D p less, e)) (λ a x y rises.
    none (leave b p a)
    ((members_are_first b D p a h d (omega arith)).1 (omega arith))
    (λ m. let k = (members_are_first b C p a h c (omega arith)).0 m in omega arith)
    (record { at = a; within = omega arith; is = refl; rises = rises }))
    ∙ ap (stay_level b p) e

-- the new member lies between the two stays
pub level_rises : LevelRises
level_rises b C D p x h inside c d less new out w =
    let few = members_few D (row b.leaves p) in
    let behind : w.at < stay b D p = (members_are_first b D p w.at h d w.within).0 (subst (IsMember D) (sym w.is) new) in
    let before : stay b C p ≤ w.at = elim (lt_or_le w.at (stay b C p)) [
      | inl k ↦ absurd (out (subst (IsMember C) w.is ((members_are_first b C p w.at h c w.within).1 k)))
      | inr k ↦ k
    ] in
    omega (
      arith,
      w.rises,
      never_falls h p (stay b C p) w.at before (omega (arith, h.long p less, w.within)),
      never_falls h p (w.at + 1) (stay b D p) (omega arith) (stays_in h D p less),
    )

-- one more member is counted exactly for those that it moves
pub enter_ends_stays : EnterEndsStays
enter_ends_stays b C p x h less out = (
  (λ moves. let w = h.back p x moves in members_in-set_member C x (row b.leaves p) less out (λ a c g k. h.once p a c g k) w.0 w.1 (sym (get_or_default (row b.leaves p) w.0 x 0 w.1) ∙ w.2)),
  (λ idle. members_in-set_other C x (row b.leaves p) (λ a g e. idle (h.there p x (a, g, get_or_default (row b.leaves p) a x 0 g ∙ e)))),
)
