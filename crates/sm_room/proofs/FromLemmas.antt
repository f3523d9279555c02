-- The first places, and the second, that are left on a list.
use Rattle.std.proofs.Common.{◌≡◌, ℕ, ◌+◌, ◌<◌, ◌≤◌, inl, inr, arith, sym, ap, ◌∙◌, List, length, get_or, max, replicate}
use Rattle.std.proofs.lemmas.List.{length-replicate}
use Rattle.sm_lists.specs.Rows.{row, entry, place_of}
use Rattle.sm_lists.proofs.Counting.{eq_or_ne}
use Rattle.sm_lists.proofs.PlaceLemmas.{entry-place_of}
use Rattle.sm_theory.specs.Rooms.{AreRoomLists}
use Rattle.sm_room.specs.Bounds.{IsLeft, IsFirst, IsLast, IsSecond, IsGoodAt, bound_in}
use Rattle.sm_room.specs.Rotating.{IsLeftFrom, IsSecondPlace, AreHints}
use Rattle.sm_room.proofs.TableCore.{one_at, same_foremost, has_second, left_before, had_second}
use Rattle.sm_room.proofs.WalkLemmas.{zero_marks}
use Rattle.sm_room.proofs.LeftLemmas.{place_of-entry}

-- nothing is left at places between
abbrev pub NoneBetween : List (List ℕ) → List ℕ → ℕ → ℕ → ℕ → Type 0
NoneBetween rows bounds x from upto = (y : ℕ) → IsLeft rows (bound_in bounds) x y → from ≤ place_of rows x y → upto ≤ place_of rows x y

-- an entry that isn't left leaves nothing left up to the next place
pub none_further : (rows : List (List ℕ)) (bounds : List ℕ) (x from upto : ℕ) → NoneBetween rows bounds x from upto → (IsLeft rows (bound_in bounds) x (entry rows x upto) → ⊥)
    → NoneBetween rows bounds x from (upto + 1)
none_further rows bounds x from upto none gone y l le = elim (eq_or_ne (place_of rows x y) upto) [
  | inl e ↦ let is : y ≡ entry rows x upto = sym (entry-place_of rows x y l.acc.listed) ∙ ap (entry rows x) e in absurd (gone (rw is at l))
  | inr e ↦ omega (arith, e, none y l le)
]

-- from the hints on
module _ {rows : List (List ℕ)} {bounds firsts seconds : List ℕ} (h : AreHints rows bounds firsts seconds) {x : ℕ} where
  module _ {i : ℕ} (lists : AreRoomLists rows) (f : IsLeftFrom rows bounds x (get_or firsts x 0) i) where
    -- who is left first from the hint on is the first of the list
    pub first_is : IsFirst rows (bound_in bounds) x (entry rows x i)
    first_is = record { left = f.left; least = λ z l. omega (arith, place_of-entry lists x i f.on_list, f.least z l (h.first x z l)) }

    -- whoever is left behind it, and not before the hint of the second, is the second
    module _ {from : ℕ} (is : from ≡ max (get_or seconds x 0) (i + 1)) where
      behind : i + 1 ≤ from
      behind = omega (arith, is)

      from_le : (y : ℕ) → IsSecond rows (bound_in bounds) x y → from ≤ place_of rows x y
      from_le y s =
          let less : i < place_of rows x y = omega (arith, place_of-entry lists x i f.on_list, s.behind, f.least s.foremost s.first.left (h.first x s.foremost s.first.left)) in
          omega (arith, is, less, h.second x y s)

      module _ {j : ℕ} (g : IsLeftFrom rows bounds x from j) where
        second_of : IsSecond rows (bound_in bounds) x (entry rows x j)
        second_of =
            let ei = place_of-entry lists x i f.on_list in
            let ej = place_of-entry lists x j g.on_list in
            let w = has_second first_is g.left (omega (arith, ei, ej, behind, g.behind)) in
            let ge : j ≤ place_of rows x w.next = g.least w.next w.second.left (from_le w.next w.second) in
            let le : place_of rows x w.next ≤ place_of rows x (entry rows x j) = w.second.least (entry rows x j) g.left (omega (arith, same_foremost w.second first_is, ei, ej, behind, g.behind)) in
            let e : w.next ≡ entry rows x j = one_at rows x w.next (entry rows x j) w.second.left.acc g.left.acc (omega (arith, ge, le, ej)) in
            rw e at w.second

        -- who is left next from there on stands at the place of the second
        pub second_at : IsSecondPlace rows bounds x j
        second_at = record { on_list = g.on_list; at = place_of-entry lists x j g.on_list; second = second_of }

-- hints stay hints while bounds fall
pub hints_kept : {rows : List (List ℕ)} {firsts seconds : List ℕ} (old now : List ℕ) → ((y : ℕ) → get_or now y 0 ≤ get_or old y 0) → AreHints rows old firsts seconds → AreHints rows now firsts seconds
hints_kept {rows} old now lower h = record {
  first_each = h.first_each;
  second_each = h.second_each;
  first = λ x y l. h.first x y (left_before (bound_in old) (bound_in now) lower l);
  second = λ x y s. let w = had_second (bound_in old) (bound_in now) lower s in omega (arith, w.early, h.second x w.next w.second);
}

-- no hints yet
pub hints_begin : {rows : List (List ℕ)} (bounds firsts seconds : List ℕ) → firsts ≡ replicate (length rows) 0 → seconds ≡ replicate (length rows) 0 → AreHints rows bounds firsts seconds
hints_begin {rows} bounds firsts seconds a b = record {
  first_each = rw a (let o : ℕ = 0 in length-replicate (length rows) o);
  second_each = rw b (let o : ℕ = 0 in length-replicate (length rows) o);
  first = λ x y _. let z = zero_marks (length rows) x firsts a in omega arith;
  second = λ x y _. let z = zero_marks (length rows) x seconds b in omega arith;
}

-- on a good table a list with somebody left has its last at its bound
pub last_at : {rows : List (List ℕ)} {b : ℕ → ℕ} {y x : ℕ} → IsGoodAt rows b → IsLeft rows b y x → (b y < length (row rows y)) × IsLast rows b y (entry rows y (b y))
last_at {rows} {b} {y} {x} good i =
    let l = good.ends y x i in
    let e : l.last ≡ entry rows y (b y) = sym (entry-place_of rows y l.last l.final.left.acc.listed) ∙ ap (entry rows y) l.final.at in
    (omega (arith, l.final.at, l.final.left.acc.listed), rw e at l.final)

-- who is left first from the beginning on is the first of the list
pub first_at : {rows : List (List ℕ)} {bounds : List ℕ} {x i : ℕ} → AreRoomLists rows → IsLeftFrom rows bounds x 0 i → IsFirst rows (bound_in bounds) x (entry rows x i)
first_at {rows} {bounds} {x} {i} h f = record { left = f.left; least = λ z l. omega (arith, place_of-entry h x i f.on_list, f.least z l (omega arith)) }
