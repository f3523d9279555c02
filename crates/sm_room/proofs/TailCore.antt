-- What is before the cycle on a walk stays a walk once the cycle's lists are cut: whoever keeps two left keeps the one that
-- comes next.
use Rattle.std.proofs.Common.{List, ◌≡◌, ◌≢◌, ℕ, suc, ◌<◌, ◌≤◌, inl, inr, arith, sym}
use Rattle.sm_lists.specs.Rows.{place_of}
use Rattle.sm_lists.proofs.Counting.{lt_or_le}
use Rattle.sm_room.specs.Bounds.{IsLeft, IsFirst, IsLast, IsSecond, IsNextPerson, IsGoodAt}
use Rattle.sm_room.proofs.TableCore.{IsLeft-turn, one_final, one_second}
use Rattle.sm_room.proofs.PhaseTwoCore.{Two, Cuts, before_cuts, last_first}
use Rattle.sm_room.proofs.CycleCore.{Walk, On, round_of_walk}

module _ {rows : List (List ℕ)} {b : ℕ → ℕ} {p : ℕ → ℕ} {one end : ℕ} (w : Walk rows b p one end) (good : IsGoodAt rows b)
    (distinct : (i j : ℕ) → i < j → j ≤ end → p i ≢ p j) where
  off : (i : ℕ) → i < one → On p one end (p i) → ⊥
  off i h o = distinct i o.at (omega (arith, h, o.late)) o.early (sym o.is)

  module _ {c : ℕ → ℕ} (cuts : Cuts rows b c (On p one end)) (none : (u v : ℕ) → Two rows b (On p one end) u v → ⊥) where
    -- who isn't cut keeps its last
    keeps_last : (y v : ℕ) → c y ≡ b y → IsLast rows b y v → IsLast rows c y v
    keeps_last y v e l = record { left = record { acc = l.left.acc; here = omega (arith, e, l.at); there = there }; at = omega (arith, e, l.at) }
      where
        f : IsFirst rows b v y
        f = good.last_first y v l

        there : place_of rows v y ≤ c v
        there = elim (cuts.other v) [
          | inl k ↦ omega (arith, k.bound, f.least k.by (IsLeft-turn k.second.left))
          | inr d ↦ omega (arith, d, f.left.here)
        ]

    -- whose second has a last that isn't of the cycle has a second that isn't cut
    uncut : (y v : ℕ) → IsLast rows b y v → (On p one end v → ⊥) → c y ≡ b y
    uncut y v l out = elim (cuts.other y) [
      | inr e ↦ e
      | inl k ↦
          let a = (round_of_walk w).after k.by k.here in
          let same : a.next.over ≡ y = one_second a.next.second k.second in
          let m : IsLast rows b y a.who = rw same at a.next.final in
          absurd (out (let e : a.who ≡ v = one_final m l in rw e at a.here))
    ]

    -- who isn't of the cycle keeps its first
    keeps_first : (u f : ℕ) → (On p one end u → ⊥) → IsFirst rows b u f → IsFirst rows c u f
    keeps_first u f out g =
        let l : IsLast rows b f u = good.first_last u f g in
        last_first good (round_of_walk w) cuts none f u (keeps_last f u (uncut f u l out) l)

    -- who is before the cycle and keeps two left keeps its second, and the last of that one
    module _ {i : ℕ} (h : suc i < one) (n : IsNextPerson rows b (p i) (p (suc i))) {z : ℕ} (still : IsSecond rows c (p i) z) {y : ℕ} (f : IsSecond rows b (p i) y) where
      final : IsLast rows b y (p (suc i))
      final = let e : n.over ≡ y = one_second n.second f in rw e at n.final

      uncut_second : c y ≡ b y
      uncut_second = uncut y (p (suc i)) final (off (suc i) h)

      -- were its list cut behind its first, it would have one left
      here : place_of rows (p i) y ≤ c (p i)
      here = elim (cuts.other (p i)) [
        | inr e ↦ omega (arith, e, f.left.here)
        | inl k ↦ elim (lt_or_le (place_of rows (p i) f.foremost) (place_of rows (p i) k.by)) [
          | inl l ↦ omega (arith, k.bound, f.least k.by (IsLeft-turn k.second.left) l)
          | inr l ↦
              let back : IsLeft rows b (p i) still.foremost = before_cuts good (round_of_walk w) cuts none still.first.left in
              absurd (omega (arith, k.bound, l, f.first.least still.foremost back, still.behind, still.left.here))
        ]
      ]

      second : IsSecond rows c (p i) y
      second = record {
        left = record { acc = f.left.acc; here = here; there = omega (arith, uncut_second, f.left.there) };
        foremost = f.foremost;
        first = keeps_first (p i) f.foremost (off i (omega (arith, h))) f.first;
        behind = f.behind;
        least = λ z j l. f.least z (before_cuts good (round_of_walk w) cuts none j) l;
      }

      -- who is before the cycle and keeps two left has the second that it had, with the same last
      pub tail_keeps : IsSecond rows c (p i) y × IsLast rows c y (p (suc i))
      tail_keeps = (second, keeps_last y (p (suc i)) uncut_second final)
