-- Phase one: persons propose to the first on their lists, who cuts its list behind the proposer.
use Rattle.std.proofs.Common.{List, length, ◌≡◌, ◌≢◌, ℕ, ◌≤◌, ◌⊎◌, inl, inr, arith, sym}
use Rattle.sm_lists.proofs.Counting.{Decided, search_below, eq_or_ne, onto_itself, Reached}
use Rattle.sm_lists.specs.Rows.{row, place_of}
use Rattle.sm_room.specs.Bounds.{IsLeft, IsFirst, IsLast, HasLast, IsGoodAt, HasHolder, IsProposing}
use Rattle.sm_room.proofs.TableCore.{IsLeft-turn, has_first, in_range, HasFirst, Decided-left, one_final, inside_rows}

-- at the start no list is cut
pub proposing_at_start : {rows : List (List ℕ)} {b : ℕ → ℕ} → ((y : ℕ) → length (row rows y) ≤ b y) → IsProposing rows b
proposing_at_start all = record { each = λ y. inl (all y) }

-- x proposes to y, the first on its list, and isn't its holder; c is b with the bound of y at x
pub proposing_goes_on : {rows : List (List ℕ)} {b c : ℕ → ℕ} (x y : ℕ) → IsProposing rows b → IsFirst rows b x y → x ≢ y → c y ≡ place_of rows y x
    → ((z : ℕ) → z ≢ y → c z ≡ b z) → IsProposing rows c
proposing_goes_on {rows} {b} {c} x y inv first apart cut kept = record { each = each }
  where
    less : (z : ℕ) → c z ≤ b z
    less z = elim (eq_or_ne z y) [
      | inl e ↦ rw e (omega (arith, cut, first.left.there))
      | inr e ↦ omega (arith, kept z e)
    ]

    back : (u v : ℕ) → IsLeft rows c u v → IsLeft rows b u v
    back u v h = record { acc = h.acc; here = omega (arith, h.here, less u); there = omega (arith, h.there, less v) }

    new : IsLeft rows c x y
    new = record { acc = first.left.acc; here = omega (arith, kept x apart, first.left.here); there = omega (arith, cut) }

    still : (u v : ℕ) → IsFirst rows b u v → IsLeft rows c u v → IsFirst rows c u v
    still u v f h = record { left = h; least = λ z i. f.least z (back u z i) }

    each : (z : ℕ) → (length (row rows z) ≤ c z) ⊎ HasHolder rows c z
    each z = elim (eq_or_ne z y) [
      | inl e ↦ rw e (inr (record { by = x; final = record { left = IsLeft-turn new; at = sym cut }; first = still x y first new }))
      | inr e ↦ elim (inv.each z) [
        | inl l ↦ inl (omega (arith, kept z e))
        | inr w ↦
            let here : place_of rows w.by z ≤ c w.by = elim (eq_or_ne w.by y) [
              | inl d ↦ let l = w.first.least x (rw d (IsLeft-turn first.left)) in let k : place_of rows y z ≤ place_of rows y x = rw d at l in rw d (omega (arith, cut, k))
              | inr d ↦ omega (arith, kept w.by d, w.first.left.here)
            ] in
            let i : IsLeft rows c w.by z = record { acc = w.first.left.acc; here = here; there = omega (arith, kept z e, w.first.left.there) } in
            inr (record { by = w.by; final = record { left = IsLeft-turn i; at = omega (arith, kept z e, w.final.at) }; first = still w.by z w.first i })
      ]
    ]

-- somebody is left on x's list
pub record HasLeft (rows : List (List ℕ)) (b : ℕ → ℕ) (x : ℕ) : Type 0 where
  pub who : ℕ
  pub left : IsLeft rows b x who

-- the person found, or another
chosen : {rows : List (List ℕ)} {b : ℕ → ℕ} {x : ℕ} → Decided (HasFirst rows b x) → ℕ
chosen {x = x} (inl w) = w.foremost
chosen {x = x} (inr _) = x

chosen_is : {rows : List (List ℕ)} {b : ℕ → ℕ} {x : ℕ} (d : Decided (HasFirst rows b x)) → HasFirst rows b x → IsFirst rows b x (chosen d)
unfolding chosen
chosen_is (inl w) _ = w.first
chosen_is (inr none) h = absurd (none h)

-- once nobody proposes any more the table is good
module _ {rows : List (List ℕ)} {b : ℕ → ℕ} (inv : IsProposing rows b) (done : (x y : ℕ) → IsFirst rows b x y → b y ≤ place_of rows y x) where
  Decided-first : (x : ℕ) → Decided (HasFirst rows b x)
  Decided-first x = elim (search_below (length rows) (λ y. IsLeft rows b x y) (λ y _. Decided-left b x y)) [
    | inl w ↦ inl (has_first w.holds)
    | inr none ↦ inr (λ w. none w.foremost (in_range b x w.foremost w.first.left) w.first.left)
  ]

  to : ℕ → ℕ
  to x = chosen (Decided-first x)

  to_is : (x : ℕ) → HasLeft rows b x → IsFirst rows b x (to x)
  unfolding to
  to_is x w = chosen_is (Decided-first x) (has_first w.left)

  forth : (x y : ℕ) → IsFirst rows b x y → IsLast rows b y x
  forth x y f = record { left = IsLeft-turn f.left; at = omega (arith, f.left.there, done x y f) }

  -- each list that isn't empty is that of somebody's first
  onto : (y : ℕ) → HasLeft rows b y → Reached (HasLeft rows b) to y
  onto = onto_itself (length rows) (HasLeft rows b) to
      (λ x w. inside_rows rows x w.who w.left.acc)
      (λ x w. record { who = x; left = IsLeft-turn (to_is x w).left })
      (λ x y v w e. one_final (forth x (to x) (to_is x v)) (rw e (forth y (to y) (to_is y w))))

  held : (y z : ℕ) → IsLeft rows b y z → HasLast rows b y
  held y z h =
      let w = onto y (record { who = z; left = h }) in
      let f = forth w.from (to w.from) (to_is w.from w.holds) in
      record { last = w.from; final = rw w.arrives at f }

  back : (u v : ℕ) → IsLast rows b u v → IsFirst rows b v u
  back u v f =
      let w = onto u (record { who = v; left = f.left }) in
      let g : IsFirst rows b w.from u = rw w.arrives at (to_is w.from w.holds) in
      let e : v ≡ w.from = one_final f (forth w.from u g) in
      rw e g

  -- so the table is good
  pub good_at_end : IsGoodAt rows b
  good_at_end = record {
    ends = held;
    past = λ x y acc behind. elim (inv.each x) [
      | inl l ↦ absurd (omega (arith, l, behind, acc.listed))
      | inr w ↦ record { last = w.by; final = w.final }
    ];
    first_last = forth;
    last_first = back;
  }
