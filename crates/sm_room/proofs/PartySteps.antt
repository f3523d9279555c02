-- How many are unpaired, the start of the pairing, and the predecessors.
use Rattle.std.proofs.Common.{◌≡◌, ◌≢◌, ℕ, ◌+◌, ◌<◌, inl, inr, arith, refl, sym, ap, ◌∙◌, List, length, set, get_or, Option, Some, None}
use Rattle.std.proofs.lemmas.List.{get_or-set_same, get_or-set_other, length-set}
use Rattle.std.proofs.lemmas.List.Sums.{sum_by-set}
use Rattle.std.specs.List.{sum_by}
use Rattle.sm_lists.proofs.Counting.{eq_or_ne}
use Rattle.sm_theory.specs.Rooms.{mate_of}
use Rattle.sm_theory.specs.Partitions.{predecessor_in, IsStablePartition}
use Rattle.sm_theory.proofs.Room.Bridge.{has_before, one_successor}

-- what a person counts: one where it has no mate
pub one_where_none : Option ℕ → ℕ
one_where_none None = 1
one_where_none (Some x) = 0

-- how many persons have no mate
abbrev pub unpaired : List (Option ℕ) → ℕ
unpaired mates = sum_by one_where_none mates

is_one : (o : Option ℕ) → o ≡ None → one_where_none o ≡ 1
unfolding one_where_none
is_one o e = rw e refl

is_zero : (x : ℕ) → one_where_none (Some x) ≡ 0
unfolding one_where_none
is_zero x = refl

-- one more pair leaves fewer
pub unpaired_falls : (mates : List (Option ℕ)) (y z : ℕ) → y < length mates → z < length mates → z ≢ y → mate_of mates y ≡ None → mate_of mates z ≡ None
    → unpaired (set (set mates y (Some z)) z (Some y)) < unpaired mates
unpaired_falls mates y z hy hz ne ey ez =
    let a = sum_by-set one_where_none mates y (Some z) None hy in
    let b = sum_by-set one_where_none (set mates y (Some z)) z (Some y) None (omega (arith, length-set mates y (Some z), hz)) in
    let c : mate_of (set mates y (Some z)) z ≡ None = get_or-set_other mates y z (Some z) None ne ∙ ez in
    omega (arith, a, b, is_one (mate_of mates y) ey, is_one (mate_of (set mates y (Some z)) z) c, is_zero z, is_zero y)

module _ {rows : List (List ℕ)} {next : List ℕ} (h : IsStablePartition rows next) where
  -- each person's successor has it before it
  pub before_is : (before : List ℕ) → ((y : ℕ) → y < length rows → get_or before (get_or next y 0) 0 ≡ y) → (x : ℕ) → x < length rows → get_or before x 0 ≡ predecessor_in next x
  before_is before all x there =
      let w = has_before h x there in
      ap (λ z. get_or before z 0) (sym w.next_is) ∙ all (predecessor_in next x) w.inside

  -- one more person is written as the one before its successor
  pub before_step : (before : List ℕ) (x : ℕ) → length before ≡ length rows → x < length rows → ((y : ℕ) → y < x → get_or before (get_or next y 0) 0 ≡ y)
      → (y : ℕ) → y < x + 1 → get_or (set before (get_or next x 0) x) (get_or next y 0) 0 ≡ y
  before_step before x long there all y l = elim (eq_or_ne y x) [
    | inl e ↦ rw e (get_or-set_same before (get_or next x 0) x 0 (omega (arith, long, h.in_range x there)))
    | inr e ↦
        get_or-set_other before (get_or next x 0) (get_or next y 0) x 0 (λ s. e (one_successor h y x (omega (arith, l, e, there)) there s))
        ∙ all y (omega (arith, l, e))
  ]
