-- Predecessors, and stable partitions by the places of predecessors.
use Rattle.std.proofs.Common.{◌≡◌, ℕ, ◌<◌, ◌≤◌, eqb, Bool, true, false, if◌then◌else◌, IsTrue, ◌↔◌, List, length, get_or, sym, ap, ◌∙◌, arith, ⊎_elim, eq-eqb, ne_eqb}
use Rattle.std.proofs.lemmas.Bool.{cases_lt}
use Rattle.std.proofs.lemmas.List.Sums.{position_or_len_is}
use Rattle.sm_lists.specs.Rows.{row, place_of}
use Rattle.sm_lists.proofs.PlaceLemmas.{place_of-le}
use Rattle.sm_theory.specs.Partitions.{successor_in, predecessor_in, party_place, IsStablePartition}
use Rattle.sm_check_decide.specs.Rooms.{ArePredecessors, ArePartyPlaces, PrefersSuccessor, IsUnblockedAt}
use Rattle.sm_check_decide.proofs.RoomLemmas.{accepting_in_range}

-- the first x persons stand before their successors, and nobody else before anybody
pub record AreBefore (next : List ℕ) (x : ℕ) (before : List ℕ) : Type 0 where
  pub one_each : length before ≡ length next
  pub told : (y : ℕ) → y < x → get_or before (get_or next y 0) 0 ≡ y
  pub only : (z : ℕ) → z < length next → get_or before z 0 < length next → (get_or before z 0 < x) × (get_or next (get_or before z 0) 0 ≡ z)
  pub others : (z : ℕ) → z < length next → get_or before z 0 ≤ length next

-- with all persons told, those before are the predecessors
pub before_all : {next : List ℕ} {before : List ℕ} → AreBefore next (length next) before → ArePredecessors next before
before_all {next} {before} b = record {
  one_each = b.one_each;
  distinct = λ x y lower inside same.
      let ex = b.told x (omega arith) in
      let ey = b.told y inside in
      let e : x ≡ y = sym ex ∙ ap (λ k. get_or before k 0) same ∙ ey in
      omega arith;
  persons = λ x inside. ⊎_elim
      (λ some.
      let w = b.only x inside some in
      sym (position_or_len_is (λ z. eqb z x) next (get_or before x 0) 0 (omega arith)
      (λ k lower. ne_eqb _ x (λ e. let told = b.told k (omega arith) in let f : get_or before x 0 ≡ k = ap (λ j. get_or before j 0) (sym e) ∙ told in omega arith))
      (λ _. eq-eqb _ _ w.1)))
      (λ none.
      let le = b.others x inside in
      let e : get_or before x 0 ≡ length next = omega arith in
      e ∙ sym (position_or_len_is (λ z. eqb z x) next (length next) 0 (omega arith)
      (λ k lower. ne_eqb _ x (λ f. let told = b.told k lower in let g : get_or before x 0 ≡ k = ap (λ j. get_or before j 0) (sym f) ∙ told in omega arith))
      (λ less. absurd (omega arith))))
      (cases_lt (get_or before x 0) (length next));
}

-- a person's place in its party is on its list or just past it
pub party_place-le : (rows : List (List ℕ)) (next : List ℕ) (x : ℕ) → party_place rows next x ≤ length (row rows x)
party_place-le rows next x = go (eqb (predecessor_in next x) x)
  where
    go : (t : Bool) → (if t then length (row rows x) else place_of rows x (predecessor_in next x)) ≤ length (row rows x)
    go true = omega arith
    go false = place_of-le rows x (predecessor_in next x)

module _ {rows : List (List ℕ)} {next before : List ℕ} (p : ArePredecessors next before) (one_each : length next ≡ length rows) where
  module _ {standings : List ℕ} (a : ArePartyPlaces rows next standings) where
    -- a partition is stable where each prefers its successor and nobody blocks at the places of the predecessors
    pub partition_at : ((x : ℕ) → x < length rows → successor_in next x < length rows) → ((x : ℕ) → x < length rows → PrefersSuccessor rows x (get_or next x 0) (get_or before x 0))
        → IsUnblockedAt rows standings → IsStablePartition rows next
    partition_at in_range prefer u = record {
      one_each = one_each;
      in_range = in_range;
      distinct = λ x y lower inside. p.distinct x y lower (omega arith);
      acceptable = λ x inside. (prefer x inside).acceptable;
      prefers = λ x inside. let is = p.persons x (omega arith) in rw is at (prefer x inside).prefers;
      unblocked = λ x y h first second.
          let within = accepting_in_range h in
          let ax = a.places x within.0 in
          let ay = a.places y within.1 in
          u.unblocked x y h (rw ax first) (rw ay second);
    }

    -- in a stable partition nobody blocks at these places
    pub partition_unblocked : IsStablePartition rows next → IsUnblockedAt rows standings
    partition_unblocked s = record {
      unblocked = λ x y h first second.
          let within = accepting_in_range h in
          let ax = a.places x within.0 in
          let ay = a.places y within.1 in
          s.unblocked x y h (rw ax at first) (rw ay at second);
    }

    -- so it is decided by whether somebody blocks
    pub partition_decided : ((x : ℕ) → x < length rows → successor_in next x < length rows) → ((x : ℕ) → x < length rows → PrefersSuccessor rows x (get_or next x 0) (get_or before x 0))
        → (r : Bool) → IsTrue r ↔ IsUnblockedAt rows standings → IsTrue r ↔ IsStablePartition rows next
    partition_decided in_range prefer r w = (λ t. partition_at in_range prefer (w.0 t), λ s. w.1 (partition_unblocked s))
