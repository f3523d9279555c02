-- Cross places of roommates, and whether persons at places of their lists block.
use Rattle.std.proofs.Common.{◌≡◌, ◌≢◌, ℕ, ◌<◌, ◌≤◌, ◌^◌, ◌↔◌, Bor, List, [], Option, Some, None, is_some, MatchOption, IsTrue, length, get_or, refl, sym, ap, ◌∙◌, arith, ⊎_elim}
use Rattle.std.proofs.lemmas.Bool.{cases_lt, false≢true}
use Rattle.std.proofs.lemmas.List.{length-map, get_or_past, get_or-map}
use Rattle.sm_lists.specs.Rows.{row, entry, lists_in, place_of}
use Rattle.sm_lists.specs.Limits.{AreWithinLimits}
use Rattle.sm_lists.specs.Held.{place_in}
use Rattle.sm_lists.proofs.RowLemmas.{row_in_range, row_fits}
use Rattle.sm_lists.proofs.PlaceLemmas.{entry-place_of, place_of-le, place_on-le-at, place_on-lt}
use Rattle.sm_lists.proofs.FoundLemmas.{found_on-some, place_on-unfound}
use Rattle.sm_theory.specs.Rooms.{IsAcceptable, place_of_mate}
use Rattle.sm_theory.specs.RoomsKept.{AreRoomsKept}
use Rattle.sm_check_decide.specs.Rooms.{AreStandings, LikesMore, IsUnblockedAt}
use Rattle.sm_check_decide.specs.Accepted.{IsAcceptedAt}

-- a list that is lent
pub lent_fits : (lent : List (Bor (List ℕ))) → AreWithinLimits (lists_in lent) → (x : ℕ) (list : Bor (List ℕ)) → x < length (lists_in lent) → list ≡ get_or lent x list → length list.now < 2 ^ 24
lent_fits lent w x list inside read =
    let now : Bor (List ℕ) → List ℕ = λ b. b.now in
    let there = length-map lent now in
    let is : list.now ≡ row (lists_in lent) x = ap now read ∙ sym (get_or-map now lent x list [] (omega arith)) in
    let fits = row_fits w x in
    let e = ap length is in
    omega arith

-- what a cross place that is read says, and what it says that there is none
pub cross_read : {rows crosses : List (List ℕ)} → AreRoomsKept rows crosses → (x i : ℕ) → i < length (row rows x) → entry rows x i ≢ x → (o : Option ℕ) → o ≡ place_in (entry crosses x i)
    → MatchOption o (¬ IsAcceptable rows x (entry rows x i)) (λ n. IsAcceptedAt rows x (entry rows x i) n)
cross_read {rows} k x i on other None is = λ h. let e = place_on-unfound (row rows (entry rows x i)) x (is ∙ k.places x i on) in let l = h.returned in omega arith
cross_read {rows} k x i on other (Some n) is =
    let w = found_on-some (row rows (entry rows x i)) x n (sym (is ∙ k.places x i on)) in
    let at : place_of rows (entry rows x i) x ≡ n = w.0 in
    let inside = w.1 in
    record {
      acceptable = record { apart = λ e. other (sym e); listed = place_on-lt (row rows x) (entry rows x i) i on refl; returned = omega arith };
      place = sym at;
    }

-- so two persons are acceptable to each other where there is one
pub accepted : {rows : List (List ℕ)} {x y : ℕ} (i : ℕ) (o : Option ℕ) → entry rows x i ≡ y → MatchOption o (¬ IsAcceptable rows x (entry rows x i)) (λ n. IsAcceptedAt rows x (entry rows x i) n)
    → IsTrue (is_some o) ↔ IsAcceptable rows x y
accepted {rows} {x} i None there none = (λ t. absurd (false≢true t), λ h. absurd (none (rw there h)))
accepted {rows} {x} i (Some n) there accepts = (λ _. rw there at accepts.acceptable, λ _. refl)

-- a person that stands behind the place of another one blocks with it or doesn't
pub unblocked_step : {rows : List (List ℕ)} (standings : List ℕ) (x : ℕ) → ((j : ℕ) → j < get_or standings x 0 → ¬ LikesMore rows standings x (entry rows x j))
    → (y : ℕ) → IsAcceptable rows x y → place_of rows x y < get_or standings x 0 → ¬ (place_of rows y x < get_or standings y 0)
unblocked_step {rows} standings x none y h first second =
    let there = entry-place_of rows x y h.listed in
    none (place_of rows x y) first (rw there (record { acceptable = h; gains = second }))

-- a person that stands before the place of another one and likes it more blocks with it
pub blocked : {rows : List (List ℕ)} {standings : List ℕ} (x i : ℕ) → LikesMore rows standings x (entry rows x i) → i < get_or standings x 0 → ¬ IsUnblockedAt rows standings
blocked {rows} x i w lower u =
    let le = place_on-le-at (row rows x) (entry rows x i) i refl in
    u.unblocked x (entry rows x i) w.acceptable (omega arith) w.gains

-- who finds somebody acceptable is a person, and so is the other
pub accepting_in_range : {rows : List (List ℕ)} {x y : ℕ} → IsAcceptable rows x y → (x < length rows) × (y < length rows)
accepting_in_range {rows} {x} {y} h = (row_in_range rows x (place_of rows x y) h.listed, row_in_range rows y (place_of rows y x) h.returned)

-- standings that are given for each person
pub standings_at : {rows : List (List ℕ)} {standings : List ℕ} (f : ℕ → ℕ) → length standings ≡ length rows → ((x : ℕ) → x < length rows → get_or standings x 0 ≡ f x)
    → ((x : ℕ) → f x ≤ length (row rows x)) → AreStandings rows standings
standings_at {rows} {standings} f long is le = record {
  one_each = long;
  on_lists = λ x. ⊎_elim
      (λ inside. let e = is x inside in let on = le x in omega arith)
      (λ past. let e = get_or_past standings x 0 (omega arith) in omega arith)
      (cases_lt x (length rows));
}

-- the place of a mate is on the person's list or just past it
pub mate_place-le : (rows : List (List ℕ)) (x : ℕ) (mate : Option ℕ) → place_of_mate rows x mate ≤ length (row rows x)
mate_place-le rows x None = omega arith
mate_place-le rows x (Some y) = place_of-le rows x y
