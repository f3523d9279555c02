-- Walking a list to its first fault, and reading cross places.
use Rattle.std.proofs.Common.{◌≡◌, ◌≢◌, ℕ, ◌+◌, ◌<◌, ◌≤◌, List, Option, Some, None, length, get_or, set, refl, sym, ap, subst, ◌∙◌, arith, ⊎_elim}
use Rattle.std.proofs.lemmas.Bool.{cases_lt}
use Rattle.std.proofs.lemmas.List.{length-set}
use Rattle.sm_lists.specs.Rows.{row, entry, place_of}
use Rattle.sm_lists.specs.Held.{place_in}
use Rattle.sm_lists.proofs.ItemLemmas.{set_cases}
use Rattle.sm_lists.proofs.FoundLemmas.{found_on-some, place_on-unfound}
use Rattle.sm_market.proofs.WalkLemmas.{IsAmong}
use Rattle.sm_theory.specs.Rooms.{AreRoomLists}
use Rattle.sm_room.specs.Entries.{IsSound}
use Rattle.sm_theory.specs.RoomsKept.{AreRoomsKept}

-- the first i entries of x's list are sound, and whom they name is marked as met
pub record IsWalked (rows : List (List ℕ)) (x i : ℕ) (met : List ℕ) : Type 0 where
  pub one_each : length met ≡ length rows
  pub sound : (j : ℕ) → j < i → IsSound rows x j
  pub latest : (y : ℕ) → get_or met y 0 ≤ x + 1
  pub met_all : (j : ℕ) → j < i → get_or met (entry rows x j) 0 ≡ x + 1
  pub met_only : (y : ℕ) → get_or met y 0 ≡ x + 1 → IsAmong rows x i y

-- one step of the walk, at a sound entry
pub walk_step : {rows : List (List ℕ)} {x i : ℕ} {met : List ℕ} → IsWalked rows x i met → (y : ℕ) → y ≡ entry rows x i → y < length rows → get_or met y 0 ≢ x + 1
    → IsWalked rows x (i + 1) (set met y (x + 1))
walk_step {rows} {x} {i} {met} w y is in_range unmet =
    let there : y < length met = let same = w.one_each in omega arith in
    let fresh : (j : ℕ) → j < i → entry rows x j ≢ entry rows x i = λ j l e. unmet (ap (λ b. get_or met b 0) (is ∙ sym e) ∙ w.met_all j l) in
    let here : IsSound rows x i = record { in_range = rw (← is) in_range; fresh = fresh } in
    record {
      one_each = length-set met y (x + 1) ∙ w.one_each;
      sound = λ j l. ⊎_elim (λ lower. w.sound j lower) (λ le. let last : i ≡ j = omega arith in subst (λ k. IsSound rows x k) last here) (cases_lt j i);
      latest = set_cases (λ _ n. n ≤ x + 1) met y (x + 1) 0 there (omega arith) (λ z _. w.latest z);
      met_all = λ j l. set_cases (λ z n. z ≡ entry rows x j → n ≡ x + 1) met y (x + 1) 0 there (λ _. refl)
          (λ z other same. ⊎_elim
          (λ lower. ap (λ d. get_or met d 0) same ∙ w.met_all j lower)
          (λ le. let last : j ≡ i = omega arith in absurd (other (same ∙ ap (λ k. entry rows x k) last ∙ sym is)))
          (cases_lt j i))
          (entry rows x j) refl;
      met_only = set_cases (λ z n. n ≡ x + 1 → IsAmong rows x (i + 1) z) met y (x + 1) 0 there
          (λ _. record { at = i; before = omega arith; is = sym is })
          (λ z other e. let m = w.met_only z e in record { at = m.at; before = let l = m.before in omega arith; is = m.is });
    }

-- lists whose entries are all sound are those of roommates
pub room_lists : {rows : List (List ℕ)} → ((x i : ℕ) → i < length (row rows x) → IsSound rows x i) → AreRoomLists rows
room_lists sound = record { in_range = λ x i on. (sound x i on).in_range; distinct = λ x i j l on. (sound x j on).fresh i l }

-- a cross place that is read is the place of the list's owner, and there is none where it has no place
module _ {rows crosses : List (List ℕ)} (k : AreRoomsKept rows crosses) (x i : ℕ) (on : i < length (row rows x)) where
  -- a place that is read is the place of the list's owner
  pub cross-some : (n : ℕ) → Some n ≡ place_in (entry crosses x i) → n ≡ place_of rows (entry rows x i) x
  cross-some n is = sym (found_on-some (row rows (entry rows x i)) x n (sym (is ∙ k.places x i on))).0

  -- where none is read, its place is the length of the list
  pub cross-none : (let none : Option ℕ = None in none ≡ place_in (entry crosses x i)) → length (row rows (entry rows x i)) ≡ place_of rows (entry rows x i) x
  cross-none is = sym (place_on-unfound (row rows (entry rows x i)) x (is ∙ k.places x i on))
