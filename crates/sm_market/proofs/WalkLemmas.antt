-- Walking a list whose cross places are known, to its first fault; and the cross positions of sound lists.
use Rattle.std.proofs.Common.{◌≡◌, ◌≢◌, ℕ, ◌+◌, ◌<◌, ◌≤◌, List, [], Option, Some, None, Bool, true, false, if◌then◌else◌, eqb, length, map, get_or, set, refl, sym, ap, subst, ◌∙◌, arith, ⊎_elim}
use Rattle.std.proofs.lemmas.Bool.{cases_lt}
use Rattle.std.proofs.lemmas.List.{get_or-map, get_or_past, length-map, length-set}
use Rattle.std.proofs.Math.ListN.{get_or-map as get_or-map_all}
use Rattle.std.proofs.lemmas.Option.{same_Some, none-some}
use Rattle.sm_market.specs.Lists.{row, entry, place_of}
use Rattle.sm_market.specs.Crosses.{AreCrosses}
use Rattle.sm_market.specs.Entries.{IsSound, AreSound}
use Rattle.sm_lists.specs.Crosses.{cross_place, AreCrossPlacesOf, AreCrossPlaces}
use Rattle.sm_lists.specs.Held.{held_in, place_in}
use Rattle.sm_lists.proofs.ItemLemmas.{set_cases}
use Rattle.sm_lists.proofs.RowLemmas.{row_in_range}
use Rattle.sm_lists.proofs.FoundLemmas.{found_on-some, place_on-unfound}

-- b stands at a place before i on a's list
pub record IsAmong (rows : List (List ℕ)) (a i b : ℕ) : Type 0 where
  pub at : ℕ
  pub before : at < i
  pub is : entry rows a at ≡ b

-- the first i entries of a's list are sound, and whom they name is marked as met
pub record IsWalked (rows others : List (List ℕ)) (a i : ℕ) (met : List ℕ) : Type 0 where
  pub one_each : length met ≡ length others
  pub sound : (j : ℕ) → j < i → IsSound rows others a j
  pub latest : (b : ℕ) → get_or met b 0 ≤ a + 1
  pub met_all : (j : ℕ) → j < i → get_or met (entry rows a j) 0 ≡ a + 1
  pub met_only : (b : ℕ) → get_or met b 0 ≡ a + 1 → IsAmong rows a i b

module _ {rows others : List (List ℕ)} {a i : ℕ} {met : List ℕ} (w : IsWalked rows others a i met) where
  -- an entry whose agent isn't marked stands there for the first time
  pub fresh_at : get_or met (entry rows a i) 0 ≢ a + 1 → (j : ℕ) → j < i → entry rows a j ≢ entry rows a i
  fresh_at unmet j l e = unmet (ap (λ b. get_or met b 0) (sym e) ∙ w.met_all j l)

  -- one step of the walk, at a sound entry
  pub walk_step : (b place : ℕ) → b ≡ entry rows a i → b < length others → get_or met b 0 ≢ a + 1 → Some place ≡ cross_place others (entry rows a i) a
      → IsWalked rows others a (i + 1) (set met b (a + 1))
  walk_step b place is in_range unmet found =
      let there : b < length met = let same = w.one_each in omega arith in
      let here : IsSound rows others a i =
      record {
        in_range = rw (← is) in_range;
        fresh = fresh_at (rw (← is) unmet);
        returned = let x = found_on-some (row others (entry rows a i)) a place (sym found) in let e = x.0 in let l = x.1 in omega arith;
      } in
      record {
        one_each = length-set met b (a + 1) ∙ w.one_each;
        sound = λ j l. ⊎_elim (λ lower. w.sound j lower) (λ le. let last : i ≡ j = omega arith in subst (λ k. IsSound rows others a k) last here) (cases_lt j i);
        latest = set_cases (λ _ x. x ≤ a + 1) met b (a + 1) 0 there (omega arith) (λ c _. w.latest c);
        met_all = λ j l. set_cases (λ c x. c ≡ entry rows a j → x ≡ a + 1) met b (a + 1) 0 there (λ _. refl)
            (λ c other same. ⊎_elim
            (λ lower. ap (λ d. get_or met d 0) same ∙ w.met_all j lower)
            (λ le. let last : j ≡ i = omega arith in absurd (other (same ∙ ap (λ k. entry rows a k) last ∙ sym is)))
            (cases_lt j i))
            (entry rows a j) refl;
        met_only = set_cases (λ c x. x ≡ a + 1 → IsAmong rows a (i + 1) c) met b (a + 1) 0 there
            (λ _. record { at = i; before = omega arith; is = sym is })
            (λ c other e. let m = w.met_only c e in record { at = m.at; before = let l = m.before in omega arith; is = m.is });
      }

-- the cross place of an entry, as it is read
pub cross_at : {rows others : List (List ℕ)} {a : ℕ} (crosses : List ℕ) → AreCrossPlacesOf rows others a (map place_in crosses) → (i : ℕ) → i < length (row rows a)
    → place_in (get_or crosses i 0) ≡ cross_place others (entry rows a i) a
cross_at crosses c i on =
    let long = length-map crosses place_in in
    let same = c.as_long in
    sym (get_or-map place_in crosses i 0 None (omega arith)) ∙ c.places i on

-- the cross places of a list, as they are read of all
pub crosses_read : {rows others : List (List ℕ)} (crosses : List (List ℕ)) (a : ℕ) → AreCrossPlaces rows others (held_in place_in crosses) → a < length rows
    → AreCrossPlacesOf rows others a (map place_in (row crosses a))
crosses_read {rows} {others} crosses a c inside = subst (AreCrossPlacesOf rows others a) (get_or-map_all (map place_in) crosses a []) (c.of a inside)

-- beside sound entries the cross places are places
pub place_in-some : (n i : ℕ) → place_in n ≡ Some i → n ≡ i
place_in-some n i is = go (eqb n 4294967295) is
  where
    go : (t : Bool) → (if t then None else Some n) ≡ Some i → n ≡ i
    go true e = absurd (none-some i e)
    go false e = same_Some n i e

-- the cross places that are found on sound lists are their cross positions
pub crosses_sound : {rows others : List (List ℕ)} (crosses : List (List ℕ)) → AreCrossPlaces rows others (held_in place_in crosses) → AreSound rows others → AreCrosses rows others crosses
crosses_sound {rows} {others} crosses c sound =
    let long : length crosses ≡ length rows = sym (length-map crosses (map place_in)) ∙ c.one_each in
    record {
      one_each = long;
      as_long = λ a. ⊎_elim
          (λ inside. sym (length-map (row crosses a) place_in) ∙ (crosses_read crosses a c inside).as_long)
          (λ past. ap length (get_or_past crosses a [] (omega arith)) ∙ sym (ap length (get_or_past rows a [] past)))
          (cases_lt a (length rows));
      places = λ a i on.
          let at = cross_at (row crosses a) (crosses_read crosses a c (row_in_range rows a i on)) i on in
          found (get_or (row crosses a) i 0) (entry rows a i) a (place_in (get_or (row crosses a) i 0)) refl at (sound.sound a i on).returned;
    }
  where
    found : (n b a : ℕ) (o : Option ℕ) → place_in n ≡ o → o ≡ cross_place others b a → place_of others b a < length (row others b) → n ≡ place_of others b a
    found n b a None is at on = absurd (let none = place_on-unfound (row others b) a at in omega arith)
    found n b a (Some i) is at on = place_in-some n i is ∙ sym (found_on-some (row others b) a i (sym at)).0
