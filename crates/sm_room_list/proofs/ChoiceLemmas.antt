-- Ranks of which each is that of the first place that is open within them are those of a stable matching.
use Rattle.std.proofs.Common.{◌≡◌, ℕ, ◌+◌, ◌-◌, ◌<◌, ◌≤◌, ◌⊎◌, inl, inr, arith, refl, sym, ap, ◌∙◌, List, Option, Some, None, length, get_or, map}
use Rattle.std.proofs.lemmas.Option.{same_Some, none-some}
use Rattle.std.proofs.lemmas.List.{ext_get_or, get_or_past}
use Rattle.std.proofs.lemmas.List.FromFn.{get_or-map-range_with_len, length-map-range_with_len}
use Rattle.sm_lists.specs.Rows.{row, entry, agents, place_of}
use Rattle.sm_lists.proofs.Counting.{lt_or_le}
use Rattle.sm_lists.proofs.PlaceLemmas.{entry-place_of}
use Rattle.sm_lists.proofs.RowLemmas.{row_in_range}
use Rattle.sm_theory.specs.Rooms.{AreRoomLists, IsAcceptable, mate_of, place_of_mate, IsRoomMatching, RoomBlocks, IsRoomStable}
use Rattle.sm_room_list.specs.RoomVectors.{room_rank, room_vector}
use Rattle.sm_room_list.specs.Tops.{IsVectorWithin}
use Rattle.sm_room_list.specs.Choices.{HasFirstOpen}
use Rattle.sm_room_list.proofs.CutLemmas.{place_with, place_alone}
use Rattle.sm_room.proofs.LeftLemmas.{place_of-entry}

-- somebody, or nobody
chosen_if : {P Q : Type 0} → P ⊎ Q → ℕ → Option ℕ
chosen_if (inl _) y = Some y
chosen_if (inr _) y = None

module _ {rows : List (List ℕ)} {ranks : List ℕ} (h : AreRoomLists rows) (first : (x : ℕ) → x < length rows → HasFirstOpen rows ranks x) where
  -- whom a rank gives a person
  given_by : ℕ → Option ℕ
  given_by x = chosen_if (lt_or_le (get_or ranks x 0) (length (row rows x) + 1)) (entry rows x (get_or ranks x 0 - 1))

  given : List (Option ℕ)
  given = map (λ x. given_by x) (agents rows)

  given_at : (x : ℕ) → x < length rows → mate_of given x ≡ given_by x
  unfolding given
  given_at x inside = get_or-map-range_with_len (λ x. given_by x) 0 (length rows) x x None inside (omega arith)

  -- whoever stands at the first open place, or nobody
  given_here : (x : ℕ) → (inside : x < length rows) → (first x inside).place < length (row rows x) → mate_of given x ≡ Some (entry rows x (first x inside).place)
  unfolding chosen_if given_by
  given_here x inside on = given_at x inside ∙ go (lt_or_le (get_or ranks x 0) (length (row rows x) + 1))
    where
      go : (d : (get_or ranks x 0 < length (row rows x) + 1) ⊎ (length (row rows x) + 1 ≤ get_or ranks x 0)) → chosen_if d (entry rows x (get_or ranks x 0 - 1)) ≡ Some (entry rows x (first x inside).place)
      go (inl _) = let e = (first x inside).rank in let p : get_or ranks x 0 - 1 ≡ (first x inside).place = omega arith in ap (λ k. Some (entry rows x k)) p
      go (inr le) = let e = (first x inside).rank in absurd (omega arith)

  given_none : (x : ℕ) → (inside : x < length rows) → length (row rows x) ≤ (first x inside).place → mate_of given x ≡ None
  unfolding chosen_if given_by
  given_none x inside past = given_at x inside ∙ go (lt_or_le (get_or ranks x 0) (length (row rows x) + 1))
    where
      go : (d : (get_or ranks x 0 < length (row rows x) + 1) ⊎ (length (row rows x) + 1 ≤ get_or ranks x 0)) → chosen_if d (entry rows x (get_or ranks x 0 - 1)) ≡ None
      go (inl l) = let e = (first x inside).rank in absurd (omega arith)
      go (inr _) = refl

  -- a mate is a person's first open place
  record IsGiven (x y : ℕ) : Type 0 where
    inside : x < length rows
    on : (first x inside).place < length (row rows x)
    is : y ≡ entry rows x (first x inside).place

  is_given : (x y : ℕ) → mate_of given x ≡ Some y → IsGiven x y
  unfolding given
  is_given x y e = elim (lt_or_le x (length rows)) [
    | inl inside ↦ elim (lt_or_le (first x inside).place (length (row rows x))) [
      | inl on ↦ record { inside = inside; on = on; is = same_Some _ _ (sym e ∙ given_here x inside on) }
      | inr past ↦ absurd (none-some _ (sym (given_none x inside past) ∙ e))
    ]
    | inr outside ↦
        let long : length given ≡ length rows = length-map-range_with_len (λ x. given_by x) 0 (length rows) in
        absurd (none-some _ (sym (get_or_past given x None (omega arith)) ∙ e))
  ]

  -- the place of the mate is the first open one
  place_given : (x : ℕ) → (inside : x < length rows) → place_of_mate rows x (mate_of given x) ≡ (first x inside).place
  place_given x inside = elim (lt_or_le (first x inside).place (length (row rows x))) [
    | inl on ↦ place_with rows given x _ (given_here x inside on) ∙ place_of-entry h x (first x inside).place on
    | inr past ↦ let le = (first x inside).on_list in let e = place_alone rows given x (given_none x inside past) in omega arith
  ]

  -- who is acceptable at a place that is no first open one, nor before it, likes nobody less
  not_open : (x y : ℕ) → (inside : x < length rows) → IsAcceptable rows x y → place_of rows x y < (first x inside).place → place_of rows y x < get_or ranks y 0 → ⊥
  not_open x y inside a less below =
      let there = entry-place_of rows x y a.listed in
      (first x inside).earlier (place_of rows x y) less (record { acceptable = rw there a; below = rw there below })

  mate_open : (x y : ℕ) → (g : IsGiven x y) → IsAcceptable rows x y × (place_of rows y x < get_or ranks y 0)
  mate_open x y g = let o = (first x g.inside).here g.on in rw g.is (o.acceptable, o.below)

  mate_back : (x y : ℕ) → IsGiven x y → mate_of given y ≡ Some x
  mate_back x y g =
      let o = mate_open x y g in
      let a = o.0 in
      let inside : y < length rows = row_in_range rows y (place_of rows y x) a.returned in
      let back : IsAcceptable rows y x = record { apart = λ d. a.apart (sym d); listed = a.returned; returned = a.listed } in
      let mine : place_of rows x y ≡ (first x g.inside).place = ap (place_of rows x) g.is ∙ place_of-entry h x (first x g.inside).place g.on in
      let rank_x = (first x g.inside).rank in
      let rank_y = (first y inside).rank in
      let low : (place_of rows y x < (first y inside).place) → ⊥ = λ less. not_open y x inside back less (omega arith) in
      elim (lt_or_le (place_of rows y x) (first y inside).place) [
        | inl less ↦ absurd (low less)
        | inr le ↦
            let below = o.1 in
            let same : (first y inside).place ≡ place_of rows y x = omega arith in
            let listed = a.returned in
            given_here y inside (omega arith) ∙ ap (λ k. Some (entry rows y k)) same ∙ ap (λ (z : ℕ). Some z) (entry-place_of rows y x a.returned)
      ]

  given_matching : IsRoomMatching rows given
  unfolding given
  given_matching = record {
    one_each = length-map-range_with_len (λ x. given_by x) 0 (length rows);
    acceptable = λ x y e. (mate_open x y (is_given x y e)).0;
    in_turn = λ x y e. mate_back x y (is_given x y e);
  }

  given_unblocked : (x y : ℕ) → RoomBlocks rows given x y → ⊥
  given_unblocked x y b =
      let a = b.acceptable in
      let inside = row_in_range rows x (place_of rows x y) a.listed in
      let there = row_in_range rows y (place_of rows y x) a.returned in
      let p = place_given x inside in
      let q = place_given y there in
      let rank_y = (first y there).rank in
      let gains = b.first_gains in
      let loses = b.second_gains in
      not_open x y inside a (omega arith) (omega arith)

  given_stable : IsRoomStable rows given
  given_stable = record { matching = given_matching; unblocked = given_unblocked }

  given_rank : (x : ℕ) → x < length rows → get_or ranks x 0 ≡ room_rank rows given x
  given_rank x inside = let p = place_given x inside in let r = (first x inside).rank in omega arith

  -- so they are the ranks of a stable matching
  pub chosen_within : {tops : List ℕ} → length ranks ≡ length rows → ((x : ℕ) → x < length rows → get_or ranks x 0 ≤ get_or tops x 0) → IsVectorWithin rows tops ranks
  chosen_within {tops} long low =
      let f : ℕ → ℕ = λ x. room_rank rows given x in
      let all = length-map-range_with_len f 0 (length rows) in
      record {
        matching = given;
        within = record { stable = given_stable; within = λ x inside. let r = given_rank x inside in let l = low x inside in omega arith };
        vector = ext_get_or 0 ranks (room_vector rows given) (omega arith) (λ x inside. given_rank x (omega arith) ∙ sym (get_or-map-range_with_len f 0 (length rows) x x 0 (omega arith) (omega arith)));
      }
