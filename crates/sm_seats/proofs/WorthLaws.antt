-- Conditions, weights and regrets of matchings of seats are those of the instance.
use Rattle.std.proofs.Common.{◌≡◌, ℕ, zero, suc, ◌+◌, ◌<◌, ◌↔◌, true, List, [], Option, Some, None, IsTrue, length, get_or, map, fold, max, ℤ, pos, ◌+ℤ◌, refl, sym, ap, ◌∙◌, arith, inl, inr}
use Rattle.std.specs.List.{range_with_len}
use Rattle.std.proofs.lemmas.List.{get_or-map, length-map}
use Rattle.std.proofs.lemmas.List.Elements.{All-get_or, All-from_get_or}
use Rattle.std.proofs.lemmas.List.FromFn.{get_or-map-range_with_len, length-map-range_with_len, fill_by_all}
use Rattle.std.proofs.lemmas.Option.{none-some, same_Some}
use Rattle.sm_lists.proofs.PlaceLemmas.{get_or-place_on}
use Rattle.sm_agents.specs.Written.{Written, row as written_row, entry as written_entry, place_of as written_place_of}
use Rattle.sm_agents.specs.Faults.{HasSoundEntries}
use Rattle.sm_instance.specs.Matching.{held, is_at}
use Rattle.sm_instance.specs.Ranks.{worse_rank, regret_of as written_regret}
use Rattle.sm_instance.specs.Allowed.{IsAllowed as IsWrittenAllowed}
use Rattle.sm_instance.proofs.LoadLemmas.{place_at, at_place}
use Rattle.sm_instance.proofs.RankLemmas.{fold_below_more}
use Rattle.sm_market.specs.Lists.{row}
use Rattle.sm_market.specs.Matching.{Places, held as market_held, IsMatching}
use Rattle.sm_theory.specs.Vectors.{HasLevel, IsAllowed}
use Rattle.sm_theory.specs.Weights.{total, weight_of_place, weight_of, rank_of_place, regret_of}
use Rattle.sm_theory.proofs.Weighing.Totals.{total_same}
use Rattle.sm_seats.specs.SeatMarket.{seat_market}
use Rattle.sm_seats.specs.Seating.{seating_of, written_of, at_places, levels_of}
use Rattle.sm_seats.specs.Correspondence.{weights_by, worse_ranks_of, leveled}
use Rattle.sm_seats.proofs.MarketLaws.{length-proposers}
use Rattle.sm_seats.proofs.WrittenLemmas.{written_place-seating, written_there, seat_cases}
use Rattle.sm_seats.proofs.ForgetLaws.{forgotten_matching}
use Rattle.sm_seats.proofs.SeatingLemmas.{at_place_is}
use Rattle.sm_seats.proofs.LevelLaws.{level_on}

abbrev level_of_pair : Written → (ℕ × ℕ) → (ℕ × ℕ)
level_of_pair w pair = (pair.0, written_place_of w.proposers pair.0 pair.1 + 1)

pair_leveled : (w : Written) (pairs : List (ℕ × ℕ)) (c : ℕ) → c < length pairs → get_or (leveled w pairs) c (0, 0) ≡ level_of_pair w (get_or pairs c (0, 0))
pair_leveled w pairs c h = get_or-map (level_of_pair w) pairs c (0, 0) (0, 0) h

-- a sum over the proposers in both forms
total_is_fold : (f : ℕ → ℤ) (n : ℕ) → total f n ≡ fold ◌+ℤ◌ (pos 0) (map f (range_with_len 0 n))
total_is_fold f zero = refl
total_is_fold f (suc n) =
    let k1 : n + 1 ≡ suc n = omega arith in
    ap (λ t. t +ℤ f n) (total_is_fold f n) ∙ sym (fold_below_more ◌+ℤ◌ (pos 0) f n) ∙ ap (λ k. fold ◌+ℤ◌ (pos 0) (map f (range_with_len 0 k))) k1

module _ {w : Written} (h : HasSoundEntries w) {m : Places} (f : IsMatching (seat_market w) m) where
  -- p holds a place of the level of r exactly where it is at r
  pub at_level : (p r : ℕ) → HasLevel (levels_of (seating_of w)) m p (written_place_of w.proposers p r + 1) → is_at w (written_of (seating_of w) m.proposers) p r ≡ true
  at_level p r has = elim (seat_cases h f p) [
    | inl alone ↦ absurd (none-some _ (sym alone.held_is ∙ has.holds))
    | inr it ↦
        let place : it.place ≡ has.place = same_Some _ _ (sym it.held_is ∙ has.holds) in
        let level = ap (λ i. get_or (row (levels_of (seating_of w)) p) i 0) place in
        let same : written_place_of w.proposers p it.reviewer ≡ written_place_of w.proposers p r = omega (arith, level, level_on it.at, has.at_level) in
        let r_is : it.reviewer ≡ r = sym (written_there w it.at.mutual_) ∙ ap (written_entry w.proposers p) same ∙ get_or-place_on (written_row w.proposers p) r (omega (arith, it.at.mutual_.lists)) in
        at_place w (written_of (seating_of w) m.proposers) p r _ it.written_held_is (written_there w it.at.mutual_ ∙ r_is)
  ]

  -- and the other way round
  pub level_at : (p r : ℕ) → is_at w (written_of (seating_of w) m.proposers) p r ≡ true → HasLevel (levels_of (seating_of w)) m p (written_place_of w.proposers p r + 1)
  level_at p r at =
      let x = place_at w p r (held (written_of (seating_of w) m.proposers) p) at in
      elim (seat_cases h f p) [
        | inl alone ↦ absurd (none-some _ (sym alone.written_held_is ∙ x.1))
        | inr it ↦
            let i_is : written_place_of w.proposers p it.reviewer ≡ x.0 = same_Some _ _ (sym it.written_held_is ∙ x.1) in
            let r_is : it.reviewer ≡ r = sym (written_there w it.at.mutual_) ∙ ap (written_entry w.proposers p) i_is ∙ x.2 in
            let place = ap (written_place_of w.proposers p) r_is in
            record { place = it.place; holds = it.held_is; at_level = omega (arith, level_on it.at, place) }
      ]

  allowed_there : IsAllowed (levels_of (seating_of w)) (leveled w w.forced) (leveled w w.forbidden) m → IsWrittenAllowed w (written_of (seating_of w) m.proposers)
  allowed_there a = record {
    matching = forgotten_matching h f;
    forced = All-from_get_or (λ pair. IsTrue (is_at w (written_of (seating_of w) m.proposers) pair.0 pair.1)) w.forced (0, 0) (λ c l.
        let pair = get_or w.forced c (0, 0) in
        let long = length-map w.forced (level_of_pair w) in
        at_level pair.0 pair.1 (rw (pair_leveled w w.forced c l) at (a.holds c (omega arith))));
    forbidden = All-from_get_or (λ pair. ¬ IsTrue (is_at w (written_of (seating_of w) m.proposers) pair.0 pair.1)) w.forbidden (0, 0) (λ c l at.
        let pair = get_or w.forbidden c (0, 0) in
        let long = length-map w.forbidden (level_of_pair w) in
        let avoids : ¬ HasLevel (levels_of (seating_of w)) m pair.0 (written_place_of w.proposers pair.0 pair.1 + 1) = rw (pair_leveled w w.forbidden c l) at (a.avoids c (omega arith)) in
        avoids (level_at pair.0 pair.1 at));
  }

  allowed_back : IsWrittenAllowed w (written_of (seating_of w) m.proposers) → IsAllowed (levels_of (seating_of w)) (leveled w w.forced) (leveled w w.forbidden) m
  allowed_back a = record {
    holds = λ c l.
        let long = length-map w.forced (level_of_pair w) in
        let less : c < length w.forced = omega arith in
        let pair = get_or w.forced c (0, 0) in
        rw (pair_leveled w w.forced c less) (level_at pair.0 pair.1 (All-get_or (λ pair. IsTrue (is_at w (written_of (seating_of w) m.proposers) pair.0 pair.1)) w.forced c (0, 0) less a.forced));
    avoids = λ c l.
        let long = length-map w.forbidden (level_of_pair w) in
        let less : c < length w.forbidden = omega arith in
        let pair = get_or w.forbidden c (0, 0) in
        let not_at : ¬ IsTrue (is_at w (written_of (seating_of w) m.proposers) pair.0 pair.1) = All-get_or (λ pair. ¬ IsTrue (is_at w (written_of (seating_of w) m.proposers) pair.0 pair.1)) w.forbidden c (0, 0) less a.forbidden in
        rw (pair_leveled w w.forbidden c less) (λ has. not_at (at_level pair.0 pair.1 has));
  }

  -- what is allowed at the seats is what is allowed in the instance
  pub allowed_alike : IsAllowed (levels_of (seating_of w)) (leveled w w.forced) (leveled w w.forbidden) m ↔ IsWrittenAllowed w (written_of (seating_of w) m.proposers)
  allowed_alike = (allowed_there, allowed_back)

  -- what is weighed, where nobody weighs 0
  module _ (weigh : ℕ → Option ℕ → ℤ) (nobody : (p : ℕ) → weigh p None ≡ pos 0) where
    pair_alike : (p : ℕ) → p < length (seat_market w).proposers
        → weight_of_place (weights_by weigh (seating_of w)) p (market_held m.proposers p) ≡ weigh p (held (written_of (seating_of w) m.proposers) p)
    pair_alike p here = elim (seat_cases h f p) [
      | inl alone ↦ ap (weight_of_place (weights_by weigh (seating_of w)) p) alone.held_is ∙ sym (nobody p) ∙ ap (weigh p) (sym alone.written_held_is)
      | inr it ↦
          let each : ℕ → ℕ → ℤ = λ p i. weigh p (Some i) in
          let list = get_or-map-range_with_len (at_places (seating_of w) each) 0 (length (seat_market w).proposers) p p [] here (omega arith) in
          ap (weight_of_place (weights_by weigh (seating_of w)) p) it.held_is
          ∙ ap (λ l. get_or l it.place (pos 0)) list
          ∙ at_place_is (seating_of w) each (pos 0) p it.place it.at.on
          ∙ ap (λ i. weigh p (Some i)) (written_place-seating it.at)
          ∙ ap (weigh p) (sym it.written_held_is)
    ]

    -- the weights are the same
    pub weights_alike : weight_of (seat_market w) (weights_by weigh (seating_of w)) m ≡ fold ◌+ℤ◌ (pos 0) (map (λ p. weigh p (held (written_of (seating_of w) m.proposers) p)) (range_with_len 0 (length w.proposers)))
    weights_alike =
        let n = length (seat_market w).proposers in
        let mine : ℕ → ℤ = λ p. weight_of_place (weights_by weigh (seating_of w)) p (market_held m.proposers p) in
        let theirs : ℕ → ℤ = λ p. weigh p (held (written_of (seating_of w) m.proposers) p) in
        total_same n mine theirs pair_alike ∙ total_is_fold theirs n ∙ ap (λ k. fold ◌+ℤ◌ (pos 0) (map theirs (range_with_len 0 k))) (length-proposers w)

  -- regrets
  rank_alike : (p : ℕ) → p < length (seat_market w).proposers
      → rank_of_place (worse_ranks_of w (seating_of w)) p (market_held m.proposers p) ≡ worse_rank w p (held (written_of (seating_of w) m.proposers) p)
  rank_alike p here = elim (seat_cases h f p) [
    | inl alone ↦ ap (rank_of_place (worse_ranks_of w (seating_of w)) p) alone.held_is ∙ ap (worse_rank w p) (sym alone.written_held_is)
    | inr it ↦
        let each : ℕ → ℕ → ℕ = λ p i. worse_rank w p (Some i) in
        let list = get_or-map-range_with_len (at_places (seating_of w) each) 0 (length (seat_market w).proposers) p p [] here (omega arith) in
        ap (rank_of_place (worse_ranks_of w (seating_of w)) p) it.held_is
        ∙ ap (λ l. get_or l it.place 0) list
        ∙ at_place_is (seating_of w) each 0 p it.place it.at.on
        ∙ ap (λ i. worse_rank w p (Some i)) (written_place-seating it.at)
        ∙ ap (worse_rank w p) (sym it.written_held_is)
  ]

  -- and so are the regrets
  pub regrets_alike : regret_of (seat_market w) (worse_ranks_of w (seating_of w)) m ≡ written_regret w (written_of (seating_of w) m.proposers)
  regrets_alike =
      let n = length (seat_market w).proposers in
      let mine : ℕ → ℕ = λ p. rank_of_place (worse_ranks_of w (seating_of w)) p (market_held m.proposers p) in
      let theirs : ℕ → ℕ = λ p. worse_rank w p (held (written_of (seating_of w) m.proposers) p) in
      let size = length-proposers w in
      ap (fold max 0) (fill_by_all theirs (map mine (range_with_len 0 n)) (length w.proposers) 0 (length-map-range_with_len mine 0 n ∙ size)
      (λ p less. get_or-map-range_with_len mine 0 n p p 0 (omega arith) (omega arith) ∙ rank_alike p (omega arith)))
