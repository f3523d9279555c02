-- What the commands use of a matching of seats, beside what sm_seats proves of it.
use Rattle.std.proofs.Common.{◌≡◌, ℕ, ◌<◌, ◌⊎◌, List, Option, Some, None, length, refl, sym, ap, ◌∙◌, inl, inr}
use Rattle.std.specs.Option.{option_map}
use Rattle.sm_lists.specs.Rows.{place_on}
use Rattle.sm_agents.specs.Written.{Written, entry as written_entry, place_of as written_place_of}
use Rattle.sm_instance.specs.Matching.{held as held_there}
use Rattle.sm_market.specs.Lists.{row, entry, place_of}
use Rattle.sm_market.specs.Matching.{Places, held, IsMatching}
use Rattle.sm_seats.specs.Seating.{Seating, reviewer_of, written_place, written_of}
use Rattle.sm_seats.specs.Correspondence.{IsSeating}
use Rattle.sm_seats.proofs.SeatingLemmas.{held-written_of, written_place-place_of}
use Rattle.sm_seats.proofs.SeatingLaws.{list_of, written_names}

-- where a proposer has no seat, and where it has one
pub record IsAlone (s : Seating) (m : Places) (p : ℕ) : Type 0 where
  pub held_is : held m.proposers p ≡ None
  pub written_is : held_there (written_of s m.proposers) p ≡ None

-- the proposer has a seat, of the reviewer at its written place
pub record HasSeat (w : Written) (s : Seating) (m : Places) (p : ℕ) : Type 0 where
  pub place : ℕ
  pub held_is : held m.proposers p ≡ Some place
  pub written_is : held_there (written_of s m.proposers) p ≡ Some (written_place s p place)
  pub there : written_entry w.proposers p (written_place s p place) ≡ reviewer_of s (entry s.market.proposers p place)

module _ {w : Written} {s : Seating} (h : IsSeating w s) where
  -- the place of a reviewer on the list that is kept is that on the written one
  pub place_of-list : (p r : ℕ) → written_place_of w.proposers p r ≡ place_of s.lists p r
  place_of-list p r = ap (λ (list : List ℕ). place_on list r) (sym (list_of h p))

  -- the place of a seat's reviewer is the one that the seat's place stands for
  pub place_of-reviewer_of : (p seat : ℕ) → place_of s.market.proposers p seat < length (row s.market.proposers p)
      → written_place_of w.proposers p (reviewer_of s seat) ≡ written_place s p (place_of s.market.proposers p seat)
  place_of-reviewer_of p seat on = place_of-list p (reviewer_of s seat) ∙ sym (written_place-place_of s p seat on)

  -- a proposer has a seat or it has none
  pub seat_cases : {m : Places} → IsMatching s.market m → (p : ℕ) → IsAlone s m p ⊎ HasSeat w s m p
  seat_cases {m} f p = by_place (held m.proposers p) refl
    where
      written : (o : Option ℕ) → held m.proposers p ≡ o → held_there (written_of s m.proposers) p ≡ option_map (written_place s p) o
      written o e = held-written_of s m.proposers p f.proposers.one_each ∙ ap (option_map (written_place s p)) e

      by_place : (o : Option ℕ) → held m.proposers p ≡ o → IsAlone s m p ⊎ HasSeat w s m p
      by_place None e = inl (record { held_is = e; written_is = written None e })
      by_place (Some i) e = inr (record { place = i; held_is = e; written_is = written (Some i) e; there = written_names h p i (f.proposers.on_list p i e) })
