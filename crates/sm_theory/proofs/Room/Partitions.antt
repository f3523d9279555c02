-- The laws of specs/LawsRooms.antt.
use Rattle.std.proofs.Common.{◌≡◌, ◌≢◌, ℕ, zero, suc, ◌+◌, ◌*◌, ◌<◌, ◌≤◌, ◌⊎◌, inl, inr, arith, refl, sym, ap, ◌∙◌, List, length, Option, None, Some}
use Rattle.std.proofs.lemmas.List.{get_or_past}
use Rattle.std.proofs.lemmas.Option.{none-some}
use Rattle.sm_market.specs.Lists.{row, place_of}
use Rattle.sm_lists.proofs.Counting.{lt_or_le}
use Rattle.sm_theory.specs.Rooms.{IsAcceptable, mate_of, place_of_mate, IsRoomMatching, RoomBlocks}
use Rattle.sm_theory.specs.Partitions.{successor_in, predecessor_in, after, IsStablePartition, IsInOddParty, IsLowestOfOdd, PairsAlternately}
use Rattle.sm_theory.specs.LawsRooms.{OddPartyExcludes, SameOddParties, SamePersons, EvenPartiesPair, RestIsStable}
use Rattle.sm_theory.proofs.Room.Core.{Way, Parting, Between, cover, same_alone, between_same, same_to, all_between}
use Rattle.sm_theory.proofs.Room.Bridge.{persons_of, parting_of_mates, way_of_parties, own_place, own_self, own_other, before_next, has_before, parting_of_parties, after_is, odd_gap}
use Rattle.sm_lists.proofs.RowLemmas.{row_in_range}

-- every person of an odd party lies between, for any other parting
between_in : {rows : List (List ℕ)} {next : List ℕ} (h : IsStablePartition rows next) {n : Way} → Parting (persons_of rows) n → {x : ℕ} → IsInOddParty rows next x → (k : ℕ) → Between (way_of_parties rows next) n (after next x k)
between_in {rows} {next} h {n} hn {x} w k = rw (after_is h x k) at (all_between (parting_of_parties h) hn x w.half
    (after_is h x (2 * w.half + 1) ∙ w.returns)
    (λ j. rw (after_is h x j) (odd_gap h w j))
    k)

-- who have a stable partition with an odd party have no stable matching
pub odd_party_excludes : OddPartyExcludes
odd_party_excludes rows next x mates h w s =
    let b = between_in h (parting_of_mates s) w 0 in
    let e = between_same (parting_of_parties h) (parting_of_mates s) x b in
    omega (arith, b.out, b.back, e.a_is, e.b_is)

-- two stable partitions have the same odd parties
pub same_odd_parties : SameOddParties
same_odd_parties rows next other x h g w = (
  record {
    in_range = w.in_range;
    half = w.half;
    three = w.three;
    returns = same (2 * w.half + 1) ∙ w.returns;
    first = λ k a b e. w.first k a b (sym (same k) ∙ e);
  },
  same,
)
  where
    same : (k : ℕ) → after other x k ≡ after next x k
    same zero = refl
    same (suc k) = ap (successor_in other) (same k) ∙ same_to (parting_of_parties h) (parting_of_parties g) (after next x k) (between_in h (parting_of_parties g) w k)

-- the same persons are matched in all stable matchings
pub same_persons : SamePersons
same_persons rows m n hm hn x e = go (mate_of n x) refl
  where
    none : place_of_mate rows x (mate_of m x) ≡ length (row rows x)
    none = rw e refl

    go : (o : Option ℕ) → mate_of n x ≡ o → o ≡ None
    go None f = refl
    go (Some y) f =
        let on : place_of_mate rows x (mate_of n x) < length (row rows x) = rw f (hn.matching.acceptable x y f).listed in
        absurd (omega (arith, none, same_alone (cover (parting_of_mates hn)) (cover (parting_of_mates hm)) x on))

-- each stands no worse with its neighbour than with its predecessor
module _ {rows : List (List ℕ)} {next : List ℕ} {mates : List (Option ℕ)} (h : IsStablePartition rows next) (p : PairsAlternately rows next mates) where
  mate_inside : (x y : ℕ) → mate_of mates x ≡ Some y → x < length rows
  mate_inside x y e = elim (lt_or_le x (length rows)) [
    | inl k ↦ k
    | inr k ↦ absurd (none-some _ (sym (get_or_past mates x None (omega (arith, p.one_each))) ∙ e))
  ]

  acceptable : (x y : ℕ) → mate_of mates x ≡ Some y → IsAcceptable rows x y
  acceptable x y e = go (p.neighbours x y e).1
    where
      apart : y ≢ x
      apart = (p.neighbours x y e).0

      go : (y ≡ successor_in next x) ⊎ (y ≡ predecessor_in next x) → IsAcceptable rows x y
      go (inl f) = rw f (h.acceptable x (mate_inside x y e) (λ g. apart (f ∙ g)))
      go (inr f) =
          let w = has_before h x (mate_inside x y e) in
          let k : IsAcceptable rows (predecessor_in next x) x = rw w.next_is at (h.acceptable (predecessor_in next x) w.inside (λ g. apart (f ∙ sym g ∙ w.next_is))) in
          rw f ((persons_of rows).turn _ _ k)

  no_worse : (x y : ℕ) → mate_of mates x ≡ Some y → place_of rows x y ≤ own_place rows x (predecessor_in next x)
  no_worse x y e = go (p.neighbours x y e).1
    where
      own : own_place rows x y ≡ place_of rows x y
      own = own_other rows x y (p.neighbours x y e).0

      go : (y ≡ successor_in next x) ⊎ (y ≡ predecessor_in next x) → place_of rows x y ≤ own_place rows x (predecessor_in next x)
      go (inl f) = omega (arith, own, (parting_of_parties h).le x, ap (own_place rows x) f)
      go (inr f) = omega (arith, own, ap (own_place rows x) f)

  stays : (x : ℕ) → x < length rows → ¬ IsLowestOfOdd rows next x → place_of_mate rows x (mate_of mates x) ≤ own_place rows x (predecessor_in next x)
  stays x a stay = go (mate_of mates x) refl
    where
      alone : successor_in next x ≡ x → length (row rows x) ≤ own_place rows x (predecessor_in next x)
      alone e = omega (arith, own_self rows x (predecessor_in next x) (ap (predecessor_in next) (sym e) ∙ before_next h x a))

      go : (o : Option ℕ) → mate_of mates x ≡ o → place_of_mate rows x o ≤ own_place rows x (predecessor_in next x)
      go None e = elim (p.others x a e) [ inl f ↦ alone f | inr f ↦ absurd (stay f) ]
      go (Some y) e = no_worse x y e

  rest : IsRoomMatching rows mates × ((x y : ℕ) → ¬ IsLowestOfOdd rows next x → ¬ IsLowestOfOdd rows next y → ¬ RoomBlocks rows mates x y)
  rest = (
    record { one_each = p.one_each; acceptable = acceptable; in_turn = p.in_turn },
    λ x y sx sy b. (parting_of_parties h).unblocked x y b.acceptable
        (omega (arith, b.first_gains, stays x (row_in_range rows x _ b.acceptable.listed) sx))
        (omega (arith, b.second_gains, stays y (row_in_range rows y _ b.acceptable.returned) sy)),
  )

-- with the lowest of each odd party left out, no pair of those who stay blocks
pub rest_is_stable : RestIsStable
rest_is_stable rows next mates h p = rest h p

-- where no party is odd, pairing each alternately is stable
pub even_parties_pair : EvenPartiesPair
even_parties_pair rows next mates h none p =
    let w = rest h p in
    record { matching = w.0; unblocked = λ x y. w.1 x y (λ l. none x l.odd) (λ l. none y l.odd) }
