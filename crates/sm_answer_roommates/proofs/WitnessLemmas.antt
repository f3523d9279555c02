-- Five persons with an odd party: their parties.
use Rattle.std.proofs.Common.{◌≡◌, ℕ, zero, suc, ◌+◌, ◌<◌, [], ◌∷◌, slice_index, refl, arith}
use Rattle.sm_lists.specs.Rows.{row, entry}
use Rattle.sm_theory.specs.Partitions.{successor_in}
use Rattle.sm_theory.specs.WitnessesRooms.{odd_party_next}
use Rattle.sm_theory.proofs.Room.Witness.{odd_party_is}
use Rattle.sm_answer_roommates.specs.Parties.{IsParty, IsInSomeParty, AreParties}
use Rattle.sm_answer_roommates.specs.Witnesses.{OddPartiesShown, odd_parties}
use Rattle.sm_answer_roommates.proofs.PersonLemmas.{excluding}

alone : (x : ℕ) → x < 5 → successor_in odd_party_next x ≡ x → IsParty odd_party_next (x ∷ [])
alone x there is = record {
  some = omega arith;
  inside = λ i l. let z : i ≡ 0 = omega (arith, l) in rw z there;
  lowest = λ i a l. absurd (omega (arith, a, l));
  along = λ i l. absurd (omega (arith, l));
  returns = is;
}

circle : IsParty odd_party_next (0 ∷ 1 ∷ 2 ∷ [])
circle = record { some = omega arith; inside = inside; lowest = lowest; along = along; returns = refl }
  where
    inside : (i : ℕ) → i < 3 → slice_index (0 ∷ 1 ∷ 2 ∷ []) i < 5
    inside zero l = omega arith
    inside (suc zero) l = omega arith
    inside (suc (suc zero)) l = omega arith
    inside (suc (suc (suc i))) l = absurd (omega (arith, l))

    lowest : (i : ℕ) → 0 < i → i < 3 → 0 < slice_index (0 ∷ 1 ∷ 2 ∷ []) i
    lowest zero a l = absurd (omega (arith, a))
    lowest (suc zero) a l = omega arith
    lowest (suc (suc zero)) a l = omega arith
    lowest (suc (suc (suc i))) a l = absurd (omega (arith, l))

    along : (i : ℕ) → i + 1 < 3 → slice_index (0 ∷ 1 ∷ 2 ∷ []) (i + 1) ≡ successor_in odd_party_next (slice_index (0 ∷ 1 ∷ 2 ∷ []) i)
    along zero l = refl
    along (suc zero) l = refl
    along (suc (suc i)) l = absurd (omega (arith, l))

parties : AreParties odd_party_next odd_parties
parties = record { each = each; rising = rising; all = all }
  where
    each : (k : ℕ) → k < 3 → IsParty odd_party_next (row odd_parties k)
    each zero l = circle
    each (suc zero) l = alone 3 (omega arith) refl
    each (suc (suc zero)) l = alone 4 (omega arith) refl
    each (suc (suc (suc k))) l = absurd (omega (arith, l))

    rising : (j k : ℕ) → j < k → k < 3 → entry odd_parties j 0 < entry odd_parties k 0
    rising zero zero a l = absurd (omega (arith, a))
    rising zero (suc zero) a l = omega arith
    rising zero (suc (suc zero)) a l = omega arith
    rising (suc zero) (suc (suc zero)) a l = omega arith
    rising (suc j) (suc zero) a l = absurd (omega (arith, a))
    rising (suc j) zero a l = absurd (omega (arith, a))
    rising (suc (suc j)) (suc (suc zero)) a l = absurd (omega (arith, a))
    rising j (suc (suc (suc k))) a l = absurd (omega (arith, l))

    all : (x : ℕ) → x < 5 → IsInSomeParty odd_parties x
    all zero l = record { party = 0; at = 0; on_list = omega arith; is = refl }
    all (suc zero) l = record { party = 0; at = 1; on_list = omega arith; is = refl }
    all (suc (suc zero)) l = record { party = 0; at = 2; on_list = omega arith; is = refl }
    all (suc (suc (suc zero))) l = record { party = 1; at = 0; on_list = omega arith; is = refl }
    all (suc (suc (suc (suc zero)))) l = record { party = 2; at = 0; on_list = omega arith; is = refl }
    all (suc (suc (suc (suc (suc x))))) l = absurd (omega (arith, l))

-- the parties of the five are shown as they should be
pub odd_parties_shown : OddPartiesShown
odd_parties_shown = let w = odd_party_is in (excluding w.1 parties w.2.odd, refl)
