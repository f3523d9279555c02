-- The lists of persons are those of roommates, and who stands among whom.
use Rattle.std.proofs.Common.{◌≡◌, ℕ, zero, suc, ◌<◌, ◌||◌, eqb, Bool, true, false, List, [], ◌∷◌, length, get_or, refl, sym, ap, ◌∙◌, arith, eq-eqb, ne_eqb, ⊎_elim}
use Rattle.std.specs.Prelude.{Contains}
use Rattle.std.proofs.lemmas.Bool.{false≢true, cases_eq}
use Rattle.std.proofs.lemmas.List.{length-map}
use Rattle.sm_lists.specs.Limits.{AreWithinLimits}
use Rattle.sm_agents.specs.Written.{AgentData, lists_of}
use Rattle.sm_agents.specs.Sound.{ArePersons}
use Rattle.sm_instance.proofs.CrossLemmas.{row-lists_of, lists_within}
use Rattle.sm_theory.specs.Rooms.{AreRoomLists}
use Rattle.sm_check_roommates.specs.PartiesKept.{is_among}

-- the lists of persons are within the limits
pub persons_within : {persons : List AgentData} → ArePersons persons → AreWithinLimits (lists_of persons)
persons_within {persons} h = lists_within persons h.limits.proposers (let few = h.limits.entries in omega arith)

-- no person stands twice on a list, and all who stand there are persons
pub persons_listed : {persons : List AgentData} → ArePersons persons → AreRoomLists (lists_of persons)
persons_listed {persons} h = record {
  in_range = λ x i on.
      let sound = h.entries.sound x i (let same = ap (λ (list : List ℕ). length list) (row-lists_of persons x) in omega (arith, same, on)) in
      let e = ap (λ list. get_or list i 0) (row-lists_of persons x) in
      omega (arith, e, sound.in_range, length-map persons (λ (person : AgentData). person.entries));
  distinct = λ x i j less on same.
      let sound = h.entries.sound x j (let long = ap (λ (list : List ℕ). length list) (row-lists_of persons x) in omega (arith, long, on)) in
      sound.fresh i less (ap (λ list. get_or list i 0) (sym (row-lists_of persons x)) ∙ same ∙ ap (λ list. get_or list j 0) (row-lists_of persons x));
}

-- whether a person stands among some
pub among_of : (xs : List ℕ) (z : ℕ) → Contains xs z → is_among z xs ≡ true
among_of xs z c = go xs c.0 c.1 c.2
  where
    go : (xs : List ℕ) (k : ℕ) → k < length xs → get_or xs k z ≡ z → is_among z xs ≡ true
    go [] k l e = absurd (omega arith)
    go (x ∷ xs) zero l e = rw (eq-eqb x z e) refl
    go (x ∷ xs) (suc k) l e = by_rest (eqb x z) (go xs k (omega arith) e)
      where
        by_rest : (t : Bool) → is_among z xs ≡ true → (t || is_among z xs) ≡ true
        by_rest true r = refl
        by_rest false r = r

-- who is told to be among them stands there
pub of_among : (xs : List ℕ) (z : ℕ) → is_among z xs ≡ true → Contains xs z
of_among [] z e = absurd (false≢true e)
of_among (x ∷ xs) z e = ⊎_elim
    (λ (is : x ≡ z). let c : Contains (x ∷ xs) z = (0, omega arith, is) in c)
    (λ other.
    let rest = of_among xs z (let t = ne_eqb x z other in rw t at e) in
    let c : Contains (x ∷ xs) z = (suc rest.0, (let l = rest.1 in omega arith), rest.2) in c)
    (cases_eq x z)
