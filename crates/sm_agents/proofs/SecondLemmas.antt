-- Second weights, one after another.
use Rattle.std.proofs.Common.{◌≡◌, ◌≢◌, ℕ, zero, suc, ◌+◌, ◌<◌, ◌≤◌, Bool, true, false, List, [], ◌∷◌, Option, Some, None, length, map, replicate, get_or, set, refl, sym, ap, subst, ◌∙◌, arith, ℤ, pos, ⊎_elim, unwrap_or}
use Rattle.std.specs.List.{All, position, position_or_len}
use Rattle.std.specs.Option.{is_some}
use Rattle.std.specs.Int.RustNames.{unsigned_abs}
use Rattle.std.proofs.lemmas.Bool.{false≢true, cases_lt}
use Rattle.std.proofs.lemmas.List.{length-map, length-set, get_or-map, get_or_past, same_lists}
use Rattle.std.proofs.lemmas.List.Sums.{position_or_len_is, fails_before_first}
use Rattle.std.proofs.lemmas.Grind.{common_steps}
use Rattle.std.proofs.lemmas.Option.{none-some, same_Some}
use Rattle.sm_text.specs.Limits.{most_weight}
use Rattle.sm_lists.specs.Pairs.{pair_at}
use Rattle.sm_lists.proofs.ItemLemmas.{set_cases}
use Rattle.sm_agents.specs.Written.{Written, weighed, is_same_pair, weight_number, weight_among, seconds_among}
use Rattle.sm_agents.specs.Sound.{IsPairOf, IsInstance}
use Rattle.sm_agents.specs.Faults.{IsSecondOf, IsSoundSecond, IsSecondFault}
use Rattle.sm_agents.specs.Checks.{IsGivenBefore, AreGiven, IsGivenFault}
use Rattle.sm_agents.specs.declared.faults.InstanceFault.{InstanceFault}
use Rattle.sm_agents.specs.declared.faults.InstanceFault.TheVariants.{TooMany, BadAgent, BadEntry, BadPair, BadOrder, OutOfMemory}
use Rattle.sm_agents.proofs.ItemLemmas.{same_pair, pair_same, length-weighed, weights_in_range}

-- what isn't there by a test
pub none_of : {X : Type 0} (o : Option X) → is_some o ≡ false → o ≡ None
none_of (Some x) t = absurd (false≢true (sym t))
none_of None t = refl

-- a test that finds no place passes nowhere
pub position-none : {X : Type 0} (p : X → Bool) (xs : List X) → position p xs ≡ None → (k : ℕ) (d : X) → k < length xs → p (get_or xs k d) ≡ false
position-none p xs none k d l = let past : length xs ≤ position_or_len p xs = grind (arith, common_steps) in fails_before_first p xs k d (omega arith)

-- pairs that differ don't pass the test of being one
other_pair : (x y : ℕ × ℕ) → x ≢ y → is_same_pair x y ≡ false
other_pair x y apart = by_test (is_same_pair x y) refl
  where
    by_test : (t : Bool) → is_same_pair x y ≡ t → t ≡ false
    by_test true same = absurd (apart (same_pair x y same))
    by_test false _ = refl

-- the number of the first weight that is given to a pair
number_is : (weights : List (ℕ × ℕ × ℤ)) (n p r : ℕ) → n < length weights → pair_at (map weighed weights) n ≡ (p, r)
    → ((k : ℕ) → k < n → pair_at (map weighed weights) k ≢ pair_at (map weighed weights) n) → weight_number weights p r ≡ n
number_is weights n p r l is fresh =
    let long = length-weighed weights in
    position_or_len_is (is_same_pair (p, r)) (map weighed weights) n (0, 0) (omega (arith, l, long))
    (λ k before. other_pair (p, r) (pair_at (map weighed weights) k) (λ e. fresh k before (sym e ∙ sym is)))
    (λ _. pair_same (p, r) (pair_at (map weighed weights) n) (sym is))

-- a pair to which no weight is given
no_number : (weights : List (ℕ × ℕ × ℤ)) (p r : ℕ) → ((k : ℕ) → k < length weights → pair_at (map weighed weights) k ≢ (p, r)) → weight_number weights p r ≡ length weights
no_number weights p r none =
    let long = length-weighed weights in
    position_or_len_is (is_same_pair (p, r)) (map weighed weights) (length weights) (0, 0) (omega (arith, long))
    (λ k before. other_pair (p, r) (pair_at (map weighed weights) k) (λ e. none k before (sym e)))
    (λ h. absurd (omega (arith, h, long)))

module _ {pairs : List (ℕ × ℕ)} {seconds : List (ℕ × ℕ × ℤ)} {given : List (Option ℤ)} (a : AreGiven pairs seconds (length seconds) given) where
  -- what is given to a pair is what the items give to it
  among : (k p r : ℕ) (o : Option ℤ) → k < length pairs → pair_at pairs k ≡ (p, r) → get_or given k None ≡ o → unwrap_or o (pos 0) ≡ weight_among seconds p r
  among k p r (Some s) l is e =
      let b = a.some k s e in
      let at = number_is seconds b.at p r b.before (b.pair_is ∙ is) (a.sound b.at b.before).fresh in
      sym (ap (λ n. (get_or seconds n (0, 0, pos 0)).2) at ∙ b.second_is)
  among k p r None l is e =
      let at = no_number seconds p r (λ j before same. none-some _ (sym e ∙ a.all j k before l (is ∙ sym same))) in
      sym (ap (λ n. (get_or seconds n (0, 0, pos 0)).2) at ∙ ap (λ (x : ℕ × ℕ × ℤ). x.2) (get_or_past seconds (length seconds) (0, 0, pos 0) (omega arith)))

  small : (k : ℕ) (o : Option ℤ) → get_or given k None ≡ o → unsigned_abs (unwrap_or o (pos 0)) ≤ most_weight
  small k (Some s) e = let b = a.some k s e in subst (λ x. unsigned_abs x ≤ most_weight) b.second_is (a.sound b.at b.before).size
  small k None e = omega arith

  -- so all are small
  pub given_small : All (λ s. unsigned_abs s ≤ most_weight) (map (λ o. unwrap_or o (pos 0)) given)
  given_small k d l =
      let f : Option ℤ → ℤ = λ o. unwrap_or o (pos 0) in
      subst (λ x. unsigned_abs x ≤ most_weight) (sym (get_or-map f given k None d (omega (arith, l, length-map given f)))) (small k (get_or given k None) refl)

-- the second weights that items give to the pairs of weights
pub given_seconds : (weights seconds : List (ℕ × ℕ × ℤ)) (given : List (Option ℤ)) → AreGiven (map weighed weights) seconds (length seconds) given → map (λ o. unwrap_or o (pos 0)) given ≡ seconds_among weights seconds
given_seconds weights seconds given a =
    let f : Option ℤ → ℤ = λ o. unwrap_or o (pos 0) in
    let g : ℕ × ℕ → ℤ = λ pair. weight_among seconds pair.0 pair.1 in
    let pairs = map weighed weights in
    same_lists (map f given) (map g pairs) (length-map given f ∙ a.one_each ∙ sym (length-map pairs g))
    (λ k d l.
    let inside : k < length given = omega (arith, l, length-map given f) in
    let there : k < length pairs = omega (arith, inside, a.one_each) in
    get_or-map f given k None d inside ∙ among a k (pair_at pairs k).0 (pair_at pairs k).1 (get_or given k None) there refl refl ∙ sym (get_or-map g pairs k (0, 0) d there))

-- as many zeros as things
pub zeros : {X : Type 0} (xs : List X) → replicate (length xs) (pos 0) ≡ map (λ _. pos 0) xs
zeros [] = refl
zeros (x ∷ xs) = ap (λ ns. pos 0 ∷ ns) (zeros xs)

-- second weights that are all 0 are small
pub zeros_small : {X : Type 0} (xs : List X) → All (λ s. unsigned_abs s ≤ most_weight) (map (λ _. pos 0) xs)
zeros_small [] k d l = absurd (omega (arith, l))
zeros_small (x ∷ xs) zero d l = omega arith
zeros_small (x ∷ xs) (suc k) d l = zeros_small xs k d (omega (arith, l))

-- none is given to begin with
pub none_given : (pairs : List (ℕ × ℕ)) (seconds : List (ℕ × ℕ × ℤ)) (given : List (Option ℤ)) → length given ≡ length pairs → ((k : ℕ) → get_or given k None ≡ None) → AreGiven pairs seconds 0 given
none_given pairs seconds given long none = record {
  one_each = long;
  sound = λ j l. absurd (omega arith);
  some = λ k s e. absurd (none-some s (sym (none k) ∙ e));
  all = λ j k l. absurd (omega arith);
}

module _ {pairs : List (ℕ × ℕ)} {seconds : List (ℕ × ℕ × ℤ)} {given : List (Option ℤ)} (n k : ℕ) (a : AreGiven pairs seconds n given) where
  abbrev second : ℕ → ℤ
  second j = (get_or seconds j (0, 0, pos 0)).2

  -- a pair that is given one by now is named by an earlier item
  pub already : (s : ℤ) → get_or given k None ≡ Some s → pair_at pairs k ≡ pair_at (map weighed seconds) n → ¬ IsSecondOf pairs seconds n
  already s e is sound = let b = a.some k s e in sound.fresh b.at b.before (b.pair_is ∙ is)

  -- the same by a test
  pub already_some : (o : Option ℤ) → get_or given k None ≡ o → is_some o ≡ true → pair_at pairs k ≡ pair_at (map weighed seconds) n → ¬ IsSecondOf pairs seconds n
  already_some (Some s) e t is = already s e is
  already_some None e t is = absurd (false≢true t)

  -- an item for a pair that is given none yet
  pub given_more : ((i j : ℕ) → j < i → i < length pairs → pair_at pairs j ≢ pair_at pairs i) → unsigned_abs (second n) ≤ most_weight
      → k < length pairs → pair_at pairs k ≡ pair_at (map weighed seconds) n → get_or given k None ≡ None → AreGiven pairs seconds (n + 1) (set given k (Some (second n)))
  given_more differ fits there is none = record {
    one_each = length-set given k (Some (second n)) ∙ a.one_each;
    sound = λ j l. ⊎_elim (λ before. a.sound j before) (λ past. subst (IsSecondOf pairs seconds) (let e : n ≡ j = omega (arith, l, past) in e) here) (cases_lt j n);
    some = λ m. set_cases (λ i x. (s : ℤ) → x ≡ Some s → IsGivenBefore seconds (n + 1) (pair_at pairs i) s) given k (Some (second n)) None inside
        (λ s e. record { at = n; before = omega arith; pair_is = sym is; second_is = same_Some (second n) s e })
        (λ i apart s e. let b = a.some i s e in record { at = b.at; before = omega (arith, b.before); pair_is = b.pair_is; second_is = b.second_is }) m;
    all = λ j m l h e. set_cases (λ i x. i < length pairs → pair_at pairs i ≡ pair_at (map weighed seconds) j → x ≡ Some (second j)) given k (Some (second n)) None inside
        (λ _ e. ⊎_elim (λ before. absurd (here.fresh j before (sym e ∙ is))) (λ past. ap (λ i. Some (second i)) (let f : n ≡ j = omega (arith, l, past) in f)) (cases_lt j n))
        (λ i apart h e. ⊎_elim (λ before. a.all j i before h e) (λ past. absurd (one_only i apart h (e ∙ ap (pair_at (map weighed seconds)) (let f : j ≡ n = omega (arith, l, past) in f)))) (cases_lt j n)) m h e;
  }
    where
      inside : k < length given
      inside = omega (arith, there, a.one_each)

      one_only : (i : ℕ) → i ≢ k → i < length pairs → pair_at pairs i ≢ pair_at (map weighed seconds) n
      one_only i apart h e = ⊎_elim (λ before. differ k i before there (e ∙ sym is)) (λ past. differ i k (omega (arith, past, apart)) h (is ∙ sym e)) (cases_lt i k)

      here : IsSecondOf pairs seconds n
      here = record {
        size = fits;
        among = record { at = k; there = there; is = is };
        fresh = λ j before same. none-some _ (sym none ∙ a.all j k before there (is ∙ sym same));
      }

-- an item for a pair of an instance that has a weight names two agents
pub second_sound : {w : Written} → IsInstance w → (seconds : List (ℕ × ℕ × ℤ)) (n : ℕ) → IsSecondOf (map weighed w.weights) seconds n → IsSoundSecond w seconds n
second_sound {w} i seconds n s = record {
  pair = subst (IsPairOf (length w.proposers) (length w.reviewers)) s.among.is (weights_in_range i s.among.at (omega (arith, s.among.there, length-weighed w.weights)));
  second = s;
}

-- from the fault of the items to that of the instance
pub second_faulty : {w : Written} → IsInstance w → (seconds : List (ℕ × ℕ × ℤ)) (f : InstanceFault) → IsGivenFault (map weighed w.weights) seconds f → IsSecondFault w seconds f
second_faulty i seconds TooMany h = h
second_faulty i seconds (BadAgent side a) h = h
second_faulty i seconds (BadEntry side a e) h = h
second_faulty i seconds (BadPair n) h = record { there = h.there; bad = λ s. h.bad s.second; earlier = λ k l. second_sound i seconds k (h.earlier k l) }
second_faulty i seconds BadOrder h = h
second_faulty i seconds OutOfMemory h = h

-- an instance with other second weights is one
pub with_seconds : {w : Written} → IsInstance w → (seconds : List ℤ) → length seconds ≡ length w.weights → All (λ s. unsigned_abs s ≤ most_weight) seconds → IsInstance (record w { seconds = seconds })
with_seconds i seconds each small = record {
  two_sided = i.two_sided;
  limits = i.limits;
  proposers = i.proposers;
  reviewers = i.reviewers;
  proposer_entries = i.proposer_entries;
  reviewer_entries = i.reviewer_entries;
  items = i.items;
  seconds_each = each;
  seconds_small = small;
  order = i.order;
}
