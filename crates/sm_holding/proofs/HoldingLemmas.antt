-- The matching that pairs make, and one more pair.
use Rattle.std.proofs.Common.{◌≡◌, ◌≢◌, ℕ, zero, suc, ◌+◌, ◌<◌, ◌≤◌, ◌==◌, ◌⊎◌, ◌++◌, ◌∷◌, [], cond, Bool, true, false, List, Option, Some, None, length, map, get_or, set, replicate, refl, sym, ap, ◌∙◌, subst, arith, ⊎_elim, inl, inr, IsSome}
use Rattle.std.specs.List.{range_with_len}
use Rattle.std.specs.Option.{option_map, is_some}
use Rattle.std.proofs.lemmas.Bool.{eqb-true, eqb-false, eq-eqb, ne_eqb, cases_lt}
use Rattle.std.proofs.lemmas.Bool.Decides.{eqb_tells}
use Rattle.std.proofs.lemmas.List.{length-set, get_or-set_same, get_or-set_other, get_or_default}
use Rattle.std.proofs.lemmas.List.FromFn.{length-map-range_with_len, get_or-map-range_with_len}
use Rattle.sm_agents.specs.Written.{Written, row, entry, place_of, capacity_of, IsAcceptable}
use Rattle.sm_instance.specs.Matching.{held, leads_to, is_at, load_before, load, IsMatching}
use Rattle.sm_instance.proofs.LoadLemmas.{load_before-suc}
use Rattle.sm_holding.specs.Held.{partner_in, paired_place, places_in}
use Rattle.sm_holding.specs.Holding.{loads_of}

-- a list by numbers in which one item is changed
alike : {X : Type 0} (f g : ℕ → X) (a n : ℕ) → ((q : ℕ) → a ≤ q → g q ≡ f q) → map f (range_with_len a n) ≡ map g (range_with_len a n)
alike f g a zero e = refl
alike f g a (suc n) e = ap (λ x. x ∷ map f (range_with_len (a + 1) n)) (sym (e a (omega arith))) ∙ ap (λ xs. g a ∷ xs) (alike f g (a + 1) n (λ q le. e q (omega (arith, le))))

changed : {X : Type 0} (f g : ℕ → X) (a n k : ℕ) (x : X) → g (a + k) ≡ x → ((q : ℕ) → q ≢ a + k → g q ≡ f q) → set (map f (range_with_len a n)) k x ≡ map g (range_with_len a n)
changed f g a zero k x here other = refl
changed f g a (suc n) zero x here other =
    ap (λ y. y ∷ map f (range_with_len (a + 1) n)) (sym here ∙ ap g (let e : a + zero ≡ a = omega arith in e))
    ∙ ap (λ xs. g a ∷ xs) (alike f g (a + 1) n (λ q le. other q (λ e. omega (arith, le, e))))
changed f g a (suc n) (suc k) x here other =
    ap (λ y. y ∷ set (map f (range_with_len (a + 1) n)) k x) (sym (other a (λ e. omega (arith, e))))
    ∙ ap (λ xs. g a ∷ xs) (changed f g (a + 1) n k x (ap g (let e : a + 1 + k ≡ a + suc k = omega arith in e) ∙ here) (λ q ne. other q (λ e. ne (omega (arith, e)))))

-- with item k changed the list of a function is that of one which differs from it at k alone
pub changed_at : {X : Type 0} (f g : ℕ → X) (n k : ℕ) (x : X) → g k ≡ x → ((q : ℕ) → q ≢ k → g q ≡ f q) → set (map f (range_with_len 0 n)) k x ≡ map g (range_with_len 0 n)
changed_at f g n k x here other = changed f g 0 n k x (ap g (let e : 0 + k ≡ k = omega arith in e) ∙ here) (λ q ne. other q (λ e. ne (omega (arith, e))))

-- what pairs give where one more stands behind them
later : (before : List (ℕ × ℕ)) (p r q : ℕ) → partner_in before p ≡ None → partner_in (before ++ (p, r) ∷ []) q ≡ cond (p == q) (Some r) (partner_in before q)
later [] p r q none = refl
later (pair ∷ pairs) p r q none = by_first (later pairs p r q) (pair.0 == q) refl (pair.0 == p) refl none
  where
    by_first : (partner_in pairs p ≡ None → partner_in (pairs ++ (p, r) ∷ []) q ≡ cond (p == q) (Some r) (partner_in pairs q)) → (a : Bool) → (pair.0 == q) ≡ a → (b : Bool) → (pair.0 == p) ≡ b → cond b (Some pair.1) (partner_in pairs p) ≡ None
        → cond a (Some pair.1) (partner_in (pairs ++ (p, r) ∷ []) q) ≡ cond (p == q) (Some r) (cond a (Some pair.1) (partner_in pairs q))
    by_first deep a ea true eb n = absurd cc
    by_first deep false ea false eb n = deep n
    by_first deep true ea false eb n =
        ap (λ t. cond t (Some r) (Some pair.1)) (sym (ne_eqb p q (λ e. eqb-false pair.0 p eb (eqb-true pair.0 q ea ∙ sym e))))

-- a proposer to whom the pairs give nobody has the reviewer of the pair behind them
pub partner_in-push_same : (before : List (ℕ × ℕ)) (p r : ℕ) → partner_in before p ≡ None → partner_in (before ++ (p, r) ∷ []) p ≡ Some r
partner_in-push_same before p r none = later before p r p none ∙ ap (λ t. cond t (Some r) (partner_in before p)) (eq-eqb p p refl)

-- any other proposer has whom it had
pub partner_in-push_other : (before : List (ℕ × ℕ)) (p r q : ℕ) → partner_in before p ≡ None → q ≢ p → partner_in (before ++ (p, r) ∷ []) q ≡ partner_in before q
partner_in-push_other before p r q none ne = later before p r q none ∙ ap (λ t. cond t (Some r) (partner_in before q)) (ne_eqb p q (λ e. ne (sym e)))

-- so the matching of the pairs with one more is theirs with the place of that reviewer set
pub places_later : (w : Written) (before : List (ℕ × ℕ)) (p r : ℕ) → partner_in before p ≡ None
    → set (places_in w before) p (Some (place_of w.proposers p r)) ≡ places_in w (before ++ (p, r) ∷ [])
places_later w before p r none =
    changed_at (paired_place w before) (paired_place w (before ++ (p, r) ∷ [])) (length w.proposers) p (Some (place_of w.proposers p r))
    (ap (option_map (place_of w.proposers p)) (partner_in-push_same before p r none))
    (λ q ne. ap (option_map (place_of w.proposers q)) (partner_in-push_other before p r q none ne))

-- who is in the pairs is in their matching, and nobody else
pub held_place : (w : Written) (pairs : List (ℕ × ℕ)) (p : ℕ) → p < length w.proposers → held (places_in w pairs) p ≡ paired_place w pairs p
held_place w pairs p l = get_or-map-range_with_len (paired_place w pairs) 0 (length w.proposers) p p None l (omega arith)

-- who is unmatched there is in none of the pairs
pub partner_in-none : (w : Written) (pairs : List (ℕ × ℕ)) (p : ℕ) → p < length w.proposers → held (places_in w pairs) p ≡ None → partner_in pairs p ≡ None
partner_in-none w pairs p l none = by_partner (partner_in pairs p) refl
  where
    by_partner : (o : Option ℕ) → partner_in pairs p ≡ o → partner_in pairs p ≡ None
    by_partner None e = e
    by_partner (Some r) e = let h = sym (held_place w pairs p l ∙ ap (option_map (place_of w.proposers p)) e) ∙ none in absurd cc

-- who is matched there is in one of the pairs
pub some_given : (w : Written) (pairs : List (ℕ × ℕ)) (p : ℕ) → p < length w.proposers → IsSome (held (places_in w pairs) p) → IsSome (partner_in pairs p)
some_given w pairs p l some = by_partner (partner_in pairs p) refl
  where
    by_partner : (o : Option ℕ) → partner_in pairs p ≡ o → IsSome (partner_in pairs p)
    by_partner None e = let h = held_place w pairs p l ∙ ap (option_map (place_of w.proposers p)) e in let s = subst IsSome h some in absurd cc
    by_partner (Some r) e = subst IsSome (sym e) refl

-- the loads where one more proposer is matched
here_set : (w : Written) (places : List (Option ℕ)) (p i r : ℕ) → p < length places → is_at w (set places p (Some i)) p r ≡ (entry w.proposers p i == r)
here_set w places p i r l = ap (leads_to w p r) (get_or-set_same places p (Some i) None l)

other_set : (w : Written) (places : List (Option ℕ)) (p i q r : ℕ) → q ≢ p → is_at w (set places p (Some i)) q r ≡ is_at w places q r
other_set w places p i q r ne = ap (leads_to w q r) (get_or-set_other places p q (Some i) None ne)

free_at : (w : Written) (places : List (Option ℕ)) (p r : ℕ) → held places p ≡ None → is_at w places p r ≡ false
free_at w places p r free = ap (leads_to w p r) free

low_set : (w : Written) (places : List (Option ℕ)) (p i k r : ℕ) → k ≤ p → load_before w (set places p (Some i)) k r ≡ load_before w places k r
low_set w places p i zero r le = refl
low_set w places p i (suc k) r le =
    ap (λ n. load_before w (set places p (Some i)) n r) (let e : suc k ≡ k + 1 = omega arith in e)
    ∙ load_before-suc w (set places p (Some i)) k r
    ∙ ap (λ n. n + cond (is_at w (set places p (Some i)) k r) 1 0) (low_set w places p i k r (omega (arith, le)))
    ∙ ap (λ b. load_before w places k r + cond b 1 0) (other_set w places p i k r (λ e. omega (arith, e, le)))
    ∙ sym (load_before-suc w places k r)
    ∙ ap (λ n. load_before w places n r) (let e : k + 1 ≡ suc k = omega arith in e)

-- the load that the first proposers make counts the place set, where that is the reviewer's and its proposer is among them
pub load_before-set : (w : Written) (places : List (Option ℕ)) (p i k r : ℕ) → p < length places → held places p ≡ None → p < k
    → load_before w (set places p (Some i)) k r ≡ load_before w places k r + cond (entry w.proposers p i == r) 1 0
load_before-set w places p i zero r l free lt = absurd (omega (arith, lt))
load_before-set w places p i (suc k) r l free lt =
    ap (λ n. load_before w (set places p (Some i)) n r) (let e : suc k ≡ k + 1 = omega arith in e)
    ∙ load_before-suc w (set places p (Some i)) k r
    ∙ ⊎_elim
    (λ below. let deep = load_before-set w places p i k r l free below in
    ap (λ b. load_before w (set places p (Some i)) k r + cond b 1 0) (other_set w places p i k r (λ e. omega (arith, e, below)))
    ∙ (let m = load_before-suc w places k r in let e : load_before w (set places p (Some i)) k r + cond (is_at w places k r) 1 0 ≡ load_before w places (k + 1) r + cond (entry w.proposers p i == r) 1 0 = omega (arith, deep, m) in e)
    ∙ ap (λ n. load_before w places n r + cond (entry w.proposers p i == r) 1 0) (let e : k + 1 ≡ suc k = omega arith in e))
    (λ ge. let same : p ≡ k = omega (arith, ge, lt) in
    let low = low_set w places p i k r (omega (arith, same)) in
    let hit : is_at w (set places p (Some i)) k r ≡ (entry w.proposers p i == r) = ap (λ q. is_at w (set places p (Some i)) q r) (sym same) ∙ here_set w places p i r l in
    let miss : is_at w places k r ≡ false = ap (λ q. is_at w places q r) (sym same) ∙ free_at w places p r free in
    let m = load_before-suc w places k r ∙ ap (λ b. load_before w places k r + cond b 1 0) miss in
    ap (λ b. load_before w (set places p (Some i)) k r + cond b 1 0) hit
    ∙ (let e : load_before w (set places p (Some i)) k r + cond (entry w.proposers p i == r) 1 0 ≡ load_before w places (k + 1) r + cond (entry w.proposers p i == r) 1 0 = omega (arith, low, m) in e)
    ∙ ap (λ n. load_before w places n r + cond (entry w.proposers p i == r) 1 0) (let e : k + 1 ≡ suc k = omega arith in e))
    (cases_lt p k)

-- so the load of the reviewer at the place is one more, and the other loads stay
pub loads_later : (w : Written) (places : List (Option ℕ)) (p i : ℕ) → length places ≡ length w.proposers → p < length w.proposers → held places p ≡ None
    → set (loads_of w places) (entry w.proposers p i) (load w places (entry w.proposers p i) + 1) ≡ loads_of w (set places p (Some i))
loads_later w places p i one l free =
    let r = entry w.proposers p i in
    changed_at (load w places) (load w (set places p (Some i))) (length w.reviewers) r (load w places r + 1)
    (load_before-set w places p i (length w.proposers) r (omega (arith, one, l)) free l ∙ ap (λ b. load w places r + cond b 1 0) (eq-eqb r r refl))
    (λ s ne. load_before-set w places p i (length w.proposers) s (omega (arith, one, l)) free l ∙ ap (λ b. load w places s + cond b 1 0) (ne_eqb r s (λ e. ne (sym e)))
    ∙ (let e : load w places s + 0 ≡ load w places s = omega arith in e))

-- a matching with one more pair
pub matching_later : (w : Written) (places : List (Option ℕ)) (p i : ℕ) → IsMatching w places → p < length w.proposers → held places p ≡ None
    → i < length (row w.proposers p) → IsAcceptable w p (entry w.proposers p i) → load w places (entry w.proposers p i) < capacity_of w.reviewers (entry w.proposers p i)
    → IsMatching w (set places p (Some i))
matching_later w places p i m l free on acceptable room = record {
  assigned = record {
    one_each = length-set places p (Some i) ∙ m.assigned.one_each;
    on_lists = λ q k h. by_same q k h (eqb_tells q p);
  };
  acceptable = λ q k h. by_acceptable q k h (eqb_tells q p);
  within = λ r. by_load r (eqb_tells (entry w.proposers p i) r);
}
  where
    inside : p < length places
    inside = let e = m.assigned.one_each in omega (arith, e, l)

    is_i : (k : ℕ) → held (set places p (Some i)) p ≡ Some k → i ≡ k
    is_i k h = let e = sym (get_or-set_same places p (Some i) None inside) ∙ h in cc

    by_same : (q k : ℕ) → held (set places p (Some i)) q ≡ Some k → (((q == p) ≡ true) × (q ≡ p)) ⊎ (((q == p) ≡ false) × (q ≢ p)) → k < length (row w.proposers q)
    by_same q k h (inl x) = let e = is_i k (ap (held (set places p (Some i))) (sym x.1) ∙ h) in let s = ap (λ z. length (row w.proposers z)) x.1 in omega (arith, e, s, on)
    by_same q k h (inr x) = m.assigned.on_lists q k (sym (get_or-set_other places p q (Some i) None x.1) ∙ h)

    by_acceptable : (q k : ℕ) → held (set places p (Some i)) q ≡ Some k → (((q == p) ≡ true) × (q ≡ p)) ⊎ (((q == p) ≡ false) × (q ≢ p)) → IsAcceptable w q (entry w.proposers q k)
    by_acceptable q k h (inl x) = let e = is_i k (ap (held (set places p (Some i))) (sym x.1) ∙ h) in rw (x.1, sym e) acceptable
    by_acceptable q k h (inr x) = m.acceptable q k (sym (get_or-set_other places p q (Some i) None x.1) ∙ h)

    by_load : (r : ℕ) → (((entry w.proposers p i == r) ≡ true) × (entry w.proposers p i ≡ r)) ⊎ (((entry w.proposers p i == r) ≡ false) × (entry w.proposers p i ≢ r))
        → load w (set places p (Some i)) r ≤ capacity_of w.reviewers r
    by_load r (inl x) =
        let e = load_before-set w places p i (length w.proposers) r inside free l ∙ ap (λ b. load w places r + cond b 1 0) x.0 in
        let same = ap (λ s. load w places s) x.1 in
        let cap = ap (λ s. capacity_of w.reviewers s) x.1 in
        omega (arith, e, same, cap, room)
    by_load r (inr x) =
        let e = load_before-set w places p i (length w.proposers) r inside free l ∙ ap (λ b. load w places r + cond b 1 0) x.0 in
        let le = m.within r in
        omega (arith, e, le)

-- nobody is matched
pub no_places : (w : Written) → replicate (length w.proposers) None ≡ places_in w []
no_places w = each 0 (length w.proposers)
  where
    each : (a n : ℕ) → replicate n None ≡ map (paired_place w []) (range_with_len a n)
    each a zero = refl
    each a (suc n) = ap (λ xs. None ∷ xs) (each (a + 1) n)

no_place : (w : Written) (p : ℕ) → held (places_in w []) p ≡ None
no_place w p = each 0 (length w.proposers) p
  where
    each : (a n p : ℕ) → held (map (paired_place w []) (range_with_len a n)) p ≡ None
    each a zero p = refl
    each a (suc n) zero = refl
    each a (suc n) (suc p) = each (a + 1) n p

-- nobody makes no load
pub no_load : (w : Written) (k r : ℕ) → load_before w (places_in w []) k r ≡ 0
no_load w zero r = refl
no_load w (suc k) r =
    ap (λ n. load_before w (places_in w []) n r) (let e : suc k ≡ k + 1 = omega arith in e)
    ∙ load_before-suc w (places_in w []) k r
    ∙ ap (λ b. load_before w (places_in w []) k r + cond b 1 0) (free_at w (places_in w []) k r (no_place w k))
    ∙ (let d = no_load w k r in let e : load_before w (places_in w []) k r + 0 ≡ 0 = omega (arith, d) in e)

-- and the loads are none
pub no_loads : (w : Written) → replicate (length w.reviewers) 0 ≡ loads_of w (places_in w [])
no_loads w = each 0 (length w.reviewers)
  where
    each : (a n : ℕ) → replicate n 0 ≡ map (load w (places_in w [])) (range_with_len a n)
    each a zero = refl
    each a (suc n) = ap (λ x. x ∷ replicate n 0) (sym (no_load w (length w.proposers) a)) ∙ ap (λ xs. load w (places_in w []) a ∷ xs) (each (a + 1) n)

-- nobody at all is a matching
pub nobody : (w : Written) → IsMatching w (places_in w [])
nobody w = record {
  assigned = record { one_each = length-map-range_with_len (paired_place w []) 0 (length w.proposers); on_lists = λ p i h. absurd (free p i h) };
  acceptable = λ p i h. absurd (free p i h);
  within = λ r. let e = no_load w (length w.proposers) r in omega (arith, e);
}
  where
    free : (p i : ℕ) → held (places_in w []) p ≡ Some i → ⊥
    free p i h = let e = sym (no_place w p) ∙ h in cc

-- the reviewers' loads, one for each
pub loads_long : (w : Written) (places : List (Option ℕ)) → length (loads_of w places) ≡ length w.reviewers
loads_long w places = length-map-range_with_len (load w places) 0 (length w.reviewers)

-- the item of a reviewer is its load
pub load_at : (w : Written) (places : List (Option ℕ)) (r d : ℕ) → r < length w.reviewers → get_or (loads_of w places) r d ≡ load w places r
load_at w places r d l = get_or-map-range_with_len (load w places) 0 (length w.reviewers) r r d l (omega arith)

-- and so it is where it is read of loads that are kept
pub load_is : (w : Written) (places : List (Option ℕ)) (loads : List ℕ) (r n : ℕ) → loads ≡ loads_of w places → r < length w.reviewers → n ≡ get_or loads r n → n ≡ load w places r
load_is w places loads r n same l e = e ∙ ap (λ xs. get_or xs r n) same ∙ load_at w places r n l

-- an item that was looked up
pub read_place : (places : List (Option ℕ)) (p : ℕ) (o : Option ℕ) → p < length places → o ≡ get_or places p o → o ≡ held places p
read_place places p o l e = e ∙ get_or_default places p o None l

-- where something was found the proposer is matched
pub some_there : (places : List (Option ℕ)) (p : ℕ) (o : Option ℕ) → p < length places → o ≡ get_or places p o → is_some o ≡ true → IsSome (held places p)
some_there places p o l e some = subst IsSome (read_place places p o l e) (by_case o some)
  where
    by_case : (o : Option ℕ) → is_some o ≡ true → IsSome o
    by_case None h = absurd cc
    by_case (Some i) h = refl

-- where nothing was found the proposer is unmatched
pub none_there : (places : List (Option ℕ)) (p : ℕ) (o : Option ℕ) → p < length places → o ≡ get_or places p o → is_some o ≡ false → held places p ≡ None
none_there places p o l e none = sym (read_place places p o l e) ∙ by_case o none
  where
    by_case : (o : Option ℕ) → is_some o ≡ false → o ≡ None
    by_case None h = refl
    by_case (Some i) h = absurd cc
