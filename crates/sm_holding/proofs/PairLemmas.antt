-- The pairs so far, and one more.
use Rattle.std.proofs.Common.{◌≡◌, ℕ, zero, suc, ◌+◌, ◌<◌, ◌≤◌, ◌==◌, cond, Bool, true, false, List, [], ◌∷◌, ◌++◌, Some, None, IsSome, length, set, take, replicate, sym, ap, ◌∙◌, subst, arith, ⊎_elim}
use Rattle.std.specs.List.{sum_by}
use Rattle.std.specs.Option.{option_map}
use Rattle.std.proofs.lemmas.Bool.{cases_lt}
use Rattle.std.proofs.lemmas.List.Sums.{sum_by-append, sum_by-cons}
use Rattle.std.proofs.lemmas.List.FromFn.{length-map-range_with_len}
use Rattle.std.proofs.Math.Seq.{take-suc}
use Rattle.sm_lists.specs.Pairs.{pair_at}
use Rattle.sm_lists.proofs.PlaceLemmas.{get_or-place_on}
use Rattle.sm_agents.specs.Written.{Written, entry, place_of}
use Rattle.sm_instance.specs.Matching.{held, load, IsMatching}
use Rattle.sm_agents.proofs.ListLemmas.{row_in_range}
use Rattle.sm_holding.specs.Held.{partner_in, paired_place, places_in, times_second, CanFollow, EachCanFollow}
use Rattle.sm_holding.specs.Holding.{loads_of, CantAdd, Added, AddsPair}
use Rattle.sm_holding.specs.PairsKept.{ArePairsHeld, HasJoined, Joins}
use Rattle.sm_holding.specs.declared.holding.Holding.{Holding}
use Rattle.sm_holding.proofs.HoldingLemmas.{no_places, no_load, no_loads, nobody, load_before-set, partner_in-none, some_given, held_place, places_later}

-- no pair so far
pub none_held : (w : Written) (holding : Holding) → holding.matching.places.items ≡ replicate (length w.proposers) None → holding.loads.items ≡ replicate (length w.reviewers) 0
    → ArePairsHeld w [] holding
none_held w holding is loads =
    let places = is ∙ no_places w in
    record {
      held = record {
        matching = subst (IsMatching w) (sym places) (nobody w);
        loads = loads ∙ no_loads w ∙ ap (loads_of w) (sym places);
      };
      places = places;
      seconds = λ r. sym (no_load w (length w.proposers) r) ∙ ap (λ xs. load w xs r) (sym places);
    }

-- one second more
pub times_second-push : (pairs : List (ℕ × ℕ)) (p r s : ℕ) → times_second (pairs ++ (p, r) ∷ []) s ≡ times_second pairs s + cond (r == s) 1 0
times_second-push pairs p r s =
    let f : ℕ × ℕ → ℕ = λ (pair : ℕ × ℕ). cond (pair.1 == s) 1 0 in
    let all = sum_by-append f pairs ((p, r) ∷ []) in
    let one : sum_by f ((p, r) ∷ []) ≡ cond (r == s) 1 0 + 0 = sum_by-cons f (p, r) [] in
    omega (arith, all, one)

-- Where each reviewer has as many proposers in the matching of some pairs as it stands in pairs, it has with one more that may
-- stand behind them.
counted_later : (w : Written) (before : List (ℕ × ℕ)) (p r : ℕ) → CanFollow w before (p, r) → ((s : ℕ) → times_second before s ≡ load w (places_in w before) s)
    → (s : ℕ) → times_second (before ++ (p, r) ∷ []) s ≡ load w (places_in w (before ++ (p, r) ∷ [])) s
counted_later w before p r free count s =
    let i = place_of w.proposers p r in
    let places = places_in w before in
    let p_in : p < length w.proposers = row_in_range w.proposers p i free.acceptable.proposer_lists in
    let there : entry w.proposers p i ≡ r = get_or-place_on _ r free.acceptable.proposer_lists in
    let long : length places ≡ length w.proposers = length-map-range_with_len (paired_place w before) 0 (length w.proposers) in
    let none : held places p ≡ None = held_place w before p p_in ∙ ap (option_map (place_of w.proposers p)) free.proposer_free in
    times_second-push before p r s
    ∙ ap (λ n. n + cond (r == s) 1 0) (count s)
    ∙ ap (λ (q : ℕ). load w places s + cond (q == s) 1 0) (sym there)
    ∙ sym (load_before-set w places p i (length w.proposers) s (omega (arith, long, p_in)) none p_in)
    ∙ ap (λ xs. load w xs s) (places_later w before p r free.proposer_free)

-- so each reviewer has as many proposers in the matching of pairs that can be held as it stands in pairs
pub counted : (w : Written) (pairs : List (ℕ × ℕ)) (k : ℕ) → k ≤ length pairs → EachCanFollow w pairs k → (s : ℕ) → times_second (take k pairs) s ≡ load w (places_in w (take k pairs)) s
counted w pairs zero le free s = sym (no_load w (length w.proposers) s)
counted w pairs (suc k) le free s =
    let pair = pair_at pairs k in
    subst (λ (xs : List (ℕ × ℕ)). times_second xs s ≡ load w (places_in w xs) s) (sym (take-suc pairs k (0, 0) (omega (arith, le))))
    (counted_later w (take k pairs) pair.0 pair.1 (free k (omega arith)) (counted w pairs k (omega (arith, le)) (λ j l. free j (omega (arith, l)))) s)

-- one more of the pairs can be held
pub free_more : (w : Written) (pairs : List (ℕ × ℕ)) (k : ℕ) → EachCanFollow w pairs k → CanFollow w (take k pairs) (pair_at pairs k) → EachCanFollow w pairs (k + 1)
free_more w pairs k below here j l = ⊎_elim
    (λ less. below j less)
    (λ ge. subst (λ n. CanFollow w (take n pairs) (pair_at pairs n)) (let e : k ≡ j = omega (arith, ge, l) in e) here)
    (cases_lt j k)

module _ {w : Written} {pairs : List (ℕ × ℕ)} {before : Holding} (k : ArePairsHeld w pairs before) (p r : ℕ) (p_in : p < length w.proposers) where
  joined : (after : Holding) → Added w before after p r → HasJoined w pairs (p, r) after
  joined after a =
      let none : partner_in pairs p ≡ None = partner_in-none w pairs p p_in (ap (λ xs. held xs p) (sym k.places) ∙ a.free) in
      let free : CanFollow w pairs (p, r) = record {
        acceptable = a.acceptable;
        proposer_free = none;
        place_free = let e = k.seconds r in let room = a.room in omega arith;
      } in
      let places : after.matching.places.items ≡ places_in w (pairs ++ (p, r) ∷ []) =
      a.places ∙ ap (λ xs. set xs p (Some (place_of w.proposers p r))) k.places ∙ places_later w pairs p r none in
      record {
        free = free;
        held = record {
          held = a.held;
          places = places;
          seconds = λ s.
              counted_later w pairs p r free (λ t. k.seconds t ∙ ap (λ xs. load w xs t) k.places) s ∙ ap (λ xs. load w xs s) (sym places);
        };
      }

  cant_join : CantAdd w before.matching.places.items p r → ¬ CanFollow w pairs (p, r)
  cant_join (CantAdd.unacceptable h) f = h f.acceptable
  cant_join (CantAdd.taken h) f = let s = some_given w pairs p p_in (subst (λ xs. IsSome (held xs p)) k.places h) in let t = subst IsSome f.proposer_free s in cc
  cant_join (CantAdd.full h) f = let e = k.seconds r in let l = f.place_free in omega arith

  -- a pair that could be added may stand behind those, and one that couldn't may not
  pub joins_by : (after : Holding) (added : Bool) → AddsPair w before after p r added → Joins w pairs (p, r) after added
  joins_by after true a = joined after a
  joins_by after false a = cant_join a.0
