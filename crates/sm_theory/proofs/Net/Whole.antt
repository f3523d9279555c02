-- The net with an edge from the source to the sink too, where a pair allows nothing by itself.
use Rattle.std.proofs.Common.{◌≡◌, ℕ, zero, suc, arith, refl, sym, ap, Bool, true, false, not, ◌&&◌, ◌||◌, ◌==◌, List, [], ◌∷◌, length, eqb, eqb-true, ℤ}
use Rattle.std.specs.List.{list_any}
use Rattle.std.proofs.lemmas.Bool.{and_parts, and_from, ne_eqb, false≢true}
use Rattle.sm_market.specs.Lists.{Lists}
use Rattle.sm_market.specs.Matching.{Places}
use Rattle.sm_theory.specs.Chains.{rotation_at}
use Rattle.sm_theory.specs.Weights.{gain_of}
use Rattle.sm_theory.specs.Net.{Net, IsUnbounded, IsPath, IsReachable}
use Rattle.sm_theory.specs.Conditions.{forces, forbids, leads_to_need, rise_of, fall_of, allows_nothing, net_of}

-- the net of gains, predecessors and conditions, also with the edge from the source to the sink
abbrev pub whole_net_of : Lists → List (List ℕ) → List (List ℤ) → (forced forbidden : List (ℕ × ℕ)) → Places → List (List (ℕ × ℕ)) → List (List ℕ) → Net
whole_net_of l levels weights forced forbidden first rotations needs = record {
  size = length rotations;
  supply = λ k. fall_of (gain_of l weights (rotation_at rotations k));
  drain = λ k. rise_of (gain_of l weights (rotation_at rotations k));
  unbounded = λ i j. not (i == j)
      && (leads_to_need needs i j || (list_any (λ c. forces l levels first rotations c i j) forced || list_any (λ c. forbids l levels first rotations c i j) forbidden));
}

-- a test that is left out changes nothing where what is behind it fails too
left_out : (a b x : Bool) → (b ≡ true → x ≡ false) → (a && (not b && x)) ≡ (a && x)
left_out a true x f = ap (λ y. a && y) (sym (f refl))
left_out a false x f = refl

module _ (l : Lists) (levels : List (List ℕ)) (weights : List (List ℤ)) (forced forbidden : List (ℕ × ℕ)) (first : Places) (rotations : List (List (ℕ × ℕ))) (needs : List (List ℕ)) where
  abbrev edge : ℕ → ℕ → Bool
  edge i j = leads_to_need needs i j || (list_any (λ c. forces l levels first rotations c i j) forced || list_any (λ c. forbids l levels first rotations c i j) forbidden)

  -- where no pair allows nothing by itself it is the net
  pub net_is_whole : allows_nothing l levels forced forbidden first rotations ≡ false
      → net_of l levels weights forced forbidden first rotations needs ≡ whole_net_of l levels weights forced forbidden first rotations needs
  net_is_whole none = λ t. record {
    size = length rotations;
    supply = λ k. fall_of (gain_of l weights (rotation_at rotations k));
    drain = λ k. rise_of (gain_of l weights (rotation_at rotations k));
    unbounded = λ i j. same i j t;
  }
    where
      across : (i j : ℕ) → (eqb i 0 && eqb j (suc (length rotations))) ≡ true → edge i j ≡ false
      across i j e =
          let parts = and_parts (eqb i 0) (eqb j (suc (length rotations))) e in
          rw (eqb-true i 0 parts.0, eqb-true j (suc (length rotations)) parts.1) none

      same : (i j : ℕ) → (not (eqb i j) && (not (eqb i 0 && eqb j (suc (length rotations))) && edge i j)) ≡ (not (eqb i j) && edge i j)
      same i j = left_out (not (eqb i j)) (eqb i 0 && eqb j (suc (length rotations))) (edge i j) (across i j)

  -- its edges are those of the net and, where a pair allows nothing by itself, the one from the source to the sink
  pub whole_across : allows_nothing l levels forced forbidden first rotations ≡ true → IsUnbounded (whole_net_of l levels weights forced forbidden first rotations needs) 0 (suc (length rotations))
  whole_across e = and_from (not (eqb 0 (suc (length rotations)))) (edge 0 (suc (length rotations))) (ap not (ne_eqb 0 (suc (length rotations)) (λ same. omega (arith, same)))) e

  whole_edge : (i j : ℕ) → IsUnbounded (net_of l levels weights forced forbidden first rotations needs) i j → IsUnbounded (whole_net_of l levels weights forced forbidden first rotations needs) i j
  whole_edge i zero e = e
  whole_edge i (suc k) e = keep (not (eqb i (suc k))) (not (eqb i 0 && eqb (suc k) (suc (length rotations)))) (edge i (suc k)) e
    where
      keep : (a b x : Bool) → (a && (b && x)) ≡ true → (a && x) ≡ true
      keep true true x f = f
      keep true false x f = absurd (false≢true f)
      keep false b x f = f

  whole_path : (path : List ℕ) (i j : ℕ) → IsPath (IsUnbounded (net_of l levels weights forced forbidden first rotations needs)) i path j → IsPath (IsUnbounded (whole_net_of l levels weights forced forbidden first rotations needs)) i path j
  whole_path [] i j w = w
  whole_path (k ∷ path) i j w = (whole_edge i k w.0, whole_path path k j w.1)

  -- what is reached in the net is reached in this one
  pub whole_reach : {i j : ℕ} → IsReachable (IsUnbounded (net_of l levels weights forced forbidden first rotations needs)) i j → IsReachable (IsUnbounded (whole_net_of l levels weights forced forbidden first rotations needs)) i j
  whole_reach {i} {j} w = record { path = w.path; is = whole_path w.path i j w.is }
