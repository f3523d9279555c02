-- Each rotation is turned to its lowest-numbered proposer, rotation after rotation.
use Rattle.std.proofs.Common.{◌≡◌, ℕ, ◌+◌, ◌<◌, inl, inr, arith, sym, ◌∙◌, List, [], ◌∷◌, ◌++◌, length, set}
use Rattle.std.proofs.lemmas.List.{get_or_append_left, get_or_push, length_push, length-set, get_or-set_same, get_or-set_other}
use Rattle.sm_lists.proofs.Counting.{eq_or_ne}
use Rattle.sm_theory.specs.Chains.{rotation_at}
use Rattle.sm_rotations.specs.Ordering.{IsLead, AreLeads, IsTurned, AreTurned}

-- one more lowest-numbered proposer is found
pub leads_more : {rotations : List (List (ℕ × ℕ))} {pairs : List (ℕ × ℕ)} {k p : ℕ} {leads : List ℕ} → pairs ≡ rotation_at rotations k → IsLead pairs p
    → AreLeads rotations k leads → AreLeads rotations (k + 1) (leads ++ p ∷ [])
leads_more {rotations} {pairs} {k} {p} {leads} read x a = record {
  one_each = omega (arith, length_push leads p, a.one_each);
  each = λ j less. elim (eq_or_ne j k) [
    | inl same ↦ rw (same, get_or_push leads p 0 k a.one_each, sym read) x
    | inr ne ↦ rw (get_or_append_left leads (p ∷ []) 0 j (omega (arith, a.one_each))) (a.each j (omega arith))
  ];
}

-- one more rotation is turned
pub turned_more : {rotations turned : List (List (ℕ × ℕ))} {pairs after : List (ℕ × ℕ)} {k : ℕ} → pairs ≡ rotation_at rotations k → k < length rotations → IsTurned pairs after
    → AreTurned rotations k turned → AreTurned rotations (k + 1) (set turned k after)
turned_more {rotations} {turned} {pairs} {after} {k} read g t a = record {
  one_each = length-set turned k after ∙ a.one_each;
  each = λ j less. elim (eq_or_ne j k) [
    | inl same ↦ rw (same, get_or-set_same turned k after [] (omega (arith, g, a.one_each)), sym read) t
    | inr ne ↦ rw (get_or-set_other turned k j after [] ne) (a.each j (omega arith))
  ];
  others = λ j le. get_or-set_other turned k j after [] (omega arith) ∙ a.others j (omega arith);
}
