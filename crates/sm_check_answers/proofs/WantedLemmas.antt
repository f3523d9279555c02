-- The pairs of a matching that is wanted, and one more.
use Rattle.std.proofs.Common.{◌≡◌, ◌≢◌, ℕ, zero, suc, map, replicate, ◌+◌, ◌<◌, ◌==◌, ◌⊎◌, inl, inr, Bool, true, false, List, [], ◌∷◌, ◌++◌, Option, Some, None, length, get_or, set, refl, sym, ap, ◌∙◌, arith}
use Rattle.std.specs.List.{range_with_len}
use Rattle.std.specs.Option.{is_some}
use Rattle.std.proofs.lemmas.Bool.Decides.{eqb_tells}
use Rattle.std.proofs.lemmas.List.{length-set, get_or-set_same, get_or-set_other}
use Rattle.sm_agents.specs.Written.{Written}
use Rattle.sm_instance.specs.Matching.{held}
use Rattle.sm_theory.specs.Choices.{chosen}
use Rattle.sm_theory.specs.declared.choice.Choice.{Choice}
use Rattle.sm_theory.specs.declared.choice.Choice.TheVariants.{Better, Worse}
use Rattle.sm_holding.specs.Held.{partner_in}
use Rattle.sm_holding.specs.Chosen.{chosen_places}
use Rattle.sm_holding.specs.declared.holding.Holding.{Holding}
use Rattle.sm_holding.proofs.HoldingLemmas.{partner_in-push_same, partner_in-push_other, no_places}
use Rattle.sm_holding.specs.PairsKept.{ArePairsHeld}
use Rattle.sm_check_answers.specs.Stood.{AreStood}

-- one more proposer stands
pub stood_more : (w : Written) (pairs : List (ℕ × ℕ)) (stood : List Bool) (p r : ℕ) → AreStood w pairs stood → p < length w.proposers → partner_in pairs p ≡ None
    → AreStood w (pairs ++ (p, r) ∷ []) (set stood p true)
stood_more w pairs stood p r k l none = record {
  one_each = length-set stood p true ∙ k.one_each;
  stands = λ q q_in. by_same q q_in (eqb_tells q p);
}
  where
    by_same : (q : ℕ) → q < length w.proposers → (((q == p) ≡ true) × (q ≡ p)) ⊎ (((q == p) ≡ false) × (q ≢ p)) → get_or (set stood p true) q false ≡ is_some (partner_in (pairs ++ (p, r) ∷ []) q)
    by_same q q_in (inl x) =
        let inside : p < length stood = (let one = k.one_each in omega (arith, one, l)) in
        ap (λ n. get_or (set stood p true) n false) x.1 ∙ get_or-set_same stood p true false inside ∙ sym (ap is_some (partner_in-push_same pairs p r none)) ∙ ap (λ n. is_some (partner_in (pairs ++ (p, r) ∷ []) n)) (sym x.1)
    by_same q q_in (inr x) = get_or-set_other stood p q true false x.1 ∙ k.stands q q_in ∙ ap is_some (sym (partner_in-push_other pairs p r q none x.1))

-- who doesn't stand has no partner in the pairs
pub partner_in-none : (w : Written) (pairs : List (ℕ × ℕ)) (stood : List Bool) (p : ℕ) → AreStood w pairs stood → p < length w.proposers → get_or stood p false ≡ false → partner_in pairs p ≡ None
partner_in-none w pairs stood p k l e = go (partner_in pairs p) (sym (k.stands p l) ∙ e)
  where
    go : (o : Option ℕ) → is_some o ≡ false → o ≡ None
    go None h = refl
    go (Some r) h = absurd cc

-- who stands has one
pub some_stands : (w : Written) (pairs : List (ℕ × ℕ)) (stood : List Bool) (p : ℕ) → AreStood w pairs stood → p < length w.proposers → get_or stood p false ≡ true → partner_in pairs p ≢ None
some_stands w pairs stood p k l e none = let h = sym e ∙ k.stands p l ∙ ap is_some none in cc

-- nothing is chosen where there is no pair
pub chosen_none : (choice : Choice) (w : Written) (left right : Holding) (wanted : List (Option ℕ)) → ArePairsHeld w [] left → ArePairsHeld w [] right
    → wanted ≡ replicate (length w.proposers) None → wanted ≡ chosen_places choice w left.matching.places.items right.matching.places.items
chosen_none choice w left right wanted l r e =
    e ∙ nothing (length w.proposers) 0
    ∙ sym (ap (λ (m : List (Option ℕ)). chosen_places choice w m right.matching.places.items) (l.places ∙ sym (no_places w)) ∙ ap (chosen_places choice w (replicate (length w.proposers) None)) (r.places ∙ sym (no_places w)))
  where
    none_chosen : (choice : Choice) → chosen choice None None ≡ None
    none_chosen Better = refl
    none_chosen Worse = refl

    at : (q : ℕ) → held (replicate (length w.proposers) None) q ≡ None
    at q = each (length w.proposers) q
      where
        each : (n q : ℕ) → held (replicate n None) q ≡ None
        each zero q = refl
        each (suc n) zero = refl
        each (suc n) (suc q) = each n q

    nothing : (n a : ℕ) → replicate n None ≡ map (λ p. chosen choice (held (replicate (length w.proposers) None) p) (held (replicate (length w.proposers) None) p)) (range_with_len a n)
    nothing zero a = refl
    nothing (suc n) a =
        ap (λ (x : Option ℕ). x ∷ replicate n None) (sym (ap (λ (o : Option ℕ). chosen choice o (held (replicate (length w.proposers) None) a)) (at a) ∙ ap (chosen choice None) (at a) ∙ none_chosen choice))
        ∙ ap (λ xs. chosen choice (held (replicate (length w.proposers) None) a) (held (replicate (length w.proposers) None) a) ∷ xs) (nothing n (a + 1))
