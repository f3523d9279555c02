-- Pairs in which nobody stands first twice, and the matching that they give.
use Rattle.std.proofs.Common.{◌≡◌, ◌≢◌, ℕ, zero, suc, ◌+◌, ◌<◌, ◌≤◌, inl, inr, arith, refl, sym, ap, ◌∙◌, cond, List, [], ◌∷◌, ◌++◌, length, get_or, Option, Some, None, subst, length-append, eq-eqb, ne_eqb, ⊎_elim}
use Rattle.std.specs.Prelude.{Contains}
use Rattle.std.specs.Option.{option_map, option_or}
use Rattle.std.proofs.lemmas.Bool.{cases_eq, cases_lt}
use Rattle.std.proofs.lemmas.List.{get_or_append_left, get_or-append-add, get_or_past, get_or_default}
use Rattle.std.proofs.lemmas.List.Elements.{Contains-append_cases}
use Rattle.std.proofs.lemmas.Option.{same_Some}
use Rattle.sm_lists.specs.Rows.{place_on}
use Rattle.sm_lists.proofs.PlaceLemmas.{get_or-place_on}
use Rattle.sm_lists.proofs.RowLemmas.{row_in_range}
use Rattle.sm_agents.specs.Written.{Written, lists_of, place_of as written_place_of}
use Rattle.sm_instance.proofs.CrossLemmas.{row-lists_of}
use Rattle.sm_market.specs.Lists.{row, entry, place_of}
use Rattle.sm_market.specs.Matching.{held}
use Rattle.sm_holding.specs.Held.{partner_in}
use Rattle.sm_lists.specs.Pairs.{pair_at}
use Rattle.sm_holding.proofs.HoldingLemmas.{partner_in-push_same}
use Rattle.sm_cert.specs.Yes.{AreApart, ArePairsOf}
use Rattle.sm_check_roommates.proofs.CoupleLemmas.{partner_in-append}

-- what a list of one item has is that item
pub only_one : {X : Type 0} {x y : X} → Contains (x ∷ []) y → x ≡ y
only_one {X} {x} {y} c = go c.0 c.1 c.2
  where
    go : (k : ℕ) → k < 1 → get_or (x ∷ []) k y ≡ y → x ≡ y
    go zero l e = e
    go (suc k) l e = absurd (omega (arith, l))

-- nobody is not somebody
pub no_partner : {r : ℕ} → ◌≡◌ {A = Option ℕ} None (Some r) → ⊥
no_partner e = grind arith

-- whom pairs give somebody stands with it in one of them
pub given_there : (pairs : List (ℕ × ℕ)) (p r : ℕ) → partner_in pairs p ≡ Some r → Contains pairs (p, r)
given_there [] p r e = absurd (no_partner e)
given_there (x ∷ pairs) p r e = ⊎_elim
    (λ (is : x.0 ≡ p).
    let one : Some x.1 ≡ Some r = ap (λ t. cond t (Some x.1) (partner_in pairs p)) (sym (eq-eqb x.0 p is)) ∙ e in
    let same : x ≡ (p, r) = (λ i. (is i, same_Some _ _ one i)) in
    let c : Contains (x ∷ pairs) (p, r) = (0, omega arith, same) in c)
    (λ other.
    let rest = given_there pairs p r (ap (λ t. cond t (Some x.1) (partner_in pairs p)) (sym (ne_eqb x.0 p other)) ∙ e) in
    let c : Contains (x ∷ pairs) (p, r) = (suc rest.0, (let l = rest.1 in omega arith), rest.2) in c)
    (cases_eq x.0 p)

-- a pair stands at its place
pub pair_there : (pairs : List (ℕ × ℕ)) (k : ℕ) → k < length pairs → Contains pairs (pair_at pairs k)
pair_there pairs k l = (k, l, get_or_default pairs k (pair_at pairs k) (0, 0) l)

-- no two begin with one agent, where one more begins with another
pub apart_more : (pairs : List (ℕ × ℕ)) (x : ℕ × ℕ) → AreApart pairs → ((k : ℕ) → k < length pairs → (pair_at pairs k).0 ≢ x.0) → AreApart (pairs ++ x ∷ [])
apart_more pairs x apart other i j i_j l =
    let long = length-append pairs (x ∷ []) in
    let left = get_or_append_left pairs (x ∷ []) (0, 0) in
    ⊎_elim
    (λ (below : j < length pairs). λ e. apart i j i_j below (ap (λ (y : ℕ × ℕ). y.0) (sym (left i (omega (arith, below, i_j)))) ∙ e ∙ ap (λ (y : ℕ × ℕ). y.0) (left j below)))
    (λ (past : length pairs ≤ j).
    let last : j ≡ length pairs + 0 = omega (arith, past, l, long) in
    let here : pair_at (pairs ++ x ∷ []) j ≡ x = ap (pair_at (pairs ++ x ∷ [])) last ∙ get_or-append-add pairs (x ∷ []) 0 (0, 0) in
    let before : i < length pairs = omega (arith, last, i_j) in
    λ e. other i before (ap (λ (y : ℕ × ℕ). y.0) (sym (left i before)) ∙ e ∙ ap (λ (y : ℕ × ℕ). y.0) here))
    (cases_lt j (length pairs))

-- each reviewer is on its proposer's list, and no proposer stands twice
pub record AreGiven (rows : List (List ℕ)) (pairs : List (ℕ × ℕ)) : Type 0 where
  pub listed : (p r : ℕ) → Contains pairs (p, r) → place_of rows p r < length (row rows p)
  pub given : (p r : ℕ) → Contains pairs (p, r) → partner_in pairs p ≡ Some r
  pub apart : AreApart pairs

-- no pairs are such
pub none_given : (rows : List (List ℕ)) → AreGiven rows []
none_given rows = record {
  listed = λ p r c. absurd (let l = c.1 in omega arith);
  given = λ p r c. absurd (let l = c.1 in omega arith);
  apart = λ i j i_j l. absurd (omega arith);
}

-- one more is, whose reviewer is on the list of its proposer, and whose proposer is in none before it
pub one_given : (rows : List (List ℕ)) (pairs : List (ℕ × ℕ)) (x : ℕ × ℕ) → AreGiven rows pairs → place_of rows x.0 x.1 < length (row rows x.0) → partner_in pairs x.0 ≡ None
    → AreGiven rows (pairs ++ x ∷ [])
one_given rows pairs x k on none = record {
  listed = λ p r c. elim (Contains-append_cases pairs (x ∷ []) (p, r) c) [
    | inl had ↦ k.listed p r had
    | inr now ↦ subst (λ (y : ℕ × ℕ). place_of rows y.0 y.1 < length (row rows y.0)) (only_one now) on
  ];
  given = λ p r c. elim (Contains-append_cases pairs (x ∷ []) (p, r) c) [
    | inl had ↦ partner_in-append pairs (x ∷ []) p ∙ ap (λ (o : Option ℕ). option_or o (partner_in (x ∷ []) p)) (k.given p r had)
    | inr now ↦ subst (λ (y : ℕ × ℕ). partner_in (pairs ++ x ∷ []) y.0 ≡ Some y.1) (only_one now) (partner_in-push_same pairs x.0 x.1 none)
  ];
  apart = apart_more pairs x k.apart (λ j l e. no_partner (sym none ∙ ap (partner_in pairs) (sym e) ∙ k.given (pair_at pairs j).0 (pair_at pairs j).1 (pair_there pairs j l)));
}

-- two reviewers with one place on a list, where the first is on it
pub same_place : (rows : List (List ℕ)) (p r s : ℕ) → place_of rows p s < length (row rows p) → place_of rows p s ≡ place_of rows p r → s ≡ r
same_place rows p r s l e = sym (get_or-place_on (row rows p) s l) ∙ ap (entry rows p) e ∙ get_or-place_on (row rows p) r (omega (arith, l, e))

-- an agent's place for another, among its list and among all
pub same_places : (w : Written) (p r : ℕ) → place_of (lists_of w.proposers) p r ≡ written_place_of w.proposers p r
same_places w p r = ap (λ (list : List ℕ). place_on list r) (row-lists_of w.proposers p)

-- a matched agent is there
pub held_there : (places : List (Option ℕ)) (p i : ℕ) → held places p ≡ Some i → p < length places
held_there places p i e = ⊎_elim (λ l. l) (λ (past : length places ≤ p). absurd (no_partner (sym (get_or_past places p None past) ∙ e))) (cases_lt p (length places))

-- the matching of the pairs
pub pairs_of : (rows : List (List ℕ)) (places : List (Option ℕ)) (pairs : List (ℕ × ℕ)) → AreGiven rows pairs → length places ≡ length rows
    → ((p : ℕ) → p < length rows → held places p ≡ option_map (place_of rows p) (partner_in pairs p)) → ArePairsOf rows places pairs
pairs_of rows places pairs k long is = record {
  each = λ p r. (there p r, back p r);
  once = k.apart;
}
  where
    there : (p r : ℕ) → Contains pairs (p, r) → held places p ≡ Some (place_of rows p r)
    there p r c = is p (row_in_range rows p (place_of rows p r) (k.listed p r c)) ∙ ap (option_map (place_of rows p)) (k.given p r c)

    back : (p r : ℕ) → held places p ≡ Some (place_of rows p r) → Contains pairs (p, r)
    back p r e =
        let l = held_there places p (place_of rows p r) e in
        go (partner_in pairs p) refl (sym (is p (omega arith)) ∙ e)
      where
        go : (o : Option ℕ) → partner_in pairs p ≡ o → option_map (place_of rows p) o ≡ Some (place_of rows p r) → Contains pairs (p, r)
        go None is e = absurd (no_partner e)
        go (Some s) is e =
            let c = given_there pairs p s is in
            subst (λ z. Contains pairs (p, z)) (same_place rows p r s (k.listed p s c) (same_Some _ _ e)) c
