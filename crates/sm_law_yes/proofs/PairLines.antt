-- The lines of the pairs of a matching, in the order of the proposers and in any other.
use Rattle.std.proofs.Common.{◌≡◌, ℕ, suc, ◌<◌, inl, inr, arith, refl, sym, ap, ◌∙◌, cond, true, List, [], ◌∷◌, length, map, get_or, Option, Some, None, subst, eq-eqb, ne_eqb}
use Rattle.std.specs.Prelude.{Contains}
use Rattle.std.specs.Option.{option_map}
use Rattle.std.proofs.lemmas.List.{get_or_default, length-map}
use Rattle.std.proofs.lemmas.Option.{same_Some}
use Rattle.sm_lists.specs.Pairs.{pair_at}
use Rattle.sm_lists.proofs.PlaceLemmas.{get_or-place_on}
use Rattle.sm_agents.specs.Written.{Written, lists_of, place_of as written_place_of, entry as written_entry}
use Rattle.sm_instance.specs.Matching.{IsAssignment}
use Rattle.sm_agents.specs.Sound.{IsInstance}
use Rattle.sm_instance.proofs.CrossLemmas.{row-lists_of}
use Rattle.sm_instance.proofs.PlaceLemmas.{place_of-entry}
use Rattle.sm_market.specs.Lists.{row, entry, place_of}
use Rattle.sm_market.specs.Matching.{held}
use Rattle.sm_report.specs.Lines.{LineData}
use Rattle.sm_report.specs.Keywords.{keyword_of}
use Rattle.sm_answer.specs.Lines.{lines_from}
use Rattle.sm_answer.proofs.AnswerLemmas.{lines_from-same}
use Rattle.sm_holding.specs.Held.{partner_in}
use Rattle.sm_cert.specs.Yes.{AreApart, ArePairsOf}
use Rattle.sm_cert.proofs.YesPairs.{same_places, held_there, given_there}
use Rattle.sm_law_yes.specs.Reordered.{is_free, IsReordered}
use Rattle.sm_law_yes.proofs.ReorderLemmas.{first_or_rest, nothing, AreNumbered, AreThose, in_order}

-- the number of a pair is that of its proposer
abbrev pub proposer_of : ℕ × ℕ → ℕ
proposer_of pair = pair.0

-- pairs no two of which begin with one agent
pub numbered_pairs : (pairs : List (ℕ × ℕ)) → AreApart pairs → AreNumbered proposer_of pairs
numbered_pairs [] h = tt
numbered_pairs (x ∷ xs) h = (
  λ y c e.
      let same : pair_at xs c.0 ≡ y = get_or_default xs c.0 (0, 0) y c.1 ∙ c.2 in
      h 0 (suc c.0) (omega arith) (let l = c.1 in omega (arith, l)) (sym (ap proposer_of same ∙ e)),
  numbered_pairs xs (λ i j less inside. h (suc i) (suc j) (omega (arith, less)) (omega (arith, inside))),
)

-- A matching over the proposers' lists: whoever is matched holds a place of its list, at which it finds somebody first.
pub record IsFirstHeld (rows : List (List ℕ)) (places : List (Option ℕ)) : Type 0 where
  pub one_each : length places ≡ length rows
  pub on_list : (p i : ℕ) → held places p ≡ Some i → i < length (row rows p)
  pub first : (p i : ℕ) → held places p ≡ Some i → place_of rows p (entry rows p i) ≡ i

-- that of an instance
pub first_held : {w : Written} {places : List (Option ℕ)} → IsInstance w → IsAssignment w places → IsFirstHeld (lists_of w.proposers) places
first_held {w} {places} i a = record {
  one_each = a.one_each ∙ sym (length-map w.proposers (λ agent. agent.entries));
  on_list = λ p k e. let inside = a.on_lists p k e in let long = ap (λ (list : List ℕ). length list) (row-lists_of w.proposers p) in omega (arith, inside, long);
  first = λ p k e.
      same_places w p (entry (lists_of w.proposers) p k)
      ∙ ap (written_place_of w.proposers p) (same_entry p k) ∙ place_of-entry i.proposer_entries p (written_entry w.proposers p k) k (a.on_lists p k e) refl;
}
  where
    same_entry : (p k : ℕ) → entry (lists_of w.proposers) p k ≡ written_entry w.proposers p k
    same_entry p k = ap (λ (list : List ℕ). get_or list k 0) (row-lists_of w.proposers p)

-- the pair of a proposer that is matched
abbrev pub pair_of : List (List ℕ) → List (Option ℕ) → ℕ → Option (ℕ × ℕ)
pair_of rows places p = option_map (λ i. (p, entry rows p i)) (held places p)

-- the pairs of a matching are those of its proposers
pub those_pairs : (rows : List (List ℕ)) (places : List (Option ℕ)) (pairs : List (ℕ × ℕ)) → IsFirstHeld rows places → ArePairsOf rows places pairs
    → AreThose proposer_of (pair_of rows places) 0 (length rows) pairs
those_pairs rows places pairs f h = record {
  each = λ x c.
      let e = (h.each x.0 x.1).0 c in
      let inside = held_there places x.0 (place_of rows x.0 x.1) e in
      let long = f.one_each in (
        ap (option_map (λ i. (x.0, entry rows x.0 i))) e ∙ ap (λ r. Some (x.0, r)) (get_or-place_on (row rows x.0) x.1 (f.on_list x.0 (place_of rows x.0 x.1) e)),
        omega arith,
        omega (arith, inside, long),
      );
  once = numbered_pairs pairs h.once;
  all = λ p x low high is. there p x (held places p) refl is;
}
  where
    there : (p : ℕ) (x : ℕ × ℕ) (o : Option ℕ) → held places p ≡ o → option_map (λ i. (p, entry rows p i)) o ≡ Some x → Contains pairs x
    there p x None e is = absurd (nothing is)
    there p x (Some i) e is = subst (Contains pairs) (same_Some _ _ is) ((h.each p (entry rows p i)).1 (e ∙ ap Some (sym (f.first p i e))))

-- a proposer's pair begins with it
pub pair_number : (rows : List (List ℕ)) (places : List (Option ℕ)) (p : ℕ) (x : ℕ × ℕ) → pair_of rows places p ≡ Some x → x.0 ≡ p
pair_number rows places p x is = go (held places p) is
  where
    go : (o : Option ℕ) → option_map (λ i. (p, entry rows p i)) o ≡ Some x → x.0 ≡ p
    go None is = absurd (nothing is)
    go (Some i) is = sym (ap proposer_of (same_Some _ _ is))

-- who stands first in a pair is given the second
pub partner_given : (pairs : List (ℕ × ℕ)) → AreNumbered proposer_of pairs → (p r : ℕ) → Contains pairs (p, r) → partner_in pairs p ≡ Some r
partner_given [] h p r c = absurd (let l = c.1 in omega (arith, l))
partner_given (x ∷ xs) h p r c = elim (first_or_rest x xs (p, r) c) [
  | inl is ↦ ap (λ t. cond t (Some x.1) (partner_in xs p)) (eq-eqb x.0 p (ap proposer_of is)) ∙ ap (λ (y : ℕ × ℕ). Some y.1) is
  | inr rest ↦ ap (λ t. cond t (Some x.1) (partner_in xs p)) (ne_eqb x.0 p (λ e. h.0 (p, r) rest (sym e))) ∙ partner_given xs h.1 p r rest
]

-- whom the pairs of a matching give a proposer
pub partner_held : (rows : List (List ℕ)) (places : List (Option ℕ)) (pairs : List (ℕ × ℕ)) → IsFirstHeld rows places → ArePairsOf rows places pairs → (p : ℕ) → partner_in pairs p ≡ option_map (entry rows p) (held places p)
partner_held rows places pairs f h p = go (partner_in pairs p) (held places p) refl refl
  where
    go : (o q : Option ℕ) → partner_in pairs p ≡ o → held places p ≡ q → o ≡ option_map (entry rows p) q
    go None None e g = refl
    go (Some r) q e g =
        let i = place_of rows p r in
        let at = (h.each p r).0 (given_there pairs p r e) in
        ap Some (sym (get_or-place_on (row rows p) r (f.on_list p i at))) ∙ ap (option_map (entry rows p)) (sym at ∙ g)
    go None (Some i) e g =
        let there = (h.each p (entry rows p i)).1 (g ∙ ap Some (sym (f.first p i g))) in
        absurd (nothing (sym e ∙ partner_given pairs (numbered_pairs pairs h.once) p (entry rows p i) there))

module _ (line : ℕ × ℕ → LineData) (word : (x y : ℕ × ℕ) → keyword_of (line x) ≡ keyword_of (line y)) (free : (x : ℕ × ℕ) → is_free (keyword_of (line x)) ≡ true) where
  -- their lines come into the order of the proposers
  pub pairs_in_order : (rows : List (List ℕ)) (places : List (Option ℕ)) (pairs : List (ℕ × ℕ)) → IsFirstHeld rows places → ArePairsOf rows places pairs
      → IsReordered (map line pairs) (lines_from (λ p. option_map line (pair_of rows places p)) 0 (length rows))
  pairs_in_order rows places pairs f h =
      in_order line word free proposer_of (pair_of rows places) (pair_number rows places) 0 (length rows) pairs (those_pairs rows places pairs f h)

  -- the same over the written lists of an instance
  pub written_in_order : (w : Written) (places : List (Option ℕ)) (pairs : List (ℕ × ℕ)) → IsInstance w → IsAssignment w places → ArePairsOf (lists_of w.proposers) places pairs
      → IsReordered (map line pairs) (lines_from (λ p. option_map (λ i. line (p, written_entry w.proposers p i)) (held places p)) 0 (length w.proposers))
  written_in_order w places pairs i a h =
      subst (IsReordered (map line pairs)) (lines_from-same f g (λ p. by_place p (held places p)) 0 (length (lists_of w.proposers)) ∙ ap (lines_from g 0) (length-map w.proposers (λ agent. agent.entries)))
      (pairs_in_order (lists_of w.proposers) places pairs (first_held i a) h)
    where
      f : ℕ → Option LineData
      f p = option_map line (pair_of (lists_of w.proposers) places p)

      g : ℕ → Option LineData
      g p = option_map (λ i. line (p, written_entry w.proposers p i)) (held places p)

      by_place : (p : ℕ) (o : Option ℕ) → option_map line (option_map (λ i. (p, entry (lists_of w.proposers) p i)) o) ≡ option_map (λ i. line (p, written_entry w.proposers p i)) o
      by_place p None = refl
      by_place p (Some i) = ap (λ (list : List ℕ). Some (line (p, get_or list i 0))) (row-lists_of w.proposers p)
