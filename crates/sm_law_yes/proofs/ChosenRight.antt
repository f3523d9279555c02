-- An answer of `meet` or `join` that gets a yes is a right one over the two matchings that it says, but for the order of its pairs.
use Rattle.std.proofs.Common.{◌≡◌, ℕ, zero, suc, ◌+◌, ◌<◌, ◌≤◌, inl, inr, arith, refl, sym, ap, ap₂, ◌∙◌, cond, true, false, List, [], ◌∷◌, ◌++◌, length, map, take, Option, Some, None, IsSome, subst, ext_get_or}
use Rattle.std.specs.Prelude.{Contains}
use Rattle.std.specs.Option.{option_map}
use Rattle.std.proofs.lemmas.Bool.{false≢true, cases_eq, cases_Bool}
use Rattle.std.proofs.lemmas.List.{get_or-take, length-take-le, get_or_default}
use Rattle.std.proofs.lemmas.List.Elements.{All-from_get_or}
use Rattle.std.proofs.lemmas.List.FromFn.{length-map-range_with_len}
use Rattle.std.proofs.lemmas.Option.{same_Some}
use Rattle.sm_lists.specs.Pairs.{pair_at}
use Rattle.sm_lists.proofs.PlaceLemmas.{get_or-place_on}
use Rattle.sm_agents.specs.Written.{Written, lists_of, entry, place_of, row, IsAcceptable}
use Rattle.sm_instance.specs.Matching.{held, leads_to, is_at, load_before, IsAssignment, IsMatching}
use Rattle.sm_instance.specs.Stable.{IsStable}
use Rattle.sm_agents.specs.Sound.{IsInstance}
use Rattle.sm_instance.specs.declared.inputs.Input.TheVariants.{Two}
use Rattle.sm_instance.proofs.LoadLemmas.{load_before-suc, at_place, place_at}
use Rattle.sm_market.specs.Lists.{entry as entry_in_rows}
use Rattle.sm_theory.specs.declared.choice.Choice.{Choice}
use Rattle.sm_theory.specs.declared.choice.Choice.TheVariants.{Better, Worse}
use Rattle.sm_holding.specs.Held.{partner_in, paired_place, places_in, CanFollow, EachCanFollow, CanHold, GiveStable}
use Rattle.sm_holding.specs.Chosen.{chosen_places, head_for}
use Rattle.sm_holding.proofs.ChoiceLemmas.{chosen_assigned}
use Rattle.sm_holding.proofs.HoldingLemmas.{held_place}
use Rattle.sm_holding.proofs.PairLemmas.{counted, free_more}
use Rattle.sm_report.specs.Lines.{LineData}
use Rattle.sm_report.specs.Sound.{IsLineOf, ArePair}
use Rattle.sm_report.specs.declared.keywords.Keyword.{Keyword}
use Rattle.sm_report.specs.declared.keywords.Keyword.TheVariants as keyword
use Rattle.sm_answer.specs.declared.matching_lines.PairWord.TheVariants as word
use Rattle.sm_answer_given.specs.Chosen.{IsChosenAnswer, chosen_lines, pair_lines}
use Rattle.sm_answer_given.specs.GivenText.{left_pair, right_pair, ArePairs}
use Rattle.sm_check_forms.specs.Keywords.{is_same}
use Rattle.sm_check_forms.specs.declared.layouts.LayoutPart.TheVariants.{Many}
use Rattle.sm_check_forms.proofs.KeywordLayouts.{begins, is_whole, closing, given_layout, opening_of}
use Rattle.sm_check_forms.specs.Forms.{fits}
use Rattle.sm_check_clauses.specs.Said.{pair_in, pairs_in, left_in, lefts_in, right_in, rights_in}
use Rattle.sm_cert.specs.Yes.{ArePairsOf, IsChosen, MeetYes, JoinYes}
use Rattle.sm_cert.proofs.YesLines.{by_head}
use Rattle.sm_cert.proofs.YesPairs.{same_places, held_there, given_there, pair_there}
use Rattle.sm_law_yes.specs.Reordered.{IsReordered, IsRightButForOrder}
use Rattle.sm_law_yes.specs.Reordered.IsReordered.{kept}
use Rattle.sm_law_yes.specs.YesIsRight.{said_texts, MeetIsRight, JoinIsRight}
use Rattle.sm_law_yes.proofs.ReorderLemmas.{nothing, unmoved, reordered_both}
use Rattle.sm_law_yes.proofs.LineGroups.{AreOwn, are_own, grouped, closes, IsLineFor, passed, ended, pairs_written, all_said}
use Rattle.sm_law_yes.proofs.PairLines.{IsFirstHeld, first_held, partner_held, written_in_order}
use Rattle.sm_law_yes.proofs.SolveRight.{pair_data, read_pair}

-- The matching that pairs give.

module _ {w : Written} {places : List (Option ℕ)} {pairs : List (ℕ × ℕ)} (i : IsInstance w) (m : IsMatching w places) (h : ArePairsOf (lists_of w.proposers) places pairs) where
  f : IsFirstHeld (lists_of w.proposers) places
  f = first_held i m.assigned

  -- the matching whose pairs they are
  places_of_pairs : places_in w pairs ≡ places
  places_of_pairs =
      let long = length-map-range_with_len (paired_place w pairs) 0 (length w.proposers) in
      let one = m.assigned.one_each in
      ext_get_or None (places_in w pairs) places (omega (arith, long, one)) (λ p less. at p (omega (arith, less, long)))
    where
      back : (p : ℕ) (o : Option ℕ) → held places p ≡ o → option_map (place_of w.proposers p) (option_map (entry_in_rows (lists_of w.proposers) p) o) ≡ o
      back p None e = refl
      back p (Some k) e = ap Some (sym (same_places w p (entry_in_rows (lists_of w.proposers) p k)) ∙ (let first = f in first.first p k e))

      at : (p : ℕ) → p < length w.proposers → held (places_in w pairs) p ≡ held places p
      at p less = held_place w pairs p less ∙ ap (option_map (place_of w.proposers p)) (partner_held (lists_of w.proposers) places pairs f h p) ∙ back p (held places p) refl

  -- a pair of them is one of the matching
  record IsPaired (p r : ℕ) : Type 0 where
    holds : held places p ≡ Some (place_of w.proposers p r)
    names : entry w.proposers p (place_of w.proposers p r) ≡ r

  paired : (p r : ℕ) → Contains pairs (p, r) → IsPaired p r
  paired p r c =
      let e : held places p ≡ Some (place_of w.proposers p r) = (h.each p r).0 c ∙ ap Some (same_places w p r) in
      record { holds = e; names = get_or-place_on (row w.proposers p) r (m.assigned.on_lists p (place_of w.proposers p r) e) }

  -- Some of them at the front.
  module _ (k : ℕ) (inside : k < length pairs) where
    abbrev front : List (ℕ × ℕ)
    front = take k pairs

    abbrev p : ℕ
    p = (pair_at pairs k).0

    abbrev r : ℕ
    r = (pair_at pairs k).1

    earlier : (q s : ℕ) → partner_in front q ≡ Some s → (j : ℕ) × (j < k) × (pair_at pairs j ≡ (q, s))
    earlier q s e =
        let c = given_there front q s e in
        let long = length-take-le k pairs (omega (arith, inside)) in
        let less : c.0 < k = (let l = c.1 in omega (arith, l, long)) in
        (c.0, less, sym (get_or-take k pairs c.0 (0, 0) less) ∙ get_or_default front c.0 (0, 0) (q, s) c.1 ∙ c.2)

    -- the next one's proposer is in none of them
    not_before : partner_in front p ≡ None
    not_before = go (partner_in front p) refl
      where
        go : (o : Option ℕ) → partner_in front p ≡ o → o ≡ None
        go None e = refl
        go (Some s) e = absurd (let t = earlier p s e in h.once t.0 k t.1 inside (ap (λ (pair : ℕ × ℕ). pair.0) t.2))

    held_in_front : (q : ℕ) (o : Option ℕ) → held (places_in w front) q ≡ o → IsSome o → held places q ≡ o
    held_in_front q None e some = absurd (false≢true some)
    held_in_front q (Some a) e some =
        let l = held_there (places_in w front) q a e in
        let long = length-map-range_with_len (paired_place w front) 0 (length w.proposers) in
        by_partner (partner_in front q) refl (sym (held_place w front q (omega (arith, l, long))) ∙ e)
      where
        by_partner : (o : Option ℕ) → partner_in front q ≡ o → option_map (place_of w.proposers q) o ≡ Some a → held places q ≡ Some a
        by_partner None e is = absurd (nothing is)
        by_partner (Some s) e is =
            let t = earlier q s e in
            let c : Contains pairs (q, s) = subst (Contains pairs) t.2 (pair_there pairs t.0 (let l = t.1 in omega (arith, l, inside))) in
            let d = paired q s c in
            d.holds ∙ is

    at_most : (q s : ℕ) → cond (is_at w (places_in w front) q s) 1 0 ≤ cond (is_at w places q s) 1 0
    at_most q s = elim (cases_Bool (is_at w (places_in w front) q s)) [
      | inl here ↦
          let t = place_at w q s (held (places_in w front) q) here in
          let there = at_place w places q s t.0 (held_in_front q (Some t.0) t.1 refl) t.2 in
          let a = ap {B = ℕ} (λ b. cond b 1 0) here in
          let b = ap {B = ℕ} (λ b. cond b 1 0) there in
          omega (arith, a, b)
      | inr no_ ↦ let a = ap {B = ℕ} (λ b. cond b 1 0) no_ in omega (arith, a)
    ]

    loads_below : (n s : ℕ) → load_before w (places_in w front) n s ≤ load_before w places n s
    loads_below zero s = omega arith
    loads_below (suc n) s =
        let deep = loads_below n s in
        let one = at_most n s in
        let step : suc n ≡ n + 1 = omega arith in
        let a = ap (λ k. load_before w (places_in w front) k s) step ∙ load_before-suc w (places_in w front) n s in
        let b = ap (λ k. load_before w places k s) step ∙ load_before-suc w places n s in
        omega (arith, deep, one, a, b)

    -- the next one's reviewer has room left
    room_left : (n : ℕ) → p < n → load_before w (places_in w front) n r < load_before w places n r
    room_left zero less = absurd (omega (arith, less))
    room_left (suc n) less =
        let step : suc n ≡ n + 1 = omega arith in
        let a = ap (λ k. load_before w (places_in w front) k r) step ∙ load_before-suc w (places_in w front) n r in
        let b = ap (λ k. load_before w places k r) step ∙ load_before-suc w places n r in
        elim (cases_eq p n) [
          | inl same ↦
              let d = paired p r (pair_there pairs k inside) in
              let there : is_at w places n r ≡ true = ap (λ q. is_at w places q r) (sym same) ∙ at_place w places p r (place_of w.proposers p r) d.holds d.names in
              let here : is_at w (places_in w front) n r ≡ false = ap (λ q. is_at w (places_in w front) q r) (sym same) ∙ ap (leads_to w p r) (nobody_held p not_before) in
              let u = ap {B = ℕ} (λ b. cond b 1 0) there in
              let v = ap {B = ℕ} (λ b. cond b 1 0) here in
              let deep = loads_below n r in
              omega (arith, deep, a, b, u, v)
          | inr other ↦
              let deep = room_left n (omega (arith, less, other)) in
              let one = at_most n r in
              omega (arith, deep, one, a, b)
        ]
      where
        nobody_held : (q : ℕ) → partner_in front q ≡ None → held (places_in w front) q ≡ None
        nobody_held q none = go (held (places_in w front) q) refl
          where
            go : (o : Option ℕ) → held (places_in w front) q ≡ o → o ≡ None
            go None e = refl
            go (Some a) e =
                let l = held_there (places_in w front) q a e in
                let long = length-map-range_with_len (paired_place w front) 0 (length w.proposers) in
                absurd (nothing (sym (ap (option_map (place_of w.proposers q)) none) ∙ sym (held_place w front q (omega (arith, l, long))) ∙ e))

    -- so it may stand behind them, where they can be held
    free_behind : EachCanFollow w pairs k → CanFollow w front (p, r)
    free_behind earlier =
        let d = paired p r (pair_there pairs k inside) in
        let there = held_there places p (place_of w.proposers p r) d.holds in
        let one = m.assigned.one_each in
        let room = room_left (length w.proposers) (omega (arith, there, one)) in
        let within = m.within r in
        let count = counted w pairs k (omega (arith, inside)) earlier r in
        record {
          acceptable = subst (IsAcceptable w p) d.names (m.acceptable p (place_of w.proposers p r) d.holds);
          proposer_free = not_before;
          place_free = omega (arith, count, room, within);
        }

  first_free : (n : ℕ) → n ≤ length pairs → EachCanFollow w pairs n
  first_free zero le j l = absurd (omega (arith, l))
  first_free (suc n) le j l =
      let below = first_free n (omega (arith, le)) in
      free_more w pairs n below (free_behind n (omega (arith, le)) below) j (omega (arith, l))

  can_hold : CanHold w pairs
  can_hold = first_free (length pairs) (omega arith)

-- two stable matchings whose pairs are given can be held
give_stable : {w : Written} {places : List (Option ℕ)} {pairs : List (ℕ × ℕ)} → IsInstance w → IsStable w places → ArePairsOf (lists_of w.proposers) places pairs → GiveStable w pairs
give_stable {w} {places} {pairs} i s h = record {
  can_hold = can_hold i s.matching h;
  stable = subst (IsStable w) (sym (places_of_pairs i s.matching h)) s;
}

-- Lines.

read_left : (y : LineData) → begins (opening_of y) keyword.Left ≡ true → IsLineFor left_pair left_in y
read_left (LineData.LeftPair p r) e = record { thing = (p, r); says = refl; is = refl }
read_left _ e = absurd (false≢true e)

read_right : (y : LineData) → begins (opening_of y) keyword.Right ≡ true → IsLineFor right_pair right_in y
read_right (LineData.RightPair p r) e = record { thing = (p, r); says = refl; is = refl }
read_right _ e = absurd (false≢true e)

not_left : (k : Keyword) → is_same keyword.Left k ≡ false → (y : LineData) → begins (opening_of y) k ≡ true → left_in y ≡ None
not_left k other (LineData.LeftPair p r) e = absurd (false≢true (sym other ∙ e))
not_left k other _ e = refl

not_right : (k : Keyword) → is_same keyword.Right k ≡ false → (y : LineData) → begins (opening_of y) k ≡ true → right_in y ≡ None
not_right k other (LineData.RightPair p r) e = absurd (false≢true (sym other ∙ e))
not_right k other _ e = refl

not_pair : (k : Keyword) → is_same keyword.Pair k ≡ false → (y : LineData) → begins (opening_of y) k ≡ true → pair_in y ≡ None
not_pair k other (LineData.Pair p r) e = absurd (false≢true (sym other ∙ e))
not_pair k other _ e = refl

-- the agents of pairs are there
left_there : (w : Written) (y : LineData) → IsLineOf (Two w) y → fits (Two w) y ≡ true → (x : ℕ × ℕ) → left_in y ≡ Some x → ArePair (Two w) x.0 x.1
left_there w (LineData.LeftPair p r) own f x e = subst (λ (pair : ℕ × ℕ). ArePair (Two w) pair.0 pair.1) (same_Some _ _ e) own.printable
left_there w _ own f x e = absurd (nothing e)

right_there : (w : Written) (y : LineData) → IsLineOf (Two w) y → fits (Two w) y ≡ true → (x : ℕ × ℕ) → right_in y ≡ Some x → ArePair (Two w) x.0 x.1
right_there w (LineData.RightPair p r) own f x e = subst (λ (pair : ℕ × ℕ). ArePair (Two w) pair.0 pair.1) (same_Some _ _ e) own.printable
right_there w _ own f x e = absurd (nothing e)

are_pairs : (w : Written) (pairs : List (ℕ × ℕ)) → ((x : ℕ × ℕ) → Contains pairs x → ArePair (Two w) x.0 x.1) → ArePairs (Two w) pairs
are_pairs w pairs each = All-from_get_or (λ (pair : ℕ × ℕ). ArePair (Two w) pair.0 pair.1) pairs (0, 0) (λ k less. each (pair_at pairs k) (pair_there pairs k less))

module _ (choice : Choice) (w : Written) (rest : List LineData) (i : IsInstance w) (placed : is_whole (given_layout ∷ []) (map opening_of rest) ≡ true) (own : AreOwn (Two w) rest)
    (c : IsChosen choice w (lefts_in rest) (rights_in rest) (pairs_in rest)) where
  abbrev m : List (Option ℕ)
  m = places_in w (lefts_in rest)

  abbrev n : List (Option ℕ)
  n = places_in w (rights_in rest)

  left : GiveStable w (lefts_in rest)
  left = give_stable i c.left_stable c.left_written

  right : GiveStable w (rights_in rest)
  right = give_stable i c.right_stable c.right_written

  left_is : c.left ≡ m
  left_is = sym (places_of_pairs i c.left_stable.matching c.left_written)

  right_is : c.right ≡ n
  right_is = sym (places_of_pairs i c.right_stable.matching c.right_written)

  chosen_assigned_so : IsAssignment w (chosen_places choice w m n)
  chosen_assigned_so = let a = left in let b = right in chosen_assigned choice w m n a.stable.matching.assigned b.stable.matching.assigned

  lefts_ordered : IsReordered (map left_pair (lefts_in rest)) (pair_lines word.Left w m)
  lefts_ordered = let a = left in written_in_order left_pair (λ x y. refl) (λ x. refl) w m (lefts_in rest) i a.stable.matching.assigned (subst (λ (places : List (Option ℕ)). ArePairsOf (lists_of w.proposers) places (lefts_in rest)) left_is c.left_written)

  rights_ordered : IsReordered (map right_pair (rights_in rest)) (pair_lines word.Right w n)
  rights_ordered = let b = right in written_in_order right_pair (λ x y. refl) (λ x. refl) w n (rights_in rest) i b.stable.matching.assigned (subst (λ (places : List (Option ℕ)). ArePairsOf (lists_of w.proposers) places (rights_in rest)) right_is c.right_written)

  pairs_ordered : IsReordered (map pair_data (pairs_in rest)) (pair_lines word.Pair w (chosen_places choice w m n))
  pairs_ordered =
      written_in_order pair_data (λ x y. refl) (λ x. refl) w (chosen_places choice w m n) (pairs_in rest) i chosen_assigned_so
      (subst (λ (places : List (Option ℕ)). ArePairsOf (lists_of w.proposers) places (pairs_in rest)) (ap₂ (chosen_places choice w) left_is right_is) c.written)

  lines_are : rest ≡ map left_pair (lefts_in rest) ++ (map right_pair (rights_in rest) ++ (map pair_data (pairs_in rest) ++ LineData.End ∷ []))
  lines_are =
      let a = grouped keyword.Left (Many keyword.Right ∷ Many keyword.Pair ∷ closing) rest placed in
      let b = grouped keyword.Right (Many keyword.Pair ∷ closing) a.rest a.whole in
      let d = grouped keyword.Pair closing b.rest b.whole in
      let ends = closes d.rest d.whole in
      let lefts : lefts_in rest ≡ lefts_in a.group = ended left_in a (passed left_in b (not_left keyword.Right refl) ∙ passed left_in d (not_left keyword.Pair refl) ∙ ap lefts_in ends) in
      let rights : rights_in rest ≡ rights_in b.group = passed right_in a (not_right keyword.Left refl) ∙ ended right_in b (passed right_in d (not_right keyword.Pair refl) ∙ ap rights_in ends) in
      let pairs : pairs_in rest ≡ pairs_in d.group = passed pair_in a (not_pair keyword.Left refl) ∙ passed pair_in b (not_pair keyword.Right refl) ∙ ended pair_in d (ap pairs_in ends) in
      let read_a : a.group ≡ map left_pair (lefts_in rest) = pairs_written left_in keyword.Left left_pair read_left a.group a.words ∙ ap (map left_pair) (sym lefts) in
      let read_b : b.group ≡ map right_pair (rights_in rest) = pairs_written right_in keyword.Right right_pair read_right b.group b.words ∙ ap (map right_pair) (sym rights) in
      let read_d : d.group ≡ map pair_data (pairs_in rest) = pairs_written pair_in keyword.Pair pair_data read_pair d.group d.words ∙ ap (map pair_data) (sym pairs) in
      a.is ∙ ap (λ (ls : List LineData). ls ++ a.rest) read_a
      ∙ ap (λ (ls : List LineData). map left_pair (lefts_in rest) ++ ls)
      (b.is ∙ ap (λ (ls : List LineData). ls ++ b.rest) read_b
      ∙ ap (λ (ls : List LineData). map right_pair (rights_in rest) ++ ls) (d.is ∙ ap₂ (λ (ls ks : List LineData). ls ++ ks) read_d ends))

  behind_head : IsRightButForOrder (IsChosenAnswer choice (said_texts w rest) w) (LineData.Answer (head_for choice) ∷ rest)
  behind_head = record {
    answer = chosen_lines choice w m n;
    right = record {
      left = lefts_in rest;
      right = rights_in rest;
      given = record {
        left_there = are_pairs w (lefts_in rest) (all_said left_in w (λ (x : ℕ × ℕ). ArePair (Two w) x.0 x.1) (left_there w) rest own);
        right_there = are_pairs w (rights_in rest) (all_said right_in w (λ (x : ℕ × ℕ). ArePair (Two w) x.0 x.1) (right_there w) rest own);
        spelled = refl;
      };
      first = left;
      second = right;
      shows = refl;
    };
    reordered = kept (LineData.Answer (head_for choice))
        (subst (λ (ls : List LineData). IsReordered ls (pair_lines word.Left w m ++ (pair_lines word.Right w n ++ (pair_lines word.Pair w (chosen_places choice w m n) ++ LineData.End ∷ [])))) (sym lines_are)
        (reordered_both lefts_ordered (reordered_both rights_ordered (reordered_both pairs_ordered (unmoved (LineData.End ∷ []))))));
  }

-- the law of `meet`
pub meet_is_right : MeetYes → MeetIsRight
meet_is_right meaning w lines i g =
    by_head (λ (ls : List LineData). AreOwn (Two w) ls → IsChosen Better w (lefts_in ls) (rights_in ls) (pairs_in ls) → IsRightButForOrder (IsChosenAnswer Better (said_texts w ls) w) ls) g
    (λ rest placed _ own c. behind_head Better w rest i placed own.2 c) (are_own g) (meaning w lines g)

-- the law of `join`
pub join_is_right : JoinYes → JoinIsRight
join_is_right meaning w lines i g =
    by_head (λ (ls : List LineData). AreOwn (Two w) ls → IsChosen Worse w (lefts_in ls) (rights_in ls) (pairs_in ls) → IsRightButForOrder (IsChosenAnswer Worse (said_texts w ls) w) ls) g
    (λ rest placed _ own c. behind_head Worse w rest i placed own.2 c) (are_own g) (meaning w lines g)
