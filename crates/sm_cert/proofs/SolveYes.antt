-- What a yes on an answer of `solve` and of `regret` means over an instance with two sides.
use Rattle.std.proofs.Common.{◌≡◌, ℕ, arith, refl, sym, ap, ◌∙◌, List, [], ◌∷◌, ◌++◌, length, map, take, Option, Some, None, subst, Bool, false, true, ◌==◌, ◌⊎◌, inl, if◌then◌else◌, slice_index_or}
use Rattle.std.specs.Prelude.{IfSome, filter_map}
use Rattle.std.specs.List.{slice_get, cons_option}
use Rattle.std.specs.Option.{option_map}
use Rattle.std.proofs.lemmas.Bool.{false≢true}
use Rattle.std.proofs.lemmas.List.{length-map}
use Rattle.std.proofs.lemmas.List.FromFn.{length-map-range_with_len}
use Rattle.std.proofs.lemmas.Option.{same_Some}
use Rattle.sm_lists.specs.Rows.{place_on}
use Rattle.sm_agents.specs.Written.{Written, lists_of}
use Rattle.sm_instance.specs.Stable.{IsStable, IsBestOf}
use Rattle.sm_instance.specs.Allowed.{IsAllowed}
use Rattle.sm_instance.specs.Ranks.{regret_of}
use Rattle.sm_instance.proofs.CrossLemmas.{row-lists_of}
use Rattle.sm_holding.specs.Held.{partner_in, paired_place, places_in, CanFollow}
use Rattle.sm_holding.proofs.HoldingLemmas.{held_place}
use Rattle.sm_report.specs.Heads.{HeadData}
use Rattle.sm_report.specs.Lines.{LineData}
use Rattle.sm_check_clauses.specs.declared.verdicts.Reason.TheVariants as reason
use Rattle.sm_report.specs.declared.keywords.Keyword.TheVariants as keyword
use Rattle.sm_check_forms.specs.declared.layouts.LayoutPart.{LayoutPart}
use Rattle.sm_check_forms.specs.declared.layouts.LayoutPart.TheVariants.{Many}
use Rattle.sm_check_forms.proofs.KeywordNumbers.{keyword_number}
use Rattle.sm_report.specs.Keywords.{keyword_of}
use Rattle.sm_check_forms.proofs.KeywordLayouts.{closing, regret_layout, opening_of, is_whole, begins}
use Rattle.sm_check_clauses.specs.Said.{pair_in, pairs_in, regret_in, first_said}
use Rattle.sm_cert.specs.Yes.{ArePairsOf, SolveYes, RegretYes}
use Rattle.sm_cert.proofs.GroupLemmas.{Tells, goes, all_down, none_said}
use Rattle.sm_cert.proofs.YesLines.{right_two, by_head, at_closing, said_above, grown}
use Rattle.sm_cert.proofs.YesPairs.{same_places, AreGiven, none_given, one_given, pairs_of}

one_free : (w : Written) (pairs : List (ℕ × ℕ)) (x : ℕ × ℕ) → AreGiven (lists_of w.proposers) pairs → CanFollow w pairs x → AreGiven (lists_of w.proposers) (pairs ++ x ∷ [])
one_free w pairs x k f =
    let place = same_places w x.0 x.1 in
    let long = ap (λ (list : List ℕ). length list) (row-lists_of w.proposers x.0) in
    let on = f.acceptable.proposer_lists in
    one_given (lists_of w.proposers) pairs x k (omega arith) f.proposer_free

-- the pairs of lines at each of which they are free
pub free_pairs : (w : Written) (said : LineData → Option (ℕ × ℕ)) (lines : List LineData)
    → ((k : ℕ) → IfSome (slice_get lines k) (λ line. IfSome (said line) (CanFollow w (filter_map said (take k lines)))))
    → ArePairsOf (lists_of w.proposers) (places_in w (filter_map said lines)) (filter_map said lines)
free_pairs w said lines at =
    let pairs = filter_map said lines in
    let all = length-map w.proposers (λ agent. agent.entries) in
    let long = length-map-range_with_len (paired_place w pairs) 0 (length w.proposers) in
    pairs_of (lists_of w.proposers) (places_in w pairs) pairs (grown said (AreGiven (lists_of w.proposers)) (CanFollow w) lines (none_given (lists_of w.proposers)) (one_free w) at) (omega arith)
    (λ p l. held_place w pairs p (omega arith) ∙ ap (λ list. option_map (place_on list) (partner_in pairs p)) (sym (row-lists_of w.proposers p)))

-- the law of a yes on `solve` over two sides
pub solve_yes : SolveYes
solve_yes w side lines g =
    let r = right_two {w = w} {head = HeadData.Solve (Some side)} refl g in
    let same : pairs_in r.front ≡ pairs_in lines = said_above pair_in r refl in
    record {
      places = places_in w (pairs_in lines);
      best = subst (λ (pairs : List (ℕ × ℕ)). IsBestOf side w (places_in w pairs)) same (at_closing r reason.NotBest refl);
      written = free_pairs w pair_in lines (λ k. r.holds k reason.NotAMatching);
    }

-- An answer of `regret` has one line with a regret.

regrets : ℕ → Bool
regrets n = n == 17

abbrev is_regret : LineData → Bool
is_regret (LineData.Regret regret) = true
is_regret _ = false

tells : Tells regrets is_regret
unfolding regrets
tells = record { other = refl; same = same }
  where
    same : (x : LineData) → (is_regret x ≡ regrets (keyword_number (keyword_of x))) ⊎ (keyword_number (keyword_of x) ≡ 21)
    same (LineData.Regret regret) = inl refl
    same _ = inl refl

not_said : (x : LineData) → is_regret x ≡ false → regret_in x ≡ None
not_said (LineData.Regret regret) e = absurd (false≢true (sym e))
not_said _ e = refl

opens : (x : LineData) → begins (opening_of x) keyword.Regret ≡ true → regret_in x ≡ Some (first_said 0 regret_in (x ∷ []))
opens (LineData.Regret regret) e = refl
opens _ e = absurd (false≢true e)

one_regret : (rest : List LineData) → is_whole (regret_layout ∷ []) (map opening_of rest) ≡ true → filter_map regret_in rest ≡ first_said 0 regret_in rest ∷ []
unfolding regrets
one_regret [] e = absurd (false≢true e)
one_regret (x ∷ xs) e =
    let g = goes regret_layout (opening_of x) (map opening_of xs) e in
    go (begins (opening_of x) keyword.Regret) refl g.left g.is g.whole
  where
    go : (t : Bool) → begins (opening_of x) keyword.Regret ≡ t → (left : List LayoutPart) → (if t then Some (Many keyword.Pair ∷ closing) else None) ≡ Some left → is_whole (left ∷ []) (map opening_of xs) ≡ true
        → filter_map regret_in (x ∷ xs) ≡ first_said 0 regret_in (x ∷ xs) ∷ []
    go false b left is whole = absurd (no_parts is)
      where
        no_parts : ◌≡◌ {A = Option (List LayoutPart)} None (Some left) → ⊥
        no_parts e = grind arith
    go true b left is whole =
        let behind : is_whole ((Many keyword.Pair ∷ closing) ∷ []) (map opening_of xs) ≡ true = subst (λ (parts : List LayoutPart). is_whole (parts ∷ []) (map opening_of xs) ≡ true) (sym (same_Some _ _ is)) whole in
        let down = all_down tells (Many keyword.Pair ∷ closing) xs ((refl, refl), ((refl, refl), tt)) behind in
        let rest : filter_map regret_in xs ≡ [] = none_said is_regret regret_in not_said xs down in
        let here = opens x b in
        let all : filter_map regret_in (x ∷ xs) ≡ first_said 0 regret_in (x ∷ []) ∷ [] = ap (λ (o : Option ℕ). cons_option o (filter_map regret_in xs)) here ∙ ap (λ ns. first_said 0 regret_in (x ∷ []) ∷ ns) rest in
        all ∙ ap (λ (ns : List ℕ). slice_index_or ns 0 0 ∷ []) (sym all)

-- the law of a yes on `regret`
pub regret_yes : RegretYes
regret_yes w lines g =
    let r = right_two {w = w} {head = HeadData.Regret} refl g in
    let same : pairs_in r.front ≡ pairs_in lines = said_above pair_in r refl in
    let said : filter_map regret_in r.front ≡ filter_map regret_in lines = said_above regret_in r refl in
    let one : filter_map regret_in lines ≡ first_said 0 regret_in lines ∷ [] =
    by_head (λ (ls : List LineData). filter_map regret_in ls ≡ first_said 0 regret_in ls ∷ []) g (λ rest placed _. one_regret rest placed) in
    record {
      places = places_in w (pairs_in lines);
      stable = subst (λ (pairs : List (ℕ × ℕ)). IsStable w (places_in w pairs)) same (at_closing r reason.Blocked refl);
      allowed = subst (λ (pairs : List (ℕ × ℕ)). IsAllowed w (places_in w pairs)) same (at_closing r reason.NotAllowed refl);
      regret = one ∙ ap (λ (n : ℕ). n ∷ [])
          (ap (λ (ns : List ℕ). slice_index_or ns 0 0) (sym said) ∙ at_closing r reason.WrongRegret refl ∙ ap (λ (pairs : List (ℕ × ℕ)). regret_of w (places_in w pairs)) same);
      written = free_pairs w pair_in lines (λ k. r.holds k reason.NotAMatching);
    }
