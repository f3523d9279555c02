-- What is found of an answer of `meet` or `join`.
use Rattle.std.proofs.Common.{◌≡◌, ◌≢◌, ℕ, ◌<◌, List, [], ◌∷◌, ◌++◌, Option, Some, None, Bool, length, set, arith, refl, sym, ap, ◌∙◌, subst}
use Rattle.std.proofs.lemmas.Bool.{false≢true}
use Rattle.std.proofs.lemmas.List.{get_or-set_same}
use Rattle.sm_agents.specs.Written.{Written, place_of}
use Rattle.sm_instance.specs.Matching.{held, IsAssignment}
use Rattle.sm_instance.specs.Stable.{IsStable}
use Rattle.sm_theory.specs.Choices.{chosen}
use Rattle.sm_theory.specs.declared.choice.Choice.{Choice}
use Rattle.sm_theory.specs.declared.choice.Choice.TheVariants.{Better, Worse}
use Rattle.sm_holding.specs.declared.holding.Holding.{Holding}
use Rattle.sm_holding.specs.Chosen.{chosen_places, head_for}
use Rattle.sm_holding.specs.Held.{places_in, CanFollow}
use Rattle.sm_holding.proofs.HoldingLemmas.{places_later}
use Rattle.sm_holding.proofs.ChoiceLemmas.{chosen_assigned, left_changed, right_changed}
use Rattle.sm_report.specs.Lines.{LineData, line_of}
use Rattle.sm_report.specs.declared.lines.Line.{Line}
use Rattle.sm_check_clauses.specs.declared.verdicts.Reason.{Reason}
use Rattle.sm_check_clauses.specs.declared.verdicts.Reason.TheVariants as reason
use Rattle.sm_check_clauses.specs.Judging.{TwoClauses}
use Rattle.sm_check_clauses.specs.Pairs.{IsWanted, AreAllThere, ChosenHold}
use Rattle.sm_holding.specs.PairsKept.{ArePairsHeld, HasJoined}
use Rattle.sm_check_clauses.specs.Said.{pair_in, left_in, right_in, pairs_in, lefts_in, rights_in}
use Rattle.sm_check_clauses.specs.Verdicts.{number_of_reason}
use Rattle.sm_check_answers.specs.ChosenKept.{AreChosenKept}
use Rattle.sm_check_answers.specs.Stood.{AreStood}
use Rattle.sm_check_clauses.proofs.AnswerLemmas.{said_same, said_one}

-- what is wanted is on the proposers' lists
pub wanted_assigned : (choice : Choice) (w : Written) (above : List LineData) (left right : Holding) (wanted : List (Option ℕ)) (stood : List Bool) → AreChosenKept choice w above left right wanted stood
    → IsAssignment w wanted
wanted_assigned choice w above left right wanted stood k =
    subst (IsAssignment w) (sym k.chosen) (chosen_assigned choice w left.matching.places.items right.matching.places.items k.lefts.held.matching.assigned k.rights.held.matching.assigned)

-- `meet` and `join` have the clauses of what is chosen
pub to_clauses : (choice : Choice) (w : Written) (above : List LineData) (line : LineData) (why : Reason) → ChosenHold choice w (lefts_in above) (rights_in above) (pairs_in above) line why → TwoClauses w (head_for choice) above line why
to_clauses Better w above line why h = h
to_clauses Worse w above line why h = h

-- and what is chosen has those of `meet` or `join`
pub of_clauses : (choice : Choice) (w : Written) (above : List LineData) (line : LineData) (why : Reason) → TwoClauses w (head_for choice) above line why → ChosenHold choice w (lefts_in above) (rights_in above) (pairs_in above) line why
of_clauses Better w above line why h = h
of_clauses Worse w above line why h = h

module _ (choice : Choice) (w : Written) (lefts rights pairs : List (ℕ × ℕ)) where
  -- all hold at a left pair that may stand behind the left ones
  pub left_holds : (p r : ℕ) → CanFollow w lefts (p, r) → (why : Reason) → ChosenHold choice w lefts rights pairs (LineData.LeftPair p r) why
  left_holds p r free reason.NotAMatching = ((free, tt), tt)
  left_holds p r free reason.Blocked = ((λ e. absurd (false≢true e)), tt)
  left_holds p r free reason.WrongPair = (tt, (tt, λ e. absurd (false≢true e)))
  left_holds p r free _ = (tt, tt)

  -- all hold at a right pair that may stand behind the right ones
  pub right_holds : (p r : ℕ) → CanFollow w rights (p, r) → (why : Reason) → ChosenHold choice w lefts rights pairs (LineData.RightPair p r) why
  right_holds p r free reason.NotAMatching = ((tt, free), tt)
  right_holds p r free reason.Blocked = ((λ e. absurd (false≢true e)), tt)
  right_holds p r free reason.WrongPair = (tt, (tt, λ e. absurd (false≢true e)))
  right_holds p r free _ = (tt, tt)

  -- all hold at a pair of the wanted matching that isn't there yet
  pub pair_holds : (p r : ℕ) → IsWanted w (chosen_places choice w (places_in w lefts) (places_in w rights)) pairs (p, r) → (why : Reason) → ChosenHold choice w lefts rights pairs (LineData.Pair p r) why
  pair_holds p r wants reason.NotAMatching = ((tt, tt), tt)
  pair_holds p r wants reason.Blocked = ((λ e. absurd (false≢true e)), tt)
  pair_holds p r wants reason.WrongPair = (tt, (wants, λ e. absurd (false≢true e)))
  pair_holds p r wants _ = (tt, tt)

  -- at the end, but for the last clause
  pub end_before : IsStable w (places_in w lefts) → IsStable w (places_in w rights) → (why : Reason) → number_of_reason why < 17 → ChosenHold choice w lefts rights pairs LineData.End why
  end_before left right reason.NotAMatching l = ((tt, tt), tt)
  end_before left right reason.Blocked l = ((λ _. (left, right)), tt)
  end_before left right reason.WrongPair l = absurd (omega (arith, l))
  end_before left right _ l = (tt, tt)

  -- at the end all hold, where each proposer that is matched stands in a pair
  pub end_holds : IsStable w (places_in w lefts) → IsStable w (places_in w rights) → AreAllThere (chosen_places choice w (places_in w lefts) (places_in w rights)) pairs
      → (why : Reason) → ChosenHold choice w lefts rights pairs LineData.End why
  end_holds left right all reason.NotAMatching = ((tt, tt), tt)
  end_holds left right all reason.Blocked = ((λ _. (left, right)), tt)
  end_holds left right all reason.WrongPair = (tt, (tt, λ _. all))
  end_holds left right all _ = (tt, tt)

-- the matching of pairs with one more, which was free
places_joined : (w : Written) (pairs : List (ℕ × ℕ)) (before after : Holding) (p r : ℕ) → ArePairsHeld w pairs before → HasJoined w pairs (p, r) after
    → after.matching.places.items ≡ set before.matching.places.items p (Some (place_of w.proposers p r))
places_joined w pairs before after p r k j =
    j.held.places ∙ sym (places_later w pairs p r j.free.proposer_free) ∙ ap (λ (xs : List (Option ℕ)). set xs p (Some (place_of w.proposers p r))) (sym k.places)

module _ (choice : Choice) (w : Written) (above : List LineData) (left right : Holding) (wanted : List (Option ℕ)) (stood : List Bool) (k : AreChosenKept choice w above left right wanted stood) where
  pub left_kept : (after : Holding) (p r : ℕ) (o : Option ℕ) → p < length w.proposers → HasJoined w (lefts_in above) (p, r) after → o ≡ chosen choice (held after.matching.places.items p) (held right.matching.places.items p)
      → AreChosenKept choice w (above ++ LineData.LeftPair p r ∷ []) after right (set wanted p o) stood
  left_kept after p r o l j e =
      let place : ℕ = place_of w.proposers p r in
      let now = places_joined w (lefts_in above) left after p r k.lefts j in
      let inside : p < length left.matching.places.items = (let one = k.lefts.held.matching.assigned.one_each in omega (arith, one, l)) in
      let here : held after.matching.places.items p ≡ Some place = ap (λ (xs : List (Option ℕ)). held xs p) now ∙ get_or-set_same left.matching.places.items p (Some place) None inside in
      record {
        lefts = subst (λ (xs : List (ℕ × ℕ)). ArePairsHeld w xs after) (sym (said_one left_in above (LineData.LeftPair p r) (p, r) refl)) j.held;
        rights = subst (λ (xs : List (ℕ × ℕ)). ArePairsHeld w xs right) (sym (said_same right_in above (LineData.LeftPair p r) refl)) k.rights;
        chosen =
            ap (λ (x : Option ℕ). set wanted p x) (e ∙ ap (λ (x : Option ℕ). chosen choice x (held right.matching.places.items p)) here)
            ∙ ap (λ (xs : List (Option ℕ)). set xs p (chosen choice (Some place) (held right.matching.places.items p))) k.chosen
            ∙ left_changed choice w left.matching.places.items right.matching.places.items p (Some place) inside
            ∙ ap (λ (xs : List (Option ℕ)). chosen_places choice w xs right.matching.places.items) (sym now);
        pairs = subst (λ (xs : List (ℕ × ℕ)). AreStood w xs stood) (sym (said_same pair_in above (LineData.LeftPair p r) refl)) k.pairs;
      }

  pub right_kept : (after : Holding) (p r : ℕ) (o : Option ℕ) → p < length w.proposers → HasJoined w (rights_in above) (p, r) after → o ≡ chosen choice (held left.matching.places.items p) (held after.matching.places.items p)
      → AreChosenKept choice w (above ++ LineData.RightPair p r ∷ []) left after (set wanted p o) stood
  right_kept after p r o l j e =
      let place : ℕ = place_of w.proposers p r in
      let now = places_joined w (rights_in above) right after p r k.rights j in
      let inside : p < length right.matching.places.items = (let one = k.rights.held.matching.assigned.one_each in omega (arith, one, l)) in
      let here : held after.matching.places.items p ≡ Some place = ap (λ (xs : List (Option ℕ)). held xs p) now ∙ get_or-set_same right.matching.places.items p (Some place) None inside in
      record {
        lefts = subst (λ (xs : List (ℕ × ℕ)). ArePairsHeld w xs left) (sym (said_same left_in above (LineData.RightPair p r) refl)) k.lefts;
        rights = subst (λ (xs : List (ℕ × ℕ)). ArePairsHeld w xs after) (sym (said_one right_in above (LineData.RightPair p r) (p, r) refl)) j.held;
        chosen =
            ap (λ (x : Option ℕ). set wanted p x) (e ∙ ap (λ (x : Option ℕ). chosen choice (held left.matching.places.items p) x) here)
            ∙ ap (λ (xs : List (Option ℕ)). set xs p (chosen choice (held left.matching.places.items p) (Some place))) k.chosen
            ∙ right_changed choice w left.matching.places.items right.matching.places.items p (Some place) inside
            ∙ ap (λ (xs : List (Option ℕ)). chosen_places choice w left.matching.places.items xs) (sym now);
        pairs = subst (λ (xs : List (ℕ × ℕ)). AreStood w xs stood) (sym (said_same pair_in above (LineData.RightPair p r) refl)) k.pairs;
      }

  -- one more pair is kept, with its proposer marked
  pub pair_kept : (after : List Bool) (p r : ℕ) → AreStood w (pairs_in above ++ (p, r) ∷ []) after → AreChosenKept choice w (above ++ LineData.Pair p r ∷ []) left right wanted after
  pair_kept after p r s = record {
    lefts = subst (λ (xs : List (ℕ × ℕ)). ArePairsHeld w xs left) (sym (said_same left_in above (LineData.Pair p r) refl)) k.lefts;
    rights = subst (λ (xs : List (ℕ × ℕ)). ArePairsHeld w xs right) (sym (said_same right_in above (LineData.Pair p r) refl)) k.rights;
    chosen = k.chosen;
    pairs = subst (λ (xs : List (ℕ × ℕ)). AreStood w xs after) (sym (said_one pair_in above (LineData.Pair p r) (p, r) refl)) s;
  }

  -- the line has no pair
  pub other_kept : (line : LineData) → left_in line ≡ None → right_in line ≡ None → pair_in line ≡ None → AreChosenKept choice w (above ++ line ∷ []) left right wanted stood
  other_kept line a b c = record {
    lefts = subst (λ (xs : List (ℕ × ℕ)). ArePairsHeld w xs left) (sym (said_same left_in above line a)) k.lefts;
    rights = subst (λ (xs : List (ℕ × ℕ)). ArePairsHeld w xs right) (sym (said_same right_in above line b)) k.rights;
    chosen = k.chosen;
    pairs = subst (λ (xs : List (ℕ × ℕ)). AreStood w xs stood) (sym (said_same pair_in above line c)) k.pairs;
  }

  -- the matching that is wanted, by the lines
  pub wanted_is : wanted ≡ chosen_places choice w (places_in w (lefts_in above)) (places_in w (rights_in above))
  wanted_is = k.chosen ∙ ap (λ (xs : List (Option ℕ)). chosen_places choice w xs right.matching.places.items) k.lefts.places ∙ ap (chosen_places choice w (places_in w (lefts_in above))) k.rights.places

-- at a line without a pair that isn't the end
pub others_hold : (choice : Choice) (w : Written) (lefts rights pairs : List (ℕ × ℕ)) (line : Line) → ((p r : ℕ) → line ≢ Line.LeftPair p r) → ((p r : ℕ) → line ≢ Line.RightPair p r) → ((p r : ℕ) → line ≢ Line.Pair p r) → line ≢ Line.End
    → (why : Reason) → ChosenHold choice w lefts rights pairs (line_of line) why
others_hold choice w lefts rights pairs (Line.LeftPair p r) a b c d why = absurd (a p r refl)
others_hold choice w lefts rights pairs (Line.RightPair p r) a b c d why = absurd (b p r refl)
others_hold choice w lefts rights pairs (Line.Pair p r) a b c d why = absurd (c p r refl)
others_hold choice w lefts rights pairs Line.End a b c d why = absurd (d refl)
others_hold choice w lefts rights pairs _ a b c d reason.NotAMatching = ((tt, tt), tt)
others_hold choice w lefts rights pairs _ a b c d reason.Blocked = ((λ e. absurd (false≢true e)), tt)
others_hold choice w lefts rights pairs _ a b c d reason.WrongPair = (tt, (tt, λ e. absurd (false≢true e)))
others_hold choice w lefts rights pairs _ a b c d _ = (tt, tt)

-- such a line says none of these pairs
pub others_say : (line : Line) → ((p r : ℕ) → line ≢ Line.LeftPair p r) → ((p r : ℕ) → line ≢ Line.RightPair p r) → ((p r : ℕ) → line ≢ Line.Pair p r)
    → (left_in (line_of line) ≡ None) × (right_in (line_of line) ≡ None) × (pair_in (line_of line) ≡ None)
others_say (Line.LeftPair p r) a b c = absurd (a p r refl)
others_say (Line.RightPair p r) a b c = absurd (b p r refl)
others_say (Line.Pair p r) a b c = absurd (c p r refl)
others_say _ a b c = (refl, refl, refl)
