-- The order of free lines says nothing.
use Rattle.std.proofs.Common.{◌≡◌, ℕ, refl, sym, ap, ◌∙◌, true, List, [], ◌∷◌, ◌++◌, length, Option, Some, None, subst}
use Rattle.std.proofs.lemmas.Bool.{false≢true}
use Rattle.sm_agents.specs.Written.{Written}
use Rattle.sm_instance.specs.declared.inputs.Input.TheVariants.{Two, Room}
use Rattle.sm_theory.specs.Listings.{end_of}
use Rattle.sm_theory.specs.declared.choice.Choice.TheVariants.{Better, Worse}
use Rattle.sm_report.specs.Heads.{HeadData}
use Rattle.sm_report.specs.Lines.{LineData}
use Rattle.sm_report.specs.Keywords.{keyword_of}
use Rattle.sm_check_clauses.specs.declared.verdicts.Reason.{Reason}
use Rattle.sm_check_clauses.specs.Said.{vector_in, vectors_in}
use Rattle.sm_check_clauses.specs.Vectors.{ListHolds, ListClauses}
use Rattle.sm_check_clauses.specs.Judging.{answer, Clauses}
use Rattle.sm_law_yes.specs.Reordered.{is_free, IsReordered}
use Rattle.sm_law_yes.specs.OrderIsFree.{OrderIsFree}
use Rattle.sm_law_yes.proofs.FreeForm.{two_reordered, room_reordered}
use Rattle.sm_law_yes.proofs.Exchanges.{SeesNoOrder}
use Rattle.sm_law_yes.proofs.SaidOrder.{unsaid, unsaid_more}
use Rattle.sm_law_yes.proofs.PairOrder.{solve_order, regret_order, chosen_order}
use Rattle.sm_law_yes.proofs.SeatOrder.{rotations_order, reduced_order}
use Rattle.sm_cert.specs.Yes.{GetsYes}
use Rattle.sm_law_yes.proofs.RoomOrder.{couples_order, parties_order}
use Rattle.sm_law_yes.proofs.WeightOrder.{weight_order}

-- Answers that can't be checked have no clauses.
all_true : (Clauses : List LineData → LineData → Reason → Type 0) → ((above : List LineData) (x : LineData) (why : Reason) → Clauses above x why) → SeesNoOrder Clauses (λ a b. Unit {0})
all_true Clauses h = record {
  carries = λ a b z why s c. h b z why;
  more = λ a b z s. tt;
  exchanges = λ above x y e f hx hy. record { first = h above y; second = h (above ++ y ∷ []) x; alike = tt };
}

-- `list`, in whose answers no line is free.
no_vector : (x : LineData) → is_free (keyword_of x) ≡ true → vector_in x ≡ None
no_vector (LineData.Vector v) f = absurd (false≢true f)
no_vector _ f = refl

module _ (w : Written) (after : Option (List ℕ)) (limit : ℕ) where
  abbrev AreVectorsAlike : List LineData → List LineData → Type 0
  AreVectorsAlike a b = vectors_in a ≡ vectors_in b

  list_at : (above : List LineData) (x : LineData) → is_free (keyword_of x) ≡ true → (why : Reason) → ListClauses w after limit above x why
  list_at above (LineData.Vector v) f why = absurd (false≢true f)
  list_at above (LineData.More v) f why = absurd (false≢true f)
  list_at above _ f why = tt

  list_order : SeesNoOrder (Clauses (answer w (HeadData.List after limit))) AreVectorsAlike
  list_order = record {
    carries = λ a b z why s h. subst (λ (vectors : List (List ℕ)). ListHolds w (end_of after vectors) (length vectors) limit z why) s h;
    more = λ a b z s. unsaid_more vector_in a b z s;
    exchanges = λ above x y e f hx hy.
        let g : is_free (keyword_of y) ≡ true = ap is_free (sym e) ∙ f in
        record { first = list_at above y g; second = list_at (above ++ y ∷ []) x f; alike = unsaid vector_in above x y (no_vector x f) (no_vector y g) };
  }

two_is_free : (w : Written) (head : HeadData) (lines others : List LineData) → GetsYes (Two w) head lines → IsReordered lines others → GetsYes (Two w) head others
two_is_free w (HeadData.Solve (Some side)) lines others g r = two_reordered (solve_order w side) lines others g r
two_is_free w HeadData.Reduced lines others g r = two_reordered (reduced_order w) lines others g r
two_is_free w HeadData.Rotations lines others g r = two_reordered (rotations_order w) lines others g r
two_is_free w (HeadData.List after limit) lines others g r = two_reordered (list_order w after limit) lines others g r
two_is_free w HeadData.Regret lines others g r = two_reordered (regret_order w) lines others g r
two_is_free w (HeadData.Weight by) lines others g r = two_reordered (weight_order w by) lines others g r
two_is_free w HeadData.Meet lines others g r = two_reordered (chosen_order Better w) lines others g r
two_is_free w HeadData.Join lines others g r = two_reordered (chosen_order Worse w) lines others g r
two_is_free w (HeadData.Solve None) lines others g r = two_reordered (all_true (Clauses (answer w (HeadData.Solve None))) (λ above x why. tt)) lines others g r
two_is_free w HeadData.Pairs lines others g r = two_reordered (all_true (Clauses (answer w HeadData.Pairs)) (λ above x why. tt)) lines others g r
two_is_free w (HeadData.Survey limit) lines others g r = two_reordered (all_true (Clauses (answer w (HeadData.Survey limit))) (λ above x why. tt)) lines others g r
two_is_free w HeadData.Check lines others g r = two_reordered (all_true (Clauses (answer w HeadData.Check)) (λ above x why. tt)) lines others g r
two_is_free w HeadData.Median lines others g r = two_reordered (all_true (Clauses (answer w HeadData.Median)) (λ above x why. tt)) lines others g r
two_is_free w HeadData.Route lines others g r = two_reordered (all_true (Clauses (answer w HeadData.Route)) (λ above x why. tt)) lines others g r
two_is_free w HeadData.Rest lines others g r = two_reordered (all_true (Clauses (answer w HeadData.Rest)) (λ above x why. tt)) lines others g r

-- the law
pub order_is_free : OrderIsFree
order_is_free (Two w) head lines others g r = two_is_free w head lines others g r
order_is_free (Room persons) head lines others g r = room_reordered (couples_order persons) (parties_order persons) lines others g r
