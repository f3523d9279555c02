-- Right answers, but for the order of their free lines, get a yes; and no others do.
use Rattle.std.proofs.Common.{◌≡◌, inl, inr, refl, ap, ◌∙◌, List, [], ◌∷◌, map, Some, None, subst}
use Rattle.std.specs.List.{All, slice_get}
use Rattle.std.proofs.lemmas.List.Elements.{All-head, All-tail}
use Rattle.std.proofs.lemmas.List.Sorted.{All-permutation}
use Rattle.sm_instance.specs.Inputs.{IsInput}
use Rattle.sm_instance.specs.declared.inputs.Input.{Input}
use Rattle.sm_instance.specs.declared.inputs.Input.TheVariants.{Two, Room}
use Rattle.sm_report.specs.Heads.{HeadData}
use Rattle.sm_report.specs.Lines.{LineData}
use Rattle.sm_report.specs.Sound.{IsLineOf}
use Rattle.sm_report.specs.Texts.{text_of_line}
use Rattle.sm_report.proofs.ReadLemmas.{one_line}
use Rattle.sm_check_forms.specs.Forms.{AreAnswer}
use Rattle.sm_check_clauses.specs.declared.verdicts.Verdict.TheVariants as verdict
use Rattle.sm_check_clauses.specs.Verdicts.{IsVerdict}
use Rattle.sm_check_clauses.specs.Judging.{Holds}
use Rattle.sm_cert.specs.Yes.{GetsYes, SolveYes, ReducedYes, RotationsYes, MeetYes, JoinYes, CouplesYes, NoneYes}
use Rattle.sm_law_agree.specs.Agree.{GetYes, SolveAgrees, ReducedAgrees, RotationsAgree, MeetAgrees, JoinAgrees, CouplesAgree, PartiesAgree}
use Rattle.sm_law_yes.specs.Reordered.{IsRightButForOrder}
use Rattle.sm_law_yes.specs.Exactly.{SolveExactly, ReducedExactly, RotationsExactly, MeetExactly, JoinExactly, RoomExactly}
use Rattle.sm_law_yes.specs.YesIsRight.{said_texts}
use Rattle.sm_law_yes.proofs.PermutedLines.{reordered_is_permuted}
use Rattle.sm_law_yes.proofs.SolveRight.{solve_is_right}
use Rattle.sm_law_yes.proofs.ReducedRight.{reduced_is_right}
use Rattle.sm_law_yes.proofs.RotationsRight.{rotations_are_right}
use Rattle.sm_law_yes.proofs.ChosenRight.{meet_is_right, join_is_right}
use Rattle.sm_law_yes.proofs.CouplesRight.{couples_are_right}
use Rattle.sm_law_yes.proofs.PartiesRight.{parties_are_right}
use Rattle.sm_law_yes.proofs.FreeForm.{back, says_none}
use Rattle.sm_law_yes.proofs.OrderFree.{order_is_free}

-- lines of an instance with one text are the same ones
lines_same : (input : Input) → IsInput input → (a b : List LineData) → All (IsLineOf input) a → All (IsLineOf input) b → map (text_of_line input) a ≡ map (text_of_line input) b → a ≡ b
lines_same input i [] [] p q e = refl
lines_same input i [] (y ∷ b) p q e = absurd cc
lines_same input i (x ∷ a) [] p q e = absurd cc
lines_same input i (x ∷ a) (y ∷ b) p q e =
    let first : text_of_line input x ≡ text_of_line input y = cc in
    let rest : map (text_of_line input) a ≡ map (text_of_line input) b = cc in
    let same : x ≡ y =
    one_line input (text_of_line input y) x y i (record { sound = All-head (IsLineOf input) x a p; spelled = first }) (record { sound = All-head (IsLineOf input) y b q; spelled = refl }) in
    ap (λ (z : LineData). z ∷ a) same ∙ ap (λ (zs : List LineData). y ∷ zs) (lines_same input i a b (All-tail (IsLineOf input) x a p) (All-tail (IsLineOf input) y b q) rest)

-- what is right but for its order gets a yes, where what is right does
right_gets_yes : (input : Input) (head : HeadData) (is_right : List LineData → Type 0) → IsInput input → ((answer : List LineData) → is_right answer → GetYes input answer)
    → ((answer : List LineData) → is_right answer → slice_get answer 0 ≡ Some (LineData.Answer head)) → (lines : List LineData) → All (IsLineOf input) lines → IsRightButForOrder is_right lines → GetsYes input head lines
right_gets_yes input head is_right i gets first lines own r =
    let j = gets r.answer r.right 1 in
    let there = All-permutation (IsLineOf input) lines r.answer (reordered_is_permuted lines r.answer r.reordered).0 own in
    let same = lines_same input i j.lines r.answer j.answer.right there j.answer.read in
    order_is_free input head r.answer lines (record {
      texts = map (text_of_line input) r.answer;
      answer = subst (AreAnswer input (map (text_of_line input) r.answer)) same j.answer;
      head_is = first r.answer r.right;
      yes = subst (λ (ls : List LineData). IsVerdict (Holds input ls) 1 verdict.Yes) same j.judged;
    }) (back r.reordered)

-- the laws, by those of the meaning of a yes and of right answers
pub solve_exactly : SolveYes → SolveAgrees → SolveExactly
solve_exactly meaning agrees w side lines i own = (
  solve_is_right meaning w side lines i,
  right_gets_yes (Two w) (HeadData.Solve (Some side)) _ i (λ answer s. agrees w side answer i s) (λ answer s. ap (λ (ls : List LineData). slice_get ls 0) s.shows) lines own,
)

-- of `reduced`
pub reduced_exactly : ReducedYes → ReducedAgrees → ReducedExactly
reduced_exactly meaning agrees w lines i own = (
  reduced_is_right meaning w lines i,
  right_gets_yes (Two w) HeadData.Reduced _ i (λ answer s. agrees w answer i s) (λ answer s. ap (λ (ls : List LineData). slice_get ls 0) s.shows) lines own,
)

-- of `rotations`
pub rotations_exactly : RotationsYes → RotationsAgree → RotationsExactly
rotations_exactly meaning agrees w lines i few own = (
  rotations_are_right meaning w lines i,
  right_gets_yes (Two w) HeadData.Rotations _ i (λ answer s. agrees w answer i few s) (λ answer s. ap (λ (ls : List LineData). slice_get ls 0) s.shows) lines own,
)

-- of `meet`
pub meet_exactly : MeetYes → MeetAgrees → MeetExactly
meet_exactly meaning agrees w lines i own = (
  meet_is_right meaning w lines i,
  right_gets_yes (Two w) HeadData.Meet _ i (λ answer s. agrees w (said_texts w lines) answer i s) (λ answer s. ap (λ (ls : List LineData). slice_get ls 0) s.shows) lines own,
)

-- and of `join`
pub join_exactly : JoinYes → JoinAgrees → JoinExactly
join_exactly meaning agrees w lines i own = (
  join_is_right meaning w lines i,
  right_gets_yes (Two w) HeadData.Join _ i (λ answer s. agrees w (said_texts w lines) answer i s) (λ answer s. ap (λ (ls : List LineData). slice_get ls 0) s.shows) lines own,
)

-- of `solve` over roommates
pub room_exactly : CouplesYes → NoneYes → CouplesAgree → PartiesAgree → RoomExactly
room_exactly meaning none agrees agree persons lines i own = (
  λ g. elim (says_none lines) [
    | inl said ↦ inr (parties_are_right none persons lines g said)
    | inr some ↦ inl (couples_are_right meaning persons lines g some)
  ],
  λ r. elim r [
    | inl couples ↦ right_gets_yes (Room persons) (HeadData.Solve None) _ i (λ answer s. agrees persons answer s) (λ answer s. ap (λ (ls : List LineData). slice_get ls 0) s.shows) lines own couples
    | inr parties ↦ right_gets_yes (Room persons) (HeadData.Solve None) _ i (λ answer s. agree persons answer s) (λ answer s. ap (λ (ls : List LineData). slice_get ls 0) s.shows) lines own parties
  ],
)
