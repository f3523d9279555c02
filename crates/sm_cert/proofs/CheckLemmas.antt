-- From the form of an answer to the clauses that are tried on it.
use Rattle.std.proofs.Common.{◌≡◌, ℕ, ◌≤◌, ◌∙◌, inl, inr, arith, refl, sym, ap, subst, Bool, true, false, All, List, [], ◌∷◌, length, get_or, Option, None, Some, eqb-true}
use Rattle.std.specs.Prelude.{IfSome}
use Rattle.std.specs.Option.{option_map}
use Rattle.std.proofs.lemmas.Bool.{false≢true}
use Rattle.std.proofs.lemmas.List.{length-map}
use Rattle.std.proofs.lemmas.List.Folds.{list_all_at}
use Rattle.sm_text.specs.Lines.{lines}
use Rattle.sm_agents.specs.Written.{Written, AgentData}
use Rattle.sm_instance.specs.declared.inputs.Input.{Input}
use Rattle.sm_instance.specs.declared.inputs.Input.TheVariants.{Two, Room}
use Rattle.sm_report.specs.Heads.{HeadData}
use Rattle.sm_report.specs.Lines.{LineData}
use Rattle.sm_report.specs.Sound.{IsLineOf}
use Rattle.sm_report.specs.Texts.{text_of_line}
use Rattle.sm_check_clauses.specs.declared.verdicts.Verdict.{Verdict}
use Rattle.sm_check_forms.specs.Forms.{fits, fits_two, AreAnswer, IsMisplaced}
use Rattle.sm_check_clauses.specs.Verdicts.{AtLine, IsVerdict}
use Rattle.sm_check_clauses.specs.Judging.{Subject, answer, couples, parties, Clauses, Holds}
use Rattle.sm_check_clauses.specs.Judges.{IsOwnLine, input_of}
use Rattle.sm_cert.specs.Checking.{first_head, says_none}

-- each line of an answer is one of the instance, and of its form
pub own_lines : (input : Input) (texts : List (List ℕ)) (lines : List LineData) → AreAnswer input texts lines
    → (subject : Subject) → input_of subject ≡ input → All (IsOwnLine subject) lines
own_lines input texts lines a subject is k d inside = record {
  right = subst (λ (i : Input). IsLineOf i (get_or lines k d)) (sym is) (a.right k d inside);
  fitting = ap (λ (i : Input). fits i (get_or lines k d)) is ∙ go (fits input (get_or lines k d)) refl;
}
  where
    go : (t : Bool) → fits input (get_or lines k d) ≡ t → t ≡ true
    go true e = refl
    go false e = absurd (false≢true (sym (list_all_at (fits input) lines k d inside e) ∙ a.fitting))

-- an answer has as many lines as texts
pub as_many : (input : Input) (texts : List (List ℕ)) (lines : List LineData) → AreAnswer input texts lines → length lines ≡ length texts
as_many input texts lines a = sym (length-map lines (text_of_line input)) ∙ ap length a.read

-- the first bad text is one of them, or stands behind the last
pub misplaced_within : {input : Input} {texts : List (List ℕ)} {k : ℕ} → IsMisplaced input texts k → k ≤ length texts
misplaced_within m = elim m.here [ inl h ↦ omega (arith, h.0) | inr h ↦ omega (arith, h.0) ]

-- over two sides the head says which clauses are tried
pub by_head : (w : Written) (lines : List LineData) (head : HeadData) (first_line : ℕ) (v : Verdict) → first_head lines ≡ Some head
    → IsVerdict (AtLine (Clauses (answer w head)) lines) first_line v → IsVerdict (Holds (Two w) lines) first_line v
by_head w [] head first_line v e j = absurd cc
by_head w (LineData.Answer other ∷ lines) head first_line v e j =
    let same : head ≡ other = cc in
    subst (λ h. IsVerdict (AtLine (Clauses (answer w h)) (LineData.Answer other ∷ lines)) first_line v) same j
by_head w (_ ∷ lines) head first_line v e j = absurd cc

-- a cursor has one number for each proposer
cursor_long : (w : Written) (lines : List LineData) (after : Option (List ℕ)) (limit : ℕ) → first_head lines ≡ Some (HeadData.List after limit)
    → ((head : HeadData) → All (IsOwnLine (answer w head)) lines) → IfSome after (λ v. length v ≡ length w.proposers)
cursor_long w [] after limit e own = absurd cc
cursor_long w (LineData.Answer head ∷ lines) None limit e own = tt
cursor_long w (LineData.Answer head ∷ lines) (Some after) limit e own =
    let same : head ≡ HeadData.List (Some after) limit = cc in
    let own_head = own head 0 (LineData.Answer head) (omega arith) in
    eqb-true (length after) (length w.proposers) (subst (λ h. fits_two w (LineData.Answer h) ≡ true) same own_head.fitting)
cursor_long w (_ ∷ lines) after limit e own = absurd cc

of_map : {X Y : Type 0} (f : X → Y) (P : Y → Type 0) (o : Option X) → IfSome (option_map f o) P → IfSome o (λ x. P (f x))
of_map f P None h = tt
of_map f P (Some x) h = h

-- so has the cursor of an answer of `list` whose lines are of the instance
pub cursor_each : {X : Type 0} (w : Written) (lines : List LineData) (numbers : X → List ℕ) (after : Option X) (limit : ℕ)
    → first_head lines ≡ Some (HeadData.List (option_map numbers after) limit) → ((head : HeadData) → All (IsOwnLine (answer w head)) lines)
    → IfSome after (λ v. length (numbers v) ≡ length w.proposers)
cursor_each w lines numbers after limit e own = of_map numbers (λ v. length v ≡ length w.proposers) after (cursor_long w lines (option_map numbers after) limit e own)

-- over roommates it is the second line that does
pub by_parties : (persons : List AgentData) (lines : List LineData) (first_line : ℕ) (v : Verdict) → says_none lines ≡ true
    → IsVerdict (AtLine (Clauses (parties persons)) lines) first_line v → IsVerdict (Holds (Room persons) lines) first_line v
by_parties persons [] first_line v e j = absurd (false≢true e)
by_parties persons (head ∷ []) first_line v e j = absurd (false≢true e)
by_parties persons (head ∷ LineData.Nothing ∷ lines) first_line v e j = j
by_parties persons (head ∷ _ ∷ lines) first_line v e j = absurd (false≢true e)

-- where that line doesn't say `none` the clauses are those of couples
pub by_couples : (persons : List AgentData) (lines : List LineData) (first_line : ℕ) (v : Verdict) → says_none lines ≡ false
    → IsVerdict (AtLine (Clauses (couples persons)) lines) first_line v → IsVerdict (Holds (Room persons) lines) first_line v
by_couples persons [] first_line v e j = j
by_couples persons (head ∷ []) first_line v e j = j
by_couples persons (head ∷ LineData.Nothing ∷ lines) first_line v e j = absurd (false≢true (sym e))
by_couples persons (head ∷ _ ∷ lines) first_line v e j = j
