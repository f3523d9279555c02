-- Reordered lines of an answer are of its form; and they get a yes where its clauses don't see an exchange.
use Rattle.std.proofs.Common.{◌≡◌, ◌≢◌, ◌⊎◌, ℕ, inl, inr, refl, sym, ap, ◌∙◌, Bool, true, false, List, [], ◌∷◌, map, drop, Some, subst}
use Rattle.std.specs.List.{All, list_all, slice_get}
use Rattle.std.proofs.lemmas.Bool.{false≢true}
use Rattle.std.proofs.lemmas.List.Elements.{All-nil, All-cons}
use Rattle.std.proofs.lemmas.Option.{same_Some}
use Rattle.sm_agents.specs.Written.{AgentData, Written}
use Rattle.sm_instance.specs.declared.inputs.Input.{Input}
use Rattle.sm_instance.specs.declared.inputs.Input.TheVariants.{Two, Room}
use Rattle.sm_report.specs.Heads.{HeadData}
use Rattle.sm_report.specs.Lines.{LineData}
use Rattle.sm_report.specs.Sound.{IsLineOf}
use Rattle.sm_report.specs.Texts.{text_of_line}
use Rattle.sm_report.specs.declared.keywords.Keyword.{Keyword}
use Rattle.sm_report.specs.Keywords.{keyword_of}
use Rattle.sm_check_forms.specs.declared.layouts.Opening.{Opening}
use Rattle.sm_check_forms.proofs.KeywordLayouts.{is_whole, layouts_of, opening_of, is_placed, placed_same}
use Rattle.sm_check_forms.specs.Forms.{AreAnswer, fits, number_in}
use Rattle.sm_check_clauses.specs.declared.verdicts.Reason.{Reason}
use Rattle.sm_check_clauses.specs.Verdicts.{AtLine}
use Rattle.sm_check_clauses.specs.Judging.{Subject, answer, couples, parties, Clauses, Holds}
use Rattle.sm_check_clauses.proofs.LinewiseLemmas.{all_hold}
use Rattle.sm_cert.specs.Yes.{GetsYes}
use Rattle.sm_law_yes.specs.Reordered.{is_free, IsReordered}
use Rattle.sm_law_yes.specs.Reordered.IsReordered.{none, kept, exchanged, both}
use Rattle.sm_law_yes.proofs.ReorderLemmas.{nothing}
use Rattle.sm_cert.proofs.YesLines.{by_head}
use Rattle.sm_law_yes.proofs.Exchanges.{SeesNoOrder, reordered_hold, holds_each}
use Rattle.sm_law_yes.proofs.LineGroups.{AreOwn, are_own}

-- The form of reordered lines.

own_reordered : (input : Input) {lines others : List LineData} → IsReordered lines others → AreOwn input lines → AreOwn input others
own_reordered input none h = h
own_reordered input (kept x r) h = (h.0, h.1, own_reordered input r h.2)
own_reordered input (exchanged x y lines e f) h = (h.2.0, h.2.1, (h.0, h.1, h.2.2))
own_reordered input (both r q) h = own_reordered input q (own_reordered input r h)

own_right : (input : Input) (lines : List LineData) → AreOwn input lines → All (IsLineOf input) lines
own_right input [] h = All-nil (IsLineOf input)
own_right input (x ∷ xs) h = All-cons (IsLineOf input) x xs h.0 (own_right input xs h.2)

own_fitting : (input : Input) (lines : List LineData) → AreOwn input lines → list_all (fits input) lines ≡ true
own_fitting input [] h = refl
own_fitting input (x ∷ xs) h = rw h.1 (own_fitting input xs h.2)

-- a free line has no number
unnumbered : (x : LineData) → is_free (keyword_of x) ≡ true → number_in x ≡ 0
unnumbered (LineData.Rotation i pairs) e = absurd (false≢true e)
unnumbered (LineData.Needs i needed) e = absurd (false≢true e)
unnumbered (LineData.Gain i gain) e = absurd (false≢true e)
unnumbered (LineData.SecondGain i gain) e = absurd (false≢true e)
unnumbered _ e = refl

same_opening : (x y : LineData) → keyword_of x ≡ keyword_of y → is_free (keyword_of x) ≡ true → opening_of x ≡ opening_of y
same_opening x y e f =
    let number : number_in x ≡ number_in y = unnumbered x f ∙ sym (unnumbered y (ap is_free (sym e) ∙ f)) in
    ap (λ (word : Keyword). let opening : Opening = record { keyword = word; number = number_in x } in opening) e
    ∙ ap (λ (n : ℕ). let opening : Opening = record { keyword = keyword_of y; number = n } in opening) number

openings_reordered : {lines others : List LineData} → IsReordered lines others → map opening_of others ≡ map opening_of lines
openings_reordered none = refl
openings_reordered (kept x r) = ap (λ (xs : List Opening). opening_of x ∷ xs) (openings_reordered r)
openings_reordered (exchanged x y lines e f) =
    ap (λ (o : Opening). o ∷ opening_of x ∷ map opening_of lines) (sym (same_opening x y e f)) ∙ ap (λ (o : Opening). opening_of x ∷ o ∷ map opening_of lines) (same_opening x y e f)
openings_reordered (both r q) = openings_reordered q ∙ openings_reordered r

head_reordered : {lines others : List LineData} → IsReordered lines others → (x : LineData) → is_free (keyword_of x) ≡ false → slice_get lines 0 ≡ Some x → slice_get others 0 ≡ Some x
head_reordered none x f e = e
head_reordered (kept z r) x f e = e
head_reordered (exchanged z y lines same g) x f e = absurd (false≢true (sym f ∙ ap (λ (u : LineData). is_free (keyword_of u)) (sym (same_Some _ _ e)) ∙ g))
head_reordered (both r q) x f e = head_reordered q x f (head_reordered r x f e)

-- the line behind the head
second_reordered : {lines others : List LineData} → IsReordered lines others → (u x : LineData) → is_free (keyword_of u) ≡ false → is_free (keyword_of x) ≡ false → slice_get lines 0 ≡ Some u → slice_get lines 1 ≡ Some x → slice_get others 1 ≡ Some x
second_reordered none u x f g e d = d
second_reordered (kept z r) u x f g e d = head_reordered r x g d
second_reordered (exchanged z y lines same h) u x f g e d = absurd (false≢true (sym f ∙ ap (λ (v : LineData). is_free (keyword_of v)) (sym (same_Some _ _ e)) ∙ h))
second_reordered (both r q) u x f g e d = second_reordered q u x f g (head_reordered r u f e) (second_reordered r u x f g e d)

-- lines are the reordering of what they are reordered to
pub back : {lines others : List LineData} → IsReordered lines others → IsReordered others lines
back none = none
back (kept x r) = kept x (back r)
back (exchanged x y lines e f) = exchanged y x lines (sym e) (ap is_free (sym e) ∙ f)
back (both r s) = both (back s) (back r)

-- Answers.

-- the text of lines with a head is that of an answer, where it is a whole one
formed : (input : Input) (head : HeadData) (openings : List Opening) (lines : List LineData) → slice_get lines 0 ≡ Some (LineData.Answer head) → AreOwn input lines
    → map opening_of lines ≡ opening_of (LineData.Answer head) ∷ openings → is_whole (layouts_of input head) openings ≡ true → AreAnswer input (map (text_of_line input) lines) lines
formed input head openings lines e own is placed = record {
  read = refl;
  right = own_right input lines own;
  fitting = own_fitting input lines own;
  placed = sym (placed_same input lines) ∙ go lines e is;
}
  where
    go : (ls : List LineData) → slice_get ls 0 ≡ Some (LineData.Answer head) → map opening_of ls ≡ opening_of (LineData.Answer head) ∷ openings → is_placed is_whole input ls ≡ true
    go [] e is = absurd (nothing e)
    go (x ∷ xs) e is =
        subst (λ (y : LineData). is_placed is_whole input (y ∷ xs) ≡ true) (sym (same_Some _ _ e))
        (subst (λ (os : List Opening). is_whole (layouts_of input head) os ≡ true) (sym (ap (drop 1) is)) placed)

-- how the clauses of an answer are those of a subject
pub record AreClausesOf (input : Input) (subject : Subject) (lines : List LineData) : Type 0 where
  pub out : (k : ℕ) (why : Reason) → Holds input lines k why → AtLine (Clauses subject) lines k why
  pub back : (k : ℕ) (why : Reason) → AtLine (Clauses subject) lines k why → Holds input lines k why

-- lines with a yes whose clauses see no order have it in any order
pub yes_reordered : {input : Input} {head : HeadData} {subject : Subject} {IsAlike : List LineData → List LineData → Type 0} → SeesNoOrder (Clauses subject) IsAlike → (lines others : List LineData)
    → AreClausesOf input subject lines → AreClausesOf input subject others → GetsYes input head lines → IsReordered lines others → GetsYes input head others
yes_reordered {input} {head} {subject} {IsAlike} s lines others c d g =
    by_head (λ (ls : List LineData). AreOwn input ls → AreClausesOf input subject ls → IsReordered ls others → GetsYes input head others) g
    (λ rest placed holds own c r.
    let first = head_reordered r (LineData.Answer head) refl refl in
    record {
      texts = map (text_of_line input) others;
      answer = formed input head (map opening_of rest) others first (own_reordered input r own) (openings_reordered r) placed;
      head_is = first;
      yes = λ k why. d.back k why (all_hold (Clauses subject) others (reordered_hold s r [] (holds_each (Clauses subject) [] (LineData.Answer head ∷ rest) (λ k why. c.out k why (holds k why)))) k why);
    })
    (are_own g) c

-- over two sides the clauses are those of the head
pub two_clauses : {w : Written} {head : HeadData} (lines : List LineData) → slice_get lines 0 ≡ Some (LineData.Answer head) → AreClausesOf (Two w) (answer w head) lines
two_clauses [] e = absurd (nothing e)
two_clauses {w} {head} (x ∷ xs) e = subst (λ (y : LineData). AreClausesOf (Two w) (answer w head) (y ∷ xs)) (sym (same_Some _ _ e)) (record { out = λ k why h. h; back = λ k why h. h })

-- over roommates they are those of couples, or of parties where the line behind the head is `none`
pub couple_clauses : {persons : List AgentData} (lines : List LineData) → slice_get lines 1 ≢ Some LineData.Nothing → AreClausesOf (Room persons) (couples persons) lines
couple_clauses [] some = record { out = λ k why h. h; back = λ k why h. h }
couple_clauses (x ∷ []) some = record { out = λ k why h. h; back = λ k why h. h }
couple_clauses (x ∷ LineData.Nothing ∷ ys) some = absurd (some refl)
couple_clauses (x ∷ y ∷ ys) some = record { out = λ k why h. h; back = λ k why h. h }

pub party_clauses : {persons : List AgentData} (lines : List LineData) → slice_get lines 1 ≡ Some LineData.Nothing → AreClausesOf (Room persons) (parties persons) lines
party_clauses [] said = absurd (nothing said)
party_clauses (x ∷ []) said = absurd (nothing said)
party_clauses (x ∷ LineData.Nothing ∷ ys) said = record { out = λ k why h. h; back = λ k why h. h }
party_clauses (x ∷ y ∷ ys) said = absurd (false≢true (ap is_none (same_Some _ _ said)))
  where
    is_none : LineData → Bool
    is_none LineData.Nothing = true
    is_none _ = false

-- an answer over two sides
pub two_reordered : {w : Written} {head : HeadData} {IsAlike : List LineData → List LineData → Type 0} → SeesNoOrder (Clauses (answer w head)) IsAlike → (lines others : List LineData)
    → GetsYes (Two w) head lines → IsReordered lines others → GetsYes (Two w) head others
two_reordered {w} {head} s lines others g r =
    yes_reordered s lines others (two_clauses lines g.head_is) (two_clauses others (head_reordered r (LineData.Answer head) refl g.head_is)) g r

-- the line behind the head is `none`, or it isn't
pub says_none : (lines : List LineData) → (slice_get lines 1 ≡ Some LineData.Nothing) ⊎ (slice_get lines 1 ≢ Some LineData.Nothing)
says_none [] = inr (λ e. nothing e)
says_none (x ∷ []) = inr (λ e. nothing e)
says_none (x ∷ LineData.Nothing ∷ ys) = inl refl
says_none (x ∷ y ∷ ys) = inr (λ e. false≢true (ap is_none (same_Some _ _ e)))
  where
    is_none : LineData → Bool
    is_none LineData.Nothing = true
    is_none _ = false

-- and one over roommates
pub room_reordered : {persons : List AgentData} {head : HeadData} {AreCouplesAlike ArePartiesAlike : List LineData → List LineData → Type 0} → SeesNoOrder (Clauses (couples persons)) AreCouplesAlike
    → SeesNoOrder (Clauses (parties persons)) ArePartiesAlike → (lines others : List LineData) → GetsYes (Room persons) head lines → IsReordered lines others → GetsYes (Room persons) head others
room_reordered {persons} {head} s t lines others g r = elim (says_none lines) [
  | inl said ↦
      yes_reordered t lines others (party_clauses lines said) (party_clauses others (second_reordered r (LineData.Answer head) LineData.Nothing refl refl g.head_is said)) g r
  | inr some ↦
      let first = head_reordered r (LineData.Answer head) refl g.head_is in
      yes_reordered s lines others (couple_clauses lines some) (couple_clauses others (λ e. some (second_reordered (back r) (LineData.Answer head) LineData.Nothing refl refl first e))) g r
]
