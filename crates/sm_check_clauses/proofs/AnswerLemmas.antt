-- The walk through the lines of an answer: the clauses hold above a line, and something is kept for the lines below.
use Rattle.std.proofs.Common.{◌≡◌, ℕ, ◌+◌, ◌<◌, ◌≤◌, arith, refl, subst, ⊎_elim, List, [], ◌∷◌, ◌++◌, length, map, take, get_or, Option, None, Some, ap, ◌∙◌, append-nil, lit≤}
use Rattle.std.specs.Prelude.{All, filter_map}
use Rattle.std.specs.List.{slice_get, cons_option}
use Rattle.std.specs.Option.{option_or}
use Rattle.std.proofs.lemmas.Bool.{cases_lt}
use Rattle.std.proofs.lemmas.Option.{get_or_from_slice_get}
use Rattle.std.proofs.lemmas.List.{length-map}
use Rattle.std.proofs.lemmas.List.Elements.{All-get_or, filter_map-append}
use Rattle.sm_report.specs.declared.lines.Line.{Line}
use Rattle.sm_report.specs.Lines.{LineData, line_of}
use Rattle.sm_check_clauses.specs.declared.verdicts.Reason.{Reason}
use Rattle.sm_check_clauses.specs.declared.verdicts.Reason.TheVariants as reason
use Rattle.sm_check_clauses.specs.declared.verdicts.Verdict.TheVariants as verdict
use Rattle.sm_check_clauses.specs.Verdicts.{AtLine, IsVerdict, IsFirstThere, Finds, number_of_reason}
use Rattle.sm_check_clauses.specs.Walking.{FindsOrKeeps}
use Rattle.sm_check_clauses.proofs.JudgingLemmas.{first_failure, one_more, line_at, found_at, past_end}

-- what holds of all lines, of one that is read
pub line_right : (P : LineData → Type 0) (lines : List Line) (k : ℕ) (x : Line) → k < length lines → x ≡ get_or lines k x → All P (map line_of lines) → P (line_of x)
line_right P lines k x inside is all =
    subst P (get_or_from_slice_get (map line_of lines) k (line_of x) (line_of x) (line_at lines k x inside is))
    (All-get_or P (map line_of lines) k (line_of x) (let long = length-map lines line_of in omega arith) all)

-- what is said with a line that says nothing of the kind, and with one that does
pub said_same : {X : Type 0} (said : LineData → Option X) (above : List LineData) (x : LineData) → said x ≡ None → filter_map said (above ++ x ∷ []) ≡ filter_map said above
said_same {X} said above x e =
    filter_map-append said above (x ∷ []) ∙ ap (λ (o : Option X). filter_map said above ++ cons_option o []) e ∙ append-nil (filter_map said above)

pub said_one : {X : Type 0} (said : LineData → Option X) (above : List LineData) (x : LineData) (y : X) → said x ≡ Some y → filter_map said (above ++ x ∷ []) ≡ filter_map said above ++ y ∷ []
said_one {X} said above x y e = filter_map-append said above (x ∷ []) ∙ ap (λ (o : Option X). filter_map said above ++ cons_option o []) e

-- the first that is said, with one line more
pub first_more : {X : Type 0} (said : LineData → Option X) (xs : List X) (x : LineData) → slice_get (xs ++ filter_map said (x ∷ [])) 0 ≡ option_or (slice_get xs 0) (said x)
first_more {X} said [] x = go (said x)
  where
    go : (o : Option X) → slice_get (cons_option o []) 0 ≡ o
    go None = refl
    go (Some y) = refl
first_more said (y ∷ ys) x = refl

-- what is found by clauses is found by any that say the same
pub found_by : {A B : Reason → Type 0} → ((why : Reason) → A why → B why) → ((why : Reason) → B why → A why) → (r : Option Reason) → Finds A r → Finds B r
found_by to from None all = λ why. to why (all why)
found_by to from (Some why) f = record { clauses_before = λ other l. to other (f.clauses_before other l); fails = λ h. f.fails (from why h) }

-- what is kept whatever is found
pub finds_keeping : (Holds : Reason → Type 0) (Kept : Type 0) (r : Option Reason) → Finds Holds r → Kept → FindsOrKeeps Holds Kept r
finds_keeping Holds Kept None f k = (f, k)
finds_keeping Holds Kept (Some why) f k = f

-- what is kept is kept as anything that follows of it
pub kept_as : (Holds : Reason → Type 0) {A B : Type 0} → (A → B) → (r : Option Reason) → FindsOrKeeps Holds A r → FindsOrKeeps Holds B r
kept_as Holds f None found = (found.0, f found.1)
kept_as Holds f (Some why) found = found

-- the clause of the first reason, where it fails
least_reason : (why : Reason) → 1 ≤ number_of_reason why
least_reason reason.NotAMatching = lit≤ tt
least_reason reason.Blocked = lit≤ tt
least_reason reason.NotBest = lit≤ tt
least_reason reason.WrongList = lit≤ tt
least_reason reason.NotExposed = lit≤ tt
least_reason reason.RotationMissing = lit≤ tt
least_reason reason.WrongNeeds = lit≤ tt
least_reason reason.WrongGain = lit≤ tt
least_reason reason.NoEdge = lit≤ tt
least_reason reason.OverRoom = lit≤ tt
least_reason reason.NotConserved = lit≤ tt
least_reason reason.NotClosed = lit≤ tt
least_reason reason.WrongValue = lit≤ tt
least_reason reason.WrongCut = lit≤ tt
least_reason reason.CutDiffers = lit≤ tt
least_reason reason.WrongTotal = lit≤ tt
least_reason reason.WrongPair = lit≤ tt
least_reason reason.NotLeast = lit≤ tt
least_reason reason.NotRising = lit≤ tt
least_reason reason.NotAllowed = lit≤ tt
least_reason reason.OverLimit = lit≤ tt
least_reason reason.WrongTail = lit≤ tt
least_reason reason.WrongRegret = lit≤ tt
least_reason reason.NotPartition = lit≤ tt
least_reason reason.NoOddParty = lit≤ tt

-- where the clause of the first reason fails, no other fails before it
pub first_clause : {Holds : Reason → Type 0} → ¬ Holds reason.NotAMatching → IsFirstThere Holds reason.NotAMatching
first_clause none = record { clauses_before = λ other l. absurd (omega (arith, least_reason other)); fails = none }

-- the clauses hold at all lines above line k
pub record HoldAbove (Clauses : List LineData → LineData → Reason → Type 0) (lines : List LineData) (k : ℕ) : Type 0 where
  pub hold : (j : ℕ) (why : Reason) → j < k → AtLine Clauses lines j why

module _ {Clauses : List LineData → LineData → Reason → Type 0} {lines : List LineData} where
  -- where all hold at line k too
  pub hold_more : {k : ℕ} (x : LineData) → HoldAbove Clauses lines k → slice_get lines k ≡ Some x → Finds (Clauses (take k lines) x) None → HoldAbove Clauses lines (k + 1)
  hold_more {k} x above is here = record { hold = one_more k above.hold (found_at Clauses lines k x None is here) }

  -- where one fails there
  pub verdict_no : {k : ℕ} (x : LineData) (why : Reason) (first_line : ℕ) → HoldAbove Clauses lines k → slice_get lines k ≡ Some x → Finds (Clauses (take k lines) x) (Some why)
      → IsVerdict (AtLine Clauses lines) first_line (verdict.No (first_line + k) why)
  verdict_no {k} x why first_line above is f = (k, refl, first_failure k why above.hold (found_at Clauses lines k x (Some why) is f))

  -- where none fails at any line
  pub verdict_yes : (k first_line : ℕ) → HoldAbove Clauses lines k → length lines ≤ k → IsVerdict (AtLine Clauses lines) first_line verdict.Yes
  verdict_yes k first_line above past j why = ⊎_elim (λ less. above.hold j why less) (λ more. past_end Clauses lines j why (omega arith)) (cases_lt j k)
