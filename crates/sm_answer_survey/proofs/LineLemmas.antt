-- The lines of the answer of `survey`.
use Rattle.std.proofs.Common.{◌≡◌, ℕ, ◌≤◌, List, [], ◌∷◌, ◌++◌, Bool, true, false, Option, Some, None, length, map, sym, ap, ◌∙◌, refl, subst, arith}
use Rattle.std.specs.List.{All}
use Rattle.std.proofs.lemmas.List.Elements.{All-append, All-cons, All-head, All-tail}
use Rattle.std.specs.declared.alloc.Global.{Global}
use Rattle.std.specs.declared.vec.IntoIter.{IntoIter}
use Rattle.std.specs.Vec.Iter.{into_iter_items, into_iter_len}
use Rattle.std.proofs.lemmas.List.{length-map}
use Rattle.sm_text.specs.Limits.{most_limit}
use Rattle.sm_answer.specs.Giving.{HasRest}
use Rattle.sm_tally.specs.Fold.{Feed, Shown, all_after_feeds}
use Rattle.sm_agents.specs.Written.{Written}
use Rattle.sm_instance.specs.declared.inputs.Input.{Input}
use Rattle.sm_instance.specs.declared.inputs.Input.TheVariants.{Two}
use Rattle.sm_report.specs.Heads.{HeadData}
use Rattle.sm_report.specs.Lines.{LineData, line_of}
use Rattle.sm_report.specs.declared.lines.Line.{Line}
use Rattle.sm_report.specs.Sound.{IsLineOf, AreNumbers}
use Rattle.sm_theory.specs.Listings.{end_of}
use Rattle.sm_answer_list.specs.ListAnswer.{last_line}
use Rattle.sm_answer_list.specs.Started.{cursor_in}
use Rattle.sm_answer_survey.specs.SurveyAnswer.{vectors_of, tally_line, survey_lines, IsSurveyAnswer}
use Rattle.sm_answer_survey.specs.Surveys.{IsSurvey, last_vector}
use Rattle.sm_answer_survey.specs.Given.{AreLeft}
use Rattle.sm_answer_survey.specs.declared.survey.Survey.{Survey}

-- the last line by the last vector that more follow, and by the end of the listing
last_is : (end : Option (List ℕ)) (more : Bool) → last_line (last_vector end more) true ≡ last_line end more
last_is None true = refl
last_is None false = refl
last_is (Some v) true = refl
last_is (Some v) false = refl

-- the lines that are given are a right answer
pub survey_right : {w : Written} {before after : List Shown} {s : Survey} (limit : ℕ) (last : LineData) → IsSurvey w limit before after s → last ≡ last_line (cursor_in s.last) true
    → IsSurveyAnswer before limit w (survey_lines limit s.listed after last)
survey_right {w} {before} {after} {s} limit last h is = record {
  feeds = h.feeds;
  more = h.more;
  surveyed = h.surveyed;
  shows = ap (λ n. survey_lines limit n after last) h.listed ∙ ap (λ tallies. survey_lines limit (length h.feeds) tallies last) h.fed
      ∙ ap (survey_lines limit (length h.feeds) (all_after_feeds h.feeds before)) (is ∙ ap (λ o. last_line o true) h.last ∙ last_is (end_of None (vectors_of h.feeds)) h.more);
}

-- a tally's line names nobody
tally_sound : (input : Input) (tally : Shown) → AreNumbers (tally_line tally) → IsLineOf input (tally_line tally)
tally_sound input tally numbers = record { printable = tt; seats = λ k d l. absurd (omega arith); numbers = numbers; head = tt }

tallies_sound : (input : Input) (tallies : List Shown) → All AreNumbers (map tally_line tallies) → All (IsLineOf input) (map tally_line tallies)
tallies_sound input [] each = λ k d l. absurd (omega arith)
tallies_sound input (tally ∷ tallies) each =
    All-cons (IsLineOf input) (tally_line tally) (map tally_line tallies) (tally_sound input tally (All-head AreNumbers (tally_line tally) (map tally_line tallies) each)) (tallies_sound input tallies (All-tail AreNumbers (tally_line tally) (map tally_line tallies) each))

last_sound : (input : Input) (o : Option (List ℕ)) → AreNumbers (last_line o true) → IsLineOf input (last_line o true)
last_sound input None numbers = record { printable = tt; seats = λ k d l. absurd (omega arith); numbers = tt; head = tt }
last_sound input (Some v) numbers = record { printable = tt; seats = λ k d l. absurd (omega arith); numbers = numbers; head = tt }

-- and lines of the instance
pub survey_sound : {w : Written} (input : Input) (limit listed : ℕ) (tallies : List Shown) (o : Option (List ℕ)) (last : LineData) → input ≡ Two w → 1 ≤ limit → limit ≤ most_limit → listed ≤ limit
    → All AreNumbers (map tally_line tallies) → last ≡ last_line o true → AreNumbers last → All (IsLineOf input) (survey_lines limit listed tallies last)
survey_sound {w} input limit listed tallies o last two least greatest few each is numbers =
    let P = IsLineOf (Two w) in
    let lines = map tally_line tallies in
    subst (λ (i : Input). All (IsLineOf i) (survey_lines limit listed tallies last)) (sym two)
    (All-cons P (LineData.Answer (HeadData.Survey limit)) (LineData.Listed listed ∷ (lines ++ last ∷ [])) (record { printable = tt; seats = λ k d l. absurd (omega arith); numbers = tt; head = (least, greatest) })
    (All-cons P (LineData.Listed listed) (lines ++ last ∷ []) (record { printable = tt; seats = λ k d l. absurd (omega arith); numbers = omega arith; head = tt })
    (All-append P lines (last ∷ []) (tallies_sound (Two w) tallies each)
    (All-cons P last [] (subst P (sym is) (last_sound (Two w) o (subst AreNumbers is numbers))) (λ k d l. absurd (omega arith))))))

-- no more are listed than are wanted
pub few_listed : {w : Written} {before after : List Shown} {s : Survey} (limit : ℕ) → IsSurvey w limit before after s → s.listed ≤ limit
few_listed limit h = let long = length-map h.feeds (λ (feed : Feed). feed.vector) in omega (arith, h.listed, h.surveyed.listing.limited, long)

-- the lines that are left are those of what the tallies show
pub left_is : {it : IntoIter Line Global} (lines : List Line) (tallies : List Shown) → into_iter_items it ≡ lines → map line_of lines ≡ map tally_line tallies
    → (rest : List LineData) → AreLeft it rest → rest ≡ map tally_line tallies
left_is lines tallies is shown rest left = left.are ∙ ap (map line_of) is ∙ shown

-- there are lines that are left, if only none, where the iterator tells their number
pub left_some : {it : IntoIter Line Global} → into_iter_len it ≡ length (into_iter_items it) → HasRest (AreLeft it)
left_some {it} long = record { lines = map line_of (into_iter_items it); given = record { count = long; are = refl } }
