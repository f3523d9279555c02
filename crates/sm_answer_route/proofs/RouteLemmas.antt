-- The lines of the answer of `route`.
use Rattle.std.proofs.Common.{◌≡◌, ℕ, ◌-◌, List, [], ◌∷◌, ◌++◌, Bool, false, Option, length, map, drop, refl, sym, ap, ◌∙◌, subst, arith}
use Rattle.std.specs.List.{All, flat_map, range_with_len}
use Rattle.std.proofs.lemmas.List.{append_assoc, append_cancel_right}
use Rattle.std.proofs.lemmas.List.Elements.{All-append, All-cons, All-tail, All-take, All-same}
use Rattle.sm_lists.proofs.ResultLemmas.{take-append_at_length}
use Rattle.sm_answer.specs.Lines.{lines_from}
use Rattle.sm_answer.specs.MatchingLines.{matching_line}
use Rattle.sm_answer.specs.declared.matching_lines.PairWord.{PairWord}
use Rattle.sm_answer.specs.declared.matching_lines.PairWord.TheVariants as word
use Rattle.sm_answer.proofs.AnswerLemmas.{one_all, lines_all}
use Rattle.sm_answer.proofs.LineLemmas.{end_sound}
use Rattle.sm_agents.specs.Written.{Written}
use Rattle.sm_agents.specs.Sound.{IsInstance}
use Rattle.sm_instance.specs.Matching.{IsAssignment}
use Rattle.sm_instance.specs.declared.inputs.Input.{Input}
use Rattle.sm_instance.specs.declared.inputs.Input.TheVariants.{Two}
use Rattle.sm_agents.specs.declared.kinds.Side.TheVariants.{Proposers}
use Rattle.sm_market.specs.Lists.{Lists, row}
use Rattle.sm_market.specs.Matching.{Places}
use Rattle.sm_market.specs.Pairing.{Paired}
use Rattle.sm_report.specs.Heads.{HeadData}
use Rattle.sm_report.specs.Lines.{LineData}
use Rattle.sm_report.specs.Sound.{IsLineOf}
use Rattle.sm_theory.specs.Chains.{IsPrintedChain, AreNeedsOf}
use Rattle.sm_theory.specs.ClosedSets.{IsClosed, matching_of}
use Rattle.sm_theory.specs.Routes.{IsShortestRoute, sets_along, steps_between}
use Rattle.sm_poset.specs.Posets.{RotationPoset}
use Rattle.sm_seats.specs.SeatMarket.{seat_market}
use Rattle.sm_theory.specs.declared.step.Step.{Step}
use Rattle.sm_seats.specs.Seating.{Seating, seating_of}
use Rattle.sm_seats.specs.Correspondence.{IsSeating}
use Rattle.sm_holding.specs.Held.{places_in}
use Rattle.sm_answer_given.specs.Given.{AreStableGiven}
use Rattle.sm_answer_given.specs.Chosen.{pair_lines}
use Rattle.sm_answer_given.specs.declared.given.Given.{Given}
use Rattle.sm_answer_given.proofs.ChosenLemmas.{pair_sound}
use Rattle.sm_answer_rotations.specs.Reduction.{seat_line}
use Rattle.sm_answer_rotations.specs.RotationLines.{first_seat_line, rotation_lines, shown_of}
use Rattle.sm_answer_rotations.specs.GivenLines.{lines_left}
use Rattle.sm_answer_rotations.proofs.RotationLemmas.{AreShown, given_is, rotations_given_sound}
use Rattle.sm_answer_route.specs.RouteAnswer.{given_pairs, step_line, IsStepNumbered, IsSetOf, AreStepsBetween, route_lines, IsRouteAnswer}
use Rattle.sm_answer_route.specs.RouteFound.{IsRouteFound}
use Rattle.sm_answer_route.specs.declared.found.FoundRoute.{FoundRoute}
use Rattle.sm_answer_route.proofs.StepLemmas.{steps_sound}

-- the pairs of a matching as they are given
pub pairs_given : (by : PairWord) (w : Written) (places : List (Option ℕ)) (rest : List LineData) → rest ≡ lines_from (matching_line by w places) 0 (length w.proposers - 0) → rest ≡ pair_lines by w places
pairs_given by w places rest is =
    let count : length w.proposers - 0 ≡ length w.proposers = omega arith in
    is ∙ ap (lines_from (matching_line by w places) 0) count

-- the first seats as they are given
abbrev pub firsts_given : Seating → Places → List LineData
firsts_given s first = lines_from (seat_line Proposers s first) 0 (length s.market.proposers - 0)

-- all lines as they are given
abbrev pub route_given : Written → (left right : List (Option ℕ)) → Seating → Places → List (List (ℕ × ℕ)) → List (List ℕ) → List Step → List LineData
route_given w left right s first rotations needs steps =
    (LineData.Answer HeadData.Route ∷ [])
    ++ (given_pairs w left right ++ (firsts_given s first ++ (lines_left false s rotations needs 0 ++ (map step_line steps ++ (LineData.End ∷ [])))))

module _ (s : Seating) (first : Places) (rotations : List (List (ℕ × ℕ))) (needs : List (List ℕ)) (one : length first.proposers ≡ length s.market.proposers) where
  -- the first seats and the rotations are those that are shown
  shown_alike : firsts_given s first ++ lines_left false s rotations needs 0
      ≡ (let shown = shown_of s first rotations needs in lines_from (first_seat_line shown) 0 (length shown.firsts) ++ flat_map (rotation_lines shown) (range_with_len 0 (length shown.rotations)))
  shown_alike =
      let shown = shown_of s first rotations needs in
      let firsts = lines_from (first_seat_line shown) 0 (length shown.firsts) in
      let pairs = flat_map (rotation_lines shown) (range_with_len 0 (length shown.rotations)) in
      let end = LineData.End ∷ [] in
      append_cancel_right (firsts_given s first ++ lines_left false s rotations needs 0) (firsts ++ pairs) end
      (append_assoc (firsts_given s first) (lines_left false s rotations needs 0) end ∙ ap (drop 1) (given_is s first rotations needs one) ∙ sym (append_assoc firsts pairs end))

  -- so the lines that are given are those of the answer
  pub route_is : (w : Written) (left right : List (Option ℕ)) (steps : List Step)
      → route_given w left right s first rotations needs steps ≡ route_lines w left right (shown_of s first rotations needs) steps
  route_is w left right steps =
      let shown = shown_of s first rotations needs in
      let firsts = lines_from (first_seat_line shown) 0 (length shown.firsts) in
      let pairs = flat_map (rotation_lines shown) (range_with_len 0 (length shown.rotations)) in
      let last = map step_line steps ++ LineData.End ∷ [] in
      let alike : firsts_given s first ++ (lines_left false s rotations needs 0 ++ last) ≡ firsts ++ (pairs ++ last) =
      sym (append_assoc (firsts_given s first) (lines_left false s rotations needs 0) last) ∙ ap (λ (t : List LineData). t ++ last) shown_alike ∙ append_assoc firsts pairs last in
      ap (λ (t : List LineData). LineData.Answer HeadData.Route ∷ (given_pairs w left right ++ t)) alike

-- they are a right answer
pub route_right : {w : Written} {s : Seating} (first : Places) (rotations : List (List (ℕ × ℕ))) (needs : List (List ℕ)) (steps : List Step) (texts : List (List ℕ)) (given : Given)
    → s ≡ seating_of w → AreShown s.market first rotations needs → AreStepsBetween w first rotations given.left.places.items given.right.places.items steps → AreStableGiven w texts given
    → IsRouteAnswer texts w (route_given w given.left.places.items given.right.places.items s first rotations needs steps)
route_right {w} {s} first rotations needs steps texts given is x route stable = record {
  left = stable.left;
  right = stable.right;
  given = stable.are_given;
  left_stable = stable.left_stable;
  right_stable = stable.right_stable;
  first = first;
  rotations = rotations;
  needs = needs;
  printed = subst (λ (t : Seating). IsPrintedChain t.market first rotations) is x.printed;
  needed = record { one_each = x.one_each; each = λ k l. subst (λ (t : Seating). AreNeedsOf t.market rotations k (row needs k)) is (x.of k l) };
  steps = steps;
  route = subst (λ m. AreStepsBetween w first rotations m (places_in w stable.right) steps) stable.left_is (subst (λ n. AreStepsBetween w first rotations given.left.places.items n steps) stable.right_is route);
  shows = route_is s first rotations needs x.printed.chain.from_best.stable.matching.proposers.one_each w given.left.places.items given.right.places.items steps
      ∙ ap (λ (t : Seating). route_lines w given.left.places.items given.right.places.items (shown_of t first rotations needs) steps) is
      ∙ ap (λ m. route_lines w m given.right.places.items (shown_of (seating_of w) first rotations needs) steps) stable.left_is
      ∙ ap (λ n. route_lines w (places_in w stable.left) n (shown_of (seating_of w) first rotations needs) steps) stable.right_is;
}

-- and lines of the instance
pub route_sound : {w : Written} {s : Seating} (input : Input) (first : Places) (rotations : List (List (ℕ × ℕ))) (needs : List (List ℕ)) (steps : List Step) (left right : List (Option ℕ))
    → input ≡ Two w → IsInstance w → IsSeating w s → AreShown s.market first rotations needs → IsAssignment w left → IsAssignment w right → All IsStepNumbered steps
    → All (IsLineOf input) (route_given w left right s first rotations needs steps)
route_sound {w} {s} input first rotations needs steps left right two i h x left_assigned right_assigned numbered =
    let P = IsLineOf (Two w) in
    let end = LineData.End ∷ [] in
    let rotations_lines = lines_left false s rotations needs 0 in
    let front = firsts_given s first ++ rotations_lines in
    let last = map step_line steps ++ end in
    let whole = rotations_given_sound (Two w) i h first rotations needs refl x.printed x.few x.of in
    let tail : All P (front ++ end) = All-same P (front ++ end) (firsts_given s first ++ (rotations_lines ++ end)) (append_assoc (firsts_given s first) rotations_lines end) (All-tail P (LineData.Answer HeadData.Rotations) (firsts_given s first ++ (rotations_lines ++ end)) whole) in
    let shown : All P front = All-same P front _ (sym (take-append_at_length (length front) front end refl)) (All-take P (length front) (front ++ end) tail) in
    let all : (by : PairWord) (places : List (Option ℕ)) → IsAssignment w places → All P (pair_lines by w places) = λ by places assigned. lines_all P (matching_line by w places) (pair_sound by w places i assigned) 0 (length w.proposers) in
    let both = All-append P (pair_lines word.Left w left) (pair_lines word.Right w right) (all word.Left left left_assigned) (all word.Right right right_assigned) in
    let ended = All-append P (map step_line steps) end (steps_sound w steps numbered) (one_all P LineData.End (end_sound (Two w))) in
    let behind : All P (firsts_given s first ++ (rotations_lines ++ last)) = All-same P _ (front ++ last) (sym (append_assoc (firsts_given s first) rotations_lines last)) (All-append P front last shown ended) in
    subst (λ (o : Input). All (IsLineOf o) (route_given w left right s first rotations needs steps)) (sym two)
    (All-cons P (LineData.Answer HeadData.Route) (given_pairs w left right ++ (firsts_given s first ++ (rotations_lines ++ last))) (record { printable = tt; seats = λ k d l. absurd (omega arith); numbers = tt; head = tt })
    (All-append P (given_pairs w left right) (firsts_given s first ++ (rotations_lines ++ last)) both behind))

-- the steps that are found are those of the values that are read of the poset
pub route_found : {w : Written} {given : Given} {found : FoundRoute} (first : Paired) (rotations : List (List (ℕ × ℕ))) (steps : List Step) → IsRouteFound w given found
    → first ≡ found.poset.first → rotations ≡ found.poset.rotations → steps ≡ found.steps.items → AreStepsBetween w first.places rotations given.left.places.items given.right.places.items steps
route_found {w} {given} {found} first rotations steps h ef er es =
    let left = given.left.places.items in
    let right = given.right.places.items in
    subst (λ x. AreStepsBetween w first.places rotations left right x) (sym es)
    (subst (λ (r : List (List (ℕ × ℕ))). AreStepsBetween w first.places r left right found.steps.items) (sym er)
    (subst (λ (f : Paired). AreStepsBetween w f.places found.poset.rotations left right found.steps.items) (sym ef) h.route))

-- a closed set of the seats is one of the poset of their market
pub set_closed : {w : Written} (poset : RotationPoset) {places : List (Option ℕ)} {set : List Bool} → poset.lists ≡ seat_market w → IsSetOf w poset.first.places poset.rotations places set → IsClosed poset.lists poset.rotations set
set_closed {w} poset {places} {set} lists h = subst (λ (l : Lists). IsClosed l poset.rotations set) (sym lists) h.closed

-- the steps between two closed sets of that poset are those between their matchings
pub steps_are : {w : Written} (poset : RotationPoset) {left right : List (Option ℕ)} {from to : List Bool} {steps : List Step} → poset.lists ≡ seat_market w
    → IsSetOf w poset.first.places poset.rotations left from → IsSetOf w poset.first.places poset.rotations right to → steps ≡ steps_between from to (length poset.rotations)
    → IsShortestRoute poset.lists (matching_of poset.lists poset.first.places poset.rotations from) (map (matching_of poset.lists poset.first.places poset.rotations) (sets_along from steps)) (matching_of poset.lists poset.first.places poset.rotations to)
    → AreStepsBetween w poset.first.places poset.rotations left right steps
steps_are {w} poset {left} {right} {from} {to} {steps} lists a b is shortest = record {
  from = from;
  to = to;
  from_left = a;
  to_right = b;
  between = is;
  shortest = subst (λ (l : Lists). IsShortestRoute l (matching_of l poset.first.places poset.rotations from) (map (matching_of l poset.first.places poset.rotations) (sets_along from steps)) (matching_of l poset.first.places poset.rotations to)) lists shortest;
}
