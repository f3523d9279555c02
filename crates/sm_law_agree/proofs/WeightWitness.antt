-- The answer of `weight` of specs/Witnesses.antt.
use Rattle.std.proofs.Common.{◌≡◌, ◌≢◌, ℕ, zero, suc, ◌<◌, ◌≤◌, ◌↔◌, true, Bool, List, [], ◌∷◌, length, refl, sym, ap, subst, arith}
use Rattle.std.specs.Prelude.{ℤ, pos, negsuc}
use Rattle.std.specs.List.{All}
use Rattle.std.specs.Int.RustNames.{unsigned_abs}
use Rattle.std.proofs.lemmas.List.Elements.{All-cons, All-from_recursion}
use Rattle.sm_text.specs.Limits.{most_weight}
use Rattle.sm_lists.proofs.OrderLemmas.{range_is_each_once}
use Rattle.sm_agents.proofs.SecondLemmas.{zeros_small}
use Rattle.sm_agents.specs.Written.{Written}
use Rattle.sm_agents.specs.Sound.{IsInstance, IsPairOf, IsSoundItem, items_of}
use Rattle.sm_lists.specs.Pairs.{pair_at}
use Rattle.sm_instance.specs.declared.inputs.Input.TheVariants.{Two}
use Rattle.sm_agents.specs.declared.kinds.Measure.TheVariants.{Given}
use Rattle.sm_market.specs.Matching.{Places}
use Rattle.sm_answer.proofs.AnswerLemmas.{one_all}
use Rattle.sm_report.specs.Heads.{HeadData}
use Rattle.sm_report.specs.Lines.{LineData}
use Rattle.sm_report.specs.Sound.{IsLineOf, IsSeatNumber, ArePair}
use Rattle.sm_report.specs.declared.lines.Seat.{Seat}
use Rattle.sm_theory.specs.ClosedSets.{IsMember, IsClosed, matching_of}
use Rattle.sm_theory.specs.Vectors.{IsAllowed}
use Rattle.sm_theory.specs.Net.{Net, NoneLeaves}
use Rattle.sm_theory.specs.Flows.{IsResidualStep, IsResidualReach}
use Rattle.sm_theory.specs.FlowLines.{amount_on}
use Rattle.sm_theory.specs.Conditions.{IsLightestAllowed}
use Rattle.sm_theory.specs.SecondNets.{IsLightestOfTwo}
use Rattle.sm_theory.specs.Witnesses.{three_cycle, three_cycle_first, three_cycle_chain}
use Rattle.sm_theory.specs.WitnessesFlows.{three_cycle_levels, three_cycle_weights, three_cycle_needs, three_cycle_net}
use Rattle.sm_theory.specs.WitnessesLines.{three_cycle_lines}
use Rattle.sm_theory.proofs.Flow.Lines.{full_cuts_are_unleft}
use Rattle.sm_theory.proofs.Flow.LinesWitness.{worked_lines}
use Rattle.sm_theory.proofs.Flow.Witness.{worked_net}
use Rattle.sm_theory.proofs.Net.Cuts.{cuts_are_allowed}
use Rattle.sm_theory.proofs.Tests.Markets.{below_two, three_cycle_is}
use Rattle.sm_theory.proofs.Weighing.Lightest.{reach_is_best_lightest}
use Rattle.sm_theory.proofs.Weighing.Second.{one_level}
use Rattle.sm_seats.specs.Seating.{seating_of, written_of}
use Rattle.sm_seats.specs.Correspondence.{IsSeating}
use Rattle.sm_seats.proofs.CorrespondenceLaws.{is_seating, sound_entries}
use Rattle.sm_seats.specs.Levels.{pair_second_by, seconds_by}
use Rattle.sm_seats.specs.ShownNet.{net_shown}
use Rattle.sm_seats.proofs.LevelLemmas.{none_second}
use Rattle.sm_seats.proofs.ShownNetLemmas.{net_is_shown}
use Rattle.sm_seats.proofs.SecondLemmas.{weight_none, lightest_by_both}
use Rattle.sm_answer_weight.specs.WeightAnswer.{member_numbers, IsCertificate, IsWeightAnswer}
use Rattle.sm_instance.specs.Lightest.{IsLightestByBoth}
use Rattle.sm_answer_weight.proofs.MemberLemmas.{are_rotations}
use Rattle.sm_law_agree.specs.Witnesses.{weighed_three, WeighedThree}
use Rattle.sm_report.specs.Witnesses.{first_seat_of}
use Rattle.sm_answer_weight.specs.Witnesses.{three_parts, worked_answer, answer_of_two}
use Rattle.sm_law_agree.proofs.WitnessLemmas.{three_instance}

-- Two weights of these three by three, and second weights, are sound where they are small and the two are of two pairs.
pub sound_weights : (a b : ℕ × ℕ × ℤ) (seconds : List ℤ) → IsPairOf 3 3 (a.0, a.1) → IsPairOf 3 3 (b.0, b.1) → ◌≢◌ {A = ℕ × ℕ} (a.0, a.1) (b.0, b.1)
    → unsigned_abs a.2 ≤ most_weight → unsigned_abs b.2 ≤ most_weight → length seconds ≡ 2 → All (λ z. unsigned_abs z ≤ most_weight) seconds
    → IsInstance (record weighed_three { weights = a ∷ b ∷ []; seconds = seconds })
sound_weights a b seconds is_a is_b differ small_a small_b each small = record {
  two_sided = three_instance.two_sided;
  limits = three_instance.limits;
  proposers = three_instance.proposers;
  reviewers = three_instance.reviewers;
  proposer_entries = three_instance.proposer_entries;
  reviewer_entries = three_instance.reviewer_entries;
  items = below_two (IsSoundItem 3 3 (a ∷ b ∷ []) items)
      (record { pair = is_a; size = λ l. small_a; fresh = λ l k less. absurd (omega (arith, less)) })
      (record { pair = is_b; size = λ l. small_b; fresh = λ l k less. other k less });
  seconds_each = each;
  seconds_small = small;
  order = range_is_each_once 3;
}
  where
    items : List (ℕ × ℕ)
    items = items_of (a ∷ b ∷ []) [] []

    other : (k : ℕ) → k < 1 → pair_at (items_of (a ∷ b ∷ []) [] []) k ≢ pair_at (items_of (a ∷ b ∷ []) [] []) 1
    other zero less = differ
    other (suc k) less = absurd (omega (arith, less))

-- so are its two
weighed_instance : IsInstance weighed_three
weighed_instance = sound_weights (0, 1, pos 4) (0, 2, negsuc 9) weighed_three.seconds (record { proposer = omega arith; reviewer = omega arith }) (record { proposer = omega arith; reviewer = omega arith })
    (λ same. let e : ◌≡◌ {A = ℕ} 1 2 = ap (λ (pair : ℕ × ℕ). pair.1) same in omega (arith, e)) (omega arith) (omega arith) refl (zeros_small weighed_three.weights)

-- The flow leaves both rotations in its reach, which is a cut.
abbrev pub set : List Bool
set = true ∷ true ∷ []

abbrev flow : ℕ → ℕ → ℕ
flow = amount_on three_cycle_lines

pub closed : IsClosed three_cycle three_cycle_chain set
closed = record { one_each = refl; closed = λ i j x y member need. below_two (λ i. IsMember set i) refl refl i x }

reach : IsResidualReach three_cycle_net flow set
reach = record {
  one_each = refl;
  exact = below_two _ ((λ _. record { path = 2 ∷ 1 ∷ []; is = (to_second, (to_first, refl)) }), (λ _. refl)) ((λ _. record { path = 2 ∷ []; is = (to_second, refl) }), (λ _. refl));
}
  where
    to_second : IsResidualStep three_cycle_net (amount_on three_cycle_lines) 0 2
    to_second = refl

    to_first : IsResidualStep three_cycle_net (amount_on three_cycle_lines) 2 1
    to_first = refl

pub allowed : IsAllowed three_cycle_levels [] [] (matching_of three_cycle three_cycle_first three_cycle_chain set)
allowed = record { holds = λ c h. absurd (omega (arith, h)); avoids = λ c h. absurd (omega (arith, h)) }

unleft : NoneLeaves three_cycle_net (IsResidualStep three_cycle_net flow) set
unleft =
    let cut = (cuts_are_allowed three_cycle three_cycle_levels three_cycle_weights [] [] three_cycle_first three_cycle_chain three_cycle_needs set worked_net.0).1 (closed, allowed) in
    (full_cuts_are_unleft three_cycle_net flow set worked_lines.1 cut.1).0 refl

seating : IsSeating weighed_three (seating_of weighed_three)
seating = is_seating (sound_entries weighed_instance)

abbrev places : Places
places = matching_of three_cycle three_cycle_first three_cycle_chain set

-- its second weights are all 0, so what is lightest by the first sum is so by both
abbrev IsLightestSeated : Places → Type 0
IsLightestSeated m = IsLightestOfTwo three_cycle three_cycle_levels three_cycle_weights (seconds_by Given weighed_three (seating_of weighed_three)) [] [] m

by_first : (m : Places) → IsLightestSeated m ↔ IsLightestAllowed three_cycle three_cycle_levels three_cycle_weights [] [] m
by_first m =
    let s = seating_of weighed_three in
    one_level three_cycle three_cycle_levels three_cycle_weights (seconds_by Given weighed_three s) [] [] m
    (λ n. weight_none (pair_second_by Given weighed_three) (none_second Given weighed_three refl) s three_cycle n)

lightest : IsLightestByBoth Given weighed_three (written_of (seating_of weighed_three) places.proposers)
lightest =
    let both = reach_is_best_lightest three_cycle three_cycle_levels three_cycle_weights [] [] three_cycle_first three_cycle_chain three_cycle_needs flow set worked_net.0 refl worked_lines.1 reach unleft in
    lightest_by_both seating Given places ((by_first places).1 both.0) (λ n least p. both.1 n ((by_first n).0 least) p)

-- Its lines are of the instance.
module _ (weights : List (ℕ × ℕ × ℤ)) (seconds : List ℤ) where
  abbrev w : Written
  w = record weighed_three { weights = weights; seconds = seconds }

  abbrev P : LineData → Type 0
  P line = IsLineOf (Two w) line

  no_seats : All (λ (seat : Seat). IsSeatNumber w.kind seat.number) []
  no_seats = λ k d l. absurd (omega (arith, l))

  first_line : (p r : ℕ) → p < 3 → r < 3 → P (LineData.First p (first_seat_of r))
  first_line p r a b = record { printable = (a, b); seats = one_all (λ (seat : Seat). IsSeatNumber w.kind seat.number) (first_seat_of r) refl; numbers = tt; head = tt }

  pair_line : (p r : ℕ) → p < 3 → r < 3 → P (LineData.Pair p r)
  pair_line p r a b = record { printable = (a, b); seats = no_seats; numbers = tt; head = tt }

  three : {X : Type 0} (R : X → Type 0) (x y z : X) → R x → R y → R z → All R (x ∷ y ∷ z ∷ [])
  three R x y z a b c = All-cons R x (y ∷ z ∷ []) a (All-cons R y (z ∷ []) b (one_all R z c))

  rotation_line : (k a b c : ℕ) → 1 ≤ k → k < 3 → a < 3 → b < 3 → c < 3 → P (LineData.Rotation k ((0, first_seat_of a) ∷ (1, first_seat_of b) ∷ (2, first_seat_of c) ∷ []))
  rotation_line k a b c least few x y z = record {
    printable = three (λ (pair : ℕ × Seat). ArePair (Two w) pair.0 pair.1.reviewer) (0, first_seat_of a) (1, first_seat_of b) (2, first_seat_of c) (omega arith, x) (omega arith, y) (omega arith, z);
    seats = three (λ (seat : Seat). IsSeatNumber w.kind seat.number) (first_seat_of a) (first_seat_of b) (first_seat_of c) refl refl refl;
    numbers = record { least = least; greatest = omega (arith, few) };
    head = tt;
  }

  flow_line : (from to : ℕ) → from < 4294967296 → to < 4294967296 → P (LineData.Flow from to 4)
  flow_line from to a b = record { printable = tt; seats = no_seats; numbers = (a, b, omega arith); head = tt }

  second_flow_line : (from to : ℕ) → from < 4294967296 → to < 4294967296 → P (LineData.SecondFlow from to 1)
  second_flow_line from to a b = record { printable = tt; seats = no_seats; numbers = (a, b, omega arith); head = tt }

  gain_line : (k : ℕ) (gain : ℤ) → 1 ≤ k → k < 3 → unsigned_abs gain ≤ 9223372036854775807 → P (LineData.Gain k gain)
  gain_line k gain least few size = record { printable = tt; seats = no_seats; numbers = (record { least = least; greatest = omega (arith, few) }, size); head = tt }

  second_gain_line : (k : ℕ) (gain : ℤ) → 1 ≤ k → k < 3 → unsigned_abs gain ≤ 9223372036854775807 → P (LineData.SecondGain k gain)
  second_gain_line k gain least few size = record { printable = tt; seats = no_seats; numbers = (record { least = least; greatest = omega (arith, few) }, size); head = tt }

  needs_line : (k : ℕ) (members : List Bool) (n : ℕ) → 1 ≤ k → k < 3 → n < 3 → P (LineData.Needs k (member_numbers members n))
  needs_line k members n least few less = record { printable = tt; seats = no_seats; numbers = (record { least = least; greatest = omega (arith, few) }, are_rotations members n (omega (arith, less))); head = tt }

  head_line : P (LineData.Answer (HeadData.Weight Given))
  head_line = record { printable = tt; seats = no_seats; numbers = tt; head = tt }

  taken_line : P (LineData.Taken (1 ∷ 2 ∷ []))
  taken_line = record { printable = tt; seats = no_seats; numbers = are_rotations set 2 (omega arith); head = tt }

  value_line : P (LineData.Value 4)
  value_line = record { printable = tt; seats = no_seats; numbers = omega arith; head = tt }

  cut_line : P (LineData.Cut 4)
  cut_line = record { printable = tt; seats = no_seats; numbers = omega arith; head = tt }

  total_line : (total : ℤ) → unsigned_abs total ≤ 9223372036854775807 → P (LineData.Total total)
  total_line total size = record { printable = tt; seats = no_seats; numbers = size; head = tt }

  second_value_line : P (LineData.SecondValue 1)
  second_value_line = record { printable = tt; seats = no_seats; numbers = omega arith; head = tt }

  second_cut_line : P (LineData.SecondCut 1)
  second_cut_line = record { printable = tt; seats = no_seats; numbers = omega arith; head = tt }

  second_total_line : P (LineData.SecondTotal (negsuc 1))
  second_total_line = record { printable = tt; seats = no_seats; numbers = omega arith; head = tt }

  end_line : P LineData.End
  end_line = record { printable = tt; seats = no_seats; numbers = tt; head = tt }

  -- those of the answer of one level
  three_sound : All P worked_answer
  three_sound = All-from_recursion P worked_answer (head_line, (first_line 0 0 (omega arith) (omega arith), (first_line 1 1 (omega arith) (omega arith), (first_line 2 2 (omega arith) (omega arith), (rotation_line 1 0 1 2 (omega arith) (omega arith) (omega arith) (omega arith) (omega arith), (needs_line 1 [] 0 (omega arith) (omega arith) (omega arith), (gain_line 1 (pos 4) (omega arith) (omega arith) (omega arith), (rotation_line 2 1 2 0 (omega arith) (omega arith) (omega arith) (omega arith) (omega arith), (needs_line 2 (true ∷ []) 1 (omega arith) (omega arith) (omega arith), (gain_line 2 (negsuc 13) (omega arith) (omega arith) (omega arith), (flow_line 0 2 (omega arith) (omega arith), (flow_line 1 4294967295 (omega arith) (omega arith), (flow_line 2 1 (omega arith) (omega arith), (taken_line, (value_line, (cut_line, (total_line (negsuc 9) (omega arith), (pair_line 0 2 (omega arith) (omega arith), (pair_line 1 0 (omega arith) (omega arith), (pair_line 2 1 (omega arith) (omega arith), (end_line, tt)))))))))))))))))))))

  -- and of that of two
  pub two_sound : All P answer_of_two
  two_sound = All-from_recursion P answer_of_two (head_line, (first_line 0 0 (omega arith) (omega arith), (first_line 1 1 (omega arith) (omega arith), (first_line 2 2 (omega arith) (omega arith), (rotation_line 1 0 1 2 (omega arith) (omega arith) (omega arith) (omega arith) (omega arith), (needs_line 1 [] 0 (omega arith) (omega arith) (omega arith), (gain_line 1 (pos 4) (omega arith) (omega arith) (omega arith), (second_gain_line 1 (pos 1) (omega arith) (omega arith) (omega arith), (rotation_line 2 1 2 0 (omega arith) (omega arith) (omega arith) (omega arith) (omega arith), (needs_line 2 (true ∷ []) 1 (omega arith) (omega arith) (omega arith), (gain_line 2 (negsuc 3) (omega arith) (omega arith) (omega arith), (second_gain_line 2 (negsuc 2) (omega arith) (omega arith) (omega arith), (flow_line 0 2 (omega arith) (omega arith), (flow_line 1 4294967295 (omega arith) (omega arith), (flow_line 2 1 (omega arith) (omega arith), (second_flow_line 0 2 (omega arith) (omega arith), (second_flow_line 1 4294967295 (omega arith) (omega arith), (second_flow_line 2 1 (omega arith) (omega arith), (taken_line, (value_line, (cut_line, (total_line (pos 0) (omega arith), (second_value_line, (second_cut_line, (second_total_line, (pair_line 0 2 (omega arith) (omega arith), (pair_line 1 0 (omega arith) (omega arith), (pair_line 2 1 (omega arith) (omega arith), (end_line, tt)))))))))))))))))))))))))))))

-- the net as it is shown is the worked one
shown : net_shown Given weighed_three three_cycle_first three_cycle_chain three_cycle_needs ≡ three_cycle_net
shown = net_is_shown seating three_cycle_is.1.chain Given three_cycle_needs

certificate : IsCertificate three_cycle_net three_cycle_lines set
certificate = record { fills = record { lines = worked_lines.0; is_flow = worked_lines.1; full = refl }; reach = reach }

right : IsWeightAnswer Given weighed_three worked_answer
right = record {
  parts = three_parts;
  printed = three_cycle_is.1;
  needed = record { one_each = refl; each = worked_net.0.each };
  certificates = (subst (λ (net : Net). IsCertificate net three_cycle_lines set) (sym shown) certificate, refl);
  lightest = lightest;
  shows = refl;
  sound = three_sound weighed_three.weights weighed_three.seconds;
}

-- that answer of `weight` is a right one
pub weighed_three_is : WeighedThree
weighed_three_is = (weighed_instance, omega arith, right)
