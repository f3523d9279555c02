-- The answers of specs/Witnesses.antt.
use Rattle.std.proofs.Common.{◌≡◌, ◌≢◌, ℕ, zero, suc, ◌+◌, ◌<◌, ◌≤◌, inl, Bool, true, false, List, [], ◌∷◌, length, slice_index, slice_index_or, Option, Some, None, refl, sym, ap, ◌∙◌, subst, arith}
use Rattle.std.specs.Prelude.{IsTrue}
use Rattle.std.specs.List.{All}
use Rattle.std.proofs.lemmas.Bool.{false≢true}
use Rattle.std.proofs.lemmas.Bool.Decides.{nat_tests}
use Rattle.std.proofs.lemmas.Option.{same_Some, none-some}
use Rattle.sm_text.specs.Name as name
use Rattle.sm_lists.proofs.OrderLemmas.{range_is_each_once}
use Rattle.sm_agents.proofs.SecondLemmas.{zeros_small}
use Rattle.sm_agents.specs.Written.{AgentData, Written, agent_at, row, entry, capacity_of, IsAcceptable}
use Rattle.sm_instance.specs.Matching.{held, standing, load, IsMatching}
use Rattle.sm_instance.specs.Stable.{Blocks, IsStable, IsProposersBest, IsReviewersBest}
use Rattle.sm_instance.specs.Allowed.{IsAllowed}
use Rattle.sm_instance.specs.Ranks.{rank_vector_of, regret_of, IsBefore, order_of}
use Rattle.sm_agents.specs.Sound.{IsInstance, IsSoundAgent, IsSoundEntry}
use Rattle.sm_instance.specs.Witnesses.{agent}
use Rattle.sm_instance.specs.declared.inputs.Input.TheVariants.{Two}
use Rattle.sm_market.specs.Matching.{Places}
use Rattle.sm_market.specs.Stable.{IsStable as IsSeatStable, IsProposersBest as IsSeatProposersBest, IsReviewersBest as IsSeatReviewersBest}
use Rattle.sm_answer.proofs.AnswerLemmas.{one_all}
use Rattle.sm_report.specs.Heads.{HeadData}
use Rattle.sm_report.specs.Lines.{LineData}
use Rattle.sm_report.specs.Sound.{ArePair}
use Rattle.sm_theory.specs.Lattice.{with_proposers}
use Rattle.sm_theory.specs.Listings.{IsBehind, IsListing}
use Rattle.sm_theory.specs.Witnesses.{three_cycle_first, three_cycle_chain}
use Rattle.sm_theory.specs.WitnessesFlows.{three_cycle_needs}
use Rattle.sm_theory.specs.WitnessesRooms.{even_party_mates}
use Rattle.sm_theory.proofs.Tests.Markets.{three_cycle_is}
use Rattle.sm_theory.proofs.Flow.Witness.{worked_net}
use Rattle.sm_theory.proofs.Room.Witness.{even_party_is}
use Rattle.sm_seats.specs.SeatMarket.{seat_market}
use Rattle.sm_seats.specs.Seating.{seating_of, written_of}
use Rattle.sm_seats.specs.Taken.{places_taken}
use Rattle.sm_seats.specs.Vectors.{IsAllowedRankVector}
use Rattle.sm_seats.proofs.CorrespondenceLaws.{is_seating, sound_entries}
use Rattle.sm_seats.proofs.TakenLaws.{stable_taken, taken_forgotten}
use Rattle.sm_seats.proofs.BestLaws.{seats_proposers_best, seats_reviewers_best}
use Rattle.sm_answer_rotations.specs.RotationAnswer.{IsRotationAnswer}
use Rattle.sm_answer_rotations.proofs.ShownLemmas.{correspondence}
use Rattle.sm_answer_pairs.specs.RegretAnswer.{IsLeastRegret}
use Rattle.sm_answer_pairs.specs.PairsAnswer.{IsPairsAnswer}
use Rattle.sm_holding.specs.Held.{CanHold, GiveStable}
use Rattle.sm_answer_given.specs.GivenText.{AreGiven}
use Rattle.sm_answer_roommates.specs.Witnesses.{odd_parties}
use Rattle.sm_answer_roommates.proofs.WitnessLemmas.{odd_parties_shown}
use Rattle.sm_law_agree.specs.Witnesses.{placed, one_pair, together, given_twice, OnePair, Circles, three_by_three, two_rotations, ThreeByThree}

abbrev w : Written
w = one_pair

acceptable : IsAcceptable w 0 0
acceptable = record { proposer_lists = omega arith; reviewer_lists = omega arith }

within : (r : ℕ) → load w together r ≤ capacity_of w.reviewers r
within zero = omega arith
within (suc r) = grind (arith, nat_tests)

on_list : (p i : ℕ) → held together p ≡ Some i → i < length (row w.proposers p)
on_list zero i e = let z = same_Some 0 i e in omega (arith, z)
on_list (suc p) i e = absurd (none-some i e)

both_list : (p i : ℕ) → held together p ≡ Some i → IsAcceptable w p (entry w.proposers p i)
both_list zero i e = subst (λ k. IsAcceptable w 0 (entry w.proposers 0 k)) (same_Some 0 i e) acceptable
both_list (suc p) i e = absurd (none-some i e)

matching : IsMatching w together
matching = record { assigned = record { one_each = refl; on_lists = on_list }; acceptable = both_list; within = within }

unblocked : (p r : ℕ) → ¬ Blocks w together p r
unblocked zero r b = omega (arith, b.proposer_gains)
unblocked (suc p) r b = omega (arith, b.acceptable.proposer_lists)

stable : IsStable w together
stable = record { matching = matching; unblocked = unblocked }

allowed : IsAllowed w together
allowed = record { matching = matching; forced = λ k d l. absurd (omega arith); forbidden = λ k d l. absurd (omega arith) }

-- no other is stable
only : (places : List (Option ℕ)) → IsStable w places → together ≡ places
only [] s = absurd (let e = s.matching.assigned.one_each in omega (arith, e))
only (None ∷ []) s = absurd (s.unblocked 0 0 (record { acceptable = acceptable; proposer_gains = omega arith; reviewer_gains = inl (omega arith) }))
only (Some i ∷ []) s = let on = s.matching.assigned.on_lists 0 i refl in ap (λ k. Some k ∷ []) (let z : 0 ≡ i = omega (arith, on) in z)
only (o ∷ u ∷ us) s = absurd (let e = s.matching.assigned.one_each in omega (arith, e))

proposers_best : IsProposersBest w together
proposers_best = record { stable = stable; best = λ others s p. subst (λ o. standing w together p ≤ standing w o p) (only others s) (omega arith) }

reviewers_best : IsReviewersBest w together
reviewers_best = record { stable = stable; worst = λ others s p. subst (λ o. standing w o p ≤ standing w together p) (only others s) (omega arith) }

least : IsLeastRegret w together
least = record {
  stable = stable;
  allowed = allowed;
  least = λ others s a. subst (λ o. regret_of w together ≤ regret_of w o) (only others s) (omega arith);
  best = λ others s a e p. subst (λ o. standing w together p ≤ standing w o p) (only others s) (omega arith);
}

-- a vector that is listed is that of the matching
only_vector : (v : List ℕ) → IsAllowedRankVector w v → 1 ∷ [] ≡ v
only_vector v one = ap (rank_vector_of w) (only one.places one.stable) ∙ sym one.vector

listing : IsListing (IsBefore (order_of w)) (IsAllowedRankVector w) None 1 ((1 ∷ []) ∷ []) false
listing = record {
  begins = λ l. tt;
  rises = λ k l. absurd (omega (arith, l));
  sound = sound;
  whole = λ v one b. inl (0, omega arith, only_vector v one);
  limited = omega arith;
  ended = ((λ e v one b. none v one b), (λ none. refl));
  cut = λ e. absurd (false≢true e);
}
  where
    sound : (k : ℕ) → k < 1 → IsAllowedRankVector w (slice_index_or ((1 ∷ []) ∷ []) k [])
    sound zero l = record { places = together; stable = stable; allowed = allowed; vector = refl }
    sound (suc k) l = absurd (omega (arith, l))

    none : (v : List ℕ) → IsAllowedRankVector w v → IsBehind (IsBefore (order_of w)) (Some (1 ∷ [])) v → ⊥
    none v one b = let same = subst (IsBefore (order_of w) (1 ∷ [])) (sym (only_vector v one)) b in omega (arith, same.smaller)

-- the pair that is given
can_hold : CanHold w ((0, 0) ∷ [])
can_hold zero l = record { acceptable = acceptable; proposer_free = refl; place_free = omega arith }
can_hold (suc k) l = absurd (omega (arith, l))

gives_stable : GiveStable w ((0, 0) ∷ [])
gives_stable = record { can_hold = can_hold; stable = stable }

given : AreGiven (Two w) given_twice ((0, 0) ∷ []) ((0, 0) ∷ [])
given = record { left_there = there; right_there = there; spelled = refl }
  where
    there : All (λ (pair : ℕ × ℕ). ArePair (Two w) pair.0 pair.1) ((0, 0) ∷ [])
    there = one_all (λ (pair : ℕ × ℕ). ArePair (Two w) pair.0 pair.1) (0, 0) (omega arith, omega arith)

-- the instance
instance : IsInstance w
unfolding name.begins_name name.is_name_byte
instance = record {
  two_sided = λ e. cc;
  limits = record { proposers = omega arith; reviewers = omega arith; entries = omega arith };
  proposers = record { sound = proposers };
  reviewers = record { sound = reviewers };
  proposer_entries = record { sound = proposer_entries };
  reviewer_entries = record { sound = reviewer_entries };
  items = λ n l. absurd (omega (arith, l));
  seconds_each = refl;
  seconds_small = zeros_small w.weights;
  order = range_is_each_once 1;
}
  where
    proposers : (a : ℕ) → a < 1 → IsSoundAgent w.proposers true a
    proposers zero l = record { name = refl; fresh = λ b l. absurd (omega arith); capacity = omega arith; one = λ t. refl }
    proposers (suc a) l = absurd (omega (arith, l))

    reviewers : (a : ℕ) → a < 1 → IsSoundAgent w.reviewers true a
    reviewers zero l = record { name = refl; fresh = λ b l. absurd (omega arith); capacity = omega arith; one = λ t. refl }
    reviewers (suc a) l = absurd (omega (arith, l))

    proposer_entries : (a i : ℕ) → i < length (row w.proposers a) → IsSoundEntry w.proposers 1 a i
    proposer_entries zero zero l = record { in_range = omega arith; fresh = λ j less. absurd (omega arith) }
    proposer_entries zero (suc i) l = absurd (omega (arith, l))
    proposer_entries (suc a) i l = absurd (omega (arith, l))

    reviewer_entries : (a i : ℕ) → i < length (row w.reviewers a) → IsSoundEntry w.reviewers 1 a i
    reviewer_entries zero zero l = record { in_range = omega arith; fresh = λ j less. absurd (omega arith) }
    reviewer_entries zero (suc i) l = absurd (omega (arith, l))
    reviewer_entries (suc a) i l = absurd (omega (arith, l))

-- the pair at its seat
abbrev seated : Places
seated = with_proposers (seat_market w) (places_taken w together)

seated_stable : IsSeatStable (seat_market w) seated
seated_stable = stable_taken (sound_entries instance) together stable

unseated : written_of (seating_of w) seated.proposers ≡ together
unseated = taken_forgotten (sound_entries instance) together matching

seats_first : IsSeatProposersBest (seat_market w) seated
seats_first = seats_proposers_best (is_seating (sound_entries instance)) seated_stable (subst (IsProposersBest w) (sym unseated) proposers_best)

seats_last : IsSeatReviewersBest (seat_market w) seated
seats_last = seats_reviewers_best (is_seating (sound_entries instance)) seated_stable (subst (IsReviewersBest w) (sym unseated) reviewers_best)

-- the pair is the only stable one, and fixed
abbrev is_only : (p i : ℕ) → Bool
is_only zero zero = true
is_only zero (suc i) = false
is_only (suc p) i = false

holds_only : (p i : ℕ) → is_only p i ≡ true → held together p ≡ Some i
holds_only zero zero t = refl
holds_only zero (suc i) t = absurd (false≢true t)
holds_only (suc p) i t = absurd (false≢true t)

only_held : (p i : ℕ) → held together p ≡ Some i → is_only p i ≡ true
only_held zero zero e = refl
only_held zero (suc i) e = absurd (let z = same_Some 0 (suc i) e in omega (arith, z))
only_held (suc p) i e = absurd (none-some i e)

in_each : (places : List (Option ℕ)) (p i : ℕ) → IsStable w places → held together p ≡ Some i → held places p ≡ Some i
in_each places p i s e = subst (λ o. held o p ≡ Some i) (only places s) e

right_pairs : IsPairsAnswer w (LineData.Answer HeadData.Pairs ∷ LineData.AllPair 0 0 ∷ LineData.End ∷ [])
right_pairs = record {
  is_stable = is_only;
  is_fixed = is_only;
  stable = λ p i. (
    (λ t. record { places = together; stable = stable; holds = holds_only p i t }),
    λ x. only_held p i (subst (λ o. held o p ≡ Some i) (sym (only x.places x.stable)) x.holds),
  );
  fixed = λ p i x. ((λ t places s. in_each places p i s (holds_only p i t)), λ f. only_held p i (f together stable));
  shows = refl;
}

-- the right answers of each command over the one pair
pub one_pair_is : OnePair
one_pair_is = (
  instance,
  record { places = together; best = proposers_best; shows = refl },
  record { places = together; best = reviewers_best; shows = refl },
  record { first = seated; last = seated; proposers_best = seats_first; reviewers_best = seats_last; shows = refl },
  record { cursor = tt; listed = record { out = (1 ∷ []) ∷ []; more = false; listing = listing; shows = refl } },
  record { places = together; least = least; shows = refl },
  record { left = (0, 0) ∷ []; right = (0, 0) ∷ []; given = given; first = gives_stable; second = gives_stable; shows = refl },
  record { left = (0, 0) ∷ []; right = (0, 0) ∷ []; given = given; first = gives_stable; second = gives_stable; shows = refl },
  right_pairs,
)

-- the right answers over both circles
pub circles_are : Circles
circles_are = (
  record { mates = even_party_mates; stable = even_party_is.2; shows = refl },
  record { parties = odd_parties; excluding = odd_parties_shown.0; shows = refl },
)

-- Three proposers and three reviewers.

-- a number below 3
below_three : (P : ℕ → Type 0) → P 0 → P 1 → P 2 → (i : ℕ) → i < 3 → P i
below_three P a b c zero h = a
below_three P a b c (suc zero) h = b
below_three P a b c (suc (suc zero)) h = c
below_three P a b c (suc (suc (suc i))) h = absurd (omega (arith, h))

-- three different entries below 3
three_entries : (agents : List AgentData) (a x y z : ℕ) → row agents a ≡ x ∷ y ∷ z ∷ [] → (x + y) + z ≡ 3 → x ≢ y → x ≢ z → y ≢ z → (i : ℕ) → i < length (row agents a) → IsSoundEntry agents 3 a i
three_entries agents a x y z is sum e f g i less =
    let three : length (row agents a) ≡ 3 = ap (λ (xs : List ℕ). length xs) is in
    below_three (IsSoundEntry agents 3 a)
    (record { in_range = omega (arith, at 0, sum, e, f, g); fresh = λ j l. absurd (omega (arith, l)) })
    (record { in_range = omega (arith, at 1, sum, e, f, g); fresh = before_one })
    (record { in_range = omega (arith, at 2, sum, e, f, g); fresh = before_two }) i (omega (arith, less, three))
  where
    at : (j : ℕ) → entry agents a j ≡ slice_index (x ∷ y ∷ z ∷ []) j
    at j = ap (λ (xs : List ℕ). slice_index xs j) is

    before_one : (j : ℕ) → j < 1 → entry agents a j ≢ entry agents a 1
    before_one zero l same = e (sym (at 0) ∙ same ∙ at 1)
    before_one (suc j) l same = omega (arith, l)

    before_two : (j : ℕ) → j < 2 → entry agents a j ≢ entry agents a 2
    before_two zero l same = f (sym (at 0) ∙ same ∙ at 2)
    before_two (suc zero) l same = g (sym (at 1) ∙ same ∙ at 2)
    before_two (suc (suc j)) l same = omega (arith, l)

-- three different names of a letter, on lines that follow one another
three_agents : (n x y z : ℕ) (p q r : List ℕ) → IsTrue (name.is_name (x ∷ [])) → IsTrue (name.is_name (y ∷ [])) → IsTrue (name.is_name (z ∷ [])) → x ≢ y → x ≢ z → y ≢ z
    → (a : ℕ) → a < 3 → IsSoundAgent (placed n (agent x 1 p) ∷ placed (n + 1) (agent y 1 q) ∷ placed (n + 2) (agent z 1 r) ∷ []) true a
three_agents n x y z p q r b c d e f g =
    below_three (IsSoundAgent all true)
    (record { name = b; fresh = λ j l. absurd (omega (arith, l)); capacity = omega arith; one = λ t. refl })
    (record { name = c; fresh = before_one; capacity = omega arith; one = λ t. refl })
    (record { name = d; fresh = before_two; capacity = omega arith; one = λ t. refl })
  where
    all : List AgentData
    all = placed n (agent x 1 p) ∷ placed (n + 1) (agent y 1 q) ∷ placed (n + 2) (agent z 1 r) ∷ []

    letter : List ℕ → ℕ
    letter xs = slice_index xs 0

    before_one : (j : ℕ) → j < 1 → (agent_at all j).name ≢ (agent_at all 1).name
    before_one zero l same = e (ap letter same)
    before_one (suc j) l same = omega (arith, l)

    before_two : (j : ℕ) → j < 2 → (agent_at all j).name ≢ (agent_at all 2).name
    before_two zero l same = f (ap letter same)
    before_two (suc zero) l same = g (ap letter same)
    before_two (suc (suc j)) l same = omega (arith, l)

-- the instance
pub three_instance : IsInstance three_by_three
unfolding name.begins_name name.is_name_byte
three_instance = record {
  two_sided = λ e. cc;
  limits = record { proposers = omega arith; reviewers = omega arith; entries = omega arith };
  proposers = record { sound = three_agents 2 109 110 111 _ _ _ refl refl refl (omega arith) (omega arith) (omega arith) };
  reviewers = record { sound = three_agents 5 97 98 99 _ _ _ refl refl refl (omega arith) (omega arith) (omega arith) };
  proposer_entries = record { sound = proposer_entries };
  reviewer_entries = record { sound = reviewer_entries };
  items = λ n l. absurd (omega (arith, l));
  seconds_each = refl;
  seconds_small = zeros_small three_by_three.weights;
  order = range_is_each_once 3;
}
  where
    proposer_entries : (a i : ℕ) → i < length (row three_by_three.proposers a) → IsSoundEntry three_by_three.proposers 3 a i
    proposer_entries zero i l = three_entries three_by_three.proposers 0 0 1 2 refl refl (omega arith) (omega arith) (omega arith) i l
    proposer_entries (suc zero) i l = three_entries three_by_three.proposers 1 1 2 0 refl refl (omega arith) (omega arith) (omega arith) i l
    proposer_entries (suc (suc zero)) i l = three_entries three_by_three.proposers 2 2 0 1 refl refl (omega arith) (omega arith) (omega arith) i l
    proposer_entries (suc (suc (suc a))) i l = absurd (omega (arith, l))

    reviewer_entries : (a i : ℕ) → i < length (row three_by_three.reviewers a) → IsSoundEntry three_by_three.reviewers 3 a i
    reviewer_entries zero i l = three_entries three_by_three.reviewers 0 1 2 0 refl refl (omega arith) (omega arith) (omega arith) i l
    reviewer_entries (suc zero) i l = three_entries three_by_three.reviewers 1 2 0 1 refl refl (omega arith) (omega arith) (omega arith) i l
    reviewer_entries (suc (suc zero)) i l = three_entries three_by_three.reviewers 2 0 1 2 refl refl (omega arith) (omega arith) (omega arith) i l
    reviewer_entries (suc (suc (suc a))) i l = absurd (omega (arith, l))

-- its seats are those of a market whose chain is known
two_rotations_are : IsRotationAnswer three_by_three two_rotations
two_rotations_are = record {
  first = three_cycle_first;
  rotations = three_cycle_chain;
  needs = three_cycle_needs;
  printed = three_cycle_is.1;
  needed = record { one_each = refl; each = worked_net.0.each };
  shows = refl;
  corresponds = correspondence three_cycle_needs (is_seating (sound_entries three_instance)) three_cycle_is.1.chain worked_net.0.each;
}

-- the right answer of `rotations` over the three
pub three_by_three_is : ThreeByThree
three_by_three_is = (three_instance, omega arith, two_rotations_are)
