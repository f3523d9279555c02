-- The worked answers.
use Rattle.std.proofs.Common.{◌≡◌, ℕ, zero, suc, ◌<◌, arith, refl, sym, ◌∙◌, None, List, [], ◌∷◌, take, Some, subst, false}
use Rattle.std.specs.Prelude.{codes, Contains, count_by, ◌==◌, IfSome, All}
use Rattle.sm_instance.specs.declared.inputs.Input.TheVariants.{Room}
use Rattle.sm_market.specs.Lists.{Lists, reversed_lists}
use Rattle.sm_market.specs.Matching.{Places, reversed}
use Rattle.sm_market.specs.Stable.{IsStable, IsProposersBest}
use Rattle.sm_market.proofs.Bridge.{IsMarket-reversed, IsStable-reversed}
use Rattle.sm_theory.proofs.Tests.Pairs.{market_pass, matching_pass, firsts_best}
use Rattle.sm_theory.proofs.Room.Witness.{odd_party_is}
use Rattle.sm_report.specs.declared.lines.Seat.{Seat}
use Rattle.sm_report.specs.Heads.{HeadData}
use Rattle.sm_report.specs.Lines.{LineData}
use Rattle.sm_report.specs.Sound.{IsLineOf}
use Rattle.sm_check_clauses.specs.declared.verdicts.Reason.{Reason}
use Rattle.sm_check_clauses.specs.declared.verdicts.Reason.TheVariants as reason
use Rattle.sm_check_clauses.specs.Verdicts.{number_of_reason}
use Rattle.sm_check_forms.specs.Forms.{AreAnswer}
use Rattle.sm_check_clauses.specs.Said.{party_in, is_end}
use Rattle.sm_check_clauses.specs.Chain.{RotationsHold}
use Rattle.sm_check_clauses.specs.Rooming.{PartiesHold, AreNew, IsWholePartition, HasOddParty, members_of}
use Rattle.sm_check_clauses.specs.Judging.{Subject, Clauses}
use Rattle.sm_cert.specs.Witnesses.{five, odd_answer, odd_lines, OddAnswers, two_by_two, worst_first, FirstIsntBest}
use Rattle.sm_report.specs.Witnesses.{first_seat_of}
use Rattle.sm_check_clauses.proofs.LinewiseLemmas.{AllHold, hold_at, all_hold, no_end}

-- The odd party.
none_of : (P : Seat → Type 0) → All P []
none_of P k d h = absurd (omega arith)

one_of : (P : ℕ → Type 0) (x : ℕ) → P x → All P (x ∷ [])
one_of P x p zero d h = p
one_of P x p (suc k) d h = absurd (omega arith)

three_of : (P : ℕ → Type 0) (a b c : ℕ) → P a → P b → P c → All P (a ∷ b ∷ c ∷ [])
three_of P a b c x y z zero d h = x
three_of P a b c x y z (suc zero) d h = y
three_of P a b c x y z (suc (suc zero)) d h = z
three_of P a b c x y z (suc (suc (suc k))) d h = absurd (omega arith)

lines_of : (party : List ℕ) → All (λ p. p < 5) party → All (IsLineOf (Room five)) (odd_lines party)
lines_of party all zero d h = record { printable = tt; seats = none_of _; numbers = tt; head = refl }
lines_of party all (suc zero) d h = record { printable = tt; seats = none_of _; numbers = tt; head = tt }
lines_of party all (suc (suc zero)) d h = record { printable = all; seats = none_of _; numbers = tt; head = tt }
lines_of party all (suc (suc (suc zero))) d h = record { printable = one_of (λ p. p < 5) 3 (omega arith); seats = none_of _; numbers = tt; head = tt }
lines_of party all (suc (suc (suc (suc zero)))) d h = record { printable = one_of (λ p. p < 5) 4 (omega arith); seats = none_of _; numbers = tt; head = tt }
lines_of party all (suc (suc (suc (suc (suc zero))))) d h = record { printable = tt; seats = none_of _; numbers = tt; head = tt }
lines_of party all (suc (suc (suc (suc (suc (suc k)))))) d h = absurd (omega arith)

right_answer : AreAnswer (Room five) (odd_answer (codes "party 1 2 3")) (odd_lines (0 ∷ 1 ∷ 2 ∷ []))
right_answer = record { read = refl; right = lines_of (0 ∷ 1 ∷ 2 ∷ []) (three_of (λ p. p < 5) 0 1 2 (omega arith) (omega arith) (omega arith)); fitting = refl; placed = refl }

wrong_answer : AreAnswer (Room five) (odd_answer (codes "party 1 3 2")) (odd_lines (0 ∷ 2 ∷ 1 ∷ []))
wrong_answer = record { read = refl; right = lines_of (0 ∷ 2 ∷ 1 ∷ []) (three_of (λ p. p < 5) 0 2 1 (omega arith) (omega arith) (omega arith)); fitting = refl; placed = refl }

-- at a line that is no party and no end nothing is tried; at a party it is tried whether its members are new
head_holds : (parties : List (List ℕ)) (head : LineData) → party_in head ≡ None → is_end head ≡ false → (why : Reason) → PartiesHold five parties head why
head_holds parties head none open_still reason.NotPartition = (subst (λ o. IfSome o (AreNew parties)) (sym none) tt, λ e. no_end (sym open_still ∙ e))
head_holds parties head none open_still reason.NoOddParty = λ e. no_end (sym open_still ∙ e)
head_holds parties head none open_still _ = tt

party_holds : (parties : List (List ℕ)) (party : List ℕ) → AreNew parties party → (why : Reason) → PartiesHold five parties (LineData.Party party) why
party_holds parties party new reason.NotPartition = (new, λ e. no_end e)
party_holds parties party new reason.NoOddParty = λ e. no_end e
party_holds parties party new _ = tt

module _ (a b c : ℕ) (first_new : AreNew [] (a ∷ b ∷ c ∷ [])) (three_new : count_by (λ y. y == 3) (a ∷ b ∷ c ∷ 3 ∷ []) ≡ 1) (four_new : count_by (λ y. y == 4) (a ∷ b ∷ c ∷ 3 ∷ 4 ∷ []) ≡ 1) where
  new_three : AreNew ((a ∷ b ∷ c ∷ []) ∷ []) (3 ∷ [])
  new_three x (zero, h, e) = rw (sym e) three_new
  new_three x (suc k, h, e) = absurd (omega (arith, h))

  new_four : AreNew ((a ∷ b ∷ c ∷ []) ∷ (3 ∷ []) ∷ []) (4 ∷ [])
  new_four x (zero, h, e) = rw (sym e) four_new
  new_four x (suc k, h, e) = absurd (omega (arith, h))

  front_holds : AllHold (Clauses (Subject.parties five)) [] (take 5 (odd_lines (a ∷ b ∷ c ∷ [])))
  front_holds = (
    head_holds [] (LineData.Answer (HeadData.Solve None)) refl refl,
    (
      head_holds [] LineData.Nothing refl refl,
      (
        party_holds [] (a ∷ b ∷ c ∷ []) first_new,
        (party_holds ((a ∷ b ∷ c ∷ []) ∷ []) (3 ∷ []) new_three, (party_holds ((a ∷ b ∷ c ∷ []) ∷ (3 ∷ []) ∷ []) (4 ∷ []) new_four, tt)),
      ),
    ),
  )

once : AreNew [] (0 ∷ 1 ∷ 2 ∷ [])
once x (zero, h, e) = rw (sym e) refl
once x (suc zero, h, e) = rw (sym e) refl
once x (suc (suc zero), h, e) = rw (sym e) refl
once x (suc (suc (suc k)), h, e) = absurd (omega (arith, h))

once_turned : AreNew [] (0 ∷ 2 ∷ 1 ∷ [])
once_turned x (zero, h, e) = rw (sym e) refl
once_turned x (suc zero, h, e) = rw (sym e) refl
once_turned x (suc (suc zero), h, e) = rw (sym e) refl
once_turned x (suc (suc (suc k)), h, e) = absurd (omega (arith, h))

abbrev parties : (a b c : ℕ) → List (List ℕ)
parties a b c = (a ∷ b ∷ c ∷ []) ∷ (3 ∷ []) ∷ (4 ∷ []) ∷ []

whole : IsWholePartition five (parties 0 1 2)
whole = record { all = all; partition = odd_party_is.1 }
  where
    all : (x : ℕ) → x < 5 → Contains (members_of (parties 0 1 2)) x
    all zero h = (0, omega arith, refl)
    all (suc zero) h = (1, omega arith, refl)
    all (suc (suc zero)) h = (2, omega arith, refl)
    all (suc (suc (suc zero))) h = (3, omega arith, refl)
    all (suc (suc (suc (suc zero)))) h = (4, omega arith, refl)
    all (suc (suc (suc (suc (suc x))))) h = absurd (omega arith)

not_whole : ¬ IsWholePartition five (parties 0 2 1)
not_whole w = omega (arith, w.partition.prefers 0 (omega arith) (λ e. omega (arith, e)))

odd : (a b c : ℕ) → HasOddParty (parties a b c)
odd a b c = record { party = a ∷ b ∷ c ∷ []; there = (0, omega arith, refl); half = 1; three = omega arith; odd = refl }

end_holds : (why : Reason) → PartiesHold five (parties 0 1 2) LineData.End why
end_holds reason.NotPartition = (tt, λ _. whole)
end_holds reason.NoOddParty = λ _. odd 0 1 2
end_holds _ = tt

right_holds : AllHold (Clauses (Subject.parties five)) [] (odd_lines (0 ∷ 1 ∷ 2 ∷ []))
right_holds = (
  head_holds [] (LineData.Answer (HeadData.Solve None)) refl refl,
  (
    head_holds [] LineData.Nothing refl refl,
    (
      party_holds [] (0 ∷ 1 ∷ 2 ∷ []) once,
      (
        party_holds ((0 ∷ 1 ∷ 2 ∷ []) ∷ []) (3 ∷ []) (new_three 0 1 2 once refl refl),
        (party_holds ((0 ∷ 1 ∷ 2 ∷ []) ∷ (3 ∷ []) ∷ []) (4 ∷ []) (new_four 0 1 2 once refl refl), (end_holds, tt)),
      ),
    ),
  ),
)

before_last : (other : Reason) → number_of_reason other < 24 → PartiesHold five (parties 0 2 1) LineData.End other
before_last reason.NotPartition h = absurd (omega (arith, h))
before_last reason.NoOddParty h = λ _. odd 0 2 1
before_last _ h = tt

-- the party is right in one order and wrong in the other
pub odd_answers : OddAnswers
odd_answers = (
  record {
    lines = odd_lines (0 ∷ 1 ∷ 2 ∷ []);
    answer = right_answer;
    judged = all_hold (Clauses (Subject.parties five)) (odd_lines (0 ∷ 1 ∷ 2 ∷ [])) right_holds;
  },
  record {
    lines = odd_lines (0 ∷ 2 ∷ 1 ∷ []);
    answer = wrong_answer;
    judged = (
      5,
      refl,
      record {
        lines_above = λ j other h. hold_at (Clauses (Subject.parties five)) [] (take 5 (odd_lines (0 ∷ 2 ∷ 1 ∷ []))) (LineData.End ∷ []) (front_holds 0 2 1 once_turned refl refl) j other h;
        clauses_before = before_last;
        fails = λ w. not_whole (w.1 refl);
      },
    );
  },
)

-- The reviewers' best matching as the first one.
abbrev l : Lists
l = record { proposers = (0 ∷ 1 ∷ []) ∷ (1 ∷ 0 ∷ []) ∷ []; reviewers = (1 ∷ 0 ∷ []) ∷ (0 ∷ 1 ∷ []) ∷ [] }

abbrev m : Places
m = record { proposers = Some 1 ∷ Some 1 ∷ []; reviewers = Some 0 ∷ Some 0 ∷ [] }

abbrev best : Places
best = record { proposers = Some 0 ∷ Some 0 ∷ []; reviewers = Some 1 ∷ Some 1 ∷ [] }

turned_best : IsProposersBest (reversed_lists l) (reversed m)
turned_best = firsts_best (reversed_lists l) (reversed m) (matching_pass (reversed_lists l) (reversed m) refl) refl

stable : IsStable l m
stable = IsStable-reversed (IsMarket-reversed (market_pass l refl)) turned_best.stable

first_best : IsProposersBest l best
first_best = firsts_best l best (matching_pass l best refl) refl

answer_holds : (why : Reason) → RotationsHold two_by_two [] (LineData.Answer HeadData.Rotations) why
answer_holds reason.Blocked = ((λ b. no_end b.behind), tt)
answer_holds reason.NotBest = ((λ b. no_end b.behind), tt)
answer_holds reason.RotationMissing = (tt, (λ b. no_end b.behind))
answer_holds _ = (tt, tt)

first_holds : (why : Reason) → RotationsHold two_by_two (take 1 worst_first) (LineData.First 0 (first_seat_of 1)) why
first_holds reason.NotAMatching = (record { acceptable = omega arith; proposer_free = refl; seat_free = refl }, tt)
first_holds reason.Blocked = ((λ b. no_end b.behind), tt)
first_holds reason.NotBest = ((λ b. no_end b.behind), tt)
first_holds reason.RotationMissing = (tt, (λ b. no_end b.behind))
first_holds _ = (tt, tt)

second_holds : (why : Reason) → RotationsHold two_by_two (take 2 worst_first) (LineData.First 1 (first_seat_of 0)) why
second_holds reason.NotAMatching = (record { acceptable = omega arith; proposer_free = refl; seat_free = refl }, tt)
second_holds reason.Blocked = ((λ b. no_end b.behind), tt)
second_holds reason.NotBest = ((λ b. no_end b.behind), tt)
second_holds reason.RotationMissing = (tt, (λ b. no_end b.behind))
second_holds _ = (tt, tt)

before_best : (why : Reason) → number_of_reason why < 3 → RotationsHold two_by_two (take 3 worst_first) LineData.End why
before_best reason.NotAMatching h = (tt, tt)
before_best reason.Blocked h = ((λ _. stable), tt)
before_best reason.NotBest h = absurd (omega (arith, h))
before_best reason.RotationMissing h = absurd (omega (arith, h))
before_best _ h = (tt, tt)

-- the matching is stable and isn't the best, which its verdict shows
pub first_isnt_best : FirstIsntBest
first_isnt_best = (
  3,
  refl,
  record {
    lines_above = λ j other h. hold_at (RotationsHold two_by_two) [] (take 3 worst_first) (LineData.End ∷ []) (answer_holds, (first_holds, (second_holds, tt))) j other h;
    clauses_before = before_best;
    fails = λ w. fails (w.0 (record { all_above = refl; behind = refl }));
  },
)
  where
    fails : IsProposersBest l m → ⊥
    fails b = omega (arith, b.best best first_best.stable 0)
