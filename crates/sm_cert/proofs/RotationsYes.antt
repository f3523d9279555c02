-- What a yes on an answer of `rotations` means.
use Rattle.std.proofs.Common.{◌≡◌, ℕ, ◌<◌, ◌≤◌, inl, inr, arith, refl, sym, ap, ◌∙◌, true, List, [], ◌∷◌, ◌++◌, length, map, take, drop, get_or, Option, Some, None, IsSome, subst, length-append, ⊎_elim}
use Rattle.std.specs.Prelude.{IfSome}
use Rattle.std.specs.List.{slice_get}
use Rattle.std.proofs.lemmas.Bool.{cases_lt}
use Rattle.std.proofs.lemmas.List.{take-append-drop, get_or_append_left, get_or_push}
use Rattle.std.proofs.lemmas.List.Elements.{filter_map-append}
use Rattle.sm_agents.specs.Written.{Written}
use Rattle.sm_market.specs.Lists.{Lists, IsMarket}
use Rattle.sm_market.specs.Matching.{Places}
use Rattle.sm_market.specs.Stable.{IsProposersBest}
use Rattle.sm_theory.specs.Rotations.{IsNothingExposed, IsLowestExposed}
use Rattle.sm_theory.specs.Chains.{rotation_at, stage, IsCompleteChain, IsPrintedChain, AreNeedsOf}
use Rattle.sm_theory.proofs.Bridge.Chain.{rotation_at-push_before, rotation_at-push_new, stage_before}
use Rattle.sm_seats.specs.SeatMarket.{seat_market}
use Rattle.sm_seats.proofs.MarketLaws.{is_market}
use Rattle.sm_seats.proofs.CorrespondenceLaws.{sound_entries}
use Rattle.sm_report.specs.Heads.{HeadData}
use Rattle.sm_report.specs.Lines.{LineData}
use Rattle.sm_check_clauses.specs.declared.verdicts.Reason.{Reason}
use Rattle.sm_check_clauses.specs.declared.verdicts.Reason.TheVariants as reason
use Rattle.sm_check_forms.specs.declared.layouts.LayoutPart.{LayoutPart}
use Rattle.sm_check_forms.proofs.KeywordLayouts.{is_whole, closing, rotations_layout, opening_of}
use Rattle.sm_check_clauses.specs.Said.{first_in, firsts_in, rotation_in, rotations_in, needs_in, all_needs_in, is_up_to_firsts, is_up_to_rotations}
use Rattle.sm_check_clauses.specs.SeatMatchings.{FirstsHold, IsFreeSeat, seat_places_in, first_of}
use Rattle.sm_check_clauses.specs.Chain.{ChainHolds, reached, last_rotation}
use Rattle.sm_check_forms.specs.Seats.{all_numbered}
use Rattle.sm_check_clauses.specs.Judging.{Subject, answer, Clauses}
use Rattle.sm_check_weight.proofs.NeedsLemmas.{needs_of_all}
use Rattle.sm_cert.specs.Yes.{ArePairsOf, RotationsYes}
use Rattle.sm_cert.proofs.GroupLemmas.{AllOut, Begins, Parted, parted_behind, said_up, said_then, stands_behind}
use Rattle.sm_cert.proofs.SeatYes.{first_words, firsts_tell, no_first, free_seats}
use Rattle.sm_cert.proofs.RotationLines.{rotation_words, rotations_tell, first_up, rotation_up, Kind, Spot, Turns, turns, turns_from}
use Rattle.sm_cert.proofs.YesLines.{IsRight, by_head, right_two, each_line, grown}

firsts_begin : Begins first_words rotations_layout
firsts_begin = inl (refl, inr (((refl, refl), (refl, refl), (refl, refl), (refl, refl)), ((refl, refl), tt)))

rotations_begin : Begins rotation_words rotations_layout
rotations_begin = inl (refl, inl ((refl, refl, refl, refl), inr ((refl, refl), tt)))

-- Each rotation is the next one at its turn.
module _ (l : Lists) (first : Places) where
  abbrev AllLowest : List (List (ℕ × ℕ)) → Type 0
  AllLowest rotations = (k : ℕ) → k < length rotations → IsLowestExposed l (stage l first rotations k) (rotation_at rotations k)

  abbrev IsNextLowest : List (List (ℕ × ℕ)) → List (ℕ × ℕ) → Type 0
  IsNextLowest rotations x = IsLowestExposed l (stage l first rotations (length rotations)) x

  one_lowest : (rotations : List (List (ℕ × ℕ))) (x : List (ℕ × ℕ)) → AllLowest rotations → IsNextLowest rotations x → AllLowest (rotations ++ x ∷ [])
  one_lowest rotations x all h k less =
      let long = length-append rotations (x ∷ []) in
      ⊎_elim
      (λ (below : k < length rotations).
      subst (λ (y : List (ℕ × ℕ)). IsLowestExposed l (stage l first (rotations ++ x ∷ []) k) y) (sym (rotation_at-push_before rotations x k below))
      (subst (λ (m : Places). IsLowestExposed l m (rotation_at rotations k)) (sym (stage_before l first rotations x k (omega arith))) (all k below)))
      (λ (past : length rotations ≤ k).
      let e : k ≡ length rotations = omega arith in
      subst (λ (y : List (ℕ × ℕ)). IsLowestExposed l (stage l first (rotations ++ x ∷ []) k) y) (sym (rotation_at-push_new rotations x k e))
      (subst (λ (m : Places). IsLowestExposed l m x) (sym (stage_before l first rotations x k (omega arith)))
      (subst (λ (n : ℕ). IsLowestExposed l (stage l first rotations n) x) (sym e) h)))
      (cases_lt k (length rotations))

  abbrev AllNeeds : List (List (ℕ × ℕ)) → List (List ℕ) → Type 0
  AllNeeds rotations all = (j : ℕ) → j < length all → AreNeedsOf l rotations j (get_or all j [])

  one_needs : (rotations : List (List (ℕ × ℕ))) (all : List (List ℕ)) (needs : List ℕ) → AllNeeds rotations all → AreNeedsOf l rotations (length all) needs → AllNeeds rotations (all ++ needs ∷ [])
  one_needs rotations all needs h n j less =
      let long = length-append all (needs ∷ []) in
      ⊎_elim
      (λ (below : j < length all). subst (AreNeedsOf l rotations j) (sym (get_or_append_left all (needs ∷ []) [] j below)) (h j below))
      (λ (past : length all ≤ j).
      let e : length all ≡ j = omega arith in
      subst (AreNeedsOf l rotations j) (sym (get_or_push all needs [] j e)) (subst (λ (i : ℕ). AreNeedsOf l rotations i needs) e n))
      (cases_lt j (length all))

-- The chain of an answer whose clauses are those of a chain.
pub record IsGround (w : Written) (lines : List LineData) : Type 0 where
  pub chain : IsPrintedChain (seat_market w) (first_of w lines) (rotations_in w lines)
  pub one_each : length (all_needs_in lines) ≡ length (rotations_in w lines)
  pub needs : (j : ℕ) → j < length (rotations_in w lines) → AreNeedsOf (seat_market w) (rotations_in w lines) j (get_or (all_needs_in lines) j [])

-- the clauses of such an answer tell of its first seats and of its chain
abbrev pub HasChain : Written → Subject → Type 0
HasChain w subject = (above : List LineData) (line : LineData) (why : Reason) → Clauses subject above line why → FirstsHold w above line why × ChainHolds w above line why

module _ {subject : Subject} {lines : List LineData} (w : Written) (r : IsRight subject lines) (has : HasChain w subject) (p : Parted is_up_to_firsts lines) where
  next_then : (k : ℕ) (x : LineData) → slice_get lines k ≡ Some x → IfSome (rotation_in w x) (IsLowestExposed (seat_market w) (reached w (take k lines)))
      → IfSome (rotation_in w x) (IsNextLowest (seat_market w) (first_of w lines) (rotations_in w (take k lines)))
  next_then k (LineData.Rotation i pairs) e h =
      subst (λ (firsts : List (ℕ × ℕ)). IsNextLowest (seat_market w) (seat_places_in (seat_market w) firsts) (rotations_in w (take k lines)) (all_numbered w pairs))
      (said_then p (first_in w) (no_first w) k (LineData.Rotation i pairs) e refl) h
  next_then k _ e h = tt

  next_at : (k : ℕ) → IfSome (slice_get lines k) (λ line. IfSome (rotation_in w line) (IsNextLowest (seat_market w) (first_of w lines) (rotations_in w (take k lines))))
  next_at k = go (slice_get lines k) refl (r.holds k reason.NotExposed)
    where
      go : (o : Option LineData) → slice_get lines k ≡ o → IfSome o (λ line. Clauses subject (take k lines) line reason.NotExposed)
          → IfSome o (λ line. IfSome (rotation_in w line) (IsNextLowest (seat_market w) (first_of w lines) (rotations_in w (take k lines))))
      go None e h = tt
      go (Some x) e h = next_then k x e (has (take k lines) x reason.NotExposed h).1

  lowest : AllLowest (seat_market w) (first_of w lines) (rotations_in w lines)
  lowest = grown (rotation_in w) (AllLowest (seat_market w) (first_of w lines)) (IsNextLowest (seat_market w) (first_of w lines)) lines (λ k less. absurd (omega arith))
      (one_lowest (seat_market w) (first_of w lines)) next_at

  -- the first seats that are said are the pairs of their matching
  pub first_written : ArePairsOf (seat_market w).proposers (first_of w lines).proposers (firsts_in w lines)
  first_written = free_seats (seat_market w) (first_in w) lines
      (λ k. each_line r reason.NotAMatching {Q = λ above line. IfSome (first_in w line) (IsFreeSeat (seat_market w) (firsts_in w above))} (λ above line h. (has above line reason.NotAMatching h).0) k)

  module _ (q : Parted is_up_to_rotations lines) where
    complete : IsNothingExposed (seat_market w) (reached w lines)
    complete =
        let other = stands_behind refl r q reason.RotationMissing in
        subst (λ (rotations : List (List (ℕ × ℕ))). IsNothingExposed (seat_market w) (stage (seat_market w) (first_of w lines) rotations (length rotations))) (said_up q (rotation_in w) (rotation_up w))
        (subst (λ (firsts : List (ℕ × ℕ)). IsNothingExposed (seat_market w) (stage (seat_market w) (seat_places_in (seat_market w) firsts) (rotations_in w q.above) (length (rotations_in w q.above))))
        (said_up q (first_in w) (first_up w)) ((has q.above other.line reason.RotationMissing other.holds).1 other.first))

    printed : IsPrintedChain (seat_market w) (first_of w lines) (rotations_in w lines)
    printed =
        let one = stands_behind refl r p reason.NotBest in
        let none = complete in
        record {
          chain = record {
            from_best = subst (λ (pairs : List (ℕ × ℕ)). IsProposersBest (seat_market w) (seat_places_in (seat_market w) pairs)) (said_up p (first_in w) (no_first w))
                ((has p.above one.line reason.NotBest one.holds).0 one.first);
            exposed = λ k less. (lowest k less).exposed;
            complete = none.none;
          };
          lowest = lowest;
        }

    module _ (market : IsMarket (seat_market w)) (rest : List LayoutPart) (out : AllOut rotation_words rest) (t : Turns w rest out [] lines) where
      abbrev IsNextNeeds : List (List ℕ) → List ℕ → Type 0
      IsNextNeeds all needs = AreNeedsOf (seat_market w) (rotations_in w lines) (length all) needs

      needs_then : (k : ℕ) (x : LineData) → slice_get lines k ≡ Some x → (needs : List ℕ) → needs_in x ≡ Some needs → AreNeedsOf (seat_market w) (rotations_in w (take k lines)) (last_rotation w (take k lines)) needs
          → IsNextNeeds (all_needs_in (take k lines)) needs
      needs_then k x e needs some n =
          let one = t.at k x e (subst IsSome (sym some) refl) in
          let j : last_rotation w (take k lines) ≡ length (all_needs_in (take k lines)) = omega arith in
          let parts : rotations_in w lines ≡ rotations_in w (take k lines) ++ rotations_in w (drop k lines) =
          ap (rotations_in w) (sym (take-append-drop k lines)) ∙ filter_map-append (rotation_in w) (take k lines) (drop k lines) in
          let chain = printed in
          subst (λ (i : ℕ). AreNeedsOf (seat_market w) (rotations_in w lines) i needs) j
          (subst (λ (rotations : List (List (ℕ × ℕ))). AreNeedsOf (seat_market w) rotations (last_rotation w (take k lines)) needs) (sym parts)
          (needs_of_all (seat_market w) (first_of w lines) market (rotations_in w (take k lines)) (rotations_in w (drop k lines)) (last_rotation w (take k lines)) needs
          (subst (IsCompleteChain (seat_market w) (first_of w lines)) parts chain.chain) (omega arith) n))

      needs_at : (k : ℕ) → IfSome (slice_get lines k) (λ line. IfSome (needs_in line) (IsNextNeeds (all_needs_in (take k lines))))
      needs_at k = go (slice_get lines k) refl (r.holds k reason.WrongNeeds)
        where
          by_needs : (x : LineData) → slice_get lines k ≡ Some x → (o : Option (List ℕ)) → needs_in x ≡ o
              → IfSome o (AreNeedsOf (seat_market w) (rotations_in w (take k lines)) (last_rotation w (take k lines))) → IfSome o (IsNextNeeds (all_needs_in (take k lines)))
          by_needs x e None some h = tt
          by_needs x e (Some needs) some h = needs_then k x e needs some h

          go : (o : Option LineData) → slice_get lines k ≡ o → IfSome o (λ line. Clauses subject (take k lines) line reason.WrongNeeds) → IfSome o (λ line. IfSome (needs_in line) (IsNextNeeds (all_needs_in (take k lines))))
          go None e h = tt
          go (Some x) e h = by_needs x e (needs_in x) refl (has (take k lines) x reason.WrongNeeds h).1

      -- the chain and the needs that are said are those of the market of seats
      pub ground : IsGround w lines
      ground =
          let all = grown needs_in (AllNeeds (seat_market w) (first_of w lines) (rotations_in w lines)) IsNextNeeds lines (λ j less. absurd (omega arith))
          (one_needs (seat_market w) (first_of w lines) (rotations_in w lines)) needs_at in
          record { chain = printed; one_each = t.all; needs = λ j less. all j (let same = t.all in omega arith) }

closing_out : AllOut rotation_words closing
closing_out = ((refl, refl), tt)

-- behind the head
turns_behind : (w : Written) (rest : List LineData) → is_whole (rotations_layout ∷ []) (map opening_of rest) ≡ true → Turns w closing closing_out [] (LineData.Answer HeadData.Rotations ∷ rest)
turns_behind w rest placed =
    turns_from w closing closing_out (LineData.Answer HeadData.Rotations) refl refl refl
    (turns w closing closing_out Kind.bare Spot.firsts (LineData.Answer HeadData.Rotations ∷ []) rest placed refl)

-- the law of a yes on `rotations`
pub rotations_yes : RotationsYes
rotations_yes w lines i g =
    let r = right_two {w = w} {head = HeadData.Rotations} refl g in
    let p : Parted is_up_to_firsts lines = parted_behind firsts_tell {w = w} {head = HeadData.Rotations} rotations_layout refl firsts_begin refl g in
    let q : Parted is_up_to_rotations lines = parted_behind rotations_tell {w = w} {head = HeadData.Rotations} rotations_layout refl rotations_begin refl g in
    let has : HasChain w (answer w HeadData.Rotations) = λ above line why h. h in
    let made = ground w r has p q (is_market (sound_entries i)) closing closing_out (by_head (Turns w closing closing_out []) g (λ rest placed _. turns_behind w rest placed)) in
    record {
      first = first_of w lines;
      first_written = first_written w r has p;
      chain = made.chain;
      one_each = made.one_each;
      needs = made.needs;
    }
