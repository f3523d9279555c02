-- What a yes on an answer of `reduced` means.
use Rattle.std.proofs.Common.{◌≡◌, ℕ, inl, inr, arith, refl, sym, false, List, length, take, Option, Some, None, subst}
use Rattle.std.specs.Prelude.{IfSome}
use Rattle.std.specs.List.{slice_get}
use Rattle.std.proofs.lemmas.List.FromFn.{length-map-range_with_len}
use Rattle.sm_agents.specs.Written.{Written}
use Rattle.sm_market.specs.Lists.{Lists}
use Rattle.sm_market.specs.Stable.{IsProposersBest, IsReviewersBest}
use Rattle.sm_market.specs.Reduced.{reduced_row, reduced_lists_of}
use Rattle.sm_seats.specs.SeatMarket.{seat_market}
use Rattle.sm_report.specs.Heads.{HeadData}
use Rattle.sm_report.specs.Lines.{LineData}
use Rattle.sm_check_clauses.specs.declared.verdicts.Reason.TheVariants as reason
use Rattle.sm_check_forms.proofs.KeywordLayouts.{reduced_layout}
use Rattle.sm_check_clauses.specs.Said.{first_in, firsts_in, last_in, lasts_in, proposer_list_in, proposer_lists_in, reviewer_list_in, reviewer_lists_in, is_up_to_firsts, is_up_to_lasts}
use Rattle.sm_check_clauses.specs.SeatMatchings.{IsFreeSeat, seat_places_in, first_of, last_of}
use Rattle.sm_check_clauses.specs.Chain.{HasOneEach, owners, reduced_of, IsRowOf}
use Rattle.sm_check_clauses.specs.Judging.{answer, Clauses}
use Rattle.sm_cert.specs.Yes.{AreAllLists, ReducedYes}
use Rattle.sm_cert.proofs.GroupLemmas.{Begins, Parted, parted_behind, said_up, said_then, stands_behind}
use Rattle.sm_cert.proofs.SeatYes.{first_words, last_words, firsts_tell, lasts_tell, no_first, no_first_then, no_last, free_seats, each_said}
use Rattle.sm_cert.proofs.YesLines.{IsRight, right_two, at_closing, said_above, each_line}

firsts_begin : Begins first_words reduced_layout
firsts_begin = inl (refl, inr ((refl, refl), ((refl, refl), ((refl, refl), ((refl, refl), tt)))))

lasts_begin : Begins last_words reduced_layout
lasts_begin = inl (refl, inl (refl, inr ((refl, refl), ((refl, refl), ((refl, refl), tt)))))

module _ (w : Written) (lines : List LineData) (r : IsRight (answer w HeadData.Reduced) lines) (p : Parted is_up_to_lasts lines) where
  abbrev rows : List (ℕ × ℕ) → List (ℕ × ℕ) → Lists
  rows firsts lasts = reduced_lists_of (seat_market w) (seat_places_in (seat_market w) firsts) (seat_places_in (seat_market w) lasts)

  -- at a line behind the last seats the reduced lists are those between the two matchings
  rows_then : (P : Lists → Type 0) (k : ℕ) (x : LineData) → slice_get lines k ≡ Some x → is_up_to_lasts x ≡ false → P (reduced_of w (take k lines)) → P (reduced_of w lines)
  rows_then P k x e down h =
      subst (λ (lasts : List (ℕ × ℕ)). P (rows (firsts_in w lines) lasts)) (said_then p (last_in w) (no_last w) k x e down)
      (subst (λ (firsts : List (ℕ × ℕ)). P (rows firsts (lasts_in w (take k lines)))) (said_then p (first_in w) (no_first_then w) k x e down) h)

  proposer_then : (k : ℕ) (x : LineData) → slice_get lines k ≡ Some x → IfSome (proposer_list_in w x) (IsRowOf (reduced_of w (take k lines)).proposers) → IfSome (proposer_list_in w x) (IsRowOf (reduced_of w lines).proposers)
  proposer_then k (LineData.ProposerList a seats) e h =
      rows_then (λ (l : Lists). IfSome (proposer_list_in w (LineData.ProposerList a seats)) (IsRowOf l.proposers)) k (LineData.ProposerList a seats) e refl h
  proposer_then k _ e h = tt

  reviewer_then : (k : ℕ) (x : LineData) → slice_get lines k ≡ Some x → IfSome (reviewer_list_in w x) (IsRowOf (reduced_of w (take k lines)).reviewers) → IfSome (reviewer_list_in w x) (IsRowOf (reduced_of w lines).reviewers)
  reviewer_then k (LineData.ReviewerList seat proposers) e h =
      rows_then (λ (l : Lists). IfSome (reviewer_list_in w (LineData.ReviewerList seat proposers)) (IsRowOf l.reviewers)) k (LineData.ReviewerList seat proposers) e refl h
  reviewer_then k _ e h = tt

  proposer_at : (k : ℕ) → IfSome (slice_get lines k) (λ line. IfSome (proposer_list_in w line) (IsRowOf (reduced_of w lines).proposers))
  proposer_at k = go (slice_get lines k) refl (r.holds k reason.WrongList)
    where
      go : (o : Option LineData) → slice_get lines k ≡ o → IfSome o (λ line. Clauses (answer w HeadData.Reduced) (take k lines) line reason.WrongList)
          → IfSome o (λ line. IfSome (proposer_list_in w line) (IsRowOf (reduced_of w lines).proposers))
      go None e h = tt
      go (Some x) e h = proposer_then k x e h.2.proposer

  reviewer_at : (k : ℕ) → IfSome (slice_get lines k) (λ line. IfSome (reviewer_list_in w line) (IsRowOf (reduced_of w lines).reviewers))
  reviewer_at k = go (slice_get lines k) refl (r.holds k reason.WrongList)
    where
      go : (o : Option LineData) → slice_get lines k ≡ o → IfSome o (λ line. Clauses (answer w HeadData.Reduced) (take k lines) line reason.WrongList)
          → IfSome o (λ line. IfSome (reviewer_list_in w line) (IsRowOf (reduced_of w lines).reviewers))
      go None e h = tt
      go (Some x) e h = reviewer_then k x e h.2.reviewer

  long_proposers : length (reduced_of w lines).proposers ≡ length (seat_market w).proposers
  long_proposers = length-map-range_with_len (reduced_row (seat_market w).proposers (seat_market w).reviewers (last_of w lines).proposers (first_of w lines).reviewers) 0 (length (seat_market w).proposers)

  long_reviewers : length (reduced_of w lines).reviewers ≡ length (seat_market w).reviewers
  long_reviewers = length-map-range_with_len (reduced_row (seat_market w).reviewers (seat_market w).proposers (first_of w lines).reviewers (last_of w lines).proposers) 0 (length (seat_market w).reviewers)

  proposer_lists : AreAllLists (reduced_of w lines).proposers (proposer_lists_in w lines)
  proposer_lists = record {
    each = each_said (proposer_list_in w) (IsRowOf (reduced_of w lines).proposers) lines proposer_at;
    once = subst (λ (n : ℕ). HasOneEach n (owners (proposer_lists_in w lines))) (sym long_proposers)
        (subst (λ (lists : List (ℕ × List ℕ)). HasOneEach (length (seat_market w).proposers) (owners lists)) (said_above (proposer_list_in w) r refl)
        ((at_closing r reason.WrongList).2.all_proposers refl));
  }

  reviewer_lists : AreAllLists (reduced_of w lines).reviewers (reviewer_lists_in w lines)
  reviewer_lists = record {
    each = each_said (reviewer_list_in w) (IsRowOf (reduced_of w lines).reviewers) lines reviewer_at;
    once = subst (λ (n : ℕ). HasOneEach n (owners (reviewer_lists_in w lines))) (sym long_reviewers)
        (subst (λ (lists : List (ℕ × List ℕ)). HasOneEach (length (seat_market w).reviewers) (owners lists)) (said_above (reviewer_list_in w) r refl)
        ((at_closing r reason.WrongList).2.all_reviewers refl));
  }

-- the law of a yes on `reduced`
pub reduced_yes : ReducedYes
reduced_yes w lines g =
    let r = right_two {w = w} {head = HeadData.Reduced} refl g in
    let p : Parted is_up_to_firsts lines = parted_behind firsts_tell {w = w} {head = HeadData.Reduced} reduced_layout refl firsts_begin refl g in
    let q : Parted is_up_to_lasts lines = parted_behind lasts_tell {w = w} {head = HeadData.Reduced} reduced_layout refl lasts_begin refl g in
    let one = stands_behind refl r p reason.NotBest in
    let other = stands_behind refl r q reason.NotBest in
    record {
      first = first_of w lines;
      last = last_of w lines;
      first_best = subst (λ (pairs : List (ℕ × ℕ)). IsProposersBest (seat_market w) (seat_places_in (seat_market w) pairs)) (said_up p (first_in w) (no_first w)) (one.holds.0 one.first);
      last_best = subst (λ (pairs : List (ℕ × ℕ)). IsReviewersBest (seat_market w) (seat_places_in (seat_market w) pairs)) (said_up q (last_in w) (no_last w)) (other.holds.1 other.first);
      first_written = free_seats (seat_market w) (first_in w) lines
          (λ k. each_line r reason.NotAMatching {Q = λ above line. IfSome (first_in w line) (IsFreeSeat (seat_market w) (firsts_in w above))} (λ above line h. h.0) k);
      last_written = free_seats (seat_market w) (last_in w) lines
          (λ k. each_line r reason.NotAMatching {Q = λ above line. IfSome (last_in w line) (IsFreeSeat (seat_market w) (lasts_in w above))} (λ above line h. h.1) k);
      proposer_lists = proposer_lists w lines r q;
      reviewer_lists = reviewer_lists w lines r q;
    }
