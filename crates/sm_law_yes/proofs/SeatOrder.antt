-- The order of seats and of lists says nothing in an answer of `rotations` and of `reduced`.
use Rattle.std.proofs.Common.{◌≡◌, ℕ, ◌+◌, ◌-◌, ◌==◌, ◌||◌, arith, refl, sym, ap, ap₂, ◌∙◌, cond, true, false, List, [], ◌∷◌, ◌++◌, length, Option, None, subst}
use Rattle.std.specs.Prelude.{IfSome, filter_map, count_by}
use Rattle.std.specs.List.{list_all}
use Rattle.std.specs.Option.{is_some}
use Rattle.std.proofs.lemmas.Bool.{false≢true}
use Rattle.std.proofs.lemmas.List.{map-append}
use Rattle.std.proofs.lemmas.List.Sums.{sum_by-append}
use Rattle.std.proofs.lemmas.List.Elements.{filter_map-append}
use Rattle.sm_agents.specs.Written.{Written}
use Rattle.sm_market.specs.Lists.{Lists}
use Rattle.sm_market.specs.Matching.{Places}
use Rattle.sm_market.specs.Reduced.{reduced_lists_of}
use Rattle.sm_market.specs.Stable.{IsStable, IsProposersBest, IsReviewersBest}
use Rattle.sm_theory.specs.Rotations.{IsNothingExposed, IsLowestExposed}
use Rattle.sm_theory.specs.Chains.{stage, AreNeedsOf}
use Rattle.sm_seats.specs.SeatMarket.{seat_market}
use Rattle.sm_report.specs.Heads.{HeadData}
use Rattle.sm_report.specs.Lines.{LineData}
use Rattle.sm_report.specs.declared.keywords.Keyword.{Keyword}
use Rattle.sm_report.specs.declared.keywords.Keyword.TheVariants as keyword
use Rattle.sm_report.specs.Keywords.{keyword_of}
use Rattle.sm_check_forms.specs.Keywords.{is_same}
use Rattle.sm_check_clauses.specs.declared.verdicts.Reason.{Reason}
use Rattle.sm_check_clauses.specs.declared.verdicts.Reason.TheVariants as reason
use Rattle.sm_check_clauses.specs.Said.{first_in, firsts_in, last_in, lasts_in, rotation_in, rotations_in, needs_in, proposer_list_in, reviewer_list_in, is_up_to_firsts, is_up_to_lasts, is_up_to_rotations}
use Rattle.sm_check_clauses.specs.SeatMatchings.{IsFreeSeat, seat_places_in, first_of, last_of, FirstsHold, LastsHold}
use Rattle.sm_check_clauses.specs.Chain.{owners, reduced_of, IsRowOf, ListsHold, reached, last_rotation, ChainHolds}
use Rattle.sm_check_clauses.specs.Judging.{answer, Clauses}
use Rattle.sm_check_clauses.proofs.AnswerLemmas.{said_same}
use Rattle.sm_law_yes.specs.Reordered.{is_free}
use Rattle.sm_law_yes.proofs.Exchanges.{Exchanges, SeesNoOrder}
use Rattle.sm_law_yes.proofs.SamePairs.{AreSamePairs, same_seat_places, free_seat_same}
use Rattle.sm_law_yes.proofs.SaidOrder.{if_said, not_closing, unsaid, unsaid_more, seats_freely, pairs_more, IsExchanged, exchanged_said, alike_said, up_more, up_exchanged, behind_same, behind_first, behind_second}

-- Lines by their keywords.
module _ (w : Written) where
  has_first : (x : LineData) → is_some (first_in w x) ≡ is_same (keyword_of x) keyword.First
  has_first (LineData.First p seat) = refl
  has_first _ = refl

  has_last : (x : LineData) → is_some (last_in w x) ≡ is_same (keyword_of x) keyword.Last
  has_last (LineData.Last p seat) = refl
  has_last _ = refl

  -- a free line says no rotation
  pub no_rotation : (x : LineData) → is_free (keyword_of x) ≡ true → rotation_in w x ≡ None
  no_rotation (LineData.Rotation i pairs) f = absurd (false≢true f)
  no_rotation _ f = refl

-- nor what one needs
pub no_needs : (x : LineData) → is_free (keyword_of x) ≡ true → needs_in x ≡ None
no_needs (LineData.Needs i needed) f = absurd (false≢true f)
no_needs _ f = refl

-- a free line is up to the first seats, to the last ones or to the rotations by its keyword
up_first : (x : LineData) → is_free (keyword_of x) ≡ true → is_up_to_firsts x ≡ is_same (keyword_of x) keyword.First
up_first (LineData.Answer head) f = absurd (false≢true f)
up_first _ f = refl

up_last : (x : LineData) → is_free (keyword_of x) ≡ true → is_up_to_lasts x ≡ (is_same (keyword_of x) keyword.First || is_same (keyword_of x) keyword.Last)
up_last (LineData.Answer head) f = absurd (false≢true f)
up_last _ f = refl

up_rotation : (x : LineData) → is_free (keyword_of x) ≡ true → is_up_to_rotations x ≡ is_same (keyword_of x) keyword.First
up_rotation (LineData.Answer head) f = absurd (false≢true f)
up_rotation (LineData.Rotation i pairs) f = absurd (false≢true f)
up_rotation (LineData.Needs i needed) f = absurd (false≢true f)
up_rotation (LineData.Gain i gain) f = absurd (false≢true f)
up_rotation (LineData.SecondGain i gain) f = absurd (false≢true f)
up_rotation _ f = refl

module _ (x y : LineData) (e : keyword_of x ≡ keyword_of y) (f : is_free (keyword_of x) ≡ true) where
  -- the other line is free too
  pub free_too : is_free (keyword_of y) ≡ true
  free_too = ap is_free (sym e) ∙ f

  same_up_first : is_up_to_firsts x ≡ is_up_to_firsts y
  same_up_first = up_first x f ∙ ap (λ (k : Keyword). is_same k keyword.First) e ∙ sym (up_first y free_too)

  same_up_last : is_up_to_lasts x ≡ is_up_to_lasts y
  same_up_last = up_last x f ∙ ap (λ (k : Keyword). is_same k keyword.First || is_same k keyword.Last) e ∙ sym (up_last y free_too)

  same_up_rotation : is_up_to_rotations x ≡ is_up_to_rotations y
  same_up_rotation = up_rotation x f ∙ ap (λ (k : Keyword). is_same k keyword.First) e ∙ sym (up_rotation y free_too)

-- First seats.
module _ (w : Written) where
  abbrev pub l : Lists
  l = seat_market w

  -- as much is read of the first seats
  pub record AreFirstsAlike (a b : List LineData) : Type 0 where
    pub pairs : AreSamePairs (firsts_in w a) (firsts_in w b)
    pub ups : list_all is_up_to_firsts a ≡ list_all is_up_to_firsts b

  pub firsts_more : (a b : List LineData) (z : LineData) → AreFirstsAlike a b → AreFirstsAlike (a ++ z ∷ []) (b ++ z ∷ [])
  firsts_more a b z s = record { pairs = pairs_more (first_in w) a b z s.pairs; ups = up_more is_up_to_firsts a b z s.ups }

  pub same_first : (a b : List LineData) → AreFirstsAlike a b → first_of w a ≡ first_of w b
  same_first a b s = same_seat_places l s.pairs

  pub firsts_carry : (a b : List LineData) (z : LineData) (why : Reason) → AreFirstsAlike a b → FirstsHold w a z why → FirstsHold w b z why
  firsts_carry a b z reason.NotAMatching s h = if_said (first_in w z) (λ x f. free_seat_same s.pairs f) h
  firsts_carry a b z reason.Blocked s h = λ c. subst (IsStable l) (same_first a b s) (h (behind_same is_up_to_firsts a b z s.ups c))
  firsts_carry a b z reason.NotBest s h = λ c. subst (IsProposersBest l) (same_first a b s) (h (behind_same is_up_to_firsts a b z s.ups c))
  firsts_carry a b z _ s h = tt

  -- the clauses on first seats hold at two lines in the other order
  pub firsts_exchange : (above : List LineData) (x y : LineData) → keyword_of x ≡ keyword_of y → is_free (keyword_of x) ≡ true → ((why : Reason) → FirstsHold w above x why) → ((why : Reason) → FirstsHold w (above ++ x ∷ []) y why)
      → Exchanges (FirstsHold w) AreFirstsAlike above x y
  firsts_exchange above x y e f hx hy = record { first = first; second = second; alike = record { pairs = t.alike; ups = up_exchanged is_up_to_firsts above x y } }
    where
      t : IsExchanged (first_in w) (IsFreeSeat l) AreSamePairs above x y
      t = exchanged_said (first_in w) (seats_freely l) above x y (alike_said (first_in w) keyword.First (has_first w) x y e) (hx reason.NotAMatching) (hy reason.NotAMatching)

      same : is_up_to_firsts x ≡ is_up_to_firsts y
      same = same_up_first x y e f

      first : (why : Reason) → FirstsHold w above y why
      first reason.NotAMatching = t.first
      first reason.Blocked = λ c. hx reason.Blocked (behind_first is_up_to_firsts above x y same c)
      first reason.NotBest = λ c. hx reason.NotBest (behind_first is_up_to_firsts above x y same c)
      first _ = tt

      second : (why : Reason) → FirstsHold w (above ++ y ∷ []) x why
      second reason.NotAMatching = t.second
      second reason.Blocked = λ c. behind_second is_up_to_firsts above x y same c
      second reason.NotBest = λ c. behind_second is_up_to_firsts above x y same c
      second _ = tt

-- `rotations`.
module _ (w : Written) where
  -- as much is read of the first seats and of the rotations
  pub record AreChainsAlike (a b : List LineData) : Type 0 where
    pub firsts : AreFirstsAlike w a b
    pub rotations : rotations_in w a ≡ rotations_in w b
    pub ups : list_all is_up_to_rotations a ≡ list_all is_up_to_rotations b

  same_reached : (a b : List LineData) → AreChainsAlike a b → reached w a ≡ reached w b
  same_reached a b s = ap₂ (λ (m : Places) (xs : List (List (ℕ × ℕ))). stage (seat_market w) m xs (length xs)) (same_first w a b s.firsts) s.rotations

  pub chain_carries : (a b : List LineData) (z : LineData) (why : Reason) → AreChainsAlike a b → ChainHolds w a z why → ChainHolds w b z why
  chain_carries a b z reason.NotExposed s h = if_said (rotation_in w z) (λ x f. subst (λ (m : Places). IsLowestExposed (seat_market w) m x) (same_reached a b s) f) h
  chain_carries a b z reason.RotationMissing s h = λ c. subst (IsNothingExposed (seat_market w)) (same_reached a b s) (h (behind_same is_up_to_rotations a b z s.ups c))
  chain_carries a b z reason.WrongNeeds s h =
      if_said (needs_in z) (λ x f. subst (λ (xs : List (List (ℕ × ℕ))). AreNeedsOf (seat_market w) xs (length xs - 1) x) s.rotations f) h
  chain_carries a b z _ s h = tt

  module _ (above : List LineData) (x y : LineData) (e : keyword_of x ≡ keyword_of y) (f : is_free (keyword_of x) ≡ true) (hx : (why : Reason) → ChainHolds w above x why) where
    -- and so do those on the chain: at the second line where the first was
    pub chain_first : (why : Reason) → ChainHolds w above y why
    chain_first reason.NotExposed = subst (λ o. IfSome o (IsLowestExposed (seat_market w) (reached w above))) (sym (no_rotation w y (free_too x y e f))) tt
    chain_first reason.RotationMissing = λ c. hx reason.RotationMissing (behind_first is_up_to_rotations above x y (same_up_rotation x y e f) c)
    chain_first reason.WrongNeeds = subst (λ o. IfSome o (AreNeedsOf (seat_market w) (rotations_in w above) (last_rotation w above))) (sym (no_needs y (free_too x y e f))) tt
    chain_first _ = tt

    -- and at the first line behind it
    pub chain_second : (why : Reason) → ChainHolds w (above ++ y ∷ []) x why
    chain_second reason.NotExposed = subst (λ o. IfSome o (IsLowestExposed (seat_market w) (reached w (above ++ y ∷ [])))) (sym (no_rotation w x f)) tt
    chain_second reason.RotationMissing = λ c. behind_second is_up_to_rotations above x y (same_up_rotation x y e f) c
    chain_second reason.WrongNeeds = subst (λ o. IfSome o (AreNeedsOf (seat_market w) (rotations_in w (above ++ y ∷ [])) (last_rotation w (above ++ y ∷ [])))) (sym (no_needs x f)) tt
    chain_second _ = tt

  -- the order of first seats in `rotations`
  pub rotations_order : SeesNoOrder (Clauses (answer w HeadData.Rotations)) AreChainsAlike
  rotations_order = record {
    carries = λ a b z why s h. (firsts_carry w a b z why s.firsts h.0, chain_carries a b z why s h.1);
    more = λ a b z s. record {
      firsts = firsts_more w a b z s.firsts;
      rotations = unsaid_more (rotation_in w) a b z s.rotations;
      ups = up_more is_up_to_rotations a b z s.ups;
    };
    exchanges = λ above x y e f hx hy.
        let t = firsts_exchange w above x y e f (λ why. (hx why).0) (λ why. (hy why).0) in
        record {
          first = λ why. (t.first why, chain_first above x y e f (λ other. (hx other).1) why);
          second = λ why. (t.second why, chain_second above x y e f (λ other. (hx other).1) why);
          alike = record {
            firsts = t.alike;
            rotations = unsaid (rotation_in w) above x y (no_rotation w x f) (no_rotation w y (free_too x y e f));
            ups = up_exchanged is_up_to_rotations above x y;
          };
        };
  }

-- `reduced`.

-- as many lists of each owner
abbrev pub times : (LineData → Option (ℕ × List ℕ)) → List LineData → ℕ → ℕ
times said lines k = count_by (λ (y : ℕ). y == k) (owners (filter_map said lines))

times_behind : (said : LineData → Option (ℕ × List ℕ)) (xs ys : List LineData) (k : ℕ) → times said (xs ++ ys) k ≡ times said xs k + times said ys k
times_behind said xs ys k =
    ap (λ (lists : List (ℕ × List ℕ)). count_by (λ (y : ℕ). y == k) (owners lists)) (filter_map-append said xs ys)
    ∙ ap (λ (ns : List ℕ). count_by (λ (y : ℕ). y == k) ns) (map-append (λ (list : ℕ × List ℕ). list.0) (filter_map said xs) (filter_map said ys))
    ∙ sum_by-append (λ (y : ℕ). cond (y == k) 1 0) (owners (filter_map said xs)) (owners (filter_map said ys))

times_more : (said : LineData → Option (ℕ × List ℕ)) (a b : List LineData) (z : LineData) → ((k : ℕ) → times said a k ≡ times said b k) → (k : ℕ) → times said (a ++ z ∷ []) k ≡ times said (b ++ z ∷ []) k
times_more said a b z e k = times_behind said a (z ∷ []) k ∙ ap (λ n. n + times said (z ∷ []) k) (e k) ∙ sym (times_behind said b (z ∷ []) k)

times_exchanged : (said : LineData → Option (ℕ × List ℕ)) (above : List LineData) (x y : LineData) (k : ℕ) → times said ((above ++ x ∷ []) ++ y ∷ []) k ≡ times said ((above ++ y ∷ []) ++ x ∷ []) k
times_exchanged said above x y k =
    let a = times_behind said (above ++ x ∷ []) (y ∷ []) k in
    let b = times_behind said above (x ∷ []) k in
    let c = times_behind said (above ++ y ∷ []) (x ∷ []) k in
    let d = times_behind said above (y ∷ []) k in
    omega (arith, a, b, c, d)

module _ (w : Written) where
  -- as much is read of the seats and of the lists
  pub record AreListsAlike (a b : List LineData) : Type 0 where
    pub firsts : AreFirstsAlike w a b
    pub lasts : AreSamePairs (lasts_in w a) (lasts_in w b)
    pub ups : list_all is_up_to_lasts a ≡ list_all is_up_to_lasts b
    pub proposers : (k : ℕ) → times (proposer_list_in w) a k ≡ times (proposer_list_in w) b k
    pub reviewers : (k : ℕ) → times (reviewer_list_in w) a k ≡ times (reviewer_list_in w) b k

  same_last : (a b : List LineData) → AreListsAlike a b → last_of w a ≡ last_of w b
  same_last a b s = same_seat_places (seat_market w) s.lasts

  same_reduced : (a b : List LineData) → AreListsAlike a b → reduced_of w a ≡ reduced_of w b
  same_reduced a b s = ap₂ (reduced_lists_of (seat_market w)) (same_first w a b s.firsts) (same_last a b s)

  lasts_carry : (a b : List LineData) (z : LineData) (why : Reason) → AreListsAlike a b → LastsHold w a z why → LastsHold w b z why
  lasts_carry a b z reason.NotAMatching s h = if_said (last_in w z) (λ x f. free_seat_same s.lasts f) h
  lasts_carry a b z reason.Blocked s h = λ c. subst (IsStable (seat_market w)) (same_last a b s) (h (behind_same is_up_to_lasts a b z s.ups c))
  lasts_carry a b z reason.NotBest s h = λ c. subst (IsReviewersBest (seat_market w)) (same_last a b s) (h (behind_same is_up_to_lasts a b z s.ups c))
  lasts_carry a b z _ s h = tt

  lists_carry : (a b : List LineData) (z : LineData) (why : Reason) → AreListsAlike a b → ListsHold w a z why → ListsHold w b z why
  lists_carry a b z reason.WrongList s h = record {
    proposer = if_said (proposer_list_in w z) (λ x f. subst (λ (m : Lists). IsRowOf m.proposers x) (same_reduced a b s) f) h.proposer;
    reviewer = if_said (reviewer_list_in w z) (λ x f. subst (λ (m : Lists). IsRowOf m.reviewers x) (same_reduced a b s) f) h.reviewer;
    all_proposers = λ e k less. sym (s.proposers k) ∙ h.all_proposers e k less;
    all_reviewers = λ e k less. sym (s.reviewers k) ∙ h.all_reviewers e k less;
  }
  lists_carry a b z _ s h = tt

  module _ (above : List LineData) (x y : LineData) (e : keyword_of x ≡ keyword_of y) (f : is_free (keyword_of x) ≡ true) where
    module _ (hx : (why : Reason) → LastsHold w above x why) (hy : (why : Reason) → LastsHold w (above ++ x ∷ []) y why) where
      lasts_exchanged : IsExchanged (last_in w) (IsFreeSeat (seat_market w)) AreSamePairs above x y
      lasts_exchanged = exchanged_said (last_in w) (seats_freely (seat_market w)) above x y (alike_said (last_in w) keyword.Last (has_last w) x y e) (hx reason.NotAMatching) (hy reason.NotAMatching)

      lasts_first : (why : Reason) → LastsHold w above y why
      lasts_first reason.NotAMatching = let t = lasts_exchanged in t.first
      lasts_first reason.Blocked = λ c. hx reason.Blocked (behind_first is_up_to_lasts above x y (same_up_last x y e f) c)
      lasts_first reason.NotBest = λ c. hx reason.NotBest (behind_first is_up_to_lasts above x y (same_up_last x y e f) c)
      lasts_first _ = tt

      lasts_second : (why : Reason) → LastsHold w (above ++ y ∷ []) x why
      lasts_second reason.NotAMatching = let t = lasts_exchanged in t.second
      lasts_second reason.Blocked = λ c. behind_second is_up_to_lasts above x y (same_up_last x y e f) c
      lasts_second reason.NotBest = λ c. behind_second is_up_to_lasts above x y (same_up_last x y e f) c
      lasts_second _ = tt

  -- a line with a list says no seat, so the reduced lists stay
  no_first_by : (k : Keyword) → is_same k keyword.First ≡ false → (x : LineData) → keyword_of x ≡ k → first_in w x ≡ None
  no_first_by k other (LineData.First p seat) e = absurd (false≢true (sym other ∙ ap (λ (j : Keyword). is_same j keyword.First) (sym e)))
  no_first_by k other _ e = refl

  no_last_by : (k : Keyword) → is_same k keyword.Last ≡ false → (x : LineData) → keyword_of x ≡ k → last_in w x ≡ None
  no_last_by k other (LineData.Last p seat) e = absurd (false≢true (sym other ∙ ap (λ (j : Keyword). is_same j keyword.Last) (sym e)))
  no_last_by k other _ e = refl

  still_reduced : (above : List LineData) (k : Keyword) → is_same k keyword.First ≡ false → is_same k keyword.Last ≡ false → (x : LineData) → keyword_of x ≡ k → reduced_of w (above ++ x ∷ []) ≡ reduced_of w above
  still_reduced above k a b x e =
      ap₂ (λ (firsts lasts : List (ℕ × ℕ)). reduced_lists_of (seat_market w) (seat_places_in (seat_market w) firsts) (seat_places_in (seat_market w) lasts))
      (said_same (first_in w) above x (no_first_by k a x e)) (said_same (last_in w) above x (no_last_by k b x e))

  proposer_first : (above : List LineData) (x y : LineData) → keyword_of x ≡ keyword_of y → IfSome (proposer_list_in w y) (IsRowOf (reduced_of w (above ++ x ∷ [])).proposers) → IfSome (proposer_list_in w y) (IsRowOf (reduced_of w above).proposers)
  proposer_first above x (LineData.ProposerList p seats) e h =
      subst (λ (m : Lists). IfSome (proposer_list_in w (LineData.ProposerList p seats)) (IsRowOf m.proposers)) (still_reduced above keyword.Proposer refl refl x e) h
  proposer_first above x _ e h = tt

  proposer_second : (above : List LineData) (x y : LineData) → keyword_of x ≡ keyword_of y → IfSome (proposer_list_in w x) (IsRowOf (reduced_of w above).proposers) → IfSome (proposer_list_in w x) (IsRowOf (reduced_of w (above ++ y ∷ [])).proposers)
  proposer_second above (LineData.ProposerList p seats) y e h =
      subst (λ (m : Lists). IfSome (proposer_list_in w (LineData.ProposerList p seats)) (IsRowOf m.proposers)) (sym (still_reduced above keyword.Proposer refl refl y (sym e))) h
  proposer_second above _ y e h = tt

  reviewer_first : (above : List LineData) (x y : LineData) → keyword_of x ≡ keyword_of y → IfSome (reviewer_list_in w y) (IsRowOf (reduced_of w (above ++ x ∷ [])).reviewers) → IfSome (reviewer_list_in w y) (IsRowOf (reduced_of w above).reviewers)
  reviewer_first above x (LineData.ReviewerList seat proposers) e h =
      subst (λ (m : Lists). IfSome (reviewer_list_in w (LineData.ReviewerList seat proposers)) (IsRowOf m.reviewers)) (still_reduced above keyword.Reviewer refl refl x e) h
  reviewer_first above x _ e h = tt

  reviewer_second : (above : List LineData) (x y : LineData) → keyword_of x ≡ keyword_of y → IfSome (reviewer_list_in w x) (IsRowOf (reduced_of w above).reviewers) → IfSome (reviewer_list_in w x) (IsRowOf (reduced_of w (above ++ y ∷ [])).reviewers)
  reviewer_second above (LineData.ReviewerList seat proposers) y e h =
      subst (λ (m : Lists). IfSome (reviewer_list_in w (LineData.ReviewerList seat proposers)) (IsRowOf m.reviewers)) (sym (still_reduced above keyword.Reviewer refl refl y (sym e))) h
  reviewer_second above _ y e h = tt

  module _ (above : List LineData) (x y : LineData) (e : keyword_of x ≡ keyword_of y) (f : is_free (keyword_of x) ≡ true)
      (hx : (why : Reason) → ListsHold w above x why) (hy : (why : Reason) → ListsHold w (above ++ x ∷ []) y why) where
    lists_first : (why : Reason) → ListsHold w above y why
    lists_first reason.WrongList = record {
      proposer = (let h = hy reason.WrongList in proposer_first above x y e h.proposer);
      reviewer = (let h = hy reason.WrongList in reviewer_first above x y e h.reviewer);
      all_proposers = not_closing y (free_too x y e f);
      all_reviewers = not_closing y (free_too x y e f);
    }
    lists_first _ = tt

    lists_second : (why : Reason) → ListsHold w (above ++ y ∷ []) x why
    lists_second reason.WrongList = record {
      proposer = (let h = hx reason.WrongList in proposer_second above x y e h.proposer);
      reviewer = (let h = hx reason.WrongList in reviewer_second above x y e h.reviewer);
      all_proposers = not_closing x f;
      all_reviewers = not_closing x f;
    }
    lists_second _ = tt

  -- the order of seats and of lists in `reduced`
  pub reduced_order : SeesNoOrder (Clauses (answer w HeadData.Reduced)) AreListsAlike
  reduced_order = record {
    carries = λ a b z why s h. (firsts_carry w a b z why s.firsts h.0, lasts_carry a b z why s h.1, lists_carry a b z why s h.2);
    more = λ a b z s. record {
      firsts = firsts_more w a b z s.firsts;
      lasts = pairs_more (last_in w) a b z s.lasts;
      ups = up_more is_up_to_lasts a b z s.ups;
      proposers = times_more (proposer_list_in w) a b z s.proposers;
      reviewers = times_more (reviewer_list_in w) a b z s.reviewers;
    };
    exchanges = λ above x y e f hx hy.
        let t = firsts_exchange w above x y e f (λ why. (hx why).0) (λ why. (hy why).0) in
        let q = lasts_exchanged above x y e f (λ why. (hx why).1) (λ why. (hy why).1) in
        record {
          first = λ why. (
            t.first why,
            lasts_first above x y e f (λ other. (hx other).1) (λ other. (hy other).1) why,
            lists_first above x y e f (λ other. (hx other).2) (λ other. (hy other).2) why,
          );
          second = λ why. (
            t.second why,
            lasts_second above x y e f (λ other. (hx other).1) (λ other. (hy other).1) why,
            lists_second above x y e f (λ other. (hx other).2) (λ other. (hy other).2) why,
          );
          alike = record {
            firsts = t.alike;
            lasts = q.alike;
            ups = up_exchanged is_up_to_lasts above x y;
            proposers = times_exchanged (proposer_list_in w) above x y;
            reviewers = times_exchanged (reviewer_list_in w) above x y;
          };
        };
  }
