-- The first and the last seats of an answer that gets a yes.
use Rattle.std.proofs.Common.{◌≡◌, ℕ, ◌⊎◌, ◌||◌, ◌==◌, inl, inr, arith, refl, sym, Bool, false, List, [], ◌∷◌, length, map, take, Option, None, subst}
use Rattle.std.specs.Prelude.{Contains, IfSome, filter_map}
use Rattle.std.specs.List.{slice_get, range_with_len}
use Rattle.std.specs.Option.{option_map}
use Rattle.std.proofs.lemmas.Bool.{false≢true}
use Rattle.std.proofs.lemmas.List.FromFn.{length-map-range_with_len, get_or-map-range_with_len}
use Rattle.std.proofs.lemmas.List.Elements.{Contains-append_cases}
use Rattle.sm_agents.specs.Written.{Written}
use Rattle.sm_market.specs.Lists.{Lists, place_of}
use Rattle.sm_holding.specs.Held.{partner_in}
use Rattle.sm_report.specs.Lines.{LineData}
use Rattle.sm_check_forms.proofs.KeywordNumbers.{keyword_number}
use Rattle.sm_report.specs.Keywords.{keyword_of}
use Rattle.sm_check_clauses.specs.Said.{first_in, last_in, is_up_to_firsts, is_up_to_lasts}
use Rattle.sm_check_clauses.specs.SeatMatchings.{IsFreeSeat, seat_places_in}
use Rattle.sm_cert.specs.Yes.{ArePairsOf}
use Rattle.sm_cert.proofs.GroupLemmas.{Tells}
use Rattle.sm_cert.proofs.YesLines.{grown}
use Rattle.sm_cert.proofs.YesPairs.{only_one, AreGiven, none_given, one_given, pairs_of}

-- The lines up to the first seats, and up to the last ones.

-- the keyword of first seats
abbrev pub first_words : ℕ → Bool
first_words n = n == 3

-- the keywords of first seats and of last seats
abbrev pub last_words : ℕ → Bool
last_words n = (n == 3) || (n == 4)

-- the test of lines up to the first seats tells the one
pub firsts_tell : Tells first_words is_up_to_firsts
firsts_tell = record { other = refl; same = same }
  where
    same : (x : LineData) → (is_up_to_firsts x ≡ first_words (keyword_number (keyword_of x))) ⊎ (keyword_number (keyword_of x) ≡ 21)
    same (LineData.Answer head) = inr refl
    same _ = inl refl

-- the test of lines up to the last seats tells the two
pub lasts_tell : Tells last_words is_up_to_lasts
lasts_tell = record { other = refl; same = same }
  where
    same : (x : LineData) → (is_up_to_lasts x ≡ last_words (keyword_number (keyword_of x))) ⊎ (keyword_number (keyword_of x) ≡ 21)
    same (LineData.Answer head) = inr refl
    same _ = inl refl

module _ (w : Written) where
  -- a line behind the first seats says none of them
  pub no_first : (x : LineData) → is_up_to_firsts x ≡ false → first_in w x ≡ None
  no_first (LineData.First p seat) e = absurd (false≢true (sym e))
  no_first _ e = refl

  -- nor does a line behind the last seats
  pub no_first_then : (x : LineData) → is_up_to_lasts x ≡ false → first_in w x ≡ None
  no_first_then (LineData.First p seat) e = absurd (false≢true (sym e))
  no_first_then _ e = refl

  -- a line behind the last seats says none of these
  pub no_last : (x : LineData) → is_up_to_lasts x ≡ false → last_in w x ≡ None
  no_last (LineData.Last p seat) e = absurd (false≢true (sym e))
  no_last _ e = refl

-- the pairs of lines at each of which they are free
pub free_seats : (l : Lists) (said : LineData → Option (ℕ × ℕ)) (lines : List LineData)
    → ((k : ℕ) → IfSome (slice_get lines k) (λ line. IfSome (said line) (IsFreeSeat l (filter_map said (take k lines)))))
    → ArePairsOf l.proposers (seat_places_in l (filter_map said lines)).proposers (filter_map said lines)
free_seats l said lines at =
    let pairs = filter_map said lines in
    let f = λ (p : ℕ). option_map (place_of l.proposers p) (partner_in pairs p) in
    pairs_of l.proposers (map f (range_with_len 0 (length l.proposers))) pairs
    (grown said (AreGiven l.proposers) (IsFreeSeat l) lines (none_given l.proposers) (λ xs x k free. one_given l.proposers xs x k free.acceptable free.proposer_free) at)
    (length-map-range_with_len f 0 (length l.proposers))
    (λ p inside. get_or-map-range_with_len f 0 (length l.proposers) p p None inside (omega arith))

-- what holds of each thing that lines say
pub each_said : {X : Type 0} (said : LineData → Option X) (Q : X → Type 0) (lines : List LineData) → ((k : ℕ) → IfSome (slice_get lines k) (λ line. IfSome (said line) Q)) → (x : X) → Contains (filter_map said lines) x → Q x
each_said {X} said Q lines at =
    grown said (λ (xs : List X). (x : X) → Contains xs x → Q x) (λ (xs : List X) (x : X). Q x) lines
    (λ x c. absurd (let l = c.1 in omega arith))
    (λ xs y all here x c. elim (Contains-append_cases xs (y ∷ []) x c) [
      | inl had ↦ all x had
      | inr now ↦ subst Q (only_one now) here
    ])
    at
