-- The lines of the answer of `reduced`.
use Rattle.std.proofs.Common.{◌≡◌, ℕ, ◌-◌, ◌<◌, ◌≤◌, Vec, List, [], ◌∷◌, ◌++◌, Option, Some, None, length, get_or, map, refl, sym, ap, ◌∙◌, append_assoc, arith, subst, inl, inr}
use Rattle.std.specs.List.{All}
use Rattle.std.specs.Option.{option_map}
use Rattle.std.specs.declared.alloc.Global.{Global}
use Rattle.std.proofs.lemmas.Bool.{cases_lt}
use Rattle.std.proofs.lemmas.List.{length-map, get_or_past}
use Rattle.std.proofs.lemmas.List.FromFn.{length-map-range_with_len, get_or-map-range_with_len}
use Rattle.std.proofs.lemmas.List.Elements.{All-append, All-cons, All-map, All-filter}
use Rattle.std.proofs.lemmas.Grind.{get_or_default_zero}
use Rattle.sm_agents.specs.Written.{Written, capacity_of}
use Rattle.sm_agents.specs.Sound.{IsInstance, is_single}
use Rattle.sm_instance.specs.declared.inputs.Input.{Input}
use Rattle.sm_instance.specs.declared.inputs.Input.TheVariants.{Two}
use Rattle.sm_agents.specs.declared.kinds.Kind.{Kind}
use Rattle.sm_agents.specs.declared.kinds.Kind.TheVariants.{Marriage, Hospitals, Roommates}
use Rattle.sm_agents.specs.declared.kinds.Side.{Side}
use Rattle.sm_agents.specs.declared.kinds.Side.TheVariants.{Proposers, Reviewers}
use Rattle.sm_market.specs.Lists.{Lists, row, entry, IsMarket}
use Rattle.sm_market.specs.Vectors.{rows_of, lists_of}
use Rattle.sm_market.specs.Matching.{Places, held, IsMatching}
use Rattle.sm_market.specs.Stable.{IsProposersBest, IsReviewersBest}
use Rattle.sm_market.specs.Reduced.{reduced_row, reduced_lists_of}
use Rattle.sm_lists.proofs.RowLemmas.{row_in_range}
use Rattle.sm_report.specs.declared.lines.Seat.{Seat}
use Rattle.sm_report.specs.Heads.{HeadData}
use Rattle.sm_report.specs.Lines.{LineData}
use Rattle.sm_report.specs.Sound.{IsLineOf, IsSeatNumber}
use Rattle.sm_seats.specs.Seating.{Seating, seating_of, reviewer_of, number_of}
use Rattle.sm_seats.specs.Correspondence.{IsSeating}
use Rattle.sm_answer.specs.Lines.{line_or_none, lines_from}
use Rattle.sm_answer.proofs.AnswerLemmas.{lines_each, one_all}
use Rattle.sm_answer_rotations.specs.Reduction.{seat_of, best_seat, seat_line, proposer_line, reviewer_line, reduced_lines, IsReduction}
use Rattle.sm_answer_rotations.specs.GivenLines.{seats_given, rows_given, reduced_given}
use Rattle.sm_answer.proofs.LineLemmas.{end_sound}

-- whatever is asked of lines holds of no lines
pub no_line : (P : LineData → Type 0) → All P []
no_line P = λ k d l. absurd (omega arith)

-- what holds at each place holds of all
all_of : (P : ℕ → Type 0) (xs : List ℕ) → ((i : ℕ) → i < length xs → P (get_or xs i 0)) → All P xs
all_of P xs each = λ k d l. subst P (sym (get_or_default_zero xs k d l)) (each k l)

-- the entries of a proposer's list are seats
row_named : (s : Seating) → IsMarket s.market → length s.market.reviewers ≡ length s.seats → (p : ℕ) → All (λ k. k < length s.seats) (row s.market.proposers p)
row_named s market one_each p = all_of (λ k. k < length s.seats) (row s.market.proposers p)
    (λ i l. let r = market.proposers.in_range p i l in omega (arith, r, one_each))

-- One seat.

-- a seat of an instance has a right number
seat_number : (w : Written) (kind : Kind) → w.kind ≡ kind → IsInstance w → (r n : ℕ) → r < length w.reviewers → 1 ≤ n → n ≤ capacity_of w.reviewers r → IsSeatNumber kind n
seat_number w Marriage is h r n there least most = let one = (h.reviewers.sound r there).one (ap is_single is) in omega arith
seat_number w Hospitals is h r n there least most = let c = (h.reviewers.sound r there).capacity in (least, omega arith)
seat_number w Roommates is h r n there least most = absurd (h.two_sided is)

-- a number is that of a seat, whose reviewer is one of the instance
pub record IsSeatOf (w : Written) (seat : Seat) : Type 0 where
  pub reviewer : seat.reviewer < length w.reviewers
  pub number : IsSeatNumber w.kind seat.number

module _ {w : Written} {s : Seating} (i : IsInstance w) (h : IsSeating w s) where
  -- seat k as it is shown is such a seat
  pub seat_is : (k : ℕ) → k < length s.seats → IsSeatOf w (seat_of s k)
  seat_is k on =
      let there = h.reviewers k on in
      let n = h.numbers k on in
      record { reviewer = there; number = seat_number w w.kind refl i (reviewer_of s k) (number_of s k) there n.least n.greatest }

  -- those of a seat's list are proposers of the instance
  back_named : (k : ℕ) → All (λ p. p < length w.proposers) (row s.market.reviewers k)
  back_named k = all_of (λ p. p < length w.proposers) (row s.market.reviewers k)
      (λ i l. let p = h.market.reviewers.in_range k i l in omega (arith, p, h.proposers))

  side_sound : (side : Side) (p : ℕ) (seat : Seat) → p < length w.proposers → IsSeatOf w seat → IsLineOf (Two w) (best_seat side p seat)
  side_sound Proposers p seat here there = record { printable = (here, there.reviewer); seats = All-cons (λ (seat : Seat). IsSeatNumber w.kind seat.number) seat [] there.number (λ k d l. absurd (omega arith)); numbers = tt; head = tt }
  side_sound Reviewers p seat here there = record { printable = (here, there.reviewer); seats = All-cons (λ (seat : Seat). IsSeatNumber w.kind seat.number) seat [] there.number (λ k d l. absurd (omega arith)); numbers = tt; head = tt }

  -- the line of a proposer with its seat is one of the instance
  pub seat_sound : (side : Side) (m : Places) → IsMatching s.market m → (p : ℕ) → All (IsLineOf (Two w)) (line_or_none (seat_line side s m p))
  seat_sound side m f p = by_place (held m.proposers p) refl
    where
      by_place : (o : Option ℕ) → held m.proposers p ≡ o
          → All (IsLineOf (Two w)) (line_or_none (option_map (λ i. best_seat side p (seat_of s (entry s.market.proposers p i))) o))
      by_place None e = no_line (IsLineOf (Two w))
      by_place (Some i) e =
          let on = f.proposers.on_list p i e in
          let r = h.market.proposers.in_range p i on in
          let here = row_in_range s.market.proposers p i on in
          one_all (IsLineOf (Two w)) (best_seat side p (seat_of s (entry s.market.proposers p i)))
          (side_sound side p (seat_of s (entry s.market.proposers p i)) (omega (arith, here, h.proposers)) (seat_is (entry s.market.proposers p i) (omega (arith, r, h.seats))))

-- The rows of the reduced lists.

abbrev reduced : Seating → (first last : Places) → Lists
reduced s first last = reduced_lists_of s.market first last

reduced_proposer : (s : Seating) (first last : Places) (p : ℕ) → p < length s.market.proposers
    → row (reduced s first last).proposers p ≡ reduced_row s.market.proposers s.market.reviewers last.proposers first.reviewers p
reduced_proposer s first last p h =
    get_or-map-range_with_len (reduced_row s.market.proposers s.market.reviewers last.proposers first.reviewers) 0 (length s.market.proposers) p p [] h (omega arith)

reduced_reviewer : (s : Seating) (first last : Places) (k : ℕ) → k < length s.market.reviewers
    → row (reduced s first last).reviewers k ≡ reduced_row s.market.reviewers s.market.proposers first.reviewers last.proposers k
reduced_reviewer s first last k h =
    get_or-map-range_with_len (reduced_row s.market.reviewers s.market.proposers first.reviewers last.proposers) 0 (length s.market.reviewers) k k [] h (omega arith)

-- what is left of a proposer's list are seats
pub reduced_named : (s : Seating) (first last : Places) → IsMarket s.market → length s.market.reviewers ≡ length s.seats → (p : ℕ)
    → All (λ k. k < length s.seats) (row (reduced s first last).proposers p)
reduced_named s first last market one_each p = elim (cases_lt p (length s.market.proposers)) [
  | inl here ↦
      subst (All (λ k. k < length s.seats)) (sym (reduced_proposer s first last p here)) (All-filter _ (λ k. k < length s.seats) (row s.market.proposers p) (row_named s market one_each p))
  | inr past ↦
      let none : row (reduced s first last).proposers p ≡ [] = get_or_past (reduced s first last).proposers p []
      (omega (arith, past, length-map-range_with_len (reduced_row s.market.proposers s.market.reviewers last.proposers first.reviewers) 0 (length s.market.proposers))) in
      subst (All (λ k. k < length s.seats)) (sym none) (λ k d l. absurd (omega arith))
]

-- the same, where the lists are held in vectors
pub rows_named : (s : Seating) (first last : Places) (rows : Lists) (v items : List (Vec ℕ Global)) → IsMarket s.market → length s.market.reviewers ≡ length s.seats
    → rows ≡ reduced_lists_of s.market first last → rows_of items ≡ rows.proposers → v ≡ items → (p : ℕ) → All (λ k. k < length s.seats) (row (rows_of v) p)
rows_named s first last rows v items market one_each same is value p =
    let whole : rows_of v ≡ (reduced s first last).proposers = ap rows_of value ∙ is ∙ ap (λ (k : Lists). k.proposers) same in
    subst (λ (x : List (List ℕ)). All (λ k. k < length s.seats) (row x p)) (sym whole) (reduced_named s first last market one_each p)

module _ {w : Written} {s : Seating} (i : IsInstance w) (h : IsSeating w s) (first last : Places) where
  proposer_sound : (p : ℕ) → p < length s.market.proposers → All (IsLineOf (Two w)) (line_or_none (proposer_line s (reduced s first last).proposers p))
  proposer_sound p here =
      let rows = row (reduced s first last).proposers p in
      let seats : All (λ k. IsSeatOf w (seat_of s k)) rows = (λ k d l. seat_is i h (get_or rows k d) (reduced_named s first last h.market h.seats p k d l)) in
      one_all (IsLineOf (Two w)) (LineData.ProposerList p (map (seat_of s) rows))
      (record {
        printable = (omega (arith, here, h.proposers), All-map (λ (seat : Seat). seat.reviewer < length w.reviewers) (seat_of s) rows (λ k d l. (seats k d l).reviewer));
        seats = All-map (λ (seat : Seat). IsSeatNumber w.kind seat.number) (seat_of s) rows (λ k d l. (seats k d l).number);
        numbers = tt;
        head = tt;
      })

  reviewer_sound : (k : ℕ) → k < length s.market.reviewers → All (IsLineOf (Two w)) (line_or_none (reviewer_line s (reduced s first last).reviewers k))
  reviewer_sound k here =
      let named : All (λ p. p < length w.proposers) (row (reduced s first last).reviewers k) =
      subst (All (λ p. p < length w.proposers)) (sym (reduced_reviewer s first last k here)) (All-filter _ (λ p. p < length w.proposers) (row s.market.reviewers k) (back_named i h k)) in
      let seat = seat_is i h k (omega (arith, here, h.seats)) in
      one_all (IsLineOf (Two w)) (LineData.ReviewerList (seat_of s k) (row (reduced s first last).reviewers k))
      (record {
        printable = (seat.reviewer, named);
        seats = All-cons (λ (seat : Seat). IsSeatNumber w.kind seat.number) (seat_of s k) [] seat.number (λ k d l. absurd (omega arith));
        numbers = tt;
        head = tt;
      })

-- The whole answer.

-- the lines that are given are those of the answer
given_is : (s : Seating) (first last : Places) → reduced_given s first last (reduced_lists_of s.market first last) ≡ reduced_lines s first last
given_is s first last =
    let l = s.market in
    let rows = reduced_lists_of l first last in
    let n : length l.proposers - 0 ≡ length l.proposers = omega arith in
    let long = length-map-range_with_len (reduced_row l.proposers l.reviewers last.proposers first.reviewers) 0 (length l.proposers) in
    let back = length-map-range_with_len (reduced_row l.reviewers l.proposers first.reviewers last.proposers) 0 (length l.reviewers) in
    let m : length rows.proposers - 0 ≡ length l.proposers = omega arith in
    let k : length rows.reviewers - 0 ≡ length l.reviewers = omega arith in
    let firsts = seat_line Proposers s first in
    let lasts = seat_line Reviewers s last in
    let proposers = proposer_line s rows.proposers in
    let reviewers = reviewer_line s rows.reviewers in
    let seats : seats_given s first last ≡ lines_from firsts 0 (length l.proposers) ++ lines_from lasts 0 (length l.proposers) =
    ap (λ c. lines_from firsts 0 c ++ lines_from lasts 0 c) n in
    let others : rows_given s rows ≡ lines_from proposers 0 (length l.proposers) ++ (lines_from reviewers 0 (length l.reviewers) ++ LineData.End ∷ []) =
    ap (λ c. lines_from proposers 0 c ++ (lines_from reviewers 0 (length rows.reviewers - 0) ++ LineData.End ∷ [])) m
    ∙ ap (λ c. lines_from proposers 0 (length l.proposers) ++ (lines_from reviewers 0 c ++ LineData.End ∷ [])) k in
    ap (λ t. LineData.Answer HeadData.Reduced ∷ (t ++ rows_given s rows)) seats
    ∙ ap (λ t. LineData.Answer HeadData.Reduced ∷ t) (append_assoc (lines_from firsts 0 (length l.proposers)) (lines_from lasts 0 (length l.proposers)) (rows_given s rows))
    ∙ ap (λ t. LineData.Answer HeadData.Reduced ∷ (lines_from firsts 0 (length l.proposers) ++ (lines_from lasts 0 (length l.proposers) ++ t))) others

-- the lines that are given are a right answer
pub reduced_right : (w : Written) (s : Seating) (first last : Places) (rows : Lists) → s ≡ seating_of w → IsProposersBest s.market first → IsReviewersBest s.market last
    → rows ≡ reduced_lists_of s.market first last → IsReduction w (reduced_given s first last rows)
reduced_right w s first last rows is f g same = record {
  first = first;
  last = last;
  proposers_best = subst (λ (t : Seating). IsProposersBest t.market first) is f;
  reviewers_best = subst (λ (t : Seating). IsReviewersBest t.market last) is g;
  shows = ap (λ (r : Lists). reduced_given s first last r) same ∙ given_is s first last ∙ ap (λ (t : Seating). reduced_lines t first last) is;
}

-- and lines of the instance
module _ {w : Written} {s : Seating} (i : IsInstance w) (h : IsSeating w s) (first last : Places) where
  seats_sound : IsMatching s.market first → IsMatching s.market last → All (IsLineOf (Two w)) (seats_given s first last)
  seats_sound f g =
      let P = IsLineOf (Two w) in
      All-append P _ _ (lines_each P (seat_line Proposers s first) 0 (length s.market.proposers - 0) (λ p l. seat_sound i h Proposers first f p))
      (lines_each P (seat_line Reviewers s last) 0 (length s.market.proposers - 0) (λ p l. seat_sound i h Reviewers last g p))

  rows_sound : All (IsLineOf (Two w)) (rows_given s (reduced s first last))
  rows_sound =
      let P = IsLineOf (Two w) in
      let l = s.market in
      let long = length-map-range_with_len (reduced_row l.proposers l.reviewers last.proposers first.reviewers) 0 (length l.proposers) in
      let back = length-map-range_with_len (reduced_row l.reviewers l.proposers first.reviewers last.proposers) 0 (length l.reviewers) in
      let proposers = lines_each P (proposer_line s (reduced s first last).proposers) 0 (length (reduced s first last).proposers - 0) (λ p l. proposer_sound i h first last p (omega arith)) in
      let reviewers = lines_each P (reviewer_line s (reduced s first last).reviewers) 0 (length (reduced s first last).reviewers - 0) (λ k l. reviewer_sound i h first last k (omega arith)) in
      All-append P _ _ proposers (All-append P _ _ reviewers (one_all P LineData.End (end_sound (Two w))))

  -- and they are lines of the instance
  pub reduced_given_sound : (input : Input) (rows : Lists) → input ≡ Two w → IsProposersBest s.market first → IsReviewersBest s.market last
      → rows ≡ reduced_lists_of s.market first last → All (IsLineOf input) (reduced_given s first last rows)
  reduced_given_sound input rows two f g same =
      let P = IsLineOf (Two w) in
      let whole : All P (reduced_given s first last (reduced s first last)) =
      All-cons P (LineData.Answer HeadData.Reduced) _ (record { printable = tt; seats = λ k d l. absurd (omega arith); numbers = tt; head = tt })
      (All-append P _ _ (seats_sound f.stable.matching g.stable.matching) rows_sound) in
      let there : All P (reduced_given s first last rows) = subst (λ (r : Lists). All P (reduced_given s first last r)) (sym same) whole in
      subst (λ (input : Input). All (IsLineOf input) (reduced_given s first last rows)) (sym two) there

-- the vectors of the reduced lists are as many as the agents
pub rows_each : (vectors others : List (Vec ℕ Global)) (l : Lists) (first last : Places) → lists_of vectors others ≡ reduced_lists_of l first last → length vectors ≡ length l.proposers
rows_each vectors others l first last same =
    let e : length (rows_of vectors) ≡ length (reduced_lists_of l first last).proposers = ap (λ (k : Lists). length k.proposers) same in
    let long = length-map-range_with_len (reduced_row l.proposers l.reviewers last.proposers first.reviewers) 0 (length l.proposers) in
    omega (arith, e, long, length-map vectors (λ (v : Vec ℕ Global). v.items))

-- and so for the reviewers' lists
pub back_rows : (vectors others : List (Vec ℕ Global)) (l : Lists) (first last : Places) → lists_of vectors others ≡ reduced_lists_of l first last → length others ≡ length l.reviewers
back_rows vectors others l first last same =
    let e : length (rows_of others) ≡ length (reduced_lists_of l first last).reviewers = ap (λ (k : Lists). length k.reviewers) same in
    let long = length-map-range_with_len (reduced_row l.reviewers l.proposers first.reviewers last.proposers) 0 (length l.reviewers) in
    omega (arith, e, long, length-map others (λ (v : Vec ℕ Global). v.items))

-- the lines of lists that are held in vectors
pub proposers_given : (s : Seating) (v items : List (Vec ℕ Global)) → v ≡ items → (rest : List LineData) → rest ≡ lines_from (proposer_line s (rows_of v)) 0 (length v - 0)
    → rest ≡ lines_from (proposer_line s (rows_of items)) 0 (length (rows_of items) - 0)
proposers_given s v items same rest is =
    is ∙ ap (λ (v : List (Vec ℕ Global)). lines_from (proposer_line s (rows_of v)) 0 (length v - 0)) same
    ∙ ap (λ n. lines_from (proposer_line s (rows_of items)) 0 (n - 0)) (sym (length-map items (λ (v : Vec ℕ Global). v.items)))

-- and so for the reviewers' lists
pub reviewers_given : (s : Seating) (v items : List (Vec ℕ Global)) → v ≡ items → (rest : List LineData) → rest ≡ lines_from (reviewer_line s (rows_of v)) 0 (length v - 0)
    → rest ≡ lines_from (reviewer_line s (rows_of items)) 0 (length (rows_of items) - 0)
reviewers_given s v items same rest is =
    is ∙ ap (λ (v : List (Vec ℕ Global)). lines_from (reviewer_line s (rows_of v)) 0 (length v - 0)) same
    ∙ ap (λ n. lines_from (reviewer_line s (rows_of items)) 0 (n - 0)) (sym (length-map items (λ (v : Vec ℕ Global). v.items)))
