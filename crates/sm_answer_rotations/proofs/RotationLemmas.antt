-- The lines of the answer of `rotations`.
use Rattle.std.proofs.Common.{◌≡◌, ℕ, zero, suc, ◌+◌, ◌-◌, ◌<◌, ◌≤◌, ◌^◌, Bool, true, false, Ok, drop, Vec, List, [], ◌∷◌, ◌++◌, Option, Some, None, length, get_or, map, slice_index_or, refl, sym, ap, ◌∙◌, arith, subst, inl, inr}
use Rattle.std.specs.List.{All, flat_map, range_with_len}
use Rattle.std.specs.List.Sorted.{IsStrictlyIncreasing}
use Rattle.std.specs.Option.{option_map}
use Rattle.std.specs.declared.alloc.Global.{Global}
use Rattle.std.proofs.lemmas.Bool.{cases_lt}
use Rattle.std.proofs.lemmas.List.{get_or-map, get_or_past, get_or_default, length-map}
use Rattle.std.proofs.lemmas.List.FromFn.{length-map-range_with_len, get_or-map-range_with_len}
use Rattle.std.proofs.lemmas.List.Elements.{All-append, All-cons, All-map}
use Rattle.std.proofs.lemmas.Grind.{get_or_default_zero}
use Rattle.sm_rotations.specs.declared.order.ChainWithNeeds.{ChainWithNeeds}
use Rattle.sm_answer_rotations.specs.Found.{AreRotationsOf}
use Rattle.sm_agents.specs.Written.{Written}
use Rattle.sm_agents.specs.Sound.{IsInstance}
use Rattle.sm_instance.specs.declared.inputs.Input.{Input}
use Rattle.sm_instance.specs.declared.inputs.Input.TheVariants.{Two}
use Rattle.sm_agents.specs.declared.kinds.Side.TheVariants.{Proposers}
use Rattle.sm_market.specs.Lists.{Lists, row, entry, place_of, agents, IsMarket}
use Rattle.sm_market.specs.Vectors.{rows_of}
use Rattle.sm_market.specs.Matching.{Places, held}
use Rattle.sm_lists.proofs.RowLemmas.{row_in_range}
use Rattle.sm_report.specs.declared.lines.Seat.{Seat}
use Rattle.sm_report.specs.Heads.{HeadData}
use Rattle.sm_report.specs.Lines.{LineData, line_of}
use Rattle.sm_report.specs.declared.lines.Line.{Line}
use Rattle.sm_report.specs.Sound.{IsLineOf, IsRotation, ArePair, IsSeatNumber, AreRotations}
use Rattle.sm_theory.specs.Rotations.{proposer_at, reviewer_at}
use Rattle.sm_theory.specs.Chains.{rotation_at, IsCompleteChain, IsPrintedChain, AreNeedsOf, AreNeeds}
use Rattle.sm_theory.specs.Values.{rotations_of}
use Rattle.sm_theory.specs.declared.rotations.Rotation.{Rotation}
use Rattle.sm_theory.proofs.Bridge.Chain.{stage_stable}
use Rattle.sm_seats.specs.Seating.{Seating, seating_of}
use Rattle.sm_seats.specs.Correspondence.{IsSeating}
use Rattle.sm_answer.specs.Lines.{lines_from}
use Rattle.sm_answer.specs.Giving.{GivesNext}
use Rattle.sm_answer.proofs.AnswerLemmas.{lines_each, lines_from-same, one_all, gave_first, gave_none}
use Rattle.sm_answer_rotations.specs.Reduction.{seat_of, best_seat, seat_line}
use Rattle.sm_answer_rotations.specs.RotationLines.{first_at, first_seat_line, rotation_lines, shown_lines, first_seat, seated_pair, seated_rotation, numbers_of, rotation_number, shown_of, rotation_line, needs_line}
use Rattle.sm_answer_rotations.specs.GivenLines.{two_lines, lines_of_rotations, lines_left, most_left, rotations_given}
use Rattle.sm_market.specs.Pairing.{Paired}
use Rattle.sm_poset.specs.Posets.{RotationPoset, IsPoset}
use Rattle.sm_answer_rotations.specs.RotationAnswer.{IsRotationAnswer, IsCorrespondence}
use Rattle.sm_lists.proofs.PlaceLemmas.{get_or-place_on}
use Rattle.sm_answer.proofs.LineLemmas.{end_sound}
use Rattle.sm_answer_rotations.proofs.ReduceLemmas.{no_line, seat_is, seat_sound}
use Rattle.sm_answer_rotations.proofs.ShownLemmas.{pairs_at_shown, needs_shown, correspondence}
use Rattle.sm_rotations.proofs.NeedsLemmas.{as_many}

-- The whole answer.

-- blocks of lines that are alike number by number
pub flat_map_alike : (f g : ℕ → List LineData) (a n : ℕ) → ((k : ℕ) → k < a + n → f k ≡ g k) → flat_map f (range_with_len a n) ≡ flat_map g (range_with_len a n)
flat_map_alike f g a zero e = refl
flat_map_alike f g a (suc n) e =
    ap (λ t. t ++ flat_map f (range_with_len (a + 1) n)) (e a (omega arith)) ∙ ap (λ t. g a ++ t) (flat_map_alike f g (a + 1) n (λ k l. e k (omega arith)))

-- the two lines of a rotation
pub lines_shown : (s : Seating) (first : Places) (rotations : List (List (ℕ × ℕ))) (needs : List (List ℕ)) (k : ℕ) → two_lines s rotations needs k ≡ rotation_lines (shown_of s first rotations needs) k
lines_shown s first rotations needs k =
    ap (λ (t : List (ℕ × Seat)). LineData.Rotation (k + 1) t ∷ needs_line needs k ∷ []) (sym (pairs_at_shown s rotations k))
    ∙ ap (λ (t : List ℕ). LineData.Rotation (k + 1) (slice_index_or (map (seated_rotation s) rotations) k []) ∷ LineData.Needs (k + 1) t ∷ []) (sym (needs_shown needs k))

-- the first seat of a proposer
pub first_shown : (s : Seating) (first : Places) (rotations : List (List (ℕ × ℕ))) (needs : List (List ℕ)) → length first.proposers ≡ length s.market.proposers
    → (p : ℕ) → seat_line Proposers s first p ≡ first_seat_line (shown_of s first rotations needs) p
first_shown s first rotations needs one p = by_place (held first.proposers p) refl
    ∙ ap (option_map (λ seat. LineData.First p seat)) (sym seat)
  where
    seat : first_at (shown_of s first rotations needs) p ≡ first_seat s first p
    seat = elim (cases_lt p (length s.market.proposers)) [
      | inl here ↦ get_or-map-range_with_len (first_seat s first) 0 (length s.market.proposers) p p None here (omega arith)
      | inr past ↦
          let long = length-map-range_with_len (first_seat s first) 0 (length s.market.proposers) in
          get_or_past (map (first_seat s first) (agents s.market.proposers)) p None (omega arith)
          ∙ ap (option_map (λ i. seat_of s (entry s.market.proposers p i))) (sym (get_or_past first.proposers p None (omega arith)))
    ]

    by_place : (o : Option ℕ) → held first.proposers p ≡ o
        → option_map (λ i. best_seat Proposers p (seat_of s (entry s.market.proposers p i))) (held first.proposers p) ≡ option_map (λ seat. LineData.First p seat) (option_map (λ i. seat_of s (entry s.market.proposers p i)) (held first.proposers p))
    by_place None e = rw e refl
    by_place (Some i) e = rw e refl

-- the lines that are given are those of the answer
pub given_is : (s : Seating) (first : Places) (rotations : List (List (ℕ × ℕ))) (needs : List (List ℕ)) → length first.proposers ≡ length s.market.proposers
    → rotations_given s first rotations needs ≡ shown_lines (shown_of s first rotations needs)
given_is s first rotations needs one =
    let l = s.market in
    let shown = shown_of s first rotations needs in
    let n : length l.proposers - 0 ≡ length (map (first_seat s first) (agents l.proposers)) = (let long = length-map-range_with_len (first_seat s first) 0 (length l.proposers) in omega arith) in
    let k : length rotations - 0 ≡ length (map (seated_rotation s) rotations) = omega (arith, length-map rotations (seated_rotation s)) in
    let firsts : lines_from (seat_line Proposers s first) 0 (length l.proposers - 0) ≡ lines_from (first_seat_line shown) 0 (length shown.firsts) =
    ap (lines_from (seat_line Proposers s first) 0) n ∙ lines_from-same (seat_line Proposers s first) (first_seat_line shown) (first_shown s first rotations needs one) 0 (length shown.firsts) in
    let pairs : lines_of_rotations s rotations needs 0 ≡ flat_map (rotation_lines shown) (range_with_len 0 (length shown.rotations)) =
    ap (λ n. flat_map (two_lines s rotations needs) (range_with_len 0 n)) k
    ∙ flat_map_alike (two_lines s rotations needs) (rotation_lines shown) 0 (length shown.rotations) (λ k l. lines_shown s first rotations needs k) in
    ap (λ (t : List LineData). LineData.Answer HeadData.Rotations ∷ (t ++ (lines_of_rotations s rotations needs 0 ++ LineData.End ∷ []))) firsts
    ∙ ap (λ (t : List LineData). LineData.Answer HeadData.Rotations ∷ (lines_from (first_seat_line shown) 0 (length shown.firsts) ++ (t ++ LineData.End ∷ []))) pairs

-- they are a right answer
pub rotations_right : (w : Written) (s : Seating) (first : Places) (rotations : List (List (ℕ × ℕ))) (needs : List (List ℕ)) → s ≡ seating_of w → IsSeating w s → IsPrintedChain s.market first rotations
    → length needs ≡ length rotations → ((k : ℕ) → k < length rotations → AreNeedsOf s.market rotations k (row needs k)) → IsRotationAnswer w (rotations_given s first rotations needs)
rotations_right w s first rotations needs is h printed one of = record {
  first = first;
  rotations = rotations;
  needs = needs;
  printed = subst (λ (t : Seating). IsPrintedChain t.market first rotations) is printed;
  needed = record { one_each = one; each = λ k g. subst (λ (t : Seating). AreNeedsOf t.market rotations k (row needs k)) is (of k g) };
  shows = given_is s first rotations needs printed.chain.from_best.stable.matching.proposers.one_each ∙ ap (λ (t : Seating). shown_lines (shown_of t first rotations needs)) is;
  corresponds = subst (λ (t : Seating). IsCorrespondence w (shown_of t first rotations needs)) is (correspondence needs h printed.chain of);
}

-- Lines of the instance.

-- the pairs of a rotation of the chain are proposers and seats
pub pairs_named : (l : Lists) (first : Places) (rotations : List (List (ℕ × ℕ))) → IsMarket l → IsCompleteChain l first rotations → (k : ℕ)
    → All (λ (pair : ℕ × ℕ). (pair.0 < length l.proposers) × (pair.1 < length l.reviewers)) (rotation_at rotations k)
pairs_named l first rotations m chain k = elim (cases_lt k (length rotations)) [
  | inl here ↦ λ i d on. subst (λ (pair : ℕ × ℕ). (pair.0 < length l.proposers) × (pair.1 < length l.reviewers)) (sym (get_or_default (rotation_at rotations k) i d (0, 0) on)) (named here i on)
  | inr past ↦
      let none : length (rotation_at rotations k) ≡ 0 = ap (λ (r : List (ℕ × ℕ)). length r) (get_or_past rotations k [] past) in
      λ i d on. absurd (omega arith)
]
  where
    named : k < length rotations → (i : ℕ) → i < length (rotation_at rotations k) → (proposer_at (rotation_at rotations k) i < length l.proposers) × (reviewer_at (rotation_at rotations k) i < length l.reviewers)
    named here i on =
        let p = proposer_at (rotation_at rotations k) i in
        let r = reviewer_at (rotation_at rotations k) i in
        let place = place_of l.proposers p r in
        let stable = stage_stable m chain k (omega arith) in
        let listed = stable.matching.proposers.on_list p place ((chain.exposed k here).paired i on) in
        let inside = row_in_range l.proposers p place listed in
        let there : entry l.proposers p place ≡ r = get_or-place_on (row l.proposers p) r listed in
        let range = m.proposers.in_range p place listed in
        (inside, omega (arith, range, there))

-- so its seats are there
pub seats_named : (s : Seating) (first : Places) (rotations : List (List (ℕ × ℕ))) → IsMarket s.market → length s.market.reviewers ≡ length s.seats → IsCompleteChain s.market first rotations → (k : ℕ)
    → All (λ (pair : ℕ × ℕ). pair.1 < length s.seats) (rotation_at rotations k)
seats_named s first rotations m one chain k = λ i d on. omega (arith, (pairs_named s.market first rotations m chain k i d on).1, one)

-- the numbers of what a rotation needs rise
needs_numbered : (l : Lists) (rotations : List (List (ℕ × ℕ))) (j : ℕ) (needed : List ℕ) → length rotations < 2 ^ 24 → AreNeedsOf l rotations j needed → AreRotations (numbers_of needed)
needs_numbered l rotations j needed few h = record {
  each = All-map IsRotation rotation_number needed (λ a d on. let below = h.sound a on in let same = get_or_default_zero needed a d on in record { least = omega arith; greatest = omega arith });
  rising = rising;
} where
  rising : IsStrictlyIncreasing (numbers_of needed)
  rising k l =
      let long = length-map needed rotation_number in
      let less = h.rising k (k + 1) (omega arith) (omega arith) in
      let one : get_or (numbers_of needed) k 0 ≡ rotation_number (get_or needed k 0) = get_or-map rotation_number needed k 0 0 (omega arith) in
      let two : get_or (numbers_of needed) (k + 1) 0 ≡ rotation_number (get_or needed (k + 1) 0) = get_or-map rotation_number needed (k + 1) 0 0 (omega arith) in
      omega arith

module _ {w : Written} {s : Seating} (i : IsInstance w) (h : IsSeating w s) (first : Places) (rotations : List (List (ℕ × ℕ))) (needs : List (List ℕ)) (chain : IsCompleteChain s.market first rotations)
    (few : length rotations < 2 ^ 24) (of : (k : ℕ) → k < length rotations → AreNeedsOf s.market rotations k (row needs k)) where
  -- the two lines of a rotation
  pub both_sound : (k : ℕ) → k < length rotations → All (IsLineOf (Two w)) (two_lines s rotations needs k)
  both_sound k here =
      let P = IsLineOf (Two w) in
      let number : IsRotation (k + 1) = record { least = omega arith; greatest = omega arith } in
      let pairs = rotation_at rotations k in
      let named = pairs_named s.market first rotations h.market chain k in
      All-cons P (rotation_line s rotations k) (needs_line needs k ∷ [])
      (record {
        printable = All-map (λ (pair : ℕ × Seat). ArePair (Two w) pair.0 pair.1.reviewer) (seated_pair s) pairs (λ j d on.
            let both = named j d on in
            let seat = seat_is i h (get_or pairs j d).1 (omega (arith, both.1, h.seats)) in
            (omega (arith, both.0, h.proposers), seat.reviewer));
        seats = All-map (λ (seat : Seat). IsSeatNumber w.kind seat.number) (λ (pair : ℕ × Seat). pair.1) (seated_rotation s pairs) (All-map (λ (pair : ℕ × Seat). IsSeatNumber w.kind pair.1.number) (seated_pair s) pairs
            (λ j d on. (seat_is i h (get_or pairs j d).1 (omega (arith, (named j d on).1, h.seats))).number));
        numbers = number;
        head = tt;
      })
      (one_all P (needs_line needs k) (record {
        printable = tt;
        seats = no_seats;
        numbers = (number, needs_numbered s.market rotations k (row needs k) few (of k here));
        head = tt;
      }))
    where
      no_seats : All (λ (seat : Seat). IsSeatNumber w.kind seat.number) []
      no_seats = λ i d l. absurd (omega arith)

-- what holds of the lines of each of some numbers holds of all
pub flat_from : (P : LineData → Type 0) (f : ℕ → List LineData) (a n : ℕ) → ((k : ℕ) → k < a + n → All P (f k)) → All P (flat_map f (range_with_len a n))
flat_from P f a zero each = no_line P
flat_from P f a (suc n) each = All-append P (f a) (flat_map f (range_with_len (a + 1) n)) (each a (omega arith)) (flat_from P f (a + 1) n (λ k l. each k (omega arith)))

-- the lines that are given of a printed chain and its needs are lines of the instance
pub rotations_given_sound : (input : Input) {w : Written} {s : Seating} → IsInstance w → IsSeating w s → (first : Places) (rotations : List (List (ℕ × ℕ))) (needs : List (List ℕ)) → input ≡ Two w
    → IsPrintedChain s.market first rotations → length rotations < 2 ^ 24 → ((k : ℕ) → k < length rotations → AreNeedsOf s.market rotations k (row needs k)) → All (IsLineOf input) (rotations_given s first rotations needs)
rotations_given_sound input {w} {s} i h first rotations needs two printed few of =
    let P = IsLineOf (Two w) in
    let firsts = lines_each P (seat_line Proposers s first) 0 (length s.market.proposers - 0) (λ p l. seat_sound i h Proposers first printed.chain.from_best.stable.matching p) in
    let pairs = flat_from P (two_lines s rotations needs) 0 (length rotations - 0) (λ k l. both_sound i h first rotations needs printed.chain few of k (omega arith)) in
    let whole : All P (rotations_given s first rotations needs) =
    All-cons P (LineData.Answer HeadData.Rotations) _ (record { printable = tt; seats = λ k d l. absurd (omega arith); numbers = tt; head = tt })
    (All-append P _ _ firsts (All-append P _ _ pairs (one_all P LineData.End (end_sound (Two w))))) in
    subst (λ (i : Input). All (IsLineOf i) (rotations_given s first rotations needs)) (sym two) whole

-- Giving the lines of rotations.

lines_first : (s : Seating) (rotations : List (List (ℕ × ℕ))) (needs : List (List ℕ)) (k : ℕ) → k < length rotations
    → lines_of_rotations s rotations needs k ≡ two_lines s rotations needs k ++ lines_of_rotations s rotations needs (k + 1)
lines_first s rotations needs k here =
    let count : length rotations - k ≡ suc (length rotations - (k + 1)) = omega arith in
    ap (λ n. flat_map (two_lines s rotations needs) (range_with_len k n)) count

pub rotation_given : (s : Seating) (rotations : List (List (ℕ × ℕ))) (needs : List (List ℕ)) (k : ℕ) (line : Line) → k < length rotations → line_of line ≡ rotation_line s rotations k
    → GivesNext (λ rest. rest ≡ lines_left false s rotations needs k) (λ rest. rest ≡ lines_left true s rotations needs k) (most_left false (length rotations - k)) (most_left true (length rotations - k)) (Ok (Some line))
rotation_given s rotations needs k line here is =
    let all = lines_first s rotations needs k here in
    gave_first _ _ line _ _ (all ∙ ap (λ t. t ∷ needs_line needs k ∷ lines_of_rotations s rotations needs (k + 1)) (sym is) ∙ ap (λ t. line_of line ∷ t) (sym (ap (drop 1) all))) (omega arith)

pub needs_given : (s : Seating) (rotations : List (List (ℕ × ℕ))) (needs : List (List ℕ)) (k : ℕ) (line : Line) → k < length rotations → line_of line ≡ needs_line needs k
    → GivesNext (λ rest. rest ≡ lines_left true s rotations needs k) (λ rest. rest ≡ lines_left false s rotations needs (k + 1)) (most_left true (length rotations - k)) (most_left false (length rotations - (k + 1))) (Ok (Some line))
needs_given s rotations needs k line here is =
    let all = lines_first s rotations needs k here in
    gave_first _ _ line _ _ (ap (drop 1) all ∙ ap (λ t. t ∷ lines_of_rotations s rotations needs (k + 1)) (sym is)) (omega arith)

-- behind the last rotation nothing is given
pub none_given : (s : Seating) (rotations : List (List (ℕ × ℕ))) (needs : List (List ℕ)) (halfway : Bool) (k n : ℕ) → length rotations ≤ k
    → GivesNext (λ rest. rest ≡ lines_left halfway s rotations needs k) (λ rest. rest ≡ lines_left halfway s rotations needs k) n n (Ok None)
none_given s rotations needs halfway k n over =
    let count : length rotations - k ≡ 0 = omega arith in
    let none : lines_of_rotations s rotations needs k ≡ [] = ap (λ n. flat_map (two_lines s rotations needs) (range_with_len k n)) count in
    gave_none (lines_left halfway s rotations needs k) n (by_half halfway none) where
      by_half : (halfway : Bool) → lines_of_rotations s rotations needs k ≡ [] → lines_left halfway s rotations needs k ≡ []
      by_half false none = none
      by_half true none = ap (drop 1) none

-- Counting.

rows_long : (vectors : List (Vec ℕ Global)) → length (rows_of vectors) ≡ length vectors
rows_long vectors = length-map vectors (λ (v : Vec ℕ Global). v.items)

-- what rotations need has small numbers, where the rotations are few
pub small_needs : (l : Lists) (rotations : List (List (ℕ × ℕ))) (needs : List (List ℕ)) → length rotations < 2 ^ 24 → length needs ≡ length rotations
    → ((k : ℕ) → k < length rotations → AreNeedsOf l rotations k (row needs k)) → (k : ℕ) → All (λ i. i < 2 ^ 24) (row needs k)
small_needs l rotations needs few one of k = elim (cases_lt k (length rotations)) [
  | inl here ↦ λ a d on. let below = (of k here).sound a on in omega (arith, below, few, get_or_default_zero (row needs k) a d on)
  | inr past ↦
      let none : length (row needs k) ≡ 0 = ap (λ (r : List ℕ). length r) (get_or_past needs k [] (omega (arith, past, one))) in
      λ a d on. absurd (omega arith)
]

-- A poset's lists, first matching and rotations, as they are read from its values, and what each rotation needs.
pub record AreShown (l : Lists) (first : Places) (rotations : List (List (ℕ × ℕ))) (needs : List (List ℕ)) : Type 0 where
  pub printed : IsPrintedChain l first rotations
  pub few : length rotations < 2 ^ 24
  pub one_each : length needs ≡ length rotations
  pub of : (k : ℕ) → k < length rotations → AreNeedsOf l rotations k (row needs k)

pub are_shown : (poset : RotationPoset) (l : Lists) (first : Paired) (rotations : List (List (ℕ × ℕ))) (needs : List (List ℕ))
    → poset.lists ≡ l → first ≡ poset.first → rotations ≡ poset.rotations → IsPoset poset → AreNeeds poset.lists poset.rotations needs → AreShown l first.places rotations needs
are_shown poset l first rotations needs e ef er p n =
    let long : length rotations ≡ length poset.rotations = ap (λ (r : List (List (ℕ × ℕ))). length r) er in
    record {
      printed = subst (λ (r : List (List (ℕ × ℕ))). IsPrintedChain l first.places r) (sym er) (subst (λ (f : Paired). IsPrintedChain l f.places poset.rotations) (sym ef)
          (subst (λ (k : Lists). IsPrintedChain k poset.first.places poset.rotations) e p.printed));
      few = omega (arith, long, p.few);
      one_each = n.one_each ∙ sym long;
      of = λ k here. subst (λ (r : List (List (ℕ × ℕ))). AreNeedsOf l r k (row needs k)) (sym er)
          (subst (λ (m : Lists). AreNeedsOf m poset.rotations k (row needs k)) e (n.each k (omega (arith, here, long))));
    }

-- so are those that were found
pub shown_of_found : (l : Lists) (found : ChainWithNeeds) (values : List Rotation) (vectors : List (Vec ℕ Global)) → values ≡ found.chain.rotations.items → vectors ≡ found.needs.items
    → AreRotationsOf l found → AreShown l found.chain.first.places (rotations_of values) (rows_of vectors)
shown_of_found l found values vectors same same' r =
    let rotations = rotations_of found.chain.rotations.items in
    let x : AreShown l found.chain.first.places rotations (rows_of found.needs.items) = record {
      printed = r.printed;
      few = omega (arith, r.few, as_many found.chain.rotations.items);
      one_each = r.needs.one_each;
      of = r.needs.each;
    } in
    subst (λ (v : List Rotation). AreShown l found.chain.first.places (rotations_of v) (rows_of vectors)) (sym same)
    (subst (λ (v : List (Vec ℕ Global)). AreShown l found.chain.first.places rotations (rows_of v)) (sym same') x)

-- the values are as many
pub values_few : (l : Lists) (first : Places) (values : List Rotation) (needs : List (List ℕ)) → AreShown l first (rotations_of values) needs → length values < 2 ^ 24
values_few l first values needs h = omega (arith, h.few, as_many values)

-- and as many as the vectors of needs
pub values_each : (l : Lists) (first : Places) (values : List Rotation) (vectors : List (Vec ℕ Global)) → AreShown l first (rotations_of values) (rows_of vectors) → length vectors ≡ length values
values_each l first values vectors h = sym (rows_long vectors) ∙ h.one_each ∙ as_many values
