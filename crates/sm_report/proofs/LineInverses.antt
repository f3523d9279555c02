-- The reader of lines is inverse to their fields.
use Rattle.std.proofs.Common.{◌≡◌, ℕ, ◌≤◌, Bool, true, false, List, [], ◌∷◌, map, All, Option, Some, None, option_map, refl, sym, ap, ◌∙◌, subst, arith, codes, decimal, ℤ}
use Rattle.std.specs.Fmt.{signed_decimal}
use Rattle.std.specs.Int.RustNames.{unsigned_abs}
use Rattle.std.specs.Option.{option_zip, option_and_then}
use Rattle.std.proofs.lemmas.List.{length-map, get_or-map}
use Rattle.std.proofs.lemmas.List.Elements.{All-nil, All-cons, All-head, All-map}
use Rattle.std.proofs.lemmas.Option.{none-some, same_Some}
use Rattle.sm_instance.specs.Inputs.{IsInput, kind_of}
use Rattle.sm_instance.specs.declared.inputs.Input.{Input}
use Rattle.sm_agents.specs.declared.kinds.Kind.{Kind}
use Rattle.sm_agents.specs.declared.kinds.Kind.TheVariants.{Marriage, Hospitals, Roommates}
use Rattle.sm_report.specs.declared.lines.Seat.{Seat}
use Rattle.sm_report.specs.declared.keywords.Keyword.{Keyword}
use Rattle.sm_report.specs.declared.keywords.Keyword.TheVariants as keyword
use Rattle.sm_report.specs.Lines.{LineData}
use Rattle.sm_report.specs.Reasons.{IsReason, name_of_reason}
use Rattle.sm_report.specs.Sound.{IsLineOf, IsOnLeft, IsOnRight, IsSmall, IsLarge, IsRotation, AreRotations, IsSeatNumber}
use Rattle.sm_report.specs.Texts.{left_name, right_name, seat_text, lefts, seats, seated_pairs, numbers, end_text, fields_of}
use Rattle.sm_report.specs.Meanings.{look_up, keywords, line_behind, line_in, three_of, headed_of, bare_in, left_in, right_in, seat_in, pair_in, seated_in, lefts_in, seats_in, figures_in, rising_in, seated_pairs_in, proposer_in, reviewer_in, rotation_with_pairs_in, needs_in, tally_in, gain_in, flow_in, no_in, large_in, end_in, seat, seat_by}
use Rattle.sm_text.specs.Name.{is_name}
use Rattle.sm_report.proofs.HeadInverses.{EachRow, looked_up, head_inverts}
use Rattle.sm_report.proofs.InverseLemmas.{Inverts, mapped, chained, zipped, one_inverts, two_inverts, headed_inverts, each_inverts, each_pair_inverts, listed_inverts}
use Rattle.sm_report.proofs.FieldInverses.{IsSeat, small_inverts, large_inverts, rotation_inverts, signed_inverts, left_inverts, right_inverts, seat_inverts, end_inverts, reason_inverts, vector_inverts, rising_inverts, is_name-left_name, is_name-right_name, is_name-dash}

-- what an option holds where it can hold nothing
holds_none : {X : Type 0} (o : Option X) → ((x : X) → o ≡ Some x → ⊥) → o ≡ None
holds_none None h = refl
holds_none (Some x) h = absurd (h x refl)

-- what holds of a list's items, said of those that were made of them
pub All-of_map : {X Y : Type 0} (P : Y → Type 0) (f : X → Y) (xs : List X) → All P (map f xs) → All (λ x. P (f x)) xs
All-of_map P f xs h k d below = subst P (get_or-map f xs k d (f d) below) (h k (f d) (let e = length-map xs f in omega arith))

All-both : {X : Type 0} (P Q : X → Type 0) (xs : List X) → All P xs → All Q xs → All (λ x. P x × Q x) xs
All-both P Q xs h k i d below = (h i d below, k i d below)

All-first : {X : Type 0} (P Q : X → Type 0) (xs : List X) → All (λ x. P x × Q x) xs → All P xs
All-first P Q xs h i d below = (h i d below).0

All-second : {X : Type 0} (P Q : X → Type 0) (xs : List X) → All (λ x. P x × Q x) xs → All Q xs
All-second P Q xs h i d below = (h i d below).1

-- two ends of a flow and an amount
three_inverts : Inverts (λ (x : (ℕ × ℕ) × ℕ). (IsSmall x.0.0 × IsSmall x.0.1) × IsLarge x.1) (λ x. end_text x.0.0 ∷ end_text x.0.1 ∷ decimal x.1 ∷ []) flow_in
unfolding three_of
three_inverts = record { again = again; sound = sound; same = same } where
  again : (x : (ℕ × ℕ) × ℕ) → (IsSmall x.0.0 × IsSmall x.0.1) × IsLarge x.1 → flow_in (end_text x.0.0 ∷ end_text x.0.1 ∷ decimal x.1 ∷ []) ≡ Some x
  again x s =
      ap (λ o. option_zip (option_zip o (end_in (end_text x.0.1))) (large_in (decimal x.1))) (end_inverts.again x.0.0 s.0.0)
      ∙ ap (λ o. option_zip (option_zip (Some x.0.0) o) (large_in (decimal x.1))) (end_inverts.again x.0.1 s.0.1)
      ∙ ap (λ o. option_zip (Some x.0) o) (large_inverts.again x.1 s.1)

  sound : (fields : List (List ℕ)) (x : (ℕ × ℕ) × ℕ) → flow_in fields ≡ Some x → (IsSmall x.0.0 × IsSmall x.0.1) × IsLarge x.1
  sound [] x e = absurd (none-some x e)
  sound (a ∷ []) x e = absurd (none-some x e)
  sound (a ∷ b ∷ []) x e = absurd (none-some x e)
  sound (a ∷ b ∷ c ∷ []) x e =
      let z = zipped (option_zip (end_in a) (end_in b)) (large_in c) x e in
      let y = zipped (end_in a) (end_in b) x.0 z.first in
      ((end_inverts.sound a x.0.0 y.first, end_inverts.sound b x.0.1 y.second), large_inverts.sound c x.1 z.second)
  sound (a ∷ b ∷ c ∷ d ∷ more) x e = absurd (none-some x e)

  same : (fields : List (List ℕ)) (x : (ℕ × ℕ) × ℕ) → flow_in fields ≡ Some x → end_text x.0.0 ∷ end_text x.0.1 ∷ decimal x.1 ∷ [] ≡ fields
  same [] x e = absurd (none-some x e)
  same (a ∷ []) x e = absurd (none-some x e)
  same (a ∷ b ∷ []) x e = absurd (none-some x e)
  same (a ∷ b ∷ c ∷ []) x e =
      let z = zipped (option_zip (end_in a) (end_in b)) (large_in c) x e in
      let y = zipped (end_in a) (end_in b) x.0 z.first in
      ap (λ t. t ∷ end_text x.0.1 ∷ decimal x.1 ∷ []) (end_inverts.same a x.0.0 y.first)
      ∙ ap (λ t. a ∷ t ∷ decimal x.1 ∷ []) (end_inverts.same b x.0.1 y.second) ∙ ap (λ t. a ∷ b ∷ t ∷ []) (large_inverts.same c x.1 z.second)
  same (a ∷ b ∷ c ∷ d ∷ more) x e = absurd (none-some x e)

-- a word by itself
bare_inverts : (line : LineData) → Inverts (λ (x : LineData). x ≡ line) (λ x. []) (bare_in line)
unfolding bare_in
bare_inverts line = record { again = again; sound = sound; same = same } where
  again : (x : LineData) → x ≡ line → bare_in line [] ≡ Some x
  again x e = ap (λ t. Some t) (sym e)

  sound : (fields : List (List ℕ)) (x : LineData) → bare_in line fields ≡ Some x → x ≡ line
  sound [] x e = sym (same_Some _ _ e)
  sound (a ∷ more) x e = absurd (none-some x e)

  same : (fields : List (List ℕ)) (x : LineData) → bare_in line fields ≡ Some x → [] ≡ fields
  same [] x e = refl
  same (a ∷ more) x e = absurd (none-some x e)

-- a line that was read behind a word
pub record IsReadBehind (input : Input) (name : List ℕ) (fields : List (List ℕ)) (line : LineData) : Type 0 where
  pub sound : IsLineOf input line
  pub same : fields_of input line ≡ name ∷ fields

read_as : {X : Type 0} {S : X → Type 0} {w : X → List (List ℕ)} {r : List (List ℕ) → Option X} (input : Input) (name : List ℕ) (make : X → LineData)
    → Inverts S w r → ((x : X) → S x → IsLineOf input (make x)) → ((x : X) → fields_of input (make x) ≡ name ∷ w x)
    → (fields : List (List ℕ)) (line : LineData) → option_map make (r fields) ≡ Some line → IsReadBehind input name fields line
read_as {r = r} input name make h sound written fields line e =
    let m = mapped make (r fields) line e in
    subst (IsReadBehind input name fields) m.gives
    (record { sound = sound m.from (h.sound fields m.from m.is); same = written m.from ∙ ap (λ t. name ∷ t) (h.same fields m.from m.is) })

-- numbers behind words
figures_invert : Inverts (All IsLarge) numbers figures_in
figures_invert = listed_inverts (each_inverts large_inverts) refl

risings_invert : Inverts AreRotations numbers rising_in
risings_invert = listed_inverts rising_inverts refl

-- `-` is no name, and no seat
not_name : (name : List ℕ) → is_name name ≡ true → name ≡ codes "-" → ⊥
not_name name h e = other (is_name (codes "-")) (ap is_name (sym e) ∙ h) is_name-dash where
  other : (t : Bool) → t ≡ true → t ≡ false → ⊥
  other t p q = cc

no_numbered : (o : Option ℕ) → option_map (λ (x : ℕ × ℕ). seat x.0 x.1) (option_zip o None) ≡ None
no_numbered None = refl
no_numbered (Some n) = refl

by_kind : (kind : Kind) (named : List ℕ → Option ℕ) → named (codes "-") ≡ None → seat_by kind named (codes "-") ≡ None
by_kind Marriage named e = ap (option_map (λ r. seat r 1)) e
by_kind Hospitals named e = no_numbered (named (codes "-"))
by_kind Roommates named e = ap (option_map (λ r. seat r 1)) e

needs_inverts : Inverts (λ (x : ℕ × List ℕ). IsRotation x.0 × AreRotations x.1) (λ x. decimal x.0 ∷ numbers x.1) needs_in
needs_inverts = headed_inverts rotation_inverts risings_invert

tally_inverts : Inverts (λ (x : ℕ × List ℕ). IsSmall x.0 × All IsLarge x.1) (λ x. decimal x.0 ∷ numbers x.1) tally_in
tally_inverts = headed_inverts small_inverts figures_invert

gain_inverts : Inverts (λ (x : ℕ × ℤ). IsRotation x.0 × (unsigned_abs x.1 ≤ 9223372036854775807)) (λ x. decimal x.0 ∷ signed_decimal x.1 ∷ []) gain_in
gain_inverts = two_inverts rotation_inverts signed_inverts

no_inverts : Inverts (λ (x : ℕ × ℕ). IsSmall x.0 × IsReason x.1) (λ x. decimal x.0 ∷ name_of_reason x.1 ∷ []) no_in
no_inverts = two_inverts small_inverts reason_inverts

-- the text of a keyword
abbrev name_of : Keyword → List ℕ
name_of keyword.Answer = codes "answer"
name_of keyword.Pair = codes "pair"
name_of keyword.Nothing = codes "none"
name_of keyword.Party = codes "party"
name_of keyword.First = codes "first"
name_of keyword.Last = codes "last"
name_of keyword.Proposer = codes "proposer"
name_of keyword.Reviewer = codes "reviewer"
name_of keyword.Rotation = codes "rotation"
name_of keyword.Needs = codes "needs"
name_of keyword.Gain = codes "gain"
name_of keyword.Flow = codes "flow"
name_of keyword.Taken = codes "taken"
name_of keyword.Value = codes "value"
name_of keyword.Cut = codes "cut"
name_of keyword.Total = codes "total"
name_of keyword.Some = codes "some"
name_of keyword.All = codes "all"
name_of keyword.Vector = codes "vector"
name_of keyword.More = codes "more"
name_of keyword.Regret = codes "regret"
name_of keyword.Left = codes "left"
name_of keyword.Right = codes "right"
name_of keyword.Listed = codes "listed"
name_of keyword.Tally = codes "tally"
name_of keyword.Yes = codes "yes"
name_of keyword.No = codes "no"
name_of keyword.End = codes "end"
name_of keyword.SecondGain = codes "gain2"
name_of keyword.SecondFlow = codes "flow2"
name_of keyword.SecondValue = codes "value2"
name_of keyword.SecondCut = codes "cut2"
name_of keyword.SecondTotal = codes "total2"
name_of keyword.Back = codes "back"
name_of keyword.Forth = codes "forth"
name_of keyword.Out = codes "out"

keywords_named : EachRow (λ n w. name_of w ≡ n) keywords
keywords_named = (refl, (refl, (refl, (refl, (refl, (refl, (refl, (refl, (refl, (refl, (refl, (refl, (refl, (refl, (refl, (refl, (refl, (refl, (refl, (refl, (refl, (refl, (refl, (refl, (refl, (refl, (refl, (refl, (refl, (refl, (refl, (refl, (refl, (refl, (refl, (refl, tt))))))))))))))))))))))))))))))))))))

-- the readers of the fields behind words, for an input
module _ (input : Input) (sound : IsInput input) where
  no_seats : All (λ (s : Seat). IsSeatNumber (kind_of input) s.number) []
  no_seats = All-nil (λ (s : Seat). IsSeatNumber (kind_of input) s.number)

  one_seat : (s : Seat) → IsSeatNumber (kind_of input) s.number → All (λ (s : Seat). IsSeatNumber (kind_of input) s.number) (s ∷ [])
  one_seat s h = All-cons (λ (s : Seat). IsSeatNumber (kind_of input) s.number) s [] h no_seats

  no_left : left_in input (codes "-") ≡ None
  no_left = holds_none (left_in input (codes "-"))
      (λ p e. absurd (not_name (left_name input p) (is_name-left_name input sound p ((left_inverts input sound).sound (codes "-") p e)) ((left_inverts input sound).same (codes "-") p e)))

  no_right : right_in input (codes "-") ≡ None
  no_right = holds_none (right_in input (codes "-"))
      (λ r e. absurd (not_name (right_name input r) (is_name-right_name input sound r ((right_inverts input sound).sound (codes "-") r e)) ((right_inverts input sound).same (codes "-") r e)))

  no_seat : seat_in input (codes "-") ≡ None
  no_seat = by_kind (kind_of input) (right_in input) no_right

  pairs_invert : Inverts (λ (x : ℕ × ℕ). IsOnLeft input x.0 × IsOnRight input x.1) (λ x. left_name input x.0 ∷ right_name input x.1 ∷ []) (pair_in input)
  pairs_invert = two_inverts (left_inverts input sound) (right_inverts input sound)

  seated_invert : Inverts (λ (x : ℕ × Seat). IsOnLeft input x.0 × IsSeat input x.1) (λ x. left_name input x.0 ∷ seat_text input x.1 ∷ []) (seated_in input)
  seated_invert = two_inverts (left_inverts input sound) (seat_inverts input sound)

  lefts_invert : Inverts (All (IsOnLeft input)) (lefts input) (lefts_in input)
  lefts_invert = listed_inverts (each_inverts (left_inverts input sound)) (ap (option_and_then (λ x. option_map (λ xs. x ∷ xs) (Some []))) no_left)

  seats_invert : Inverts (All (IsSeat input)) (seats input) (seats_in input)
  seats_invert = listed_inverts (each_inverts (seat_inverts input sound)) (ap (option_and_then (λ x. option_map (λ xs. x ∷ xs) (Some []))) no_seat)

  seated_pairs_invert : Inverts (All (λ (x : ℕ × Seat). IsOnLeft input x.0 × IsSeat input x.1)) (seated_pairs input) (seated_pairs_in input)
  seated_pairs_invert = listed_inverts (each_pair_inverts (left_inverts input sound) (seat_inverts input sound)) refl

  proposer_inverts : Inverts (λ (x : ℕ × List Seat). IsOnLeft input x.0 × All (IsSeat input) x.1) (λ x. left_name input x.0 ∷ seats input x.1) (proposer_in input)
  proposer_inverts = headed_inverts (left_inverts input sound) seats_invert

  reviewer_inverts : Inverts (λ (x : Seat × List ℕ). IsSeat input x.0 × All (IsOnLeft input) x.1) (λ x. seat_text input x.0 ∷ lefts input x.1) (reviewer_in input)
  reviewer_inverts = headed_inverts (seat_inverts input sound) lefts_invert

  rotation_with_pairs_inverts : Inverts (λ (x : ℕ × List (ℕ × Seat)). IsRotation x.0 × All (λ (y : ℕ × Seat). IsOnLeft input y.0 × IsSeat input y.1) x.1) (λ x. decimal x.0 ∷ seated_pairs input x.1) (rotation_with_pairs_in input)
  rotation_with_pairs_inverts = headed_inverts rotation_inverts seated_pairs_invert

  -- a line without fields behind its word
  bare_read : (name : List ℕ) (line : LineData) → IsLineOf input line → fields_of input line ≡ name ∷ [] → (fields : List (List ℕ)) (read : LineData) → bare_in line fields ≡ Some read → IsReadBehind input name fields read
  bare_read name line s written fields read e =
      let h = bare_inverts line in
      let P : LineData → Type 0 = λ x. IsReadBehind input name fields x in
      subst P (sym (h.sound fields read e)) (record { sound = s; same = written ∙ ap (λ t. name ∷ t) (h.same fields read e) })

  read_behind : (w : Keyword) (fields : List (List ℕ)) (line : LineData) → line_behind input w fields ≡ Some line → IsReadBehind input (name_of w) fields line
  read_behind keyword.Answer = read_as input (codes "answer") LineData.Answer (head_inverts (kind_of input)) (λ x s. record { printable = tt; seats = no_seats; numbers = tt; head = s }) (λ x. refl)
  read_behind keyword.Pair = read_as input (codes "pair") (λ (x : ℕ × ℕ). LineData.Pair x.0 x.1) pairs_invert (λ x s. record { printable = s; seats = no_seats; numbers = tt; head = tt }) (λ x. refl)
  read_behind keyword.Nothing = bare_read (codes "none") LineData.Nothing (record { printable = tt; seats = no_seats; numbers = tt; head = tt }) refl
  read_behind keyword.Party = read_as input (codes "party") LineData.Party lefts_invert (λ x s. record { printable = s; seats = no_seats; numbers = tt; head = tt }) (λ x. refl)
  read_behind keyword.First = read_as input (codes "first") (λ (x : ℕ × Seat). LineData.First x.0 x.1) seated_invert (λ x s. record { printable = (s.0, s.1.0); seats = one_seat x.1 s.1.1; numbers = tt; head = tt }) (λ x. refl)
  read_behind keyword.Last = read_as input (codes "last") (λ (x : ℕ × Seat). LineData.Last x.0 x.1) seated_invert (λ x s. record { printable = (s.0, s.1.0); seats = one_seat x.1 s.1.1; numbers = tt; head = tt }) (λ x. refl)
  read_behind keyword.Proposer = read_as input (codes "proposer") (λ (x : ℕ × List Seat). LineData.ProposerList x.0 x.1) proposer_inverts
      (λ x s. record { printable = (s.0, All-first (λ (y : Seat). IsOnRight input y.reviewer) (λ (y : Seat). IsSeatNumber (kind_of input) y.number) x.1 s.1); seats = All-second (λ (y : Seat). IsOnRight input y.reviewer) (λ (y : Seat). IsSeatNumber (kind_of input) y.number) x.1 s.1; numbers = tt; head = tt }) (λ x. refl)
  read_behind keyword.Reviewer = read_as input (codes "reviewer") (λ (x : Seat × List ℕ). LineData.ReviewerList x.0 x.1) reviewer_inverts (λ x s. record { printable = (s.0.0, s.1); seats = one_seat x.0 s.0.1; numbers = tt; head = tt }) (λ x. refl)
  read_behind keyword.Rotation = read_as input (codes "rotation") (λ (x : ℕ × List (ℕ × Seat)). LineData.Rotation x.0 x.1) rotation_with_pairs_inverts
      (λ x s. record {
        printable = λ k d below. ((s.1 k d below).0, (s.1 k d below).1.0);
        seats = All-map (λ (y : Seat). IsSeatNumber (kind_of input) y.number) (λ (pair : ℕ × Seat). pair.1) x.1 (λ k d below. (s.1 k d below).1.1);
        numbers = s.0;
        head = tt;
      }) (λ x. refl)
  read_behind keyword.Needs = read_as input (codes "needs") (λ (x : ℕ × List ℕ). LineData.Needs x.0 x.1) needs_inverts (λ x s. record { printable = tt; seats = no_seats; numbers = s; head = tt }) (λ x. refl)
  read_behind keyword.Gain = read_as input (codes "gain") (λ (x : ℕ × ℤ). LineData.Gain x.0 x.1) gain_inverts (λ x s. record { printable = tt; seats = no_seats; numbers = s; head = tt }) (λ x. refl)
  read_behind keyword.Flow = read_as input (codes "flow") (λ (x : (ℕ × ℕ) × ℕ). LineData.Flow x.0.0 x.0.1 x.1) three_inverts (λ x s. record { printable = tt; seats = no_seats; numbers = (s.0.0, s.0.1, s.1); head = tt }) (λ x. refl)
  read_behind keyword.Taken = read_as input (codes "taken") LineData.Taken risings_invert (λ x s. record { printable = tt; seats = no_seats; numbers = s; head = tt }) (λ x. refl)
  read_behind keyword.Value = read_as input (codes "value") LineData.Value (one_inverts large_inverts) (λ x s. record { printable = tt; seats = no_seats; numbers = s; head = tt }) (λ x. refl)
  read_behind keyword.Cut = read_as input (codes "cut") LineData.Cut (one_inverts large_inverts) (λ x s. record { printable = tt; seats = no_seats; numbers = s; head = tt }) (λ x. refl)
  read_behind keyword.Total = read_as input (codes "total") LineData.Total (one_inverts signed_inverts) (λ x s. record { printable = tt; seats = no_seats; numbers = s; head = tt }) (λ x. refl)
  read_behind keyword.Some = read_as input (codes "some") (λ (x : ℕ × ℕ). LineData.SomePair x.0 x.1) pairs_invert (λ x s. record { printable = s; seats = no_seats; numbers = tt; head = tt }) (λ x. refl)
  read_behind keyword.All = read_as input (codes "all") (λ (x : ℕ × ℕ). LineData.AllPair x.0 x.1) pairs_invert (λ x s. record { printable = s; seats = no_seats; numbers = tt; head = tt }) (λ x. refl)
  read_behind keyword.Vector = read_as input (codes "vector") LineData.Vector (one_inverts vector_inverts) (λ x s. record { printable = tt; seats = no_seats; numbers = s; head = tt }) (λ x. refl)
  read_behind keyword.More = read_as input (codes "more") LineData.More (one_inverts vector_inverts) (λ x s. record { printable = tt; seats = no_seats; numbers = s; head = tt }) (λ x. refl)
  read_behind keyword.Regret = read_as input (codes "regret") LineData.Regret (one_inverts small_inverts) (λ x s. record { printable = tt; seats = no_seats; numbers = s; head = tt }) (λ x. refl)
  read_behind keyword.Left = read_as input (codes "left") (λ (x : ℕ × ℕ). LineData.LeftPair x.0 x.1) pairs_invert (λ x s. record { printable = s; seats = no_seats; numbers = tt; head = tt }) (λ x. refl)
  read_behind keyword.Right = read_as input (codes "right") (λ (x : ℕ × ℕ). LineData.RightPair x.0 x.1) pairs_invert (λ x s. record { printable = s; seats = no_seats; numbers = tt; head = tt }) (λ x. refl)
  read_behind keyword.Listed = read_as input (codes "listed") LineData.Listed (one_inverts small_inverts) (λ x s. record { printable = tt; seats = no_seats; numbers = s; head = tt }) (λ x. refl)
  read_behind keyword.Tally = read_as input (codes "tally") (λ (x : ℕ × List ℕ). LineData.TallyLine x.0 x.1) tally_inverts (λ x s. record { printable = tt; seats = no_seats; numbers = s; head = tt }) (λ x. refl)
  read_behind keyword.Yes = bare_read (codes "yes") LineData.Yes (record { printable = tt; seats = no_seats; numbers = tt; head = tt }) refl
  read_behind keyword.No = read_as input (codes "no") (λ (x : ℕ × ℕ). LineData.No x.0 x.1) no_inverts (λ x s. record { printable = s.1; seats = no_seats; numbers = s.0; head = tt }) (λ x. refl)
  read_behind keyword.End = bare_read (codes "end") LineData.End (record { printable = tt; seats = no_seats; numbers = tt; head = tt }) refl
  read_behind keyword.SecondGain = read_as input (codes "gain2") (λ (x : ℕ × ℤ). LineData.SecondGain x.0 x.1) gain_inverts (λ x s. record { printable = tt; seats = no_seats; numbers = s; head = tt }) (λ x. refl)
  read_behind keyword.SecondFlow = read_as input (codes "flow2") (λ (x : (ℕ × ℕ) × ℕ). LineData.SecondFlow x.0.0 x.0.1 x.1) three_inverts (λ x s. record { printable = tt; seats = no_seats; numbers = (s.0.0, s.0.1, s.1); head = tt }) (λ x. refl)
  read_behind keyword.SecondValue = read_as input (codes "value2") LineData.SecondValue (one_inverts large_inverts) (λ x s. record { printable = tt; seats = no_seats; numbers = s; head = tt }) (λ x. refl)
  read_behind keyword.SecondCut = read_as input (codes "cut2") LineData.SecondCut (one_inverts large_inverts) (λ x s. record { printable = tt; seats = no_seats; numbers = s; head = tt }) (λ x. refl)
  read_behind keyword.SecondTotal = read_as input (codes "total2") LineData.SecondTotal (one_inverts signed_inverts) (λ x s. record { printable = tt; seats = no_seats; numbers = s; head = tt }) (λ x. refl)
  read_behind keyword.Back = read_as input (codes "back") LineData.Back (one_inverts rotation_inverts) (λ x s. record { printable = tt; seats = no_seats; numbers = s; head = tt }) (λ x. refl)
  read_behind keyword.Forth = read_as input (codes "forth") LineData.Forth (one_inverts rotation_inverts) (λ x s. record { printable = tt; seats = no_seats; numbers = s; head = tt }) (λ x. refl)
  read_behind keyword.Out = read_as input (codes "out") LineData.Out (one_inverts (left_inverts input sound)) (λ x s. record { printable = s; seats = no_seats; numbers = tt; head = tt }) (λ x. refl)

  -- a line that was read has the fields that it was read from
  pub line_read : (fields : List (List ℕ)) (line : LineData) → line_in input fields ≡ Some line → IsLineOf input line × (fields_of input line ≡ fields)
  unfolding headed_of
  line_read [] line e = absurd (none-some line e)
  line_read (name ∷ fields) line e =
      let c = chained (λ w. line_behind input w fields) (look_up keywords name) line e in
      let r = read_behind c.from fields line c.gives in
      let word : name_of c.from ≡ name = looked_up (λ n w. name_of w ≡ n) keywords keywords_named name c.from c.is in
      (r.sound, r.same ∙ ap (λ n. n ∷ fields) word)

  -- and a line's fields are read as the line
  again_as : {X : Type 0} {S : X → Type 0} {w : X → List (List ℕ)} {r : List (List ℕ) → Option X} (make : X → LineData) → Inverts S w r → (x : X) → S x → option_map make (r (w x)) ≡ Some (make x)
  again_as make h x s = ap (option_map make) (h.again x s)

  seat_of : (x : Seat) → IsOnRight input x.reviewer → All (λ (s : Seat). IsSeatNumber (kind_of input) s.number) (x ∷ []) → IsSeat input x
  seat_of x h k = (h, All-head (λ (s : Seat). IsSeatNumber (kind_of input) s.number) x [] k)

  -- each line of the input is read again from its fields
  pub line_again : (line : LineData) → IsLineOf input line → line_in input (fields_of input line) ≡ Some line
  unfolding headed_of bare_in
  line_again (LineData.Answer head) s = again_as LineData.Answer (head_inverts (kind_of input)) head s.head
  line_again (LineData.Pair p r) s = again_as (λ (x : ℕ × ℕ). LineData.Pair x.0 x.1) pairs_invert (p, r) s.printable
  line_again LineData.Nothing s = refl
  line_again (LineData.Party persons) s = again_as LineData.Party lefts_invert persons s.printable
  line_again (LineData.Out person) s = again_as LineData.Out (one_inverts (left_inverts input sound)) person s.printable
  line_again (LineData.First p to) s = again_as (λ (x : ℕ × Seat). LineData.First x.0 x.1) seated_invert (p, to) (s.printable.0, seat_of to s.printable.1 s.seats)
  line_again (LineData.Last p to) s = again_as (λ (x : ℕ × Seat). LineData.Last x.0 x.1) seated_invert (p, to) (s.printable.0, seat_of to s.printable.1 s.seats)
  line_again (LineData.ProposerList p list) s = again_as (λ (x : ℕ × List Seat). LineData.ProposerList x.0 x.1) proposer_inverts (p, list)
      (s.printable.0, All-both (λ (y : Seat). IsOnRight input y.reviewer) (λ (y : Seat). IsSeatNumber (kind_of input) y.number) list s.printable.1 s.seats)
  line_again (LineData.ReviewerList of list) s = again_as (λ (x : Seat × List ℕ). LineData.ReviewerList x.0 x.1) reviewer_inverts (of, list) (seat_of of s.printable.0 s.seats, s.printable.1)
  line_again (LineData.Rotation i pairs) s = again_as (λ (x : ℕ × List (ℕ × Seat)). LineData.Rotation x.0 x.1) rotation_with_pairs_inverts (i, pairs)
      (s.numbers, λ k d below. ((s.printable k d below).0, ((s.printable k d below).1, All-of_map (λ (y : Seat). IsSeatNumber (kind_of input) y.number) (λ (pair : ℕ × Seat). pair.1) pairs s.seats k d below)))
  line_again (LineData.Needs i needed) s = again_as (λ (x : ℕ × List ℕ). LineData.Needs x.0 x.1) needs_inverts (i, needed) s.numbers
  line_again (LineData.Gain i gain) s = again_as (λ (x : ℕ × ℤ). LineData.Gain x.0 x.1) gain_inverts (i, gain) s.numbers
  line_again (LineData.SecondGain i gain) s = again_as (λ (x : ℕ × ℤ). LineData.SecondGain x.0 x.1) gain_inverts (i, gain) s.numbers
  line_again (LineData.Flow from to amount) s = again_as (λ (x : (ℕ × ℕ) × ℕ). LineData.Flow x.0.0 x.0.1 x.1) three_inverts ((from, to), amount) ((s.numbers.0, s.numbers.1), s.numbers.2)
  line_again (LineData.SecondFlow from to amount) s = again_as (λ (x : (ℕ × ℕ) × ℕ). LineData.SecondFlow x.0.0 x.0.1 x.1) three_inverts ((from, to), amount) ((s.numbers.0, s.numbers.1), s.numbers.2)
  line_again (LineData.Taken taken) s = again_as LineData.Taken risings_invert taken s.numbers
  line_again (LineData.Value value) s = again_as LineData.Value (one_inverts large_inverts) value s.numbers
  line_again (LineData.SecondValue value) s = again_as LineData.SecondValue (one_inverts large_inverts) value s.numbers
  line_again (LineData.Cut value) s = again_as LineData.Cut (one_inverts large_inverts) value s.numbers
  line_again (LineData.SecondCut value) s = again_as LineData.SecondCut (one_inverts large_inverts) value s.numbers
  line_again (LineData.Total weight) s = again_as LineData.Total (one_inverts signed_inverts) weight s.numbers
  line_again (LineData.SecondTotal weight) s = again_as LineData.SecondTotal (one_inverts signed_inverts) weight s.numbers
  line_again (LineData.SomePair p r) s = again_as (λ (x : ℕ × ℕ). LineData.SomePair x.0 x.1) pairs_invert (p, r) s.printable
  line_again (LineData.AllPair p r) s = again_as (λ (x : ℕ × ℕ). LineData.AllPair x.0 x.1) pairs_invert (p, r) s.printable
  line_again (LineData.Vector v) s = again_as LineData.Vector (one_inverts vector_inverts) v s.numbers
  line_again (LineData.More v) s = again_as LineData.More (one_inverts vector_inverts) v s.numbers
  line_again (LineData.Regret regret) s = again_as LineData.Regret (one_inverts small_inverts) regret s.numbers
  line_again (LineData.LeftPair p r) s = again_as (λ (x : ℕ × ℕ). LineData.LeftPair x.0 x.1) pairs_invert (p, r) s.printable
  line_again (LineData.RightPair p r) s = again_as (λ (x : ℕ × ℕ). LineData.RightPair x.0 x.1) pairs_invert (p, r) s.printable
  line_again (LineData.Back i) s = again_as LineData.Back (one_inverts rotation_inverts) i s.numbers
  line_again (LineData.Forth i) s = again_as LineData.Forth (one_inverts rotation_inverts) i s.numbers
  line_again (LineData.Listed count) s = again_as LineData.Listed (one_inverts small_inverts) count s.numbers
  line_again (LineData.TallyLine tag figures) s = again_as (λ (x : ℕ × List ℕ). LineData.TallyLine x.0 x.1) tally_inverts (tag, figures) s.numbers
  line_again LineData.Yes s = refl
  line_again (LineData.No at reason) s = again_as (λ (x : ℕ × ℕ). LineData.No x.0 x.1) no_inverts (at, reason) (s.numbers, s.printable)
  line_again LineData.End s = refl
