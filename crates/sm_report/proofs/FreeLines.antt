-- The fields of a line of an input hold no space, so the fields of its text are the line's; and its text holds no end of a line.
use Rattle.std.proofs.Common.{◌≡◌, ℕ, zero, suc, ◌-◌, ◌<◌, ◌≤◌, ◌^◌, ◌==◌, ◌||◌, ◌&&◌, nat_le, eqb-true, leb-true, le-leb, not, if◌then◌else◌, Bool, true, false, ◌⊎◌, inl, inr, List, [], ◌∷◌, ◌++◌, map, All, get_or, Some, None, refl, ap, ◌∙◌, arith, codes, decimal, ℤ, pos, negsuc}
use Rattle.std.specs.Fmt.{signed_decimal}
use Rattle.std.specs.Int.RustNames.{unsigned_abs}
use Rattle.std.specs.List.{flat_map, list_all, join_with_byte}
use Rattle.std.proofs.lemmas.List.Elements.{All-head, All-tail}
use Rattle.std.proofs.lemmas.List.Folds.{list_all-append}
use Rattle.std.proofs.lemmas.Option.{none-some}
use Rattle.std.proofs.lemmas.Bool.{and_from}
use Rattle.sm_text.specs.Plain.{is_plain_byte, is_plain}
use Rattle.sm_text.specs.Name.{begins_name, is_digit, is_letter, is_name, is_name_byte}
use Rattle.sm_lists.proofs.BoolLemmas.{first_true, second_true}
use Rattle.sm_instance.specs.Inputs.{IsInput, kind_of}
use Rattle.sm_instance.specs.declared.inputs.Input.{Input}
use Rattle.sm_agents.specs.declared.kinds.Kind.{Kind}
use Rattle.sm_agents.specs.declared.kinds.Kind.TheVariants.{Marriage, Hospitals, Roommates}
use Rattle.sm_agents.specs.declared.kinds.Side.TheVariants.{Proposers, Reviewers}
use Rattle.sm_agents.specs.declared.kinds.Measure.TheVariants.{Ranks, Given}
use Rattle.sm_report.specs.declared.lines.Seat.{Seat}
use Rattle.sm_report.specs.Heads.{HeadData}
use Rattle.sm_report.specs.Lines.{LineData}
use Rattle.sm_report.specs.Reasons.{reasons, name_of_reason}
use Rattle.sm_report.specs.Sound.{IsLineOf, IsOnLeft, IsOnRight, IsSmall, IsLarge, IsRotation, IsLimit, IsSeatNumber, IsHeadOf}
use Rattle.sm_report.specs.Texts.{left_name, right_name, seat_text, seat_text_in, listed, lefts, seats, seated_pairs, numbers, vector_text, end_text, limit_text, fields_of, fields_of_head, text_of_line, SOURCE, SINK}
use Rattle.sm_report.specs.Meanings.{fields_in, line_in, headed_of}
use Rattle.sm_report.proofs.DecimalLemmas.{digits_of_decimal}
use Rattle.sm_report.proofs.FreeLemmas.{is_free, free_of, free-append, split_joined}
use Rattle.sm_report.proofs.FieldInverses.{is_name-left_name, is_name-right_name, name_bytes}
use Rattle.sm_report.proofs.LineInverses.{All-of_map, line_again}

-- the bytes of fields: from `!` to `~`, without `"` and `\`
abbrev is_field_byte : ℕ → Bool
is_field_byte b = nat_le 33 b && nat_le b 126 && not (b == 34) && not (b == 92)

abbrev in_field : List ℕ → Bool
in_field text = list_all is_field_byte text

free_where : (p : ℕ → Bool) → ((b : ℕ) → p b ≡ true → is_field_byte b ≡ true) → (text : List ℕ) → list_all p text ≡ true → in_field text ≡ true
free_where p to [] h = refl
free_where p to (b ∷ text) h =
    and_from (is_field_byte b) (in_field text) (to b (first_true (p b) (list_all p text) h)) (free_where p to text (second_true (p b) (list_all p text) h))

apart : (b c : ℕ) → (b ≡ c → ⊥) → not (b == c) ≡ true
apart b c other = by_test (b == c) refl where
  by_test : (t : Bool) → (b == c) ≡ t → not t ≡ true
  by_test true is = absurd (other (eqb-true b c is))
  by_test false is = refl

between : (low high b : ℕ) → 35 ≤ low → high ≤ 126 → (high ≤ 91) ⊎ (93 ≤ low) → (nat_le low b && nat_le b high) ≡ true → is_field_byte b ≡ true
between low high b least most side h =
    let above = leb-true low b (first_true (nat_le low b) (nat_le b high) h) in
    let below = leb-true b high (second_true (nat_le low b) (nat_le b high) h) in
    and_from (nat_le 33 b && nat_le b 126 && not (b == 34)) (not (b == 92))
    (and_from (nat_le 33 b && nat_le b 126) (not (b == 34))
    (and_from (nat_le 33 b) (nat_le b 126) (le-leb 33 b (omega (arith, least, above))) (le-leb b 126 (omega (arith, most, below))))
    (apart b 34 (λ is. absurd (omega (arith, is, least, above)))))
    (apart b 92 (λ is. not_92 is above below side))
  where
    not_92 : b ≡ 92 → low ≤ b → b ≤ high → (high ≤ 91) ⊎ (93 ≤ low) → ⊥
    not_92 is above below (inl under) = absurd (omega (arith, is, below, under))
    not_92 is above below (inr over) = absurd (omega (arith, is, above, over))

same_byte : (b c : ℕ) → is_field_byte c ≡ true → (b == c) ≡ true → is_field_byte b ≡ true
same_byte b c in_range e = ap is_field_byte (eqb-true b c e) ∙ in_range

one_of : {X : Type 0} (s t : Bool) → (s ≡ true → X) → (t ≡ true → X) → (s || t) ≡ true → X
one_of true t left right h = left refl
one_of false t left right h = right h

digit_in_field : (b : ℕ) → is_digit b ≡ true → is_field_byte b ≡ true
digit_in_field b e = between 48 57 b (omega arith) (omega arith) (inl (omega arith)) e

name_byte_in_field : (b : ℕ) → is_name_byte b ≡ true → is_field_byte b ≡ true
unfolding is_name_byte begins_name
name_byte_in_field b e =
    one_of ((is_letter b || is_digit b || b == 95) || b == 46) (b == 45)
    (one_of (is_letter b || is_digit b || b == 95) (b == 46)
    (one_of (is_letter b || is_digit b) (b == 95)
    (one_of (is_letter b) (is_digit b)
    (one_of (nat_le 65 b && nat_le b 90) (nat_le 97 b && nat_le b 122) (between 65 90 b (omega arith) (omega arith) (inl (omega arith))) (between 97 122 b (omega arith) (omega arith) (inr (omega arith))))
    (digit_in_field b))
    (same_byte b 95 refl)) (same_byte b 46 refl)) (same_byte b 45 refl) e

free_name : (name : List ℕ) → is_name name ≡ true → in_field name ≡ true
free_name name h = free_where is_name_byte name_byte_in_field name (name_bytes name h)

-- fields of such bytes
abbrev are_free : List (List ℕ) → Bool
are_free fields = list_all in_field fields

free_both : (xs ys : List ℕ) → in_field xs ≡ true → in_field ys ≡ true → in_field (xs ++ ys) ≡ true
free_both xs ys h k = list_all-append is_field_byte xs ys ∙ and_from (in_field xs) (in_field ys) h k

free_one : (a : List ℕ) → in_field a ≡ true → are_free (a ∷ []) ≡ true
free_one a h = and_from (in_field a) true h refl

free_on : (a : List ℕ) (more : List (List ℕ)) → in_field a ≡ true → are_free more ≡ true → are_free (a ∷ more) ≡ true
free_on a more h k = and_from (in_field a) (are_free more) h k

free_listed : (fields : List (List ℕ)) → are_free fields ≡ true → are_free (listed fields) ≡ true
free_listed [] h = refl
free_listed (x ∷ xs) h = h

free_map : {X : Type 0} (S : X → Type 0) (w : X → List ℕ) → ((x : X) → S x → in_field (w x) ≡ true) → (xs : List X) → All S xs → are_free (map w xs) ≡ true
free_map S w free [] h = refl
free_map S w free (x ∷ xs) h = free_on (w x) (map w xs) (free x (All-head S x xs h)) (free_map S w free xs (All-tail S x xs h))

free_flat_map : {X : Type 0} (S : X → Type 0) (w : X → List (List ℕ)) → ((x : X) → S x → are_free (w x) ≡ true) → (xs : List X) → All S xs → are_free (flat_map w xs) ≡ true
free_flat_map S w free [] h = refl
free_flat_map S w free (x ∷ xs) h =
    list_all-append (in_field) (w x) (flat_map w xs) ∙ and_from (are_free (w x)) (are_free (flat_map w xs)) (free x (All-head S x xs h)) (free_flat_map S w free xs (All-tail S x xs h))

-- numbers
free_number : (n : ℕ) → n < 2 ^ 64 → in_field (decimal n) ≡ true
free_number n small = free_where is_digit digit_in_field (decimal n) (digits_of_decimal n small)

free_small : (n : ℕ) → IsSmall n → in_field (decimal n) ≡ true
free_small n small = let h : n < 2 ^ 32 = small in free_number n (omega arith)

free_rotation : (n : ℕ) → IsRotation n → in_field (decimal n) ≡ true
free_rotation n h = free_number n (omega (arith, h.greatest))

free_signed : (z : ℤ) → unsigned_abs z ≤ 9223372036854775807 → in_field (signed_decimal z) ≡ true
free_signed (pos n) h = free_number n (omega (arith, h))
free_signed (negsuc n) h = free_number (suc n) (omega (arith, h))

free_end : (n : ℕ) → IsSmall n → in_field (end_text n) ≡ true
free_end n small = by_source (n == SOURCE) (n == SINK) where
  by_source : (a b : Bool) → in_field (if a then codes "S" else (if b then codes "T" else decimal n)) ≡ true
  by_source true b = refl
  by_source false true = refl
  by_source false false = free_small n small

free_at : (xs : List (List ℕ)) (i : ℕ) → are_free xs ≡ true → in_field (get_or xs i []) ≡ true
free_at [] i h = refl
free_at (x ∷ xs) zero h = first_true (in_field x) (are_free xs) h
free_at (x ∷ xs) (suc i) h = free_at xs i (second_true (in_field x) (are_free xs) h)

free_reason : (n : ℕ) → in_field (name_of_reason n) ≡ true
free_reason n = free_at reasons (n - 1) refl

free_joined : (x : List ℕ) (xs : List (List ℕ)) → are_free (x ∷ xs) ≡ true → in_field (join_with_byte 44 (x ∷ xs)) ≡ true
free_joined x [] h = first_true (in_field x) true h
free_joined x (y ∷ ys) h =
    free_both x (44 ∷ join_with_byte 44 (y ∷ ys)) (first_true (in_field x) (are_free (y ∷ ys)) h) (free_joined y ys (second_true (in_field x) (are_free (y ∷ ys)) h))

free_vector : (v : List ℕ) → All IsSmall v → in_field (vector_text v) ≡ true
free_vector [] h = refl
free_vector (n ∷ ns) h = free_joined (decimal n) (map decimal ns) (free_map IsSmall decimal free_small (n ∷ ns) h)

-- first lines
free_limit : (n : ℕ) → IsLimit n → in_field (limit_text n) ≡ true
free_limit n h = free_both (codes "limit=") (decimal n) refl (free_number n (omega (arith, h.1)))

free_head : (kind : Kind) (head : HeadData) → IsHeadOf kind head → are_free (fields_of_head head) ≡ true
free_head kind (HeadData.Solve None) h = refl
free_head kind (HeadData.Solve (Some Proposers)) h = refl
free_head kind (HeadData.Solve (Some Reviewers)) h = refl
free_head kind HeadData.Reduced h = refl
free_head kind HeadData.Rotations h = refl
free_head kind HeadData.Pairs h = refl
free_head kind (HeadData.List None limit) h = free_one (limit_text limit) (free_limit limit h.1)
free_head kind (HeadData.List (Some v) limit) h =
    free_on (codes "after=" ++ vector_text v) (limit_text limit ∷ []) (free_both (codes "after=") (vector_text v) refl (free_vector v h.0)) (free_one (limit_text limit) (free_limit limit h.1))
free_head kind HeadData.Regret h = refl
free_head kind (HeadData.Weight Ranks) h = refl
free_head kind (HeadData.Weight Given) h = refl
free_head kind HeadData.Meet h = refl
free_head kind HeadData.Join h = refl
free_head kind (HeadData.Survey limit) h = free_one (limit_text limit) (free_limit limit h)
free_head kind HeadData.Check h = refl
free_head kind HeadData.Median h = refl
free_head kind HeadData.Route h = refl
free_head kind HeadData.Rest h = refl

-- seats
free_seat_in : (kind : Kind) (name : List ℕ) (n : ℕ) → in_field name ≡ true → IsSeatNumber kind n → in_field (seat_text_in kind name n) ≡ true
free_seat_in Marriage name n h k = h
free_seat_in Hospitals name n h k = let small : n < 2 ^ 32 = k.1 in free_both (name ++ codes "/") (decimal n) (free_both name (codes "/") h refl) (free_number n (omega arith))
free_seat_in Roommates name n h k = h

-- texts of such fields
all_without : (c : ℕ) → is_field_byte c ≡ false → (fields : List (List ℕ)) → are_free fields ≡ true → list_all (is_free c) fields ≡ true
all_without c other [] h = refl
all_without c other (x ∷ xs) h =
    and_from (is_free c x) (list_all (is_free c) xs) (free_of is_field_byte c other x (first_true (in_field x) (are_free xs) h)) (all_without c other xs (second_true (in_field x) (are_free xs) h))

joined_without : (c : ℕ) → is_field_byte c ≡ false → not (32 == c) ≡ true → (fields : List (List ℕ)) → are_free fields ≡ true → is_free c (join_with_byte 32 fields) ≡ true
joined_without c other no_space [] h = refl
joined_without c other no_space (x ∷ []) h = free_of is_field_byte c other x (first_true (in_field x) true h)
joined_without c other no_space (x ∷ y ∷ ys) h =
    free-append c x (32 ∷ join_with_byte 32 (y ∷ ys)) (free_of is_field_byte c other x (first_true (in_field x) (are_free (y ∷ ys)) h))
    (and_from (not (32 == c)) (is_free c (join_with_byte 32 (y ∷ ys))) no_space (joined_without c other no_space (y ∷ ys) (second_true (in_field x) (are_free (y ∷ ys)) h)))

-- a field is plain, and so are fields with spaces between them
byte_plain : (b : ℕ) → is_field_byte b ≡ true → is_plain_byte b ≡ true
unfolding is_plain_byte
byte_plain b h =
    let front = first_true (nat_le 33 b && nat_le b 126 && not (b == 34)) (not (b == 92)) h in
    let bounds = first_true (nat_le 33 b && nat_le b 126) (not (b == 34)) front in
    let least = leb-true 33 b (first_true (nat_le 33 b) (nat_le b 126) bounds) in
    and_from (nat_le 32 b && nat_le b 126 && not (b == 34)) (not (b == 92))
    (and_from (nat_le 32 b && nat_le b 126) (not (b == 34))
    (and_from (nat_le 32 b) (nat_le b 126) (le-leb 32 b (omega (arith, least))) (second_true (nat_le 33 b) (nat_le b 126) bounds))
    (second_true (nat_le 33 b && nat_le b 126) (not (b == 34)) front))
    (second_true (nat_le 33 b && nat_le b 126 && not (b == 34)) (not (b == 92)) h)

field_plain : (text : List ℕ) → in_field text ≡ true → is_plain text ≡ true
field_plain [] h = refl
field_plain (b ∷ text) h =
    and_from (is_plain_byte b) (is_plain text) (byte_plain b (first_true (is_field_byte b) (in_field text) h)) (field_plain text (second_true (is_field_byte b) (in_field text) h))

-- a name is plain
pub name_plain : (name : List ℕ) → is_name name ≡ true → is_plain name ≡ true
name_plain name h = field_plain name (free_name name h)

-- so is a number
pub number_plain : (n : ℕ) → n < 2 ^ 64 → is_plain (decimal n) ≡ true
number_plain n small = field_plain (decimal n) (free_number n small)

-- so is a signed number
pub signed_plain : (z : ℤ) → unsigned_abs z ≤ 9223372036854775807 → is_plain (signed_decimal z) ≡ true
signed_plain z small = field_plain (signed_decimal z) (free_signed z small)

-- and so are two plain texts, one behind the other
pub both_plain : (xs ys : List ℕ) → is_plain xs ≡ true → is_plain ys ≡ true → is_plain (xs ++ ys) ≡ true
both_plain xs ys h k = list_all-append is_plain_byte xs ys ∙ and_from (is_plain xs) (is_plain ys) h k

space_plain : is_plain_byte 32 ≡ true
unfolding is_plain_byte
space_plain = refl

joined_plain : (fields : List (List ℕ)) → are_free fields ≡ true → is_plain (join_with_byte 32 fields) ≡ true
joined_plain [] h = refl
joined_plain (x ∷ []) h = field_plain x (first_true (in_field x) true h)
joined_plain (x ∷ y ∷ ys) h =
    list_all-append is_plain_byte x (32 ∷ join_with_byte 32 (y ∷ ys))
    ∙ and_from (is_plain x) (is_plain (32 ∷ join_with_byte 32 (y ∷ ys))) (field_plain x (first_true (in_field x) (are_free (y ∷ ys)) h))
    (and_from (is_plain_byte 32) (is_plain (join_with_byte 32 (y ∷ ys))) space_plain (joined_plain (y ∷ ys) (second_true (in_field x) (are_free (y ∷ ys)) h)))

-- the lines of an input
module _ (input : Input) (sound : IsInput input) where
  free_left : (p : ℕ) → IsOnLeft input p → in_field (left_name input p) ≡ true
  free_left p h = free_name (left_name input p) (is_name-left_name input sound p h)

  free_right : (r : ℕ) → IsOnRight input r → in_field (right_name input r) ≡ true
  free_right r h = free_name (right_name input r) (is_name-right_name input sound r h)

  free_seat : (s : Seat) → IsOnRight input s.reviewer → IsSeatNumber (kind_of input) s.number → in_field (seat_text input s) ≡ true
  free_seat s h k = free_seat_in (kind_of input) (right_name input s.reviewer) s.number (free_right s.reviewer h) k

  free_pair : (p r : ℕ) → IsOnLeft input p → IsOnRight input r → are_free (left_name input p ∷ right_name input r ∷ []) ≡ true
  free_pair p r h k = free_on (left_name input p) (right_name input r ∷ []) (free_left p h) (free_one (right_name input r) (free_right r k))

  free_seated : (p : ℕ) (s : Seat) → IsOnLeft input p → IsOnRight input s.reviewer → IsSeatNumber (kind_of input) s.number → are_free (left_name input p ∷ seat_text input s ∷ []) ≡ true
  free_seated p s h k l = free_on (left_name input p) (seat_text input s ∷ []) (free_left p h) (free_one (seat_text input s) (free_seat s k l))

  free_lefts : (ps : List ℕ) → All (IsOnLeft input) ps → are_free (lefts input ps) ≡ true
  free_lefts ps h = free_listed (map (left_name input) ps) (free_map (IsOnLeft input) (left_name input) free_left ps h)

  free_numbers : (S : ℕ → Type 0) → ((n : ℕ) → S n → in_field (decimal n) ≡ true) → (ns : List ℕ) → All S ns → are_free (numbers ns) ≡ true
  free_numbers S free ns h = free_listed (map decimal ns) (free_map S decimal free ns h)

  one_number : (s : Seat) → All (λ (y : Seat). IsSeatNumber (kind_of input) y.number) (s ∷ []) → IsSeatNumber (kind_of input) s.number
  one_number s h = All-head (λ (y : Seat). IsSeatNumber (kind_of input) y.number) s [] h

  free_line : (line : LineData) → IsLineOf input line → are_free (fields_of input line) ≡ true
  free_line (LineData.Answer head) s = free_head (kind_of input) head s.head
  free_line (LineData.Pair p r) s = free_pair p r s.printable.0 s.printable.1
  free_line LineData.Nothing s = refl
  free_line (LineData.Party persons) s = free_lefts persons s.printable
  free_line (LineData.Out person) s = free_one (left_name input person) (free_left person s.printable)
  free_line (LineData.First p to) s = free_seated p to s.printable.0 s.printable.1 (one_number to s.seats)
  free_line (LineData.Last p to) s = free_seated p to s.printable.0 s.printable.1 (one_number to s.seats)
  free_line (LineData.ProposerList p list) s =
      free_on (left_name input p) (seats input list) (free_left p s.printable.0)
      (free_listed (map (seat_text input) list)
      (free_map (λ (x : Seat). IsOnRight input x.reviewer × IsSeatNumber (kind_of input) x.number) (seat_text input) (λ x h. free_seat x h.0 h.1) list (λ k d below. (s.printable.1 k d below, s.seats k d below))))
  free_line (LineData.ReviewerList of list) s = free_on (seat_text input of) (lefts input list) (free_seat of s.printable.0 (one_number of s.seats)) (free_lefts list s.printable.1)
  free_line (LineData.Rotation i pairs) s =
      free_on (decimal i) (seated_pairs input pairs) (free_rotation i s.numbers)
      (free_listed (flat_map (λ (pair : ℕ × Seat). left_name input pair.0 ∷ seat_text input pair.1 ∷ []) pairs)
      (free_flat_map (λ (x : ℕ × Seat). (IsOnLeft input x.0 × IsOnRight input x.1.reviewer) × IsSeatNumber (kind_of input) x.1.number) (λ (pair : ℕ × Seat). left_name input pair.0 ∷ seat_text input pair.1 ∷ [])
      (λ x h. free_seated x.0 x.1 h.0.0 h.0.1 h.1) pairs
      (λ k d below. (s.printable k d below, All-of_map (λ (y : Seat). IsSeatNumber (kind_of input) y.number) (λ (pair : ℕ × Seat). pair.1) pairs s.seats k d below))))
  free_line (LineData.Needs i needed) s = free_on (decimal i) (numbers needed) (free_rotation i s.numbers.0) (free_numbers IsRotation free_rotation needed s.numbers.1.each)
  free_line (LineData.Gain i gain) s = free_on (decimal i) (signed_decimal gain ∷ []) (free_rotation i s.numbers.0) (free_one (signed_decimal gain) (free_signed gain s.numbers.1))
  free_line (LineData.SecondGain i gain) s = free_on (decimal i) (signed_decimal gain ∷ []) (free_rotation i s.numbers.0) (free_one (signed_decimal gain) (free_signed gain s.numbers.1))
  free_line (LineData.Flow from to amount) s =
      free_on (end_text from) (end_text to ∷ decimal amount ∷ []) (free_end from s.numbers.0)
      (free_on (end_text to) (decimal amount ∷ []) (free_end to s.numbers.1) (free_one (decimal amount) (free_number amount s.numbers.2)))
  free_line (LineData.SecondFlow from to amount) s =
      free_on (end_text from) (end_text to ∷ decimal amount ∷ []) (free_end from s.numbers.0)
      (free_on (end_text to) (decimal amount ∷ []) (free_end to s.numbers.1) (free_one (decimal amount) (free_number amount s.numbers.2)))
  free_line (LineData.Taken taken) s = free_numbers IsRotation free_rotation taken s.numbers.each
  free_line (LineData.Value value) s = free_one (decimal value) (free_number value s.numbers)
  free_line (LineData.SecondValue value) s = free_one (decimal value) (free_number value s.numbers)
  free_line (LineData.Cut value) s = free_one (decimal value) (free_number value s.numbers)
  free_line (LineData.SecondCut value) s = free_one (decimal value) (free_number value s.numbers)
  free_line (LineData.Total weight) s = free_one (signed_decimal weight) (free_signed weight s.numbers)
  free_line (LineData.SecondTotal weight) s = free_one (signed_decimal weight) (free_signed weight s.numbers)
  free_line (LineData.SomePair p r) s = free_pair p r s.printable.0 s.printable.1
  free_line (LineData.AllPair p r) s = free_pair p r s.printable.0 s.printable.1
  free_line (LineData.Vector v) s = free_one (vector_text v) (free_vector v s.numbers)
  free_line (LineData.More v) s = free_one (vector_text v) (free_vector v s.numbers)
  free_line (LineData.Regret regret) s = free_one (decimal regret) (free_small regret s.numbers)
  free_line (LineData.LeftPair p r) s = free_pair p r s.printable.0 s.printable.1
  free_line (LineData.RightPair p r) s = free_pair p r s.printable.0 s.printable.1
  free_line (LineData.Back i) s = free_one (decimal i) (free_rotation i s.numbers)
  free_line (LineData.Forth i) s = free_one (decimal i) (free_rotation i s.numbers)
  free_line (LineData.Listed count) s = free_one (decimal count) (free_small count s.numbers)
  free_line (LineData.TallyLine tag figures) s = free_on (decimal tag) (numbers figures) (free_small tag s.numbers.0) (free_numbers IsLarge free_number figures s.numbers.1)
  free_line LineData.Yes s = refl
  free_line (LineData.No at reason) s = free_on (decimal at) (name_of_reason reason ∷ []) (free_small at s.numbers) (free_one (name_of_reason reason) (free_reason reason))
  free_line LineData.End s = refl

  -- the fields of a line's text are the line's
  cut_again : (fields : List (List ℕ)) (line : LineData) → line_in input fields ≡ Some line → are_free fields ≡ true → fields_in (join_with_byte 32 fields) ≡ fields
  unfolding headed_of
  cut_again [] line e h = absurd (none-some line e)
  cut_again (x ∷ xs) line e h = split_joined 32 x xs (all_without 32 refl (x ∷ xs) h)

  -- each line of the input is read again from its text
  pub text_again : (line : LineData) → IsLineOf input line → line_in input (fields_in (text_of_line input line)) ≡ Some line
  text_again line s =
      let again = line_again input sound line s in
      ap (line_in input) (cut_again (fields_of input line) line again (free_line line s)) ∙ again

  -- and it holds no end of a line
  pub line_free : (line : LineData) → IsLineOf input line → (is_free 10 (text_of_line input line) ≡ true) × (is_free 13 (text_of_line input line) ≡ true)
  line_free line s =
      let free = free_line line s in
      (joined_without 10 refl refl (fields_of input line) free, joined_without 13 refl refl (fields_of input line) free)

  -- and it is plain: it stands for itself in a string of JSON
  pub line_plain : (line : LineData) → IsLineOf input line → is_plain (text_of_line input line) ≡ true
  line_plain line s = joined_plain (fields_of input line) (free_line line s)
