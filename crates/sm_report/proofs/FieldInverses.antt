-- The readers of single fields are inverse to what is written.
use Rattle.std.proofs.Common.{◌≡◌, ◌≢◌, ℕ, suc, zero, ◌+◌, ◌-◌, ◌<◌, ◌≤◌, ◌^◌, ◌==◌, ◌&&◌, if◌then◌else◌, Bool, true, false, cond, nat_lt, nat_le, List, [], ◌∷◌, ◌++◌, length, map, All, get_or, Option, Some, None, option_map, position, refl, sym, ap, ◌∙◌, subst, arith, codes, decimal, append_assoc}
use Rattle.std.specs.Fmt.{signed_decimal}
use Rattle.std.specs.Int.RustNames.{unsigned_abs}
use Rattle.std.specs.List.{list_all, slice_split, join_with_byte, position_or_len, before_first, after_first, range_with_len}
use Rattle.std.specs.List.Sorted.{IsStrictlyIncreasing}
use Rattle.std.specs.Prelude.{slice_index}
use Rattle.std.proofs.lemmas.List.Elements.{All-nil, All-cons, All-head, All-tail, All-get_or}
use Rattle.std.proofs.lemmas.List.Splits.{length-slice_split, join_with_byte-slice_split}
use Rattle.sm_text.specs.Limits.{most_name_bytes, most_limit}
use Rattle.std.specs.Option.{option_zip, option_and_then}
use Rattle.std.specs.Str.{bytes_eq}
use Rattle.std.proofs.lemmas.Bool.{eqb-true, ltb-true, ltb-false, and_from}
use Rattle.std.proofs.lemmas.Bool.Decides.{nat_tests}
use Rattle.std.proofs.lemmas.List.{get_or-map, length-map, drop_all}
use Rattle.std.proofs.lemmas.List.FromFn.{get_or-map-range_with_len}
use Rattle.std.proofs.lemmas.List.Quantifiers.{position-Some}
use Rattle.std.proofs.lemmas.List.Sums.{position_or_len_is, passes_at_first, split_at_first}
use Rattle.std.proofs.lemmas.Option.{none-some, same_Some}
use Rattle.sm_text.specs.Name.{is_name, is_name_byte, begins_name, is_digit}
use Rattle.sm_text.specs.Numbers.{number_of}
use Rattle.sm_lists.proofs.BoolLemmas.{second_true}
use Rattle.sm_agents.specs.Written.{AgentData, agent_at, names_of}
use Rattle.sm_agents.specs.Sound.{AreSoundAgents}
use Rattle.sm_instance.specs.Inputs.{IsInput, kind_of}
use Rattle.sm_instance.specs.declared.inputs.Input.{Input}
use Rattle.sm_instance.specs.declared.inputs.Input.TheVariants.{Two, Room}
use Rattle.sm_agents.specs.declared.kinds.Kind.{Kind}
use Rattle.sm_agents.specs.declared.kinds.Kind.TheVariants.{Marriage, Hospitals, Roommates}
use Rattle.sm_agents.proofs.ListLemmas.{get_or-names}
use Rattle.sm_report.specs.declared.lines.Seat.{Seat}
use Rattle.sm_report.specs.Reasons.{reasons, IsReason, name_of_reason}
use Rattle.sm_report.specs.Sound.{IsOnLeft, IsOnRight, IsSeatNumber, IsSmall, IsLarge, IsRotation, IsLimit, AreRotations}
use Rattle.sm_report.specs.Texts.{left_name, right_name, seat_text, seat_text_in, vector_text, end_text, SOURCE, SINK}
use Rattle.sm_report.specs.Vectors.{vector_in, numbers_in, is_comma}
use Rattle.sm_report.specs.Meanings.{left_in, right_in, at_least, number_within, small_in, large_in, signed_in, rotation_in, rising_above, seat, seat_by, seat_in, numbered_seat_in, is_slash, end_in, reason_in, least_limit, limit_named}
use Rattle.sm_report.proofs.DecimalLemmas.{digits_of_decimal, number_of-decimal, number_spelt, signed_of-decimal, signed_spelt}
use Rattle.sm_report.proofs.InverseLemmas.{Inverts, mapped, chained, zipped, text_true, text_same, by_answer, each_inverts}
use Rattle.sm_report.proofs.FreeLemmas.{is_free, free_of, cut_at_byte, split_joined}

-- the same condition in other words
pub in_words : {X Y : Type 0} {S T : X → Type 0} {w : X → Y} {r : Y → Option X} → ((x : X) → S x → T x) → ((x : X) → T x → S x) → Inverts S w r → Inverts T w r
in_words to back h = record { again = λ x t. h.again x (back x t); sound = λ y x e. to x (h.sound y x e); same = h.same }

-- numbers
number_inverts : (most : ℕ) → most < 2 ^ 64 → Inverts (λ n. n ≤ most) decimal (λ text. number_of text most)
number_inverts most small = record {
  again = λ n within. number_of-decimal n most within small;
  sound = λ text n e. (number_spelt text most n small e).within;
  same = λ text n e. (number_spelt text most n small e).same;
}

-- the reader of numbers of 32 bits is inverse to the decimal
pub small_inverts : Inverts IsSmall decimal small_in
small_inverts = in_words (λ n h. let k : n < 2 ^ 32 = omega arith in k) (λ n h. let k : n ≤ 4294967295 = omega arith in k) (number_inverts 4294967295 (omega arith))

-- the reader of numbers of 64 bits is inverse to the decimal
pub large_inverts : Inverts IsLarge decimal large_in
large_inverts = in_words (λ n h. let k : n < 2 ^ 64 = omega arith in k) (λ n h. let k : n ≤ 18446744073709551615 = omega arith in k) (number_inverts 18446744073709551615 (omega arith))

-- a number that isn't below the least
at_least-again : (least n : ℕ) (o : Option ℕ) → o ≡ Some n → least ≤ n → at_least least o ≡ Some n
at_least-again least n None e h = absurd (none-some n e)
at_least-again least n (Some m) e h = by_answer (nat_lt m least)
    (λ is. absurd (let same : m ≡ n = same_Some _ _ e in let low : m < least = ltb-true m least is in omega arith))
    (λ is. ap (λ t. cond t None (Some m)) is ∙ e)

at_least-is : (least n : ℕ) (o : Option ℕ) → at_least least o ≡ Some n → (least ≤ n) × (o ≡ Some n)
at_least-is least n None e = absurd (none-some n e)
at_least-is least n (Some m) e = by_test (nat_lt m least) refl e where
  by_test : (t : Bool) → nat_lt m least ≡ t → cond t None (Some m) ≡ Some n → (least ≤ n) × (Some m ≡ Some n)
  by_test true is e = absurd (none-some n e)
  by_test false is e = let same : m ≡ n = same_Some _ _ e in let low : least ≤ m = ltb-false m least is in (omega arith, e)

-- the reader of numbers within bounds is inverse to the decimal
pub within_inverts : (least most : ℕ) → most < 2 ^ 64 → Inverts (λ n. (least ≤ n) × (n ≤ most)) decimal (number_within least most)
within_inverts least most small = record {
  again = λ n h. at_least-again least n (number_of (decimal n) most) (number_of-decimal n most h.1 small) h.0;
  sound = λ text n e. let k = at_least-is least n (number_of text most) e in (k.0, (number_spelt text most n small k.1).within);
  same = λ text n e. (number_spelt text most n small (at_least-is least n (number_of text most) e).1).same;
}

-- the reader of rotations is inverse to the decimal
pub rotation_inverts : Inverts IsRotation decimal rotation_in
rotation_inverts = in_words (λ n h. record { least = h.0; greatest = h.1 }) (λ n h. (h.least, h.greatest)) (within_inverts 1 4294967294 (omega arith))

-- the reader of limits is inverse to the decimal
pub limit_inverts : Inverts IsLimit decimal limit_named
limit_inverts = within_inverts least_limit most_limit (omega arith)

-- the reader of signed numbers is inverse to the signed decimal
pub signed_inverts : Inverts (λ z. unsigned_abs z ≤ 9223372036854775807) signed_decimal signed_in
signed_inverts = record {
  again = λ z within. signed_of-decimal z 9223372036854775807 within (omega arith);
  sound = λ text z e. (signed_spelt text 9223372036854775807 z (omega arith) e).within;
  same = λ text z e. (signed_spelt text 9223372036854775807 z (omega arith) e).same;
}

-- the place of a text among texts that differ
place_again : (names : List (List ℕ)) (i : ℕ) (d : List ℕ) → i < length names → ((k : ℕ) → k < i → get_or names k d ≢ get_or names i d)
    → position (bytes_eq (get_or names i d)) names ≡ Some i
place_again names i d within fresh =
    let name = get_or names i d in
    let at : position_or_len (bytes_eq name) names ≡ i =
    position_or_len_is (bytes_eq name) names i d (omega arith)
    (λ k h. by_answer (bytes_eq name (get_or names k d)) (λ is. absurd (fresh k h (sym (text_same name (get_or names k d) is)))) (λ is. is))
    (λ h. text_true name name refl) in
    ap (λ n. cond (nat_lt n (length names)) (Some n) None) at ∙ by_answer (nat_lt i (length names)) (λ is. ap (λ t. cond t (Some i) None) is) (λ is. absurd (let l : length names ≤ i = ltb-false i (length names) is in omega arith))

-- agents
agent_inverts : (agents : List AgentData) (single : Bool) → AreSoundAgents agents single
    → Inverts (λ a. a < length agents) (λ a. (agent_at agents a).name) (λ name. position (bytes_eq name) (names_of agents))
agent_inverts agents single s = record { again = again; sound = sound; same = same } where
  long : length (names_of agents) ≡ length agents
  long = length-map agents (λ (agent : AgentData). agent.name)

  again : (a : ℕ) → a < length agents → position (bytes_eq (agent_at agents a).name) (names_of agents) ≡ Some a
  again a within =
      ap (λ name. position (bytes_eq name) (names_of agents)) (sym (get_or-names agents a within))
      ∙ place_again (names_of agents) a [] (omega (arith, long))
      (λ k h e. (s.sound a within).fresh k h (sym (get_or-names agents k (omega arith)) ∙ e ∙ get_or-names agents a within))

  sound : (name : List ℕ) (a : ℕ) → position (bytes_eq name) (names_of agents) ≡ Some a → a < length agents
  sound name a e = let p = position-Some (bytes_eq name) (names_of agents) a [] e in omega (arith, long, p.0)

  same : (name : List ℕ) (a : ℕ) → position (bytes_eq name) (names_of agents) ≡ Some a → (agent_at agents a).name ≡ name
  same name a e =
      let p = position-Some (bytes_eq name) (names_of agents) a [] e in
      let within : a < length agents = omega (arith, long, p.0) in
      sym (get_or-names agents a within) ∙ sym (text_same name (get_or (names_of agents) a []) p.1)

-- the name of an agent is a name
agent_is_name : (agents : List AgentData) (single : Bool) → AreSoundAgents agents single → (a : ℕ) → a < length agents → is_name (agent_at agents a).name ≡ true
agent_is_name agents single s a within = (s.sound a within).name

-- and so for the agents of an input
pub left_inverts : (input : Input) → IsInput input → Inverts (IsOnLeft input) (left_name input) (left_in input)
unfolding left_in
left_inverts (Two w) s = agent_inverts w.proposers true s.proposers
left_inverts (Room persons) s = agent_inverts persons true s.agents

-- the reader of reviewers is inverse to their names
pub right_inverts : (input : Input) → IsInput input → Inverts (IsOnRight input) (right_name input) (right_in input)
unfolding right_in
right_inverts (Two w) s = agent_inverts w.reviewers _ s.reviewers
right_inverts (Room persons) s = agent_inverts persons true s.agents

-- each proposer's name is a name
pub is_name-left_name : (input : Input) → IsInput input → (p : ℕ) → IsOnLeft input p → is_name (left_name input p) ≡ true
is_name-left_name (Two w) s p within = agent_is_name w.proposers true s.proposers p within
is_name-left_name (Room persons) s p within = agent_is_name persons true s.agents p within

-- each reviewer's name is a name
pub is_name-right_name : (input : Input) → IsInput input → (r : ℕ) → IsOnRight input r → is_name (right_name input r) ≡ true
is_name-right_name (Two w) s r within = agent_is_name w.reviewers _ s.reviewers r within
is_name-right_name (Room persons) s r within = agent_is_name persons true s.agents r within

-- a name holds no slash
slash_no_name : is_name_byte 47 ≡ false
unfolding is_name_byte begins_name
slash_no_name = refl

-- a dash is no name
pub is_name-dash : is_name (codes "-") ≡ false
unfolding begins_name
is_name-dash = refl

-- a name has bytes of names alone
pub name_bytes : (run : List ℕ) → is_name run ≡ true → list_all is_name_byte run ≡ true
name_bytes run h = second_true (nat_le 1 (length run) && nat_le (length run) most_name_bytes && begins_name (slice_index run 0)) (list_all is_name_byte run) h

-- a name holds no slash
pub name_without_slash : (run : List ℕ) → is_name run ≡ true → is_free 47 run ≡ true
name_without_slash run h = free_of is_name_byte 47 slash_no_name run (name_bytes run h)

-- seats
one_seat_inverts : (R : ℕ → Type 0) (name : ℕ → List ℕ) (named : List ℕ → Option ℕ) → Inverts R name named
    → Inverts (λ (s : Seat). R s.reviewer × (s.number ≡ 1)) (λ s. name s.reviewer) (λ text. option_map (λ r. seat r 1) (named text))
one_seat_inverts R name named h = record { again = again; sound = sound; same = same } where
  again : (s : Seat) → R s.reviewer × (s.number ≡ 1) → option_map (λ r. seat r 1) (named (name s.reviewer)) ≡ Some s
  again s k = ap (option_map (λ r. seat r 1)) (h.again s.reviewer k.0) ∙ ap (λ n. Some (seat s.reviewer n)) (sym k.1)

  sound : (text : List ℕ) (s : Seat) → option_map (λ r. seat r 1) (named text) ≡ Some s → R s.reviewer × (s.number ≡ 1)
  sound text s e =
      let m = mapped (λ r. seat r 1) (named text) s e in
      (subst R (ap (λ (s : Seat). s.reviewer) m.gives) (h.sound text m.from m.is), sym (ap (λ (s : Seat). s.number) m.gives))

  same : (text : List ℕ) (s : Seat) → option_map (λ r. seat r 1) (named text) ≡ Some s → name s.reviewer ≡ text
  same text s e =
      let m = mapped (λ r. seat r 1) (named text) s e in
      ap (λ (s : Seat). name s.reviewer) (sym m.gives) ∙ h.same text m.from m.is

numbered_inverts : Inverts (λ n. (1 ≤ n) × (n < 2 ^ 32)) decimal (number_within 1 4294967295)
numbered_inverts = in_words (λ n h. let k : n < 2 ^ 32 = omega (arith, h.1) in (h.0, k)) (λ n h. let k : n ≤ 4294967295 = omega (arith, h.1) in (h.0, k)) (within_inverts 1 4294967295 (omega arith))

-- a text of which no number stands behind the slash
no_number : (n : ℕ) → number_within 1 4294967295 [] ≡ Some n → ⊥
no_number n e = none-some n e

numbered_seat_inverts : (R : ℕ → Type 0) (name : ℕ → List ℕ) (named : List ℕ → Option ℕ) → Inverts R name named → ((r : ℕ) → R r → is_free 47 (name r) ≡ true)
    → Inverts (λ (s : Seat). R s.reviewer × ((1 ≤ s.number) × (s.number < 2 ^ 32))) (λ s. name s.reviewer ++ codes "/" ++ decimal s.number) (numbered_seat_in named)
numbered_seat_inverts R name named h free = record { again = again; sound = sound; same = same } where
  again : (s : Seat) → R s.reviewer × ((1 ≤ s.number) × (s.number < 2 ^ 32)) → numbered_seat_in named (name s.reviewer ++ codes "/" ++ decimal s.number) ≡ Some s
  again s k =
      let whole : name s.reviewer ++ codes "/" ++ decimal s.number ≡ name s.reviewer ++ 47 ∷ decimal s.number = append_assoc (name s.reviewer) (codes "/") (decimal s.number) in
      let cut = cut_at_byte 47 (name s.reviewer) (decimal s.number) (free s.reviewer k.0) in
      let two = λ (a b : List ℕ). option_map (λ x. seat x.0 x.1) (option_zip (named a) (number_within 1 4294967295 b)) in
      ap (numbered_seat_in named) whole
      ∙ ap (λ a. two a (after_first is_slash (name s.reviewer ++ 47 ∷ decimal s.number))) cut.before
      ∙ ap (λ b. two (name s.reviewer) b) cut.behind
      ∙ ap (λ o. option_map (λ x. seat x.0 x.1) (option_zip o (number_within 1 4294967295 (decimal s.number)))) (h.again s.reviewer k.0)
      ∙ ap (λ o. option_map (λ x. seat x.0 x.1) (option_zip (Some s.reviewer) o)) (numbered_inverts.again s.number k.1)

  sound : (text : List ℕ) (s : Seat) → numbered_seat_in named text ≡ Some s → R s.reviewer × ((1 ≤ s.number) × (s.number < 2 ^ 32))
  sound text s e =
      let m = mapped (λ (x : ℕ × ℕ). seat x.0 x.1) (option_zip (named (before_first is_slash text)) (number_within 1 4294967295 (after_first is_slash text))) s e in
      let z = zipped (named (before_first is_slash text)) (number_within 1 4294967295 (after_first is_slash text)) m.from m.is in
      subst (λ (s : Seat). R s.reviewer × ((1 ≤ s.number) × (s.number < 2 ^ 32))) m.gives (h.sound (before_first is_slash text) m.from.0 z.first, numbered_inverts.sound (after_first is_slash text) m.from.1 z.second)

  same : (text : List ℕ) (s : Seat) → numbered_seat_in named text ≡ Some s → name s.reviewer ++ codes "/" ++ decimal s.number ≡ text
  same text s e =
      let m = mapped (λ (x : ℕ × ℕ). seat x.0 x.1) (option_zip (named (before_first is_slash text)) (number_within 1 4294967295 (after_first is_slash text))) s e in
      let z = zipped (named (before_first is_slash text)) (number_within 1 4294967295 (after_first is_slash text)) m.from m.is in
      let number : decimal m.from.1 ≡ after_first is_slash text = numbered_inverts.same (after_first is_slash text) m.from.1 z.second in
      let inside : position_or_len is_slash text < length text = by_answer (nat_lt (position_or_len is_slash text) (length text)) (λ is. ltb-true (position_or_len is_slash text) (length text) is)
      (λ is. absurd (no_number m.from.1 (ap (number_within 1 4294967295) (sym (past text (ltb-false (position_or_len is_slash text) (length text) is))) ∙ z.second))) in
      let slash : get_or text (position_or_len is_slash text) 0 ≡ 47 = eqb-true (get_or text (position_or_len is_slash text) 0) 47 (passes_at_first is_slash text 0 inside) in
      ap (λ (s : Seat). name s.reviewer ++ codes "/" ++ decimal s.number) (sym m.gives)
      ∙ append_assoc (name m.from.0) (codes "/") (decimal m.from.1)
      ∙ ap (λ t. t ++ 47 ∷ decimal m.from.1) (h.same (before_first is_slash text) m.from.0 z.first)
      ∙ ap (λ t. before_first is_slash text ++ 47 ∷ t) number
      ∙ ap (λ b. before_first is_slash text ++ b ∷ after_first is_slash text) (sym slash)
      ∙ sym (split_at_first is_slash text 0 inside)
    where
      past : (text : List ℕ) → length text ≤ position_or_len is_slash text → after_first is_slash text ≡ []
      past text h = drop_all (position_or_len is_slash text + 1) text (omega arith)

seat_by_inverts : (kind : Kind) (R : ℕ → Type 0) (name : ℕ → List ℕ) (named : List ℕ → Option ℕ) → Inverts R name named → ((r : ℕ) → R r → is_free 47 (name r) ≡ true)
    → Inverts (λ (s : Seat). R s.reviewer × IsSeatNumber kind s.number) (λ s. seat_text_in kind (name s.reviewer) s.number) (seat_by kind named)
seat_by_inverts Marriage R name named h free = one_seat_inverts R name named h
seat_by_inverts Hospitals R name named h free = numbered_seat_inverts R name named h free
seat_by_inverts Roommates R name named h free = one_seat_inverts R name named h

-- a seat of the instance, with a number that its kind allows
abbrev pub IsSeat : Input → Seat → Type 0
IsSeat input s = IsOnRight input s.reviewer × IsSeatNumber (kind_of input) s.number

-- the reader of seats is inverse to their texts
pub seat_inverts : (input : Input) → IsInput input → Inverts (IsSeat input) (seat_text input) (seat_in input)
seat_inverts input s = seat_by_inverts (kind_of input) (IsOnRight input) (right_name input) (right_in input) (right_inverts input s) (λ r h. name_without_slash (right_name input r) (is_name-right_name input s r h))

-- ends of flows
digit_text : (n : ℕ) (text : List ℕ) → n < 2 ^ 64 → list_all is_digit text ≡ false → bytes_eq (decimal n) text ≡ false
digit_text n text small other = by_answer (bytes_eq (decimal n) text)
    (λ is. absurd (true_false (list_all is_digit (decimal n)) (digits_of_decimal n small) (ap (list_all is_digit) (text_same (decimal n) text is) ∙ other))) (λ is. is)
  where
    true_false : (t : Bool) → t ≡ true → t ≡ false → ⊥
    true_false t p q = cc

-- the reader of the ends of flows is inverse to their texts
pub end_inverts : Inverts IsSmall end_text end_in
end_inverts = record { again = again; sound = sound; same = same } where
  again : (n : ℕ) → IsSmall n → end_in (end_text n) ≡ Some n
  again n small = by_source (n == SOURCE) (n == SINK) refl refl where
    by_source : (a b : Bool) → (n == SOURCE) ≡ a → (n == SINK) ≡ b → end_in (if a then codes "S" else (if b then codes "T" else decimal n)) ≡ Some n
    by_source true b is is2 = ap (λ t. Some t) (sym (eqb-true n SOURCE is))
    by_source false true is is2 = ap (λ t. Some t) (sym (eqb-true n SINK is2))
    by_source false false is is2 =
        let low : 1 ≤ n = grind (arith, nat_tests) in
        let high : n ≤ 4294967294 = grind (arith, nat_tests) in
        ap (λ t. cond t (Some SOURCE) (cond (bytes_eq (decimal n) (codes "T")) (Some SINK) (rotation_in (decimal n)))) (digit_text n (codes "S") (omega arith) refl)
        ∙ ap (λ t. cond t (Some SINK) (rotation_in (decimal n))) (digit_text n (codes "T") (omega arith) refl)
        ∙ rotation_inverts.again n (record { least = low; greatest = high })

  sound : (text : List ℕ) (n : ℕ) → end_in text ≡ Some n → IsSmall n
  sound text n e = by_source (bytes_eq text (codes "S")) (bytes_eq text (codes "T")) e where
    by_source : (a b : Bool) → cond a (Some SOURCE) (cond b (Some SINK) (rotation_in text)) ≡ Some n → IsSmall n
    by_source true b e = let same : SOURCE ≡ n = same_Some _ _ e in let k : n < 2 ^ 32 = omega arith in k
    by_source false true e = let same : SINK ≡ n = same_Some _ _ e in let k : n < 2 ^ 32 = omega arith in k
    by_source false false e = let r = rotation_inverts.sound text n e in let k : n < 2 ^ 32 = omega (arith, r.greatest) in k

  same : (text : List ℕ) (n : ℕ) → end_in text ≡ Some n → end_text n ≡ text
  same text n e = by_source (bytes_eq text (codes "S")) (bytes_eq text (codes "T")) refl refl e where
    rotation_text : (r : IsRotation n) → end_text n ≡ decimal n
    rotation_text r =
        let low : 1 ≤ n = r.least in
        let high : n ≤ 4294967294 = r.greatest in
        let no_source : (n == SOURCE) ≡ false = grind (arith, nat_tests) in
        let no_sink : (n == SINK) ≡ false = grind (arith, nat_tests) in
        ap (λ t. cond t (codes "S") (cond (n == SINK) (codes "T") (decimal n))) no_source ∙ ap (λ t. cond t (codes "T") (decimal n)) no_sink

    by_source : (a b : Bool) → bytes_eq text (codes "S") ≡ a → bytes_eq text (codes "T") ≡ b → cond a (Some SOURCE) (cond b (Some SINK) (rotation_in text)) ≡ Some n → end_text n ≡ text
    by_source true b is is2 e = ap end_text (sym (same_Some SOURCE n e)) ∙ sym (text_same text (codes "S") is)
    by_source false true is is2 e = ap end_text (sym (same_Some SINK n e)) ∙ sym (text_same text (codes "T") is2)
    by_source false false is is2 e = rotation_text (rotation_inverts.sound text n e) ∙ rotation_inverts.same text n e

-- reasons
reasons_again : map reason_in reasons ≡ map (λ n. Some n) (range_with_len 1 25)
reasons_again = refl

-- the reader of reasons is inverse to their names
pub reason_inverts : Inverts IsReason name_of_reason reason_in
reason_inverts = record { again = again; sound = sound; same = same } where
  again : (n : ℕ) → IsReason n → reason_in (name_of_reason n) ≡ Some n
  again n h =
      let inside : n - 1 < 25 = omega (arith, h.least, h.greatest) in
      let here : 1 + (n - 1) ≡ n = omega (arith, h.least) in
      sym (get_or-map reason_in reasons (n - 1) [] None inside) ∙ ap (λ t. get_or t (n - 1) None) reasons_again ∙ get_or-map-range_with_len (λ n. Some n) 1 25 (n - 1) n None inside here

  sound : (text : List ℕ) (n : ℕ) → reason_in text ≡ Some n → IsReason n
  sound text n e =
      let m = mapped (λ at. at + 1) (position (bytes_eq text) reasons) n e in
      let p = position-Some (bytes_eq text) reasons m.from [] m.is in
      record { least = omega (arith, m.gives); greatest = omega (arith, m.gives, p.0) }

  same : (text : List ℕ) (n : ℕ) → reason_in text ≡ Some n → name_of_reason n ≡ text
  same text n e =
      let m = mapped (λ at. at + 1) (position (bytes_eq text) reasons) n e in
      let p = position-Some (bytes_eq text) reasons m.from [] m.is in
      let place : n - 1 ≡ m.from = omega (arith, m.gives) in
      ap (λ i. get_or reasons i []) place ∙ sym (text_same text (get_or reasons m.from []) p.1)

-- vectors
digits_without : (c : ℕ) → is_digit c ≡ false → (n : ℕ) → n < 2 ^ 64 → is_free c (decimal n) ≡ true
digits_without c other n small = free_of is_digit c other (decimal n) (digits_of_decimal n small)

decimals_without : (c : ℕ) → is_digit c ≡ false → (ns : List ℕ) → All IsSmall ns → list_all (is_free c) (map decimal ns) ≡ true
decimals_without c other [] small = refl
decimals_without c other (n ∷ ns) small =
    let here : n < 2 ^ 32 = All-head IsSmall n ns small in
    and_from (is_free c (decimal n)) (list_all (is_free c) (map decimal ns)) (digits_without c other n (omega arith)) (decimals_without c other ns (All-tail IsSmall n ns small))

-- the reader of vectors is inverse to their texts
pub vector_inverts : Inverts (All IsSmall) vector_text vector_in
vector_inverts = record { again = again; sound = sound; same = same } where
  each : Inverts (All IsSmall) (map decimal) numbers_in
  each = each_inverts small_inverts

  again : (ns : List ℕ) → All IsSmall ns → vector_in (vector_text ns) ≡ Some ns
  again [] s = refl
  again (n ∷ ns) s =
      let text = join_with_byte 44 (map decimal (n ∷ ns)) in
      let parts : numbers_in (slice_split is_comma text) ≡ Some (n ∷ ns) =
      ap numbers_in (split_joined 44 (decimal n) (map decimal ns) (decimals_without 44 refl (n ∷ ns) s)) ∙ each.again (n ∷ ns) s in
      by_answer (bytes_eq text (codes "-"))
      (λ is. absurd (none-some (n ∷ ns) (ap (λ t. numbers_in (slice_split is_comma t)) (sym (text_same text (codes "-") is)) ∙ parts)))
      (λ is. ap (λ t. cond t (Some []) (numbers_in (slice_split is_comma text))) is ∙ parts)

  sound : (text : List ℕ) (ns : List ℕ) → vector_in text ≡ Some ns → All IsSmall ns
  sound text ns e = by_test (bytes_eq text (codes "-")) e where
    by_test : (t : Bool) → cond t (Some []) (numbers_in (slice_split is_comma text)) ≡ Some ns → All IsSmall ns
    by_test true e = subst (All IsSmall) (same_Some _ _ e) (All-nil IsSmall)
    by_test false e = each.sound (slice_split is_comma text) ns e

  same : (text : List ℕ) (ns : List ℕ) → vector_in text ≡ Some ns → vector_text ns ≡ text
  same text ns e = by_test (bytes_eq text (codes "-")) refl e where
    by_parts : (ns : List ℕ) → map decimal ns ≡ slice_split is_comma text → vector_text ns ≡ text
    by_parts [] e = absurd (let some = length-slice_split is_comma text in let none : 0 ≡ length (slice_split is_comma text) = ap length e in omega arith)
    by_parts (n ∷ ns) e = ap (join_with_byte 44) e ∙ join_with_byte-slice_split 44 text

    by_test : (t : Bool) → bytes_eq text (codes "-") ≡ t → cond t (Some []) (numbers_in (slice_split is_comma text)) ≡ Some ns → vector_text ns ≡ text
    by_test true is e = ap vector_text (sym (same_Some [] ns e)) ∙ sym (text_same text (codes "-") is)
    by_test false is e = by_parts ns (each.same (slice_split is_comma text) ns e)

-- rotations that rise from above a number
abbrev RisesFrom : ℕ → List ℕ → Type 0
RisesFrom last [] = Unit {0}
RisesFrom last (n ∷ ns) = ((last + 1 ≤ n) × (n ≤ 4294967294)) × RisesFrom n ns

rising_above_inverts : (last : ℕ) → Inverts (RisesFrom last) (map decimal) (rising_above last)
rising_above_inverts last = record { again = again last; sound = sound last; same = same last } where
  number : (last : ℕ) → Inverts (λ n. (last + 1 ≤ n) × (n ≤ 4294967294)) decimal (number_within (last + 1) 4294967294)
  number last = within_inverts (last + 1) 4294967294 (omega arith)

  again : (last : ℕ) (ns : List ℕ) → RisesFrom last ns → rising_above last (map decimal ns) ≡ Some ns
  again last [] s = refl
  again last (n ∷ ns) s =
      ap (option_and_then (λ n. option_map (λ ns. n ∷ ns) (rising_above n (map decimal ns)))) ((number last).again n s.0) ∙ ap (option_map (λ ns. n ∷ ns)) (again n ns s.1)

  sound : (last : ℕ) (ts : List (List ℕ)) (ns : List ℕ) → rising_above last ts ≡ Some ns → RisesFrom last ns
  sound last [] ns e = subst (RisesFrom last) (same_Some _ _ e) tt
  sound last (t ∷ ts) ns e =
      let c = chained (λ n. option_map (λ ns. n ∷ ns) (rising_above n ts)) (number_within (last + 1) 4294967294 t) ns e in
      let m = mapped (λ ns. c.from ∷ ns) (rising_above c.from ts) ns c.gives in
      subst (RisesFrom last) m.gives ((number last).sound t c.from c.is, sound c.from ts m.from m.is)

  same : (last : ℕ) (ts : List (List ℕ)) (ns : List ℕ) → rising_above last ts ≡ Some ns → map decimal ns ≡ ts
  same last [] ns e = ap (map decimal) (sym (same_Some _ _ e))
  same last (t ∷ ts) ns e =
      let c = chained (λ n. option_map (λ ns. n ∷ ns) (rising_above n ts)) (number_within (last + 1) 4294967294 t) ns e in
      let m = mapped (λ ns. c.from ∷ ns) (rising_above c.from ts) ns c.gives in
      ap (map decimal) (sym m.gives) ∙ ap (λ a. a ∷ map decimal m.from) ((number last).same t c.from c.is) ∙ ap (λ a. t ∷ a) (same c.from ts m.from m.is)

-- that they rise from above 0 is that they are rotations that rise
rises_from : (last : ℕ) (ns : List ℕ) → All IsRotation ns → IsStrictlyIncreasing ns → (0 < length ns → last < get_or ns 0 0) → RisesFrom last ns
rises_from last [] each rising first = tt
rises_from last (n ∷ ns) each rising first =
    let here = All-head IsRotation n ns each in
    let above : last < n = first (omega arith) in (
      (omega arith, here.greatest),
      rises_from n ns (All-tail IsRotation n ns each) (λ k h. let next : suc (k + 1) ≡ suc k + 1 = omega arith in let P : ℕ → Type 0 = λ i. get_or ns k 0 < get_or (n ∷ ns) i 0 in subst P (sym next) (rising (suc k) (omega arith)))
          (λ some. rising 0 (omega arith)),
    )

rising_each : (last : ℕ) (ns : List ℕ) → RisesFrom last ns → All IsRotation ns
rising_each last [] h = All-nil IsRotation
rising_each last (n ∷ ns) h = All-cons IsRotation n ns (record { least = omega (arith, h.0.0); greatest = h.0.1 }) (rising_each n ns h.1)

rising_pairs : (last : ℕ) (ns : List ℕ) → RisesFrom last ns → IsStrictlyIncreasing ns
rising_pairs last [] h k below = absurd (omega arith)
rising_pairs last (n ∷ []) h k below = absurd (omega arith)
rising_pairs last (n ∷ m ∷ ns) h zero below = let step : n + 1 ≤ m = h.1.0.0 in omega arith
rising_pairs last (n ∷ m ∷ ns) h (suc k) below =
    let deep = rising_pairs n (m ∷ ns) h.1 k (omega arith) in
    let next : suc (k + 1) ≡ suc k + 1 = omega arith in
    let P : ℕ → Type 0 = λ i. get_or (m ∷ ns) k 0 < get_or (n ∷ m ∷ ns) i 0 in
    subst P next deep

-- the reader of rising lists of rotations is inverse to their decimals
pub rising_inverts : Inverts AreRotations (map decimal) (rising_above 0)
rising_inverts = in_words (λ ns h. record { each = rising_each 0 ns h; rising = rising_pairs 0 ns h })
    (λ ns h. rises_from 0 ns h.each h.rising (λ some. let one = All-get_or IsRotation ns 0 0 some h.each in omega (arith, one.least)))
    (rising_above_inverts 0)
