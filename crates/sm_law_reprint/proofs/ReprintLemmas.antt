-- A printed instance is read back.
use Rattle.std.proofs.Common.{◌≡◌, ◌≢◌, ℕ, ◌+◌, ◌<◌, ◌≤◌, Bool, true, nat_eq, List, [], ◌++◌, length, map, get_or, Ok, refl, sym, ap, ◌∙◌, subst, arith, length-append, ℤ, pos}
use Rattle.std.specs.List.{range_with_len, zip}
use Rattle.std.specs.Cmp.Lexicographic.{pointwise}
use Rattle.std.proofs.lemmas.List.{length-map}
use Rattle.std.proofs.lemmas.Slice.Zip.{length-zip, get_or-zip}
use Rattle.sm_text.specs.Limits.{most_bytes}
use Rattle.sm_agents.specs.Written.{AgentData, Written, row, entry, weighed, names_of as names_in}
use Rattle.sm_agents.specs.Sound.{IsInstance, IsPairOf, ArePersons, is_single}
use Rattle.sm_agents.specs.declared.kinds.Kind.{Kind}
use Rattle.sm_agents.specs.declared.kinds.Kind.TheVariants.{Marriage, Hospitals, Roommates}
use Rattle.sm_instance.specs.declared.inputs.Input.TheVariants.{Two, Room}
use Rattle.sm_agents.specs.Named.{SaidAgent, Said, names_of, names_first}
use Rattle.sm_answer.specs.Writing.{text_of}
use Rattle.sm_reader.specs.InstanceText.{ended, listed_by_proposers, unknown_lines, lines_with_unknown, two_sides, input_of}
use Rattle.sm_agents.specs.Order.{full_order}
use Rattle.sm_keys.specs.Tables.{number_in}
use Rattle.sm_instance_lines.specs.Names.{said_of}
use Rattle.sm_instance_lines.specs.Printed.{format_of, header_line, agent_lines, printed_lines}
use Rattle.sm_instance_lines.proofs.ItemLemmas.{weight_there, force_there, forbid_there}
use Rattle.sm_law_reprint.specs.Reading.{without_lines, printed_text, IsReadBack, PrintedIsRead}
use Rattle.sm_law_reprint.proofs.CutLemmas.{with_end}
use Rattle.sm_law_reprint.proofs.ReadLemmas.{lined_said, last_line, under_format, order_format, two_read, persons_read, lines_free, text_read}
use Rattle.sm_law_reprint.proofs.InputLemmas.{two_good, room_good}
use Rattle.sm_law_reprint.proofs.BackLemmas.{names_of-lined, agents_known, agents_back, pairs_known, pairs_back, weights_known, weights_back, seconds_back, zip_firsts, zip_seconds, order_known, order_back}

six_empty : {a b c d e f : List ℕ} → a ≡ [] → b ≡ [] → c ≡ [] → d ≡ [] → e ≡ [] → f ≡ [] → a ++ b ++ c ++ d ++ e ++ f ≡ []
six_empty h1 h2 h3 h4 h5 h6 = rw (h1, h2, h3, h4, h5, h6) refl

-- where all names are known the text means the instance
means_read : (kind : Kind) (said : Said) (rest line : ℕ) → unknown_lines kind said ≡ []
    → ended kind 1 said rest line ≡ Ok (record { input = input_of kind said; header_line = 1; rest = rest; rest_line = line })
means_read kind said rest line none = rw none refl

-- the text of a header and of lines
whole_length : (kind : Kind) (said : Said)
    → 0 + length (with_end (header_line (format_of said) kind)) + length (text_of (agent_lines kind said)) ≡ length (text_of (printed_lines kind said))
whole_length kind said = omega (arith, length-append (with_end (header_line (format_of said) kind)) (text_of (agent_lines kind said)))

-- an instance with two sides
module _ (w : Written) (sound : IsInstance w) where
  abbrev said : Said
  said = said_of (Two w)

  abbrev now : Said
  now = lined_said said

  abbrev n1 : ℕ
  n1 = 2 + length said.proposers

  abbrev n2 : ℕ
  n2 = n1 + length said.reviewers

  abbrev n3 : ℕ
  n3 = n2 + length said.weights

  abbrev n4 : ℕ
  n4 = n3 + length said.forced

  abbrev n5 : ℕ
  n5 = n4 + length said.forbidden

  abbrev both : List ((ℕ × ℕ × ℤ) × ℤ)
  both = zip w.weights w.seconds

  proposer_names : names_of now.proposers ≡ names_in w.proposers
  proposer_names = names_of-lined w.reviewers w.proposers 2

  reviewer_names : names_of now.reviewers ≡ names_in w.reviewers
  reviewer_names = names_of-lined w.proposers w.reviewers n1

  proposers_listed : (a i : ℕ) → i < length (row w.proposers a) → entry w.proposers a i < length w.reviewers
  proposers_listed a i on = (sound.proposer_entries.sound a i on).in_range

  reviewers_listed : (a i : ℕ) → i < length (row w.reviewers a) → entry w.reviewers a i < length w.proposers
  reviewers_listed a i on = (sound.reviewer_entries.sound a i on).in_range

  weights_there : (k : ℕ) → k < length both → IsPairOf (length w.proposers) (length w.reviewers) (weighed (get_or both k ((0, 0, pos 0), pos 0)).0)
  weights_there k below =
      let long = length-zip w.weights w.seconds in
      let first : k < length w.weights = omega (arith, below, long) in
      let second : k < length w.seconds = omega (arith, below, long) in
      subst (λ (x : (ℕ × ℕ × ℤ) × ℤ). IsPairOf (length w.proposers) (length w.reviewers) (weighed x.0)) (sym (get_or-zip w.weights w.seconds k ((0, 0, pos 0), pos 0) first second))
      (weight_there w sound.seconds_each sound w.weights refl k first)

  forced_there : (k : ℕ) → k < length w.forced → IsPairOf (length w.proposers) (length w.reviewers) (get_or w.forced k (0, 0))
  forced_there = force_there w sound.seconds_each sound w.forced refl

  forbidden_there : (k : ℕ) → k < length w.forbidden → IsPairOf (length w.proposers) (length w.reviewers) (get_or w.forbidden k (0, 0))
  forbidden_there = forbid_there w sound.seconds_each sound w.forbidden refl

  abbrev counted : Bool
  counted = pointwise nat_eq w.order (range_with_len 0 (length w.proposers))

  -- all names are known
  two_known : (kind : Kind) → kind ≢ Roommates → unknown_lines kind now ≡ []
  two_known kind two = six_empty
      (by_kind kind two)
      (agents_known w.proposers true sound.proposers (names_of now.proposers) proposer_names w.reviewers n1 reviewers_listed)
      (weights_known w.proposers w.reviewers true (is_single w.kind) sound.proposers sound.reviewers (names_of now.proposers) (names_of now.reviewers) proposer_names reviewer_names both n2 weights_there)
      (pairs_known w.proposers w.reviewers true (is_single w.kind) sound.proposers sound.reviewers (names_of now.proposers) (names_of now.reviewers) proposer_names reviewer_names w.forced n3 forced_there)
      (pairs_known w.proposers w.reviewers true (is_single w.kind) sound.proposers sound.reviewers (names_of now.proposers) (names_of now.reviewers) proposer_names reviewer_names w.forbidden n4 forbidden_there)
      (order_known w.proposers sound.proposers (names_of now.proposers) proposer_names w.order sound.order n5 counted)
    where
      lists_known : lines_with_unknown (names_of now.reviewers) now.proposers ≡ []
      lists_known = agents_known w.reviewers (is_single w.kind) sound.reviewers (names_of now.reviewers) reviewer_names w.proposers 2 proposers_listed

      by_kind : (kind : Kind) → kind ≢ Roommates → lines_with_unknown (listed_by_proposers kind now) now.proposers ≡ []
      by_kind Marriage two = lists_known
      by_kind Hospitals two = lists_known
      by_kind Roommates two = absurd (two refl)

  -- the instance is the same again
  same_sides : (kind : Kind) → kind ≡ w.kind → without_lines (Two (two_sides kind now)) ≡ without_lines (Two w)
  same_sides kind is = ap (λ (x : Written). Two x) (same_parts is
      (agents_back w.reviewers (is_single w.kind) sound.reviewers (names_of now.reviewers) reviewer_names w.proposers 2 proposers_listed)
      (agents_back w.proposers true sound.proposers (names_of now.proposers) proposer_names w.reviewers n1 reviewers_listed)
      (weights_back w.proposers w.reviewers true (is_single w.kind) sound.proposers sound.reviewers (names_of now.proposers) (names_of now.reviewers) proposer_names reviewer_names both n2 weights_there
      ∙ zip_firsts w.weights w.seconds sound.seconds_each)
      (pairs_back w.proposers w.reviewers true (is_single w.kind) sound.proposers sound.reviewers (names_of now.proposers) (names_of now.reviewers) proposer_names reviewer_names w.forced n3 forced_there)
      (pairs_back w.proposers w.reviewers true (is_single w.kind) sound.proposers sound.reviewers (names_of now.proposers) (names_of now.reviewers) proposer_names reviewer_names w.forbidden n4 forbidden_there)
      (seconds_back w.proposers w.reviewers true (is_single w.kind) sound.proposers sound.reviewers (names_of now.proposers) (names_of now.reviewers) proposer_names reviewer_names both n2
      ∙ zip_seconds w.weights w.seconds sound.seconds_each)
      (ap (λ k. full_order k (map (number_in (names_of now.proposers)) (names_first now.order))) as_many
      ∙ order_back w.proposers sound.proposers (names_of now.proposers) proposer_names w.order sound.order n5 counted refl))
    where
      as_many : length now.proposers ≡ length w.proposers
      as_many = sym (length-map now.proposers (λ (a : SaidAgent). a.name)) ∙ ap length proposer_names ∙ length-map w.proposers (λ (a : AgentData). a.name)

      same_parts : {k k' : Kind} {a a' b b' : List AgentData} {x x' : List (ℕ × ℕ × ℤ)} {f f' g g' : List (ℕ × ℕ)} {s s' : List ℤ} {o o' : List ℕ}
          → k ≡ k' → a ≡ a' → b ≡ b' → x ≡ x' → f ≡ f' → g ≡ g' → s ≡ s' → o ≡ o'
          → let one : Written = record { kind = k; proposers = a; reviewers = b; weights = x; forced = f; forbidden = g; seconds = s; order = o } in
          let other : Written = record { kind = k'; proposers = a'; reviewers = b'; weights = x'; forced = f'; forbidden = g'; seconds = s'; order = o' } in one ≡ other
      same_parts h0 h1 h2 h3 h4 h5 h6 h7 = cc

  same_input : (kind : Kind) → kind ≢ Roommates → kind ≡ w.kind → without_lines (input_of kind now) ≡ without_lines (Two w)
  same_input Marriage two is = same_sides Marriage is
  same_input Hospitals two is = same_sides Hospitals is
  same_input Roommates two is = absurd (two refl)

  two_back : length (printed_text (Two w)) ≤ most_bytes → IsReadBack (Two w)
  two_back short =
      let good = two_good w sound in
      record {
        read = record { input = input_of w.kind now; header_line = 1; rest = length (printed_text (Two w)); rest_line = last_line said };
        means = text_read w.kind said (lines_free w.kind said good) short
            ∙ two_read w.kind (format_of said) 1 said good sound.two_sided (under_format said) (order_format said) (0 + length (with_end (header_line (format_of said) w.kind)))
            ∙ ap (λ p. ended w.kind 1 now p (last_line said)) (whole_length w.kind said)
            ∙ means_read w.kind now (length (printed_text (Two w))) (last_line said) (two_known w.kind sound.two_sided);
        whole = refl;
        same = same_input w.kind sound.two_sided refl;
      }

-- an instance of persons
room_back : (persons : List AgentData) → ArePersons persons → length (printed_text (Room persons)) ≤ most_bytes → IsReadBack (Room persons)
room_back persons sound short =
    let said : Said = said_of (Room persons) in
    let now = lined_said said in
    let good = room_good persons sound in
    let names : names_of now.proposers ≡ names_in persons = names_of-lined persons persons 2 in
    let listed : (a i : ℕ) → i < length (row persons a) → entry persons a i < length persons = λ a i on. (sound.entries.sound a i on).in_range in
    let line = 2 + length said.proposers + 1 in
    record {
      read = record { input = input_of Roommates now; header_line = 1; rest = length (printed_text (Room persons)); rest_line = line };
      means = text_read Roommates said (lines_free Roommates said good) short
          ∙ persons_read (format_of said) 1 said.proposers good.proposers (0 + length (with_end (header_line (format_of said) Roommates)))
          ∙ ap (λ p. ended Roommates 1 now p line) (whole_length Roommates said)
          ∙ means_read Roommates now (length (printed_text (Room persons))) line
          (six_empty (agents_known persons true sound.agents (names_of now.proposers) names persons 2 listed) refl refl refl refl refl);
      whole = refl;
      same = ap (λ (x : List AgentData). Room x) (agents_back persons true sound.agents (names_of now.proposers) names persons 2 listed);
    }

-- each printed instance that isn't too long is read back
pub printed_is_read : PrintedIsRead
printed_is_read (Two w) sound short = two_back w sound short
printed_is_read (Room persons) sound short = room_back persons sound short
