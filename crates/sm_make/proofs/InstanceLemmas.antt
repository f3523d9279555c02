-- Made sides make instances, and made persons are persons.
use Rattle.std.proofs.Common.{◌≡◌, ◌≢◌, ◌+◌, ◌-◌, ◌*◌, ◌<◌, ◌≤◌, ◌^◌, ◌∙◌, ℕ, Bool, true, false, true≢false, IsTrue, List, [], ◌∷◌, length, drop, sym, ap, subst, refl, arith, decimal}
use Rattle.std.proofs.lemmas.Bool.{le-leb}
use Rattle.std.proofs.lemmas.Fmt.{length-decimal-le}
use Rattle.std.proofs.lemmas.List.FromFn.{length-map-range_with_len}
use Rattle.std.proofs.Math.Nat.{mul-le-mul_left, mul-le-mul_right, div-le_of_le-mul}
use Rattle.std.specs.Cmp.Derive.{both_true}
use Rattle.sm_text.specs.Limits.{most_agents, most_entries, most_capacity, most_name_bytes}
use Rattle.sm_text.specs.Name.{begins_name, is_name_byte, is_name}
use Rattle.sm_lists.proofs.OrderLemmas.{range_is_each_once}
use Rattle.sm_agents.specs.Written.{AgentData, agent_at, plain_written}
use Rattle.sm_agents.specs.Sound.{IsInstance, ArePersons, AreSoundAgents, AreSoundEntries, is_single, entries_of}
use Rattle.sm_agents.specs.declared.kinds.Kind.{Kind}
use Rattle.sm_agents.specs.declared.kinds.Kind.TheVariants.{Marriage, Hospitals, Roommates}
use Rattle.sm_make.specs.Made.{agent, agents_made, plain, proposer_letter, reviewer_letter, hospitals_for}
use Rattle.sm_make.specs.Lists.{copy_list, copy_list_back, turn_from, shuffled_list, shuffled_others, rising_without}
use Rattle.sm_make.specs.Laws.{IsSoundList, IsWhole}
use Rattle.sm_make.proofs.SideLemmas.{agent_at-agents_made, names_differ, entries_are_sound}
use Rattle.sm_make.proofs.FewLemmas.{entries_are_few}
use Rattle.sm_make.proofs.DigitLemmas.{digits_are_name_bytes}
use Rattle.sm_make.proofs.CopyLemmas.{copies_are_sound}
use Rattle.sm_make.proofs.TurnLemmas.{turns_are_whole}
use Rattle.sm_make.proofs.SoundLemmas.{shuffles_are_whole, length-shuffled}
use Rattle.sm_make.proofs.RangeLemmas.{length-rising_without}
use Rattle.sm_make.proofs.ListLemmas.{others_are_sound}

-- a letter and a number make a name
is_name_of : (letter k : ℕ) → begins_name letter ≡ true → is_name_byte letter ≡ true → k < 10 ^ 4 → is_name (letter ∷ decimal k) ≡ true
is_name_of letter k begins byte few =
    let long : length (decimal k) ≤ 4 = length-decimal-le 4 k (omega arith) few (omega arith) in
    both_true (both_true (both_true (le-leb 1 (length (letter ∷ decimal k)) (omega arith)) (le-leb (length (letter ∷ decimal k)) most_name_bytes (omega (arith, long)))) begins)
    (both_true byte (digits_are_name_bytes k (omega arith)))

proposer_begins : begins_name proposer_letter ≡ true
unfolding begins_name
proposer_begins = refl

proposer_byte : is_name_byte proposer_letter ≡ true
unfolding is_name_byte begins_name
proposer_byte = refl

reviewer_begins : begins_name reviewer_letter ≡ true
unfolding begins_name
reviewer_begins = refl

reviewer_byte : is_name_byte reviewer_letter ≡ true
unfolding is_name_byte begins_name
reviewer_byte = refl

-- so many agents, of whom each has so many entries at most, and each entry names one of the others once
pub record IsSoundSide (count others most : ℕ) (list : ℕ → List ℕ) : Type 0 where
  pub few : count ≤ most_agents
  pub sound : (a : ℕ) → a < count → IsSoundList others (list a)
  pub short : (a : ℕ) → a < count → length (list a) ≤ most

module _ (letter capacity count others most : ℕ) (list : ℕ → List ℕ) (s : IsSoundSide count others most list) where
  abbrev agents : List AgentData
  agents = agents_made letter capacity list count

  long : length agents ≡ count
  long = length-map-range_with_len (agent letter capacity list) 0 count

  are_sound : (single : Bool) → begins_name letter ≡ true → is_name_byte letter ≡ true → capacity ≤ most_capacity → (IsTrue single → capacity ≡ 1) → AreSoundAgents agents single
  are_sound single begins byte fits one = record {
    sound = λ a there.
        let below : a < count = let l = long in omega (arith, l, there) in
        let at : agent_at agents a ≡ agent letter capacity list a = agent_at-agents_made letter capacity count list a below in
        let few = s.few in
        record {
          name = ap (λ (x : AgentData). is_name x.name) at ∙ is_name_of letter (a + 1) begins byte (omega arith);
          fresh = λ b before. names_differ letter capacity count list (omega arith) a b before below;
          capacity = let e = ap (λ (x : AgentData). x.capacity) at in omega (arith, e, fits);
          one = λ is. ap (λ (x : AgentData). x.capacity) at ∙ one is;
        };
  }

  are_sound_entries : AreSoundEntries agents others
  are_sound_entries = entries_are_sound letter capacity count others list s.sound

  are_few : entries_of agents ≤ count * most
  are_few = entries_are_few letter capacity count most list s.short

-- two sides of letters p and r
module _ (kind : Kind) (capacity n m k l : ℕ) (f g : ℕ → List ℕ) (a : IsSoundSide n m k f) (b : IsSoundSide m n l g) where
  -- two sides with sound lists, within the limits, are an instance
  pub two_sides : kind ≢ Roommates → capacity ≤ most_capacity → (IsTrue (is_single kind) → capacity ≡ 1) → n * k + m * l ≤ most_entries
      → IsInstance (plain_written kind (agents_made proposer_letter 1 f n) (agents_made reviewer_letter capacity g m) [] [] [])
  two_sides two fits one few =
      let left = long proposer_letter 1 n m k f a in
      let right = long reviewer_letter capacity m n l g b in
      let of_left = are_few proposer_letter 1 n m k f a in
      let of_right = are_few reviewer_letter capacity m n l g b in
      let at_left = a.few in
      let at_right = b.few in
      record {
        two_sided = two;
        limits = record { proposers = omega (arith, left, at_left); reviewers = omega (arith, right, at_right); entries = omega (arith, of_left, of_right, few) };
        proposers = are_sound proposer_letter 1 n m k f a true proposer_begins proposer_byte (omega arith) (λ _. refl);
        reviewers = are_sound reviewer_letter capacity m n l g b (is_single kind) reviewer_begins reviewer_byte fits one;
        proposer_entries = subst (AreSoundEntries (agents_made proposer_letter 1 f n)) (sym right) (are_sound_entries proposer_letter 1 n m k f a);
        reviewer_entries = subst (AreSoundEntries (agents_made reviewer_letter capacity g m)) (sym left) (are_sound_entries reviewer_letter capacity m n l g b);
        items = λ i there. absurd (omega (arith, there));
        seconds_each = refl;
        seconds_small = λ i d there. absurd (omega (arith, there));
        order = range_is_each_once (length (agents_made proposer_letter 1 f n));
      }

abbrev has_two_sides : Kind → Bool
has_two_sides Roommates = false
has_two_sides Marriage = true
has_two_sides Hospitals = true

-- a marriage has two sides
pub marriage_has_two : Marriage ≢ Roommates
marriage_has_two e = true≢false (ap has_two_sides e)

-- hospitals have two sides
pub hospitals_have_two : Hospitals ≢ Roommates
hospitals_have_two e = true≢false (ap has_two_sides e)

-- whole lists are sound
whole_side : (count others : ℕ) (list : ℕ → List ℕ) → count ≤ most_agents → ((a : ℕ) → a < count → IsWhole others (list a)) → IsSoundSide count others others list
whole_side count others list few whole = record {
  few = few;
  sound = λ a there. (whole a there).sound;
  short = λ a there. let w = whole a there in let e = w.long in omega (arith, e);
}

times : (n m k l : ℕ) → n ≤ k → m ≤ l → n * m ≤ k * l
times n m k l h i =
    let a = mul-le-mul_right m h in
    let b = mul-le-mul_left k i in
    omega (arith, a, b)

-- up to 2,048 copies are an instance
pub copies_are_instance : (n : ℕ) → n ≤ 2048
    → IsInstance (plain_written Marriage (agents_made proposer_letter 1 copy_list (2 * n)) (agents_made reviewer_letter 1 copy_list_back (2 * n)) [] [] [])
copies_are_instance n few =
    let side : (list : ℕ → List ℕ) → ((a : ℕ) → a < 2 * n → IsSoundList (2 * n) (list a)) → ((a : ℕ) → length (list a) ≡ 2) → IsSoundSide (2 * n) (2 * n) 2 list =
    λ list sound two. record { few = omega arith; sound = sound; short = λ a there. let e = two a in omega (arith, e) } in
    two_sides Marriage 1 (2 * n) (2 * n) 2 2 copy_list copy_list_back
    (side copy_list (λ a there. (copies_are_sound n a there).0) (λ a. refl))
    (side copy_list_back (λ a there. (copies_are_sound n a there).1) (λ a. refl))
    marriage_has_two (omega arith) (λ _. refl) (omega arith)

-- a cycle of up to 512 is an instance
pub cycles_are_instance : (n : ℕ) → n ≤ 512
    → IsInstance (plain_written Marriage (agents_made proposer_letter 1 (turn_from n) n) (agents_made reviewer_letter 1 (λ a. turn_from n (a + 1)) n) [] [] [])
cycles_are_instance n few =
    two_sides Marriage 1 n n n n (turn_from n) (λ a. turn_from n (a + 1))
    (whole_side n n (turn_from n) (omega arith) (λ a there. turns_are_whole n a (omega arith)))
    (whole_side n n (λ a. turn_from n (a + 1)) (omega arith) (λ a there. turns_are_whole n (a + 1) (omega arith)))
    marriage_has_two (omega arith) (λ _. refl) (let t = times n n 512 512 few few in omega (arith, t))

-- shuffled lists, whatever the words
pub shuffled_are_instance : (kind : Kind) (capacity n m behind back : ℕ) (words : List ℕ) → kind ≢ Roommates → capacity ≤ most_capacity → (IsTrue (is_single kind) → capacity ≡ 1) → n ≤ 512 → m ≤ 512
    → IsInstance (plain_written kind (agents_made proposer_letter 1 (shuffled_list m behind words) n) (agents_made reviewer_letter capacity (shuffled_list n back words) m) [] [] [])
shuffled_are_instance kind capacity n m behind back words two fits one few few' =
    two_sides kind capacity n m m n (shuffled_list m behind words) (shuffled_list n back words)
    (whole_side n m (shuffled_list m behind words) (omega arith) (λ a there. shuffles_are_whole m _))
    (whole_side m n (shuffled_list n back words) (omega arith) (λ a there. shuffles_are_whole n _))
    two fits one (let t = times n m 512 512 few few' in let u = times m n 512 512 few' few in omega (arith, t, u))

-- up to 512 residents have up to 512 hospitals
pub hospitals_are_few : (n : ℕ) → n ≤ 512 → hospitals_for n ≤ 512
hospitals_are_few n few = let q = div-le_of_le-mul 8 {m = n} {n = 64} (omega arith) in omega (arith, q)

-- up to 512 persons with shuffled lists are an instance of roommates
pub rooms_are_persons : (n : ℕ) (words : List ℕ) → n ≤ 512 → ArePersons (agents_made proposer_letter 1 (shuffled_others n words) n)
rooms_are_persons n words few =
    let side : IsSoundSide n n n (shuffled_others n words) = record {
      few = omega arith;
      sound = λ a there. subst (λ k. IsSoundList k (shuffled_others n words a)) (let e : n - 1 + 1 ≡ n = omega arith in e) (others_are_sound a (n - 1) _);
      short = λ a there. let e = length-shuffled (drop (a * (n - 1 - 1)) words) (rising_without a (n - 1)) in let f = length-rising_without a (n - 1) in omega (arith, e, f);
    } in
    let on = long proposer_letter 1 n n n (shuffled_others n words) side in
    let entries = are_few proposer_letter 1 n n n (shuffled_others n words) side in
    record {
      limits = record { proposers = omega (arith, on); reviewers = omega arith; entries = let t = times n n 512 512 few few in omega (arith, entries, t) };
      agents = are_sound proposer_letter 1 n n n (shuffled_others n words) side true proposer_begins proposer_byte (omega arith) (λ _. refl);
      entries = subst (AreSoundEntries (agents_made proposer_letter 1 (shuffled_others n words) n)) (sym on) (are_sound_entries proposer_letter 1 n n n (shuffled_others n words) side);
    }

-- from the sides xs they are kept
pub two_are_instance : {kind : Kind} {xs ys left right : List AgentData} → xs ≡ left → ys ≡ right
    → IsInstance (plain_written kind left right [] [] [])
    → IsInstance (plain_written kind xs ys [] [] [])
two_are_instance {kind} {xs} {ys} {left} {right} e f i =
    subst (λ xs. IsInstance (plain_written kind xs ys [] [] [])) (sym e)
    (subst (λ ys. IsInstance (plain_written kind left ys [] [] [])) (sym f) i)

-- instances with the same sides, and nothing else, are the same
pub plain_of : {kind : Kind} {xs ys left right : List AgentData} → xs ≡ left → ys ≡ right → plain kind xs ys ≡ plain kind left right
plain_of {kind} {xs} {ys} {left} {right} e f = ap (λ xs. plain kind xs ys) e ∙ ap (λ ys. plain kind left ys) f
