-- What is drawn by a generator is what its words say.
use Rattle.std.proofs.Common.{◌≡◌, ◌+◌, ◌-◌, ◌*◌, ◌<◌, ◌≤◌, ℕ, zero, suc, List, ◌∷◌, length, map, drop, refl, sym, ap, ◌∙◌, arith}
use Rattle.std.specs.List.{range_with_len}
use Rattle.rand_pcg.specs.Lcg.{Lcg}
use Rattle.sm_agents.specs.Written.{AgentData}
use Rattle.sm_make.specs.Words.{after, words, of_seed}
use Rattle.sm_make.specs.Shuffle.{shuffled}
use Rattle.sm_make.specs.Lists.{rising, rising_without, shuffled_list, shuffled_others}
use Rattle.sm_make.specs.Made.{agent, agents_made}
use Rattle.sm_make.specs.Drawn.{drawn_list, drawn_others}
use Rattle.sm_make.proofs.RangeLemmas.{length-rising, length-rising_without}
use Rattle.sm_make.proofs.WordLemmas.{after_after, after_none, shuffled_behind}

-- agents whose lists are the same
same_range : {X : Type 0} (f h : ℕ → X) (a n : ℕ) → ((k : ℕ) → k < a + n → f k ≡ h k) → map f (range_with_len a n) ≡ map h (range_with_len a n)
same_range f h a zero e = refl
same_range f h a (suc n) e =
    ap (λ x. x ∷ map f (range_with_len (a + 1) n)) (e a (omega arith))
    ∙ ap (λ t. h a ∷ t) (same_range f h (a + 1) n (λ k l. e k (omega arith)))

-- sides whose agents have the same lists are the same
pub same_agents : (letter capacity count : ℕ) (f h : ℕ → List ℕ) → ((k : ℕ) → k < count → f k ≡ h k) → agents_made letter capacity f count ≡ agents_made letter capacity h count
same_agents letter capacity count f h e =
    same_range (agent letter capacity f) (agent letter capacity h) 0 count
    (λ k l. ap (λ (list : List ℕ). agent letter capacity (λ _. list) k) (e k (omega arith)))

times_add : (a d m : ℕ) → (a + 1 + d) * m ≡ a * m + m + d * m
times_add a d m = grind arith

times_le : (a c m : ℕ) → a < c → a * m + m ≤ c * m
times_le a c m h =
    let e : c ≡ a + 1 + (c - (a + 1)) = omega arith in
    let p : c * m ≡ (a + 1 + (c - (a + 1))) * m = ap (λ k. k * m) e in
    let q = times_add a (c - (a + 1)) m in
    omega (arith, p, q)

-- a list that is drawn behind others
drawn : (m behind t a : ℕ) (g : Lcg) (xs : List ℕ) → length xs - 1 ≡ m → behind + (a * m + m) ≤ t
    → shuffled (words m (after (a * m) (after behind g))) xs ≡ shuffled (drop (behind + a * m) (words t g)) xs
drawn m behind t a g xs long h =
    ap (λ k. shuffled (words m k) xs) (after_after behind (a * m) g)
    ∙ ap (λ k. shuffled (words k (after (behind + a * m) g)) xs) (sym long)
    ∙ sym (shuffled_behind (behind + a * m) t g xs (omega (arith, long, h)))

-- the lists that are drawn behind some words are those of the words
pub drawn_lists : (letter capacity count n behind t : ℕ) (g : Lcg) → behind + count * (n - 1) ≤ t
    → agents_made letter capacity (drawn_list n (after behind g)) count ≡ agents_made letter capacity (shuffled_list n behind (words t g)) count
drawn_lists letter capacity count n behind t g h =
    same_agents letter capacity count _ _
    (λ a l. drawn (n - 1) behind t a g (rising n) (ap (λ k. k - 1) (length-rising n)) (omega (arith, h, times_le a count (n - 1) l)))

-- the same of lists that are drawn first
pub drawn_firsts : (letter capacity count n t : ℕ) (g : Lcg) → count * (n - 1) ≤ t
    → agents_made letter capacity (drawn_list n g) count ≡ agents_made letter capacity (shuffled_list n 0 (words t g)) count
drawn_firsts letter capacity count n t g h =
    ap (λ g'. agents_made letter capacity (drawn_list n g') count) (sym (after_none g)) ∙ drawn_lists letter capacity count n 0 t g (omega (arith, h))

-- the same of the lists of roommates
pub drawn_rooms : (letter n : ℕ) (g : Lcg)
    → agents_made letter 1 (drawn_others n g) n ≡ agents_made letter 1 (shuffled_others n (words (n * (n - 1 - 1)) g)) n
drawn_rooms letter n g =
    same_agents letter 1 n _ _
    (λ a l.
    ap (λ g'. shuffled (words (n - 1 - 1) (after (a * (n - 1 - 1)) g')) (rising_without a (n - 1))) (sym (after_none g))
    ∙ drawn (n - 1 - 1) 0 (n * (n - 1 - 1)) a g (rising_without a (n - 1)) (ap (λ k. k - 1) (length-rising_without a (n - 1))) (omega (arith, times_le a n (n - 1 - 1) l))
    ∙ (let e : 0 + a * (n - 1 - 1) ≡ a * (n - 1 - 1) = omega arith in ap (λ k. shuffled (drop k (words (n * (n - 1 - 1)) g)) (rising_without a (n - 1))) e))

-- the side that is drawn first from a seed, and the one that is drawn behind it
pub drawn_first : (letter capacity count n t seed : ℕ) {g : Lcg} {agents : List AgentData} → agents ≡ agents_made letter capacity (drawn_list n g) count → g ≡ of_seed seed → count * (n - 1) ≤ t
    → agents ≡ agents_made letter capacity (shuffled_list n 0 (words t (of_seed seed))) count
drawn_first letter capacity count n t seed side start few =
    side ∙ ap (λ g. agents_made letter capacity (drawn_list n g) count) start ∙ drawn_firsts letter capacity count n t (of_seed seed) few

-- the side that is drawn behind some words from a seed
pub drawn_second : (letter capacity count n behind t seed : ℕ) {g h : Lcg} {agents : List AgentData} → agents ≡ agents_made letter capacity (drawn_list n h) count → h ≡ after behind g → g ≡ of_seed seed
    → behind + count * (n - 1) ≤ t → agents ≡ agents_made letter capacity (shuffled_list n behind (words t (of_seed seed))) count
drawn_second letter capacity count n behind t seed side later start few =
    side ∙ ap (λ g. agents_made letter capacity (drawn_list n g) count) (later ∙ ap (after behind) start) ∙ drawn_lists letter capacity count n behind t (of_seed seed) few
