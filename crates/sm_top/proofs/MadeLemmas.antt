-- No made instance has too many seats.
use Rattle.std.proofs.Common.{◌≡◌, ℕ, ◌+◌, ◌-◌, ◌*◌, ◌<◌, ◌≤◌, List, [], length, drop, get_or, None, refl, sym, ap, subst, arith}
use Rattle.std.specs.List.{range_with_len, All}
use Rattle.std.specs.Option.{option_map}
use Rattle.std.proofs.Math.Nat.{mul-le-mul_left, mul-le-mul_right, div-le_of_le-mul}
use Rattle.std.proofs.lemmas.List.Sums.{sum_by-le}
use Rattle.std.proofs.lemmas.List.FromFn.{get_or-range_with_len, length-range_with_len, length-map-range_with_len}
use Rattle.sm_text.specs.Limits.{most_seat_entries}
use Rattle.sm_text.specs.declared.refusal.RefusalKind.TheVariants.{TooManySeats}
use Rattle.sm_agents.specs.Written.{AgentData, Written, plain_written, agent_at, row, capacity_of}
use Rattle.sm_agents.specs.declared.kinds.Kind.{Kind}
use Rattle.sm_agents.specs.declared.kinds.Kind.TheVariants.{Marriage, Hospitals}
use Rattle.sm_instance.specs.declared.inputs.Input.TheVariants.{Two}
use Rattle.sm_make.specs.Words.{words, of_seed}
use Rattle.sm_make.specs.Lists.{in_turn, copy_list, copy_list_back, turn_from, shuffled_list}
use Rattle.sm_make.specs.Made.{agent, agents_made, proposer_letter, reviewer_letter, plain, hospitals_for, words_for, made, made_instance, most_size}
use Rattle.sm_make.specs.declared.shape.Shape.{Shape}
use Rattle.sm_make.specs.declared.shape.Shape.TheVariants.{Copies, Cycle, Random, Hospitals as HospitalsShape, Rooms}
use Rattle.sm_make.proofs.SideLemmas.{agent_at-agents_made}
use Rattle.sm_make.proofs.SoundLemmas.{shuffles_are_whole}
use Rattle.sm_seats.specs.Mutual.{lists_back, mutual_row}
use Rattle.sm_seats.specs.SeatMarket.{seat_count}
use Rattle.sm_seats.specs.SeatEntries.{seat_entries, seat_entries_before}
use Rattle.sm_seats.proofs.FilterLemmas.{length-filter-le}
use Rattle.sm_seats.proofs.LimitLaws.{first_too_many-none}
use Rattle.sm_serve.specs.Refusals.{too_many_in}

times : (n m k l : ℕ) → n ≤ k → m ≤ l → n * m ≤ k * l
times n m k l h i =
    let a = mul-le-mul_right m h in
    let b = mul-le-mul_left k i in
    omega (arith, a, b)

-- reviewers with so many places and lists so long have seats with so many entries
module _ (w : Written) (places most : ℕ) (fits : (r : ℕ) → r < length w.reviewers → capacity_of w.reviewers r ≤ places) (short : (r : ℕ) → r < length w.reviewers → length (row w.reviewers r) ≤ most) where
  one_reviewer : (r : ℕ) → r < length w.reviewers → seat_entries w r ≤ places * most
  one_reviewer r there =
      let listed = length-filter-le (lists_back w.proposers r) (row w.reviewers r) in
      let le = short r there in
      let count : seat_count w r ≤ places = (let fit = fits r there in omega arith) in
      times (seat_count w r) (length (mutual_row w.reviewers w.proposers r)) places most count (omega (arith, listed, le))

  all_reviewers : seat_entries_before w (length w.reviewers) ≤ length w.reviewers * (places * most)
  all_reviewers =
      let n = length w.reviewers in
      let long = length-range_with_len 0 n in
      let each : All (λ r. seat_entries w r ≤ places * most) (range_with_len 0 n) = λ i d l.
      let at : get_or (range_with_len 0 n) i d ≡ i = (let e = get_or-range_with_len 0 n i d (omega (arith, l, long)) in omega (arith, e)) in
      subst (λ r. seat_entries w r ≤ places * most) (sym at) (one_reviewer i (omega (arith, l, long))) in
      let le = sum_by-le (seat_entries w) (places * most) (range_with_len 0 n) each in
      subst (λ k. seat_entries_before w n ≤ k * (places * most)) long le

  few_by : length w.reviewers * (places * most) ≤ most_seat_entries → too_many_in (Two w) ≡ None
  few_by le = let all = all_reviewers in ap (option_map (λ r. (TooManySeats, (agent_at w.reviewers r).line))) (first_too_many-none w (omega (arith, all, le)))

-- so it is of made sides
made_few : (kind : Kind) (proposers : List AgentData) (places count most : ℕ) (list : ℕ → List ℕ) → ((a : ℕ) → a < count → length (list a) ≤ most) → count * (places * most) ≤ most_seat_entries
    → too_many_in (plain kind proposers (agents_made reviewer_letter places list count)) ≡ None
made_few kind proposers places count most list short le =
    let reviewers = agents_made reviewer_letter places list count in
    let w = plain_written kind proposers reviewers [] [] [] in
    let long : length reviewers ≡ count = length-map-range_with_len (agent reviewer_letter places list) 0 count in
    let at : (r : ℕ) → r < length reviewers → agent_at reviewers r ≡ agent reviewer_letter places list r = λ r there. agent_at-agents_made reviewer_letter places count list r (omega (arith, there, long)) in
    few_by w places most
    (λ r there. let e = ap (λ (x : AgentData). x.capacity) (at r there) in omega (arith, e))
    (λ r there. let e = ap (λ (x : AgentData). length x.entries) (at r there) in let s = short r (omega (arith, there, long)) in omega (arith, e, s))
    (subst (λ n. n * (places * most) ≤ most_seat_entries) (sym long) le)

-- no more than so many times so many entries
within : (n m k l : ℕ) → n ≤ k → m ≤ l → k * (1 * l) ≤ most_seat_entries → n * (1 * m) ≤ most_seat_entries
within n m k l h i le = let t = times n (1 * m) k (1 * l) h (omega (arith, i)) in omega (arith, t, le)

-- up to 512 residents have up to 64 hospitals
hospitals_within : (n : ℕ) → n ≤ 512 → hospitals_for n ≤ 64
hospitals_within n few = let q = div-le_of_le-mul 8 {m = n} {n = 64} (omega arith) in omega (arith, q)

-- the seats of made instances have few enough entries
few_made : (shape : Shape) (size : ℕ) (drawn : List ℕ) → size ≤ most_size shape → too_many_in (made shape size drawn) ≡ None
few_made Copies n drawn le = made_few Marriage (agents_made proposer_letter 1 copy_list (2 * n)) 1 (2 * n) 2 copy_list_back (λ a _. omega arith) (omega (arith, le))
few_made Cycle n drawn le =
    made_few Marriage (agents_made proposer_letter 1 (turn_from n) n) 1 n n (λ a. turn_from n (a + 1))
    (λ a _. let e = length-map-range_with_len (in_turn n (a + 1)) 0 n in omega (arith, e)) (within n n 512 512 le le (omega arith))
few_made Random n drawn le =
    made_few Marriage (agents_made proposer_letter 1 (shuffled_list n 0 drawn) n) 1 n n (shuffled_list n (n * (n - 1)) drawn)
    (λ a _. let e = (shuffles_are_whole n (drop (n * (n - 1) + a * (n - 1)) drawn)).long in omega (arith, e)) (within n n 512 512 le le (omega arith))
few_made HospitalsShape n drawn le =
    let m = hospitals_for n in
    made_few Hospitals (agents_made proposer_letter 1 (shuffled_list m 0 drawn) n) 7 m n (shuffled_list n (n * (m - 1)) drawn)
    (λ a _. let e = (shuffles_are_whole n (drop (n * (m - 1) + a * (n - 1)) drawn)).long in omega (arith, e)) (let t = times m (7 * n) 64 (7 * 512) (hospitals_within n le) (omega (arith, le)) in omega (arith, t))
few_made Rooms n drawn le = refl

-- whatever the seed
pub made_has_few_seats : (shape : Shape) (size seed : ℕ) → size ≤ most_size shape → too_many_in (made_instance shape size seed) ≡ None
made_has_few_seats shape size seed le = few_made shape size (words (words_for shape size) (of_seed seed)) le
