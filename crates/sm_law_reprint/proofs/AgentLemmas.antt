-- The lines of agents are read.
use Rattle.std.proofs.Common.{◌≡◌, ◌≢◌, ℕ, ◌+◌, ◌<◌, ◌≤◌, ◌^◌, Bool, true, false, List, [], ◌∷◌, ◌++◌, length, codes, decimal, nat_le, nat_lt, Some, is_none, unwrap_or, All, AllPairs, refl, sym, ap, ◌∙◌, subst, arith, append_assoc, append-nil, length-append}
use Rattle.std.specs.List.{list_all, list_any}
use Rattle.std.specs.Str.{bytes_eq}
use Rattle.std.proofs.lemmas.Bool.Decides.{nat_tests}
use Rattle.std.proofs.lemmas.List.{map-append, get_or_append_left}
use Rattle.std.proofs.lemmas.List.Elements.{All-head, All-tail}
use Rattle.std.proofs.lemmas.List.Folds.{Any-from_list_any}
use Rattle.std.proofs.lemmas.List.Sums.{sum_by-append}
use Rattle.std.proofs.Math.Seq.{get_or-append_seam}
use Rattle.sm_text.specs.Limits.{most_agents, most_entries, most_capacity}
use Rattle.sm_text.specs.Name.{is_name}
use Rattle.sm_text.specs.Tokens.{tokens}
use Rattle.sm_agents.specs.Sound.{is_single}
use Rattle.sm_agents.specs.declared.kinds.Kind.{Kind}
use Rattle.sm_agents.specs.declared.kinds.Kind.TheVariants.{Marriage, Hospitals, Roommates}
use Rattle.sm_agents.specs.declared.kinds.Side.TheVariants.{Proposers, Reviewers}
use Rattle.sm_agents.specs.Named.{SaidAgent, Said, nothing, names_of, entries_of}
use Rattle.sm_reader.specs.Judging.{goes, verdict_on, said_with, capacity_in}
use Rattle.sm_keys.specs.Tables.{has_repeated}
use Rattle.sm_keys.proofs.TextLemmas.{equal_text}
use Rattle.sm_report.proofs.DecimalLemmas.{number_of-decimal}
use Rattle.sm_instance_lines.specs.Printed.{list_text, capacity_text, proposer_line, reviewer_line}
use Rattle.sm_law_reprint.proofs.LineLemmas.{words_cut, tokens-named, tokens-bracketed, decimal_is_run, begins_run-run, HasNoEnds, both_free, name_free, words_free, list_free, capacity_free}
use Rattle.sm_law_reprint.proofs.VerdictLemmas.{IsFaultless, proposer_goes, reviewer_goes, hospital_goes}

-- an item that differs from those before it isn't found among them
pub fresh_in : {X : Type 0} (test : X → Bool) (a : X) → ((x : X) → test x ≡ true → x ≡ a) → (xs ys : List X) → AllPairs ◌≢◌ (xs ++ a ∷ ys) → list_any test xs ≡ false
fresh_in {X} test a only xs ys differ = by_test (list_any test xs) refl
  where
    by_test : (t : Bool) → list_any test xs ≡ t → t ≡ false
    by_test false e = refl
    by_test true e =
        let found = Any-from_list_any test xs e in
        let k = found.0 in
        let same : found.1 ≡ a = only found.1 found.4 in
        absurd (differ k (length xs) found.1 found.2 (omega (arith, length-append xs (a ∷ ys), found.2))
        (get_or_append_left xs (a ∷ ys) found.1 k found.2 ∙ found.3 ∙ same ∙ sym (get_or-append_seam xs a ys found.1)))

-- an agent by itself
pub record IsOwn (single : Bool) (a : SaidAgent) : Type 0 where
  pub name : is_name a.name ≡ true
  pub entries : list_all is_name a.entries ≡ true
  pub differ : has_repeated a.entries ≡ false
  pub capacity : a.capacity ≤ most_capacity
  pub one : single ≡ true → a.capacity ≡ 1

-- agents that are read and that are left, beside so many entries of others
pub record AreAgents (single : Bool) (others : ℕ) (done todo : List SaidAgent) : Type 0 where
  pub own : All (IsOwn single) todo
  pub differ : AllPairs ◌≢◌ (names_of done ++ names_of todo)
  pub few : length done + length todo ≤ most_agents
  pub fits : others + entries_of done + entries_of todo ≤ most_entries

-- an agent that is declared on line n
abbrev pub on_line : ℕ → SaidAgent → SaidAgent
on_line n a = record a { line = n }

-- the next agent moves from those that are left to those that are read
pub agents_next : (single : Bool) (others : ℕ) (done : List SaidAgent) (a : SaidAgent) (todo : List SaidAgent) (n : ℕ) → AreAgents single others done (a ∷ todo)
    → AreAgents single others (done ++ on_line n a ∷ []) todo
agents_next single others done a todo n are = record {
  own = All-tail (IsOwn single) a todo are.own;
  differ = subst (AllPairs ◌≢◌)
      (sym (append_assoc (names_of done) (a.name ∷ []) (names_of todo)) ∙ ap (λ t. t ++ names_of todo) (sym (map-append (λ (x : SaidAgent). x.name) done (on_line n a ∷ []))))
      are.differ;
  few = omega (arith, are.few, length-append done (on_line n a ∷ []));
  fits = omega (arith, are.fits, sum_by-append (λ (x : SaidAgent). length x.entries) done (on_line n a ∷ []), sum_by-append (λ (x : SaidAgent). length x.entries) (a ∷ []) todo);
}

few_enough : (n m : ℕ) → n + (m + 1) ≤ most_agents → nat_le most_agents n ≡ false
few_enough n m h = grind (arith, nat_tests)

fits_enough : (n m : ℕ) → n + m ≤ most_entries → nat_lt most_entries (n + m) ≡ false
fits_enough n m h = grind (arith, nat_tests)

module _ (single : Bool) (others : ℕ) (done : List SaidAgent) (a : SaidAgent) (todo : List SaidAgent) (are : AreAgents single others done (a ∷ todo)) where
  own_of : IsOwn single a
  own_of = All-head (IsOwn single) a todo are.own

  fresh_of : list_any (bytes_eq a.name) (names_of done) ≡ false
  fresh_of = fresh_in (bytes_eq a.name) a.name (λ x e. sym (equal_text a.name x e)) (names_of done) (names_of todo) are.differ

  room_of : others + entries_of done + length a.entries ≤ most_entries
  room_of = omega (arith, are.fits, sum_by-append (λ (x : SaidAgent). length x.entries) (a ∷ []) todo)

-- A line of a proposer.

-- what is said while the lines of the proposers are read
abbrev pub with_proposers : List SaidAgent → Said
with_proposers done = record nothing { proposers = done }

module _ (kind : Kind) (format : ℕ) (done : List SaidAgent) (a : SaidAgent) (todo : List SaidAgent) (are : AreAgents true 0 done (a ∷ todo)) where
  proposer_faultless : IsFaultless (with_proposers done) Proposers a.name a.entries
  proposer_faultless =
      let own = own_of true 0 done a todo are in
      let room = room_of true 0 done a todo are in
      record {
        is = own.name;
        are = own.entries;
        fresh = fresh_of true 0 done a todo are;
        differ = own.differ;
        few = few_enough (length done) (length todo) (omega (arith, are.few));
        fits = fits_enough (entries_of done + 0 + 0) (length a.entries) (omega arith);
      }

  -- the line of the next proposer goes on, and adds it
  pub proposer_step : (n : ℕ) → verdict_on kind format (with_proposers done) n (tokens (proposer_line a)) ≡ goes (with_proposers (done ++ on_line n a ∷ []))
  unfolding said_with
  proposer_step n =
      let own = own_of true 0 done a todo are in
      ap (verdict_on kind format (with_proposers done) n) ((words_cut (a.name ++ list_text a.entries)).0 ∙ ap (λ t. codes "p" ∷ t) (tokens-named a.name a.entries own.name own.entries))
      ∙ proposer_goes (with_proposers done) a.name a.entries kind format n proposer_faultless
      ∙ ap (λ (c : ℕ). goes (with_proposers (done ++ (record { name = a.name; capacity = c; line = n; entries = a.entries }) ∷ []))) (sym (own.one refl))

-- the line of a proposer holds neither LF nor CR
pub proposer_free : (a : SaidAgent) → IsOwn true a → HasNoEnds (proposer_line a)
proposer_free a own = both_free (both_free words_free.0 (name_free a.name own.name)) (list_free a.entries own.entries)

-- A line of a reviewer.

-- what is said while the lines of the reviewers are read
abbrev pub with_reviewers : List SaidAgent → List SaidAgent → Said
with_reviewers proposers done = record nothing { proposers = proposers; reviewers = done }

module _ (proposers done : List SaidAgent) (a : SaidAgent) (todo : List SaidAgent) where
  reviewer_faultless : (single : Bool) → AreAgents single (entries_of proposers) done (a ∷ todo) → IsFaultless (with_reviewers proposers done) Reviewers a.name a.entries
  reviewer_faultless single are =
      let own = own_of single (entries_of proposers) done a todo are in
      record {
        is = own.name;
        are = own.entries;
        fresh = fresh_of single (entries_of proposers) done a todo are;
        differ = own.differ;
        few = few_enough (length done) (length todo) (omega (arith, are.few));
        fits = fits_enough (entries_of proposers + entries_of done + 0) (length a.entries) (omega (arith, room_of single (entries_of proposers) done a todo are));
      }

  abbrev added : ℕ → ℕ → Said
  added n c = with_reviewers proposers (done ++ (record { name = a.name; capacity = c; line = n; entries = a.entries }) ∷ [])

  -- the line of the next reviewer goes on, and adds it
  pub reviewer_step : (kind : Kind) (format n : ℕ) → kind ≢ Roommates → AreAgents (is_single kind) (entries_of proposers) done (a ∷ todo)
      → verdict_on kind format (with_reviewers proposers done) n (tokens (reviewer_line kind a)) ≡ goes (with_reviewers proposers (done ++ on_line n a ∷ []))
  unfolding said_with
  reviewer_step Roommates format n two are = absurd (two refl)
  reviewer_step Marriage format n two are =
      let own = own_of true (entries_of proposers) done a todo are in
      ap (λ t. verdict_on Marriage format (with_reviewers proposers done) n (tokens (codes "r " ++ (t ++ list_text a.entries)))) (append-nil a.name)
      ∙ ap (verdict_on Marriage format (with_reviewers proposers done) n) ((words_cut (a.name ++ list_text a.entries)).1 ∙ ap (λ t. codes "r" ∷ t) (tokens-named a.name a.entries own.name own.entries))
      ∙ reviewer_goes (with_reviewers proposers done) a.name a.entries format n (reviewer_faultless true are)
      ∙ ap (λ (c : ℕ). goes (added n c)) (sym (own.one refl))
  reviewer_step Hospitals format n two are =
      let own = own_of false (entries_of proposers) done a todo are in
      let spelt : capacity_in (decimal a.capacity) ≡ Some a.capacity = number_of-decimal a.capacity most_capacity own.capacity (omega arith) in
      let small : a.capacity < 2 ^ 64 = omega (arith, own.capacity) in
      ap (verdict_on Hospitals format (with_reviewers proposers done) n)
      ((words_cut (a.name ++ capacity_text Hospitals a.capacity ++ list_text a.entries)).1
      ∙ ap (λ t. codes "r" ∷ t) (tokens-bracketed a.name a.capacity a.entries own.name small own.entries))
      ∙ hospital_goes (with_reviewers proposers done) a.name a.entries format n (decimal a.capacity) (begins_run-run (decimal a.capacity) (decimal_is_run a.capacity small)) (ap is_none spelt)
      (reviewer_faultless false are)
      ∙ ap (λ o. goes (added n (unwrap_or o 1))) spelt

-- the line of a reviewer holds neither LF nor CR
pub reviewer_free : (kind : Kind) (single : Bool) (a : SaidAgent) → IsOwn single a → HasNoEnds (reviewer_line kind a)
reviewer_free kind single a own =
    both_free (both_free (both_free words_free.1 (name_free a.name own.name)) (capacity_free kind a.capacity (omega (arith, own.capacity)))) (list_free a.entries own.entries)
