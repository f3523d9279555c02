-- Verdicts on printed lines.
use Rattle.std.proofs.Common.{◌≡◌, ◌≢◌, ℕ, ◌+◌, ◌&&◌, ◌||◌, Bool, true, false, not, cond, eqb, if◌then◌else◌, List, [], ◌∷◌, ◌++◌, length, codes, nat_le, nat_lt, Option, Some, None, is_none, refl, ap, ◌∙◌, ℤ, pos}
use Rattle.std.specs.List.{list_all, list_any}
use Rattle.std.specs.Option.{option_or}
use Rattle.std.specs.Str.{bytes_eq}
use Rattle.std.specs.Fmt as fmt
use Rattle.std.proofs.lemmas.Bool.{and_from}
use Rattle.sm_text.specs.Limits.{most_agents, most_entries}
use Rattle.sm_text.specs.Name.{begins_name, is_name_byte, is_name}
use Rattle.sm_text.specs.Tokens.{is_mark, begins_run, tokens}
use Rattle.sm_text.specs.declared.refusal.RefusalKind.TheVariants.{BadName, BadNumber, Redeclared, RepeatedEntry, RepeatedWeight, TooManyAgents, TooManyEntries}
use Rattle.sm_lists.proofs.BoolLemmas.{first_true}
use Rattle.sm_agents.specs.declared.kinds.Kind.{Kind}
use Rattle.sm_agents.specs.declared.kinds.Kind.TheVariants.{Marriage, Hospitals, Roommates}
use Rattle.sm_agents.specs.declared.kinds.Side.{Side}
use Rattle.sm_agents.specs.declared.kinds.Side.TheVariants.{Proposers, Reviewers}
use Rattle.sm_agents.specs.Named.{SaidPair, SaidWeight, Said, names_of, agents_on, all_entries, is_given_to}
use Rattle.sm_forms.specs.declared.forms.Condition.{Condition}
use Rattle.sm_forms.specs.declared.forms.Condition.TheVariants.{Force, Forbid}
use Rattle.sm_forms.specs.Forms.{Form, declares, orders, weighs, binds, list_form, capacity_form, weight_form, pair_form, reviewer_form, two_sided_form, form_behind, order_form, second_form, two_sided_added_form, added_form, form_under, is_end, header_of}
use Rattle.sm_keys.specs.Tokens.{is_bad}
use Rattle.sm_reader.specs.Judging.{goes, stops, heads, heading_of, verdict_on, first_fault, fault_of, said_with, is_bad_capacity, weight_in, second_in}
use Rattle.sm_keys.specs.Tables.{has_repeated}
use Rattle.sm_forms.proofs.NameLemmas.{names_begin, name_begins}
use Rattle.sm_instance_lines.specs.Printed.{header_line}
use Rattle.sm_law_reprint.proofs.LineLemmas.{headers_cut, end_cut}
use Rattle.sm_keys.proofs.RunLemmas.{run_no_bad}

-- a line of a form without a fault goes on
goes_under : (kind : Kind) (format : ℕ) (said : Said) (n : ℕ) (word : List ℕ) (rest : List (List ℕ)) (form : Form) → list_any is_bad (word ∷ rest) ≡ false → is_end (word ∷ rest) ≡ false
    → form_under kind format word rest ≡ Some form → fault_of said form ≡ None → verdict_on kind format said n (word ∷ rest) ≡ goes (said_with said n form)
unfolding verdict_on
goes_under kind format said n word rest form good more formed none = rw (good, more, formed, none) refl

-- a form of format 1 is one of format 2
under_either : (kind : Kind) (format : ℕ) (word : List ℕ) (rest : List (List ℕ)) (form : Form) → form_behind kind word rest ≡ Some form → form_under kind format word rest ≡ Some form
unfolding form_under
under_either kind format word rest form e = by_test (eqb format 2)
  where
    by_test : (t : Bool) → cond t (option_or (form_behind kind word rest) (added_form kind word rest)) (form_behind kind word rest) ≡ Some form
    by_test true = ap (λ o. option_or o (added_form kind word rest)) e
    by_test false = e

-- so a line of such a form goes on under either header
goes_with : (kind : Kind) (format : ℕ) (said : Said) (n : ℕ) (word : List ℕ) (rest : List (List ℕ)) (form : Form) → list_any is_bad (word ∷ rest) ≡ false → is_end (word ∷ rest) ≡ false
    → form_behind kind word rest ≡ Some form → fault_of said form ≡ None → verdict_on kind format said n (word ∷ rest) ≡ goes (said_with said n form)
goes_with kind format said n word rest form good more formed none = goes_under kind format said n word rest form good more (under_either kind format word rest form formed) none

-- No token is bad.

runs_good : (ts : List (List ℕ)) → list_all begins_run ts ≡ true → list_any is_bad ts ≡ false
runs_good [] h = refl
runs_good (t ∷ ts) h = rest_good (is_bad t) (run_no_bad t (first_true (begins_run t) (list_all begins_run ts) h)) (runs_good ts (behind (begins_run t) h))
  where
    rest_good : (b : Bool) → b ≡ false → list_any is_bad ts ≡ false → (b || list_any is_bad ts) ≡ false
    rest_good true h more = absurd cc
    rest_good false h more = more

    behind : (b : Bool) → (b && list_all begins_run ts) ≡ true → list_all begins_run ts ≡ true
    behind true h = h
    behind false h = absurd cc

marks_good : (is_bad (codes ":") ≡ false) × (is_bad (codes "[") ≡ false) × (is_bad (codes "]") ≡ false)
unfolding is_bad is_mark begins_name is_name_byte
marks_good = (refl, refl, refl)

words_good : (is_bad (codes "p") ≡ false) × (is_bad (codes "r") ≡ false) × (is_bad (codes "weight") ≡ false) × (is_bad (codes "force") ≡ false) × (is_bad (codes "forbid") ≡ false)
    × (is_bad (codes "order") ≡ false)
unfolding is_bad is_mark begins_name is_name_byte
words_good = (refl, refl, refl, refl, refl, refl)

-- the word that asks something of a pair
abbrev pub asking : Condition → List ℕ
asking Force = codes "force"
asking Forbid = codes "forbid"

asking_good : (condition : Condition) → is_bad (asking condition) ≡ false
asking_good Force = words_good.3
asking_good Forbid = words_good.4

no_end : (word name : List ℕ) (rest : List (List ℕ)) → is_end (word ∷ name ∷ rest) ≡ false
unfolding is_end
no_end word name rest = refl

-- The forms.

module _ (name : List ℕ) (entries : List (List ℕ)) (is : begins_run name ≡ true) (are : list_all begins_run entries ≡ true) where
  plain_form : (side : Side) → list_form side (name ∷ codes ":" ∷ entries) ≡ Some (declares side name None entries)
  unfolding list_form
  plain_form side = rw (is, are) refl

  p_form : (kind : Kind) → form_behind kind (codes "p") (name ∷ codes ":" ∷ entries) ≡ Some (declares Proposers name None entries)
  unfolding form_behind
  p_form Marriage = plain_form Proposers
  p_form Hospitals = plain_form Proposers
  p_form Roommates = plain_form Proposers

  r_form : form_behind Marriage (codes "r") (name ∷ codes ":" ∷ entries) ≡ Some (declares Reviewers name None entries)
  unfolding form_behind two_sided_form reviewer_form
  r_form = plain_form Reviewers

  module _ (number : List ℕ) (digits : begins_run number ≡ true) where
    no_list : list_form Reviewers (name ∷ codes "[" ∷ number ∷ codes "]" ∷ codes ":" ∷ entries) ≡ None
    unfolding list_form
    no_list = rw is refl

    bracketed_form : capacity_form (name ∷ codes "[" ∷ number ∷ codes "]" ∷ codes ":" ∷ entries) ≡ Some (declares Reviewers name (Some number) entries)
    unfolding capacity_form
    bracketed_form = rw (is, digits, are) refl

    h_form : form_behind Hospitals (codes "r") (name ∷ codes "[" ∷ number ∷ codes "]" ∷ codes ":" ∷ entries) ≡ Some (declares Reviewers name (Some number) entries)
    unfolding form_behind two_sided_form reviewer_form
    h_form = ap (λ o. option_or o (capacity_form (name ∷ codes "[" ∷ number ∷ codes "]" ∷ codes ":" ∷ entries))) no_list ∙ bracketed_form

-- The faults of a line, of which there are none.

agent_passes : (named bad again twice many long : Bool) → named ≡ true → bad ≡ false → again ≡ false → twice ≡ false → many ≡ false → long ≡ false
    → first_fault ((not named, BadName) ∷ (bad, BadNumber) ∷ (again, Redeclared) ∷ (twice, RepeatedEntry) ∷ (many, TooManyAgents) ∷ (long, TooManyEntries) ∷ []) ≡ None
agent_passes named bad again twice many long a b c d e f = rw (a, b, c, d, e, f) refl

weight_passes : (named bad again : Bool) → named ≡ true → bad ≡ false → again ≡ false → first_fault ((not named, BadName) ∷ (bad, BadNumber) ∷ (again, RepeatedWeight) ∷ []) ≡ None
weight_passes named bad again a b c = rw (a, b, c) refl

-- what a line of an agent has to meet
pub record IsFaultless (said : Said) (side : Side) (name : List ℕ) (entries : List (List ℕ)) : Type 0 where
  pub is : is_name name ≡ true
  pub are : list_all is_name entries ≡ true
  pub fresh : list_any (bytes_eq name) (names_of (agents_on side said)) ≡ false
  pub differ : has_repeated entries ≡ false
  pub few : nat_le most_agents (length (agents_on side said)) ≡ false
  pub fits : nat_lt most_entries (all_entries said + length entries) ≡ false

no_fault : (said : Said) (side : Side) (name : List ℕ) (capacity : Option (List ℕ)) (entries : List (List ℕ)) → IsFaultless said side name entries → is_bad_capacity capacity ≡ false
    → fault_of said (declares side name capacity entries) ≡ None
unfolding fault_of
no_fault said side name capacity entries ok number =
    agent_passes (is_name name && list_all is_name entries) (is_bad_capacity capacity) (list_any (bytes_eq name) (names_of (agents_on side said))) (has_repeated entries)
    (nat_le most_agents (length (agents_on side said))) (nat_lt most_entries (all_entries said + length entries))
    (and_from (is_name name) (list_all is_name entries) ok.is ok.are) number ok.fresh ok.differ ok.few ok.fits

-- The verdicts on agents.

module _ (said : Said) (name : List ℕ) (entries : List (List ℕ)) where
  -- a faultless line of a proposer goes on, and declares it
  pub proposer_goes : (kind : Kind) (format n : ℕ) → IsFaultless said Proposers name entries
      → verdict_on kind format said n (codes "p" ∷ name ∷ codes ":" ∷ entries) ≡ goes (said_with said n (declares Proposers name None entries))
  proposer_goes kind format n ok =
      let is = name_begins name ok.is in
      let are = names_begin entries ok.are in
      goes_with kind format said n (codes "p") (name ∷ codes ":" ∷ entries) (declares Proposers name None entries)
      (let w = words_good.0 in let m = marks_good.0 in let a = run_no_bad name is in let b = runs_good entries are in rw (w, a, m, b) refl)
      (no_end (codes "p") name (codes ":" ∷ entries)) (p_form name entries is are kind) (no_fault said Proposers name None entries ok refl)

  -- in a marriage so does that of a reviewer
  pub reviewer_goes : (format n : ℕ) → IsFaultless said Reviewers name entries
      → verdict_on Marriage format said n (codes "r" ∷ name ∷ codes ":" ∷ entries) ≡ goes (said_with said n (declares Reviewers name None entries))
  reviewer_goes format n ok =
      let is = name_begins name ok.is in
      let are = names_begin entries ok.are in
      goes_with Marriage format said n (codes "r") (name ∷ codes ":" ∷ entries) (declares Reviewers name None entries)
      (let w = words_good.1 in let m = marks_good.0 in let a = run_no_bad name is in let b = runs_good entries are in rw (w, a, m, b) refl)
      (no_end (codes "r") name (codes ":" ∷ entries)) (r_form name entries is are) (no_fault said Reviewers name None entries ok refl)

  -- in hospitals so does that of a reviewer with its capacity
  pub hospital_goes : (format n : ℕ) (number : List ℕ) → begins_run number ≡ true → is_bad_capacity (Some number) ≡ false → IsFaultless said Reviewers name entries
      → verdict_on Hospitals format said n (codes "r" ∷ name ∷ codes "[" ∷ number ∷ codes "]" ∷ codes ":" ∷ entries) ≡ goes (said_with said n (declares Reviewers name (Some number) entries))
  hospital_goes format n number digits right ok =
      let is = name_begins name ok.is in
      let are = names_begin entries ok.are in
      goes_with Hospitals format said n (codes "r") (name ∷ codes "[" ∷ number ∷ codes "]" ∷ codes ":" ∷ entries) (declares Reviewers name (Some number) entries)
      (let w = words_good.1 in let a = run_no_bad name is in let o = marks_good.1 in let d = run_no_bad number digits in let e = marks_good.2 in let m = marks_good.0 in
      let b = runs_good entries are in rw (w, a, o, d, e, m, b) refl)
      (no_end (codes "r") name (codes "[" ∷ number ∷ codes "]" ∷ codes ":" ∷ entries)) (h_form name entries is are number digits) (no_fault said Reviewers name (Some number) entries ok right)

-- The verdicts on pairs.

module _ (said : Said) (proposer reviewer : List ℕ) (first : is_name proposer ≡ true) (second : is_name reviewer ≡ true) where
  abbrev pair_on : ℕ → SaidPair
  pair_on n = record { proposer = proposer; reviewer = reviewer; line = n }

  pair_formed : (condition : Condition) (kind : Kind) → kind ≢ Roommates → begins_run proposer ≡ true → begins_run reviewer ≡ true → form_behind kind (asking condition) (proposer ∷ reviewer ∷ []) ≡ Some (binds condition proposer reviewer)
  unfolding form_behind two_sided_form pair_form
  pair_formed Force Marriage two a b = rw (a, b) refl
  pair_formed Force Hospitals two a b = rw (a, b) refl
  pair_formed Forbid Marriage two a b = rw (a, b) refl
  pair_formed Forbid Hospitals two a b = rw (a, b) refl
  pair_formed condition Roommates two a b = absurd (two refl)

  pair_faultless : (condition : Condition) → fault_of said (binds condition proposer reviewer) ≡ None
  unfolding fault_of
  pair_faultless condition = rw (first, second) refl

  -- the line of a pair of which something is asked goes on, and adds it
  pub pair_goes : (condition : Condition) (kind : Kind) (format n : ℕ) → kind ≢ Roommates
      → verdict_on kind format said n (asking condition ∷ proposer ∷ reviewer ∷ []) ≡ goes (said_with said n (binds condition proposer reviewer))
  pair_goes condition kind format n two =
      let a = name_begins proposer first in
      let b = name_begins reviewer second in
      let w = asking_good condition in
      let c = run_no_bad proposer a in
      let d = run_no_bad reviewer b in
      goes_with kind format said n (asking condition) (proposer ∷ reviewer ∷ []) (binds condition proposer reviewer) (rw (w, c, d) refl)
      (no_end (asking condition) proposer (reviewer ∷ [])) (pair_formed condition kind two a b) (pair_faultless condition)

  -- its weights
  module _ (run : List ℕ) (weight : ℤ) (begin : begins_run run ≡ true) (spelt : weight_in run ≡ Some weight) (fresh : list_any (is_given_to proposer reviewer) said.weights ≡ false) where
    abbrev weight_on : ℤ → ℕ → SaidWeight
    weight_on other n = record { pair = pair_on n; weight = weight; second = other }

    weight_formed : (kind : Kind) → kind ≢ Roommates → begins_run proposer ≡ true → begins_run reviewer ≡ true
        → form_behind kind (codes "weight") (proposer ∷ reviewer ∷ run ∷ []) ≡ Some (weighs proposer reviewer run None)
    unfolding form_behind two_sided_form weight_form
    weight_formed Marriage two a b = rw (a, b, begin) refl
    weight_formed Hospitals two a b = rw (a, b, begin) refl
    weight_formed Roommates two a b = absurd (two refl)

    second_formed : (kind : Kind) (further : List ℕ) → kind ≢ Roommates → begins_run proposer ≡ true → begins_run reviewer ≡ true → begins_run further ≡ true
        → form_under kind 2 (codes "weight") (proposer ∷ reviewer ∷ run ∷ further ∷ []) ≡ Some (weighs proposer reviewer run (Some further))
    unfolding form_under form_behind two_sided_form weight_form added_form two_sided_added_form second_form
    second_formed Marriage further two a b d = rw (a, b, begin, d) refl
    second_formed Hospitals further two a b d = rw (a, b, begin, d) refl
    second_formed Roommates further two a b d = absurd (two refl)

    weight_faultless : (further : Option (List ℕ)) → is_none (second_in further) ≡ false → fault_of said (weighs proposer reviewer run further) ≡ None
    unfolding fault_of
    weight_faultless further right =
        weight_passes (is_name proposer && (is_name reviewer && true)) (is_none (weight_in run) || is_none (second_in further)) (list_any (is_given_to proposer reviewer) said.weights)
        (and_from (is_name proposer) (is_name reviewer && true) first (and_from (is_name reviewer) true second refl)) (ap (λ o. is_none o || is_none (second_in further)) spelt ∙ right) fresh

    weight_said : (n : ℕ) (further : Option (List ℕ)) (other : ℤ) → second_in further ≡ Some other
        → said_with said n (weighs proposer reviewer run further) ≡ record said { weights = said.weights ++ weight_on other n ∷ [] }
    unfolding said_with
    weight_said n further other is = rw (spelt, is) refl

    -- the line of a weight goes on, and adds it
    pub weight_goes : (kind : Kind) (format n : ℕ) → kind ≢ Roommates
        → verdict_on kind format said n (codes "weight" ∷ proposer ∷ reviewer ∷ run ∷ []) ≡ goes (record said { weights = said.weights ++ (record { pair = pair_on n; weight = weight; second = pos 0 }) ∷ [] })
    weight_goes kind format n two =
        let a = name_begins proposer first in
        let b = name_begins reviewer second in
        let w = words_good.2 in
        let c = run_no_bad proposer a in
        let d = run_no_bad reviewer b in
        let e = run_no_bad run begin in
        goes_with kind format said n (codes "weight") (proposer ∷ reviewer ∷ run ∷ []) (weighs proposer reviewer run None) (rw (w, c, d, e) refl)
        (no_end (codes "weight") proposer (reviewer ∷ run ∷ [])) (weight_formed kind two a b) (weight_faultless None refl)
        ∙ ap (λ s. goes s) (weight_said n None (pos 0) refl)

    -- so does that of two weights, under a header of format 2
    pub second_goes : (kind : Kind) (n : ℕ) (further : List ℕ) (other : ℤ) → kind ≢ Roommates → begins_run further ≡ true → weight_in further ≡ Some other
        → verdict_on kind 2 said n (codes "weight" ∷ proposer ∷ reviewer ∷ run ∷ further ∷ []) ≡ goes (record said { weights = said.weights ++ (record { pair = pair_on n; weight = weight; second = other }) ∷ [] })
    second_goes kind n further other two begins is =
        let a = name_begins proposer first in
        let b = name_begins reviewer second in
        let w = words_good.2 in
        let c = run_no_bad proposer a in
        let d = run_no_bad reviewer b in
        let e = run_no_bad run begin in
        let f = run_no_bad further begins in
        goes_under kind 2 said n (codes "weight") (proposer ∷ reviewer ∷ run ∷ further ∷ []) (weighs proposer reviewer run (Some further)) (rw (w, c, d, e, f) refl)
        (no_end (codes "weight") proposer (reviewer ∷ run ∷ further ∷ [])) (second_formed kind further two a b begins) (weight_faultless (Some further) (ap is_none is))
        ∙ ap (λ s. goes s) (weight_said n (Some further) other is)

-- The verdict on an order.

module _ (said : Said) (names : List (List ℕ)) (named : list_all is_name names ≡ true) (none : said.order ≡ None) (differ : has_repeated names ≡ false) where
  order_formed : (kind : Kind) → kind ≢ Roommates → list_all begins_run names ≡ true → form_under kind 2 (codes "order") names ≡ Some (orders names)
  unfolding form_under form_behind two_sided_form added_form two_sided_added_form order_form
  order_formed Marriage two all = rw all refl
  order_formed Hospitals two all = rw all refl
  order_formed Roommates two all = absurd (two refl)

  order_faultless : fault_of said (orders names) ≡ None
  unfolding fault_of
  order_faultless = rw (named, none, differ) refl

  order_said : (n : ℕ) → said_with said n (orders names) ≡ record said { order = Some (record { names = names; line = n }) }
  unfolding said_with
  order_said n = refl

  order_no_end : (xs : List (List ℕ)) → is_end (codes "order" ∷ xs) ≡ false
  unfolding is_end
  order_no_end [] = refl
  order_no_end (x ∷ xs) = refl

  -- its line goes on under a header of format 2, and says it
  pub order_goes : (kind : Kind) (n : ℕ) → kind ≢ Roommates → verdict_on kind 2 said n (codes "order" ∷ names) ≡ goes (record said { order = Some (record { names = names; line = n }) })
  order_goes kind n two =
      let all = names_begin names named in
      goes_under kind 2 said n (codes "order") names (orders names) (let w = words_good.5 in let a = runs_good names all in rw (w, a) refl) (order_no_end names) (order_formed kind two all) order_faultless
      ∙ ap (λ s. goes s) (order_said n)

-- The header and the end.

-- a printed header is the header of its format and kind
pub heading_of-header : (second : Bool) (kind : Kind) → heading_of (tokens (header_line (if second then 2 else 1) kind)) ≡ heads kind (if second then 2 else 1)
unfolding heading_of header_of is_bad is_mark begins_name is_name_byte fmt.digits
heading_of-header true Marriage = ap heading_of (headers_cut true Marriage)
heading_of-header true Hospitals = ap heading_of (headers_cut true Hospitals)
heading_of-header true Roommates = ap heading_of (headers_cut true Roommates)
heading_of-header false Marriage = ap heading_of (headers_cut false Marriage)
heading_of-header false Hospitals = ap heading_of (headers_cut false Hospitals)
heading_of-header false Roommates = ap heading_of (headers_cut false Roommates)

-- the line `end` stops the reading
pub verdict_on-end : (kind : Kind) (format : ℕ) (said : Said) (n : ℕ) → verdict_on kind format said n (tokens (codes "end")) ≡ stops
unfolding verdict_on is_end is_bad is_mark begins_name is_name_byte
verdict_on-end kind format said n = ap (verdict_on kind format said n) end_cut
