-- What lines add to a draft.
use Rattle.std.proofs.Common.{◌≡◌, ℕ, ◌+◌, ◌<◌, ◌≤◌, Bool, true, false, List, [], ◌∷◌, ◌++◌, length, map, get_or, None, refl, sym, ap, ◌∙◌, subst, arith, nat_le, nat_lt, Vec}
use Rattle.std.specs.Borrow.{Bor}
use Rattle.std.specs.List.{list_any}
use Rattle.std.specs.Str.{bytes_eq}
use Rattle.std.specs.declared.alloc.Global.{Global}
use Rattle.std.proofs.lemmas.List.{append-nil, length_push, map_push, length-map}
use Rattle.std.proofs.lemmas.List.Sums.{sum_by_push}
use Rattle.std.proofs.lemmas.Bool.Decides.{nat_tests}
use Rattle.sm_text.specs.Limits.{most_agents, most_entries}
use Rattle.sm_agents.specs.declared.kinds.Kind.{Kind}
use Rattle.sm_agents.specs.declared.kinds.Kind.TheVariants.{Marriage, Hospitals, Roommates}
use Rattle.sm_agents.specs.declared.kinds.Side.{Side}
use Rattle.sm_agents.specs.declared.kinds.Side.TheVariants.{Proposers, Reviewers}
use Rattle.sm_agents.specs.Named.{SaidAgent, entries_of, entries_of_masters}
use Rattle.sm_keys.specs.Tables.{has_repeated, Table, text_at, Extends, AreBelow}
use Rattle.sm_reader.specs.Judging.{with_agent}
use Rattle.sm_reader.specs.Draft.{listed_table, listed_side, agent_in, masters_in, said_of, AreAgentsBelow, IsDraft, limit_fault, name_fault, DeclaresOn, ListsOn, PutsOn, AddsAgent}
use Rattle.sm_reader.specs.declared.draft.Declared.{Declared}
use Rattle.sm_reader.specs.declared.draft.Draft.{Draft}
use Rattle.sm_keys.proofs.ListingLemmas.{extends_long, extends_twice}
use Rattle.sm_reader.proofs.DraftLemmas.{agents_kept, agents_below_more, agents_below_push, said_same, listed_more}

-- a faultless agent is within the limits
pub within_limits : (agents entries more : ℕ) → limit_fault agents entries more ≡ None → (agents < most_agents) × (entries + more ≤ most_entries)
within_limits agents entries more h = by_tests (nat_le most_agents agents) (nat_lt most_entries (entries + more)) refl refl h
  where
    by_tests : (a b : Bool) → nat_le most_agents agents ≡ a → nat_lt most_entries (entries + more) ≡ b → limit_fault agents entries more ≡ None → (agents < most_agents) × (entries + more ≤ most_entries)
    by_tests true b e f h = let k = rw e at h in cc
    by_tests false true e f h = let k = rw (e, f) at h in cc
    by_tests false false e f h = (grind (arith, nat_tests), grind (arith, nat_tests))

-- the names of both sides may have grown
pub record Grown (line : ℕ) (d : Draft) (pn rn : Table) : Type 0 where
  pub p_more : Extends d.proposer_names.texts pn.texts
  pub r_more : Extends d.reviewer_names.texts rn.texts
  pub p_fresh : (k : ℕ) → get_or pn.stamps k 0 < line + 1
  pub r_fresh : (k : ℕ) → get_or rn.stamps k 0 < line + 1

-- an agent stands behind those of a side, whose lists have names among texts that may have grown
module _ (old new : List (List ℕ)) (more : Extends old new) (ds es : List Declared) (inside : AreAgentsBelow (length old) ds)
    (agent : Declared) (below : AreBelow (length new) agent.entries.items) (pushed : es ≡ ds ++ agent ∷ []) where
  pushed_said : map (agent_in new) es ≡ map (agent_in old) ds ++ agent_in new agent ∷ []
  pushed_said = ap (map (agent_in new)) pushed ∙ map_push (agent_in new) ds agent ∙ ap (λ x. x ++ agent_in new agent ∷ []) (agents_kept old new ds more inside)

  pushed_below : AreAgentsBelow (length new) es
  pushed_below = subst (AreAgentsBelow (length new)) (sym pushed)
      (agents_below_push (length new) ds agent (agents_below_more (length old) (length new) ds (extends_long old new more) inside) below)

  pushed_entries : entries_of (map (agent_in new) es) ≡ entries_of (map (agent_in old) ds) + length agent.entries.items
  pushed_entries =
      ap entries_of pushed_said ∙ sum_by_push (λ (x : SaidAgent). length x.entries) (map (agent_in old) ds) (agent_in new agent)
      ∙ ap (λ k. entries_of (map (agent_in old) ds) + k) (length-map agent.entries.items (text_at new))

  pushed_names : (before after : List (List ℕ)) → after ≡ before ++ agent.name.now ∷ [] → before ≡ map (λ (x : Declared). x.name.now) ds
      → after ≡ map (λ (x : Declared). x.name.now) es
  pushed_names before after e named =
      let name = λ (x : Declared). x.name.now in
      e ∙ ap (λ x. x ++ agent.name.now ∷ []) named ∙ sym (ap (map name) pushed ∙ map_push name ds agent)

module _ (kind : Kind) (line : ℕ) (d : Draft) (pn rn : Table) (draft : IsDraft kind line d) (grown : Grown line d pn rn) where
  -- the names of whom the proposers list may have grown
  pub listed_now : Extends (listed_table kind d.proposer_names d.reviewer_names).texts (listed_table kind pn rn).texts
  listed_now = listed_more kind d pn rn grown.p_more grown.r_more

  -- the count of the entries of master lists
  abbrev pub shared : ℕ
  shared = entries_of_masters (masters_in d)

  -- a draft with other agents
  abbrev pub with_agents : Vec Declared Global → Vec Declared Global → ℕ → Draft
  with_agents ps rs n = record d { proposer_names = pn; reviewer_names = rn; proposers = ps; reviewers = rs; entries = n }

  -- what it says
  pub said_with_agents : (ps rs : Vec Declared Global) (n : ℕ) {p r : List SaidAgent} → map (agent_in (listed_table kind pn rn).texts) ps.items ≡ p → map (agent_in pn.texts) rs.items ≡ r
      → said_of kind (with_agents ps rs n) ≡ record (said_of kind d) { proposers = p; reviewers = r }
  said_with_agents ps rs n e f = said_same e f refl refl refl refl refl

  -- and what it meets
  pub draft_with_agents : (ps rs : Vec Declared Global) (n : ℕ) → pn.declared ≡ map (λ (x : Declared). x.name.now) ps.items → rn.declared ≡ map (λ (x : Declared). x.name.now) rs.items
      → AreAgentsBelow (length (listed_table kind pn rn).texts) ps.items → AreAgentsBelow (length pn.texts) rs.items
      → n ≡ entries_of (map (agent_in (listed_table kind pn rn).texts) ps.items) + entries_of (map (agent_in pn.texts) rs.items) + shared
      → d.entries ≤ n → n ≤ most_entries → length ps.items ≤ most_agents → length rs.items ≤ most_agents → IsDraft kind (line + 1) (with_agents ps rs n)
  draft_with_agents ps rs n named_ps named_rs below_ps below_rs counted more few few_ps few_rs =
      record {
        proposers_declared = named_ps;
        reviewers_declared = named_rs;
        proposers_in = below_ps;
        reviewers_in = below_rs;
        counted = counted;
        entries_fit = few;
        proposers_fit = few_ps;
        reviewers_fit = few_rs;
        proposers_fresh = grown.p_fresh;
        reviewers_fresh = grown.r_fresh;
        few = omega (arith, draft.few);
        masters = draft.masters;
        on_masters_fit = omega (arith, draft.on_masters_fit, more);
      }

  -- an agent is added, behind those of its side
  module _ (agent : Declared) (v : Vec Declared Global) (n : ℕ) (more : n ≡ d.entries + length agent.entries.items) (few : d.entries + length agent.entries.items ≤ most_entries) where
    -- a proposer
    pub proposer_added : pn.declared ≡ d.proposer_names.declared ++ agent.name.now ∷ [] → rn.declared ≡ d.reviewer_names.declared
        → AreBelow (length (listed_table kind pn rn).texts) agent.entries.items → v.items ≡ d.proposers.items ++ agent ∷ [] → length d.proposers.items < most_agents
        → (said_of kind (with_agents v d.reviewers n) ≡ with_agent Proposers (agent_in (listed_table kind pn rn).texts agent) (said_of kind d)) × IsDraft kind (line + 1) (with_agents v d.reviewers n)
    proposer_added declared_p declared_r below pushed fits =
        let p = d.proposer_names.texts in
        let old = (listed_table kind d.proposer_names d.reviewer_names).texts in
        let new = (listed_table kind pn rn).texts in
        let ds = d.proposers.items in
        let others = agents_kept p pn.texts d.reviewers.items grown.p_more draft.reviewers_in in (
          said_with_agents v d.reviewers n (pushed_said old new listed_now ds v.items draft.proposers_in agent below pushed) others,
          draft_with_agents v d.reviewers n
              (pushed_names old new listed_now ds v.items draft.proposers_in agent below pushed d.proposer_names.declared pn.declared declared_p draft.proposers_declared)
              (declared_r ∙ draft.reviewers_declared)
              (pushed_below old new listed_now ds v.items draft.proposers_in agent below pushed)
              (agents_below_more (length p) (length pn.texts) d.reviewers.items (extends_long p pn.texts grown.p_more) draft.reviewers_in)
              (sum_left (entries_of (map (agent_in old) ds)) (entries_of (map (agent_in p) d.reviewers.items)) _ _ draft.counted
              (pushed_entries old new listed_now ds v.items draft.proposers_in agent below pushed) (ap entries_of others))
              (omega arith) (omega arith) (omega (arith, ap length pushed, length_push ds agent)) draft.reviewers_fit,
        )
      where
        sum_left : (a b t u : ℕ) → d.entries ≡ a + b + shared → t ≡ a + length agent.entries.items → u ≡ b → n ≡ t + u + shared
        sum_left a b t u e f g = omega arith

    -- a reviewer
    pub reviewer_added : pn.declared ≡ d.proposer_names.declared → rn.declared ≡ d.reviewer_names.declared ++ agent.name.now ∷ []
        → AreBelow (length pn.texts) agent.entries.items → v.items ≡ d.reviewers.items ++ agent ∷ [] → length d.reviewers.items < most_agents
        → (said_of kind (with_agents d.proposers v n) ≡ with_agent Reviewers (agent_in pn.texts agent) (said_of kind d)) × IsDraft kind (line + 1) (with_agents d.proposers v n)
    reviewer_added declared_p declared_r below pushed fits =
        let p = d.proposer_names.texts in
        let old = (listed_table kind d.proposer_names d.reviewer_names).texts in
        let new = (listed_table kind pn rn).texts in
        let ds = d.reviewers.items in
        let others = agents_kept old new d.proposers.items listed_now draft.proposers_in in (
          said_with_agents d.proposers v n others (pushed_said p pn.texts grown.p_more ds v.items draft.reviewers_in agent below pushed),
          draft_with_agents d.proposers v n
              (declared_p ∙ draft.proposers_declared)
              (pushed_names p pn.texts grown.p_more ds v.items draft.reviewers_in agent below pushed d.reviewer_names.declared rn.declared declared_r draft.reviewers_declared)
              (agents_below_more (length old) (length new) d.proposers.items (extends_long old new listed_now) draft.proposers_in)
              (pushed_below p pn.texts grown.p_more ds v.items draft.reviewers_in agent below pushed)
              (sum_right (entries_of (map (agent_in old) d.proposers.items)) (entries_of (map (agent_in p) ds)) _ _ draft.counted
              (ap entries_of others) (pushed_entries p pn.texts grown.p_more ds v.items draft.reviewers_in agent below pushed))
              (omega arith) (omega arith) draft.proposers_fit (omega (arith, ap length pushed, length_push ds agent)),
        )
      where
        sum_right : (a b t u : ℕ) → d.entries ≡ a + b + shared → t ≡ a → u ≡ b + length agent.entries.items → n ≡ t + u + shared
        sum_right a b t u e f g = omega arith

-- the three ways in which an agent is added
module _ (line capacity : ℕ) (name : Bor (List ℕ)) (entries : List (List ℕ)) (ids : Vec ℕ Global) (d d1 d2 d3 : Draft) where
  abbrev one : Declared
  one = record { name = name; capacity = capacity; line = line; entries = ids }

  same_agent : (texts : List (List ℕ)) → map (text_at texts) ids.items ≡ entries
      → let left : SaidAgent = record { name = name.now; capacity = capacity; line = line; entries = entries } in agent_in texts one ≡ left
  same_agent texts e = ap (λ es. record { name = name.now; capacity = capacity; line = line; entries = es }) e

  no_fault : (declared : List (List ℕ)) (agents all : ℕ) (texts : List (List ℕ)) → list_any (bytes_eq name.now) declared ≡ false → has_repeated entries ≡ false → map (text_at texts) ids.items ≡ entries
      → limit_fault agents all (length ids.items) ≡ None → name_fault declared name.now entries agents all ≡ None
  no_fault declared agents all texts is_new differ names fits =
      rw (is_new, differ) (ap (limit_fault agents all) (sym (ap length names) ∙ length-map ids.items (text_at texts)) ∙ fits)

  -- a proposer of two sides
  two_sided : (kind : Kind) → ((pn rn : Table) → listed_table kind pn rn ≡ rn) → IsDraft kind line d → DeclaresOn Proposers d d1 name.now → ListsOn Reviewers d1 d2 entries line ids.items → PutsOn Proposers d2 d3 one
      → AddsAgent kind line Proposers name.now capacity entries d d3
  two_sided kind listed_is draft declares lists puts =
      let e1 = declares.changes in
      let e12 : d2 ≡ record d { proposer_names = d1.proposer_names; reviewer_names = d2.reviewer_names } = lists.changes ∙ ap (λ (x : Draft). record x { reviewer_names = d2.reviewer_names }) e1 in
      let all : d3 ≡ record d { proposer_names = d1.proposer_names; reviewer_names = d2.reviewer_names; proposers = d3.proposers; entries = d3.entries } =
      puts.changes ∙ ap (λ (x : Draft). record x { proposers = d3.proposers; entries = d3.entries }) e12 in
      let grown : Grown line d d1.proposer_names d2.reviewer_names = record {
        p_more = declares.declares.extends;
        r_more = subst (λ (x : Draft). Extends x.reviewer_names.texts d2.reviewer_names.texts) e1 lists.listed.extends;
        p_fresh = λ k. omega (arith, declares.declares.stamps k, draft.proposers_fresh k);
        r_fresh = λ k. omega (arith, lists.listed.stamps k);
      } in
      let fits : limit_fault (length d.proposers.items) d.entries (length ids.items) ≡ None = ap (λ (x : Draft). limit_fault (length x.proposers.items) x.entries (length ids.items)) (sym e12) ∙ puts.faultless in
      let inside = within_limits (length d.proposers.items) d.entries (length ids.items) fits in
      let added = proposer_added kind line d d1.proposer_names d2.reviewer_names draft grown one d3.proposers d3.entries
      (puts.entries ∙ ap (λ (x : Draft). x.entries + length ids.items) e12) inside.1
      declares.declares.declared
      (lists.listed.declared ∙ ap (λ (x : Draft). x.reviewer_names.declared) e1)
      (subst (λ (t : Table). AreBelow (length t.texts) ids.items) (sym (listed_is d1.proposer_names d2.reviewer_names)) lists.listed.in_range)
      (puts.agents ∙ ap (λ (x : Draft). x.proposers.items ++ one ∷ []) e12) inside.0 in
      record {
        faultless = no_fault d.proposer_names.declared (length d.proposers.items) d.entries d2.reviewer_names.texts declares.is_new lists.listed.differ lists.listed.names fits;
        said = ap (said_of kind) all ∙ added.0 ∙ ap (λ a. with_agent Proposers a (said_of kind d))
            (same_agent (listed_table kind d1.proposer_names d2.reviewer_names).texts (ap (λ (t : Table). map (text_at t.texts) ids.items) (listed_is d1.proposer_names d2.reviewer_names) ∙ lists.listed.names));
        draft = subst (IsDraft kind (line + 1)) (sym all) added.1;
      }

  person : IsDraft Roommates line d → DeclaresOn Proposers d d1 name.now → ListsOn Proposers d1 d2 entries line ids.items → PutsOn Proposers d2 d3 one
      → AddsAgent Roommates line Proposers name.now capacity entries d d3
  person draft declares lists puts =
      let e1 = declares.changes in
      let e12 : d2 ≡ record d { proposer_names = d2.proposer_names } = lists.changes ∙ ap (λ (x : Draft). record x { proposer_names = d2.proposer_names }) e1 in
      let all : d3 ≡ record d { proposer_names = d2.proposer_names; reviewer_names = d.reviewer_names; proposers = d3.proposers; entries = d3.entries } =
      puts.changes ∙ ap (λ (x : Draft). record x { proposers = d3.proposers; entries = d3.entries }) e12 in
      let grown : Grown line d d2.proposer_names d.reviewer_names = record {
        p_more = extends_twice d.proposer_names.texts d1.proposer_names.texts d2.proposer_names.texts declares.declares.extends lists.listed.extends;
        r_more = record { more = []; appended = sym (append-nil d.reviewer_names.texts) };
        p_fresh = λ k. omega (arith, lists.listed.stamps k);
        r_fresh = λ k. omega (arith, draft.reviewers_fresh k);
      } in
      let fits : limit_fault (length d.proposers.items) d.entries (length ids.items) ≡ None = ap (λ (x : Draft). limit_fault (length x.proposers.items) x.entries (length ids.items)) (sym e12) ∙ puts.faultless in
      let inside = within_limits (length d.proposers.items) d.entries (length ids.items) fits in
      let added = proposer_added Roommates line d d2.proposer_names d.reviewer_names draft grown one d3.proposers d3.entries
      (puts.entries ∙ ap (λ (x : Draft). x.entries + length ids.items) e12) inside.1
      (lists.listed.declared ∙ declares.declares.declared)
      refl
      lists.listed.in_range
      (puts.agents ∙ ap (λ (x : Draft). x.proposers.items ++ one ∷ []) e12) inside.0 in
      record {
        faultless = no_fault d.proposer_names.declared (length d.proposers.items) d.entries d2.proposer_names.texts declares.is_new lists.listed.differ lists.listed.names fits;
        said = ap (said_of Roommates) all ∙ added.0 ∙ ap (λ a. with_agent Proposers a (said_of Roommates d)) (same_agent d2.proposer_names.texts lists.listed.names);
        draft = subst (IsDraft Roommates (line + 1)) (sym all) added.1;
      }

  reviewer : (kind : Kind) → IsDraft kind line d → DeclaresOn Reviewers d d1 name.now → ListsOn Proposers d1 d2 entries line ids.items → PutsOn Reviewers d2 d3 one
      → AddsAgent kind line Reviewers name.now capacity entries d d3
  reviewer kind draft declares lists puts =
      let e1 = declares.changes in
      let e12 : d2 ≡ record d { proposer_names = d2.proposer_names; reviewer_names = d1.reviewer_names } = lists.changes ∙ ap (λ (x : Draft). record x { proposer_names = d2.proposer_names }) e1 in
      let all : d3 ≡ record d { proposer_names = d2.proposer_names; reviewer_names = d1.reviewer_names; reviewers = d3.reviewers; entries = d3.entries } =
      puts.changes ∙ ap (λ (x : Draft). record x { reviewers = d3.reviewers; entries = d3.entries }) e12 in
      let grown : Grown line d d2.proposer_names d1.reviewer_names = record {
        p_more = subst (λ (x : Draft). Extends x.proposer_names.texts d2.proposer_names.texts) e1 lists.listed.extends;
        r_more = declares.declares.extends;
        p_fresh = λ k. omega (arith, lists.listed.stamps k);
        r_fresh = λ k. omega (arith, declares.declares.stamps k, draft.reviewers_fresh k);
      } in
      let fits : limit_fault (length d.reviewers.items) d.entries (length ids.items) ≡ None = ap (λ (x : Draft). limit_fault (length x.reviewers.items) x.entries (length ids.items)) (sym e12) ∙ puts.faultless in
      let inside = within_limits (length d.reviewers.items) d.entries (length ids.items) fits in
      let added = reviewer_added kind line d d2.proposer_names d1.reviewer_names draft grown one d3.reviewers d3.entries
      (puts.entries ∙ ap (λ (x : Draft). x.entries + length ids.items) e12) inside.1
      (lists.listed.declared ∙ ap (λ (x : Draft). x.proposer_names.declared) e1)
      declares.declares.declared
      lists.listed.in_range
      (puts.agents ∙ ap (λ (x : Draft). x.reviewers.items ++ one ∷ []) e12) inside.0 in
      record {
        faultless = no_fault d.reviewer_names.declared (length d.reviewers.items) d.entries d2.proposer_names.texts declares.is_new lists.listed.differ lists.listed.names fits;
        said = ap (said_of kind) all ∙ added.0 ∙ ap (λ a. with_agent Reviewers a (said_of kind d)) (same_agent d2.proposer_names.texts lists.listed.names);
        draft = subst (IsDraft kind (line + 1)) (sym all) added.1;
      }

  -- an agent of any kind of instance and of either side
  pub agent_added : (kind : Kind) (side : Side) → IsDraft kind line d → DeclaresOn side d d1 name.now → ListsOn (listed_side kind side) d1 d2 entries line ids.items → PutsOn side d2 d3 one
      → AddsAgent kind line side name.now capacity entries d d3
  agent_added Marriage Proposers draft declares lists puts = two_sided Marriage (λ pn rn. refl) draft declares lists puts
  agent_added Hospitals Proposers draft declares lists puts = two_sided Hospitals (λ pn rn. refl) draft declares lists puts
  agent_added Roommates Proposers draft declares lists puts = person draft declares lists puts
  agent_added Marriage Reviewers draft declares lists puts = reviewer Marriage draft declares lists puts
  agent_added Hospitals Reviewers draft declares lists puts = reviewer Hospitals draft declares lists puts
  agent_added Roommates Reviewers draft declares lists puts = reviewer Roommates draft declares lists puts
