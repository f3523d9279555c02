-- What lines of pairs add to a draft, and what the faults of lines are to a draft.
use Rattle.std.proofs.Common.{◌≡◌, ℕ, ◌+◌, ◌≤◌, ◌&&◌, ◌||◌, Bool, true, false, cond, List, [], ◌∷◌, ◌++◌, length, map, Option, Some, None, refl, sym, ap, ◌∙◌, subst, arith, is_none, is_some, unwrap_or, pos}
use Rattle.std.specs.List.{list_any, list_all}
use Rattle.std.specs.Map.{lookup}
use Rattle.std.specs.Option.{option_or}
use Rattle.std.specs.Str.{bytes_eq}
use Rattle.std.proofs.lemmas.List.{length_push, map_push, length-map}
use Rattle.sm_text.specs.Name.{is_name}
use Rattle.sm_text.specs.declared.refusal.RefusalKind.TheVariants.{BadName, BadNumber, RepeatedWeight}
use Rattle.sm_agents.specs.declared.kinds.Kind.{Kind}
use Rattle.sm_agents.specs.declared.kinds.Side.{Side}
use Rattle.sm_agents.specs.declared.kinds.Side.TheVariants.{Proposers, Reviewers}
use Rattle.sm_agents.specs.Named.{SaidPair, SaidWeight, Said, names_of, all_entries, entries_of, entries_of_masters, agents_on, is_given_to}
use Rattle.sm_forms.specs.declared.forms.Condition.{Condition}
use Rattle.sm_forms.specs.declared.forms.Condition.TheVariants.{Force, Forbid}
use Rattle.sm_forms.specs.Forms.{declares, weighs, binds}
use Rattle.sm_reader.specs.Judging.{fault_of, said_with, with_agent, weight_in, second_in, weight_of}
use Rattle.sm_keys.specs.Keys.{spelled}
use Rattle.sm_keys.specs.declared.text_key.TextKey.{TextKey}
use Rattle.sm_reader.specs.Draft.{listed_table, agent_in, pair_in, given_in, masters_in, said_of, HasMasters, IsDraft, AddsForm, AddsAgent, AreRunsRight, IsLineFault, RefusesFor, run_fault, name_fault, weight_fault, AreSpelled, table_on, declared_on, PutsWeight, Binds}
use Rattle.sm_reader.specs.declared.draft.Declared.{Declared}
use Rattle.sm_reader.specs.declared.draft.Weights.{Weights}
use Rattle.sm_reader.specs.declared.draft.Draft.{Draft}
use Rattle.sm_reader.specs.declared.faults.TextFault.{TextFault}
use Rattle.sm_reader.specs.declared.faults.TextFault.TheVariants.{Refused, OutOfMemory}
use Rattle.sm_reader.proofs.DraftLemmas.{said_same, draft_more}
use Rattle.sm_reader.proofs.JudgeLemmas.{fault_of-declares, fault_of-weighs, fault_of-binds}

-- a draft with further pairs meets what a draft has to before the next line
draft_with_pairs : (kind : Kind) (line : ℕ) (d e : Draft) → IsDraft kind line d → e ≡ record d { weights = e.weights; forced = e.forced; forbidden = e.forbidden }
    → length e.weights.entries + length e.forced.items + length e.forbidden.items ≤ length d.weights.entries + length d.forced.items + length d.forbidden.items + 1
    → IsDraft kind (line + 1) e
draft_with_pairs kind line d e draft changes count =
    draft_more kind line d e draft
    (changes ∙ ap (λ (x : Draft). record d { entries = x.entries; weights = e.weights; forced = e.forced; forbidden = e.forbidden; masters = x.masters; on_masters = x.on_masters; order = x.order }) (sym changes))
    (ap (λ (x : Draft). x.entries) changes ∙ draft.counted
    ∙ ap (λ (x : Draft). entries_of (said_of kind d).proposers + entries_of (said_of kind d).reviewers + entries_of_masters (masters_in x)) (sym changes))
    (omega (arith, draft.entries_fit, ap (λ (x : Draft). x.entries) changes))
    count
    (subst HasMasters (sym changes) draft.masters)
    (subst (λ (x : Draft). length x.on_masters.items ≤ x.entries) (sym changes) draft.on_masters_fit)

-- a condition is added
pub condition_added : (kind : Kind) (line : ℕ) (d new : Draft) (condition : Condition) (proposer reviewer : List ℕ) → IsDraft kind line d → Binds condition d new proposer reviewer line
    → AddsForm kind line (binds condition proposer reviewer) d new
unfolding said_with
condition_added kind line d new Force proposer reviewer draft bound =
    let puts = bound.puts in
    record {
      faultless = fault_of-binds (said_of kind d) Force proposer reviewer true bound.are_names;
      said = ap (said_of kind) puts.changes
          ∙ said_same refl refl refl (ap (map pair_in) puts.pairs ∙ map_push pair_in d.forced.items bound.pair ∙ ap (λ x. map pair_in d.forced.items ++ x ∷ []) bound.is) refl refl refl;
      draft = draft_with_pairs kind line d new draft
          (puts.changes ∙ ap (λ (x : Draft). record d { weights = x.weights; forced = new.forced; forbidden = x.forbidden }) (sym puts.changes))
          (omega (arith, ap length puts.pairs, length_push d.forced.items bound.pair, ap (λ (x : Draft). length x.weights.entries + length x.forbidden.items) puts.changes));
    }
condition_added kind line d new Forbid proposer reviewer draft bound =
    let puts = bound.puts in
    record {
      faultless = fault_of-binds (said_of kind d) Forbid proposer reviewer true bound.are_names;
      said = ap (said_of kind) puts.changes
          ∙ said_same refl refl refl refl (ap (map pair_in) puts.pairs ∙ map_push pair_in d.forbidden.items bound.pair ∙ ap (λ x. map pair_in d.forbidden.items ++ x ∷ []) bound.is) refl refl;
      draft = draft_with_pairs kind line d new draft
          (puts.changes ∙ ap (λ (x : Draft). record d { weights = x.weights; forced = x.forced; forbidden = new.forbidden }) (sym puts.changes))
          (omega (arith, ap length puts.pairs, length_push d.forbidden.items bound.pair, ap (λ (x : Draft). length x.weights.entries + length x.forced.items) puts.changes));
    }

-- a pair gets its weights
pub weight_added : (kind : Kind) (line : ℕ) (d new : Draft) (proposer reviewer run : List ℕ) (second : Option (List ℕ)) → IsDraft kind line d → PutsWeight d new proposer reviewer run second line
    → AddsForm kind line (weighs proposer reviewer run second) d new
unfolding said_with
weight_added kind line d new proposer reviewer run second draft puts =
    record {
      faultless = fault_of-weighs (said_of kind d) proposer reviewer run second ∙ puts.faultless;
      said = ap (said_of kind) puts.changes
          ∙ said_same refl refl (ap (map given_in) puts.weights ∙ map_push given_in d.weights.entries puts.added ∙ ap (λ x. map given_in d.weights.entries ++ x ∷ []) puts.given) refl refl refl refl;
      draft = draft_with_pairs kind line d new draft
          (puts.changes ∙ ap (λ (x : Draft). record d { weights = new.weights; forced = x.forced; forbidden = x.forbidden }) (sym puts.changes))
          (omega (arith, ap length puts.weights, length_push d.weights.entries puts.added, ap (λ (x : Draft). length x.forced.items + length x.forbidden.items) puts.changes));
    }

-- the names of agents
names_in : (texts : List (List ℕ)) (agents : List Declared) → names_of (map (agent_in texts) agents) ≡ map (λ (a : Declared). a.name.now) agents
names_in texts [] = refl
names_in texts (a ∷ agents) = ap (λ x. a.name.now ∷ x) (names_in texts agents)

name_fault_same : (kind : Kind) (line : ℕ) (d : Draft) (side : Side) (name : List ℕ) (entries : List (List ℕ)) → IsDraft kind line d
    → name_fault (names_of (agents_on side (said_of kind d))) name entries (length (agents_on side (said_of kind d))) (all_entries (said_of kind d))
    ≡ name_fault (table_on side d).declared name entries (length (declared_on side d)) d.entries
name_fault_same kind line d Proposers name entries draft =
    let texts = (listed_table kind d.proposer_names d.reviewer_names).texts in
    ap (λ x. name_fault x name entries (length (said_of kind d).proposers) (all_entries (said_of kind d))) (names_in texts d.proposers.items ∙ sym draft.proposers_declared)
    ∙ ap (λ n. name_fault d.proposer_names.declared name entries n (all_entries (said_of kind d))) (length-map d.proposers.items (agent_in texts))
    ∙ ap (λ n. name_fault d.proposer_names.declared name entries (length d.proposers.items) n) (sym draft.counted)
name_fault_same kind line d Reviewers name entries draft =
    let texts = d.proposer_names.texts in
    ap (λ x. name_fault x name entries (length (said_of kind d).reviewers) (all_entries (said_of kind d))) (names_in texts d.reviewers.items ∙ sym draft.reviewers_declared)
    ∙ ap (λ n. name_fault d.reviewer_names.declared name entries n (all_entries (said_of kind d))) (length-map d.reviewers.items (agent_in texts))
    ∙ ap (λ n. name_fault d.reviewer_names.declared name entries (length d.reviewers.items) n) (sym draft.counted)

module _ (kind : Kind) (line : ℕ) (d : Draft) (side : Side) (name : List ℕ) (capacity : Option (List ℕ)) (entries : List (List ℕ)) (draft : IsDraft kind line d) where
  -- an agent's line whose runs are right has the faults of names and limits
  later_faults : run_fault name capacity entries ≡ None → fault_of (said_of kind d) (declares side name capacity entries) ≡ name_fault (table_on side d).declared name entries (length (declared_on side d)) d.entries
  later_faults right =
      let said = said_of kind d in
      fault_of-declares said side name capacity entries
      ∙ ap (λ o. option_or o (name_fault (names_of (agents_on side said)) name entries (length (agents_on side said)) (all_entries said))) right
      ∙ name_fault_same kind line d side name entries draft

  -- an agent whose runs are right, and its names, is added
  pub adds_agent : (n : ℕ) (new : Draft) → AreRunsRight name capacity entries n → AddsAgent kind line side name n entries d new → AddsForm kind line (declares side name capacity entries) d new
  unfolding said_with
  adds_agent n new checked adds = record {
    faultless = later_faults checked.faultless ∙ adds.faultless;
    said = adds.said ∙ ap (λ k. with_agent side (record { name = name; capacity = k; line = line; entries = entries }) (said_of kind d)) checked.number;
    draft = adds.draft;
  }

  -- or it is refused for its names or the limits
  pub agent_refused : (n : ℕ) (f : TextFault) → AreRunsRight name capacity entries n → IsLineFault (name_fault (table_on side d).declared name entries (length (declared_on side d)) d.entries) line f
      → IsLineFault (fault_of (said_of kind d) (declares side name capacity entries)) line f
  agent_refused n f checked h = subst (λ o. IsLineFault o line f) (sym (later_faults checked.faultless)) h

  -- or for its runs
  pub runs_refused : (f : TextFault) → IsLineFault (run_fault name capacity entries) line f → IsLineFault (fault_of (said_of kind d) (declares side name capacity entries)) line f
  runs_refused (Refused k at) h =
      let said = said_of kind d in (
        fault_of-declares said side name capacity entries
            ∙ ap (λ o. option_or o (name_fault (names_of (agents_on side said)) name entries (length (agents_on side said)) (all_entries said))) h.0,
        h.1,
      )
  runs_refused OutOfMemory h = tt

-- a pair is refused where one of its runs is no name
pub pair_refused : (said : Said) (line : ℕ) (condition : Condition) (p r : List ℕ) (f : TextFault) → RefusesFor BadName line (list_all is_name (p ∷ r ∷ []) ≡ false) f
    → IsLineFault (fault_of said (binds condition p r)) line f
pair_refused said line condition p r (Refused k at) h = (fault_of-binds said condition p r false h.2 ∙ sym (ap Some h.0), h.1)
pair_refused said line condition p r OutOfMemory h = tt

-- a pair has weights by its key as by its names
pub weighed_among : (p r : List ℕ) (entries : List ((TextKey × TextKey) × Weights))
    → is_some (lookup (λ (k : TextKey × TextKey). bytes_eq p (spelled k.0) && bytes_eq r (spelled k.1)) entries) ≡ list_any (is_given_to p r) (map given_in entries)
weighed_among p r [] = refl
weighed_among p r (e ∷ entries) = by_test (bytes_eq p (spelled e.0.0) && bytes_eq r (spelled e.0.1)) (weighed_among p r entries)
  where
    by_test : (t : Bool) → is_some (lookup (λ (k : TextKey × TextKey). bytes_eq p (spelled k.0) && bytes_eq r (spelled k.1)) entries) ≡ list_any (is_given_to p r) (map given_in entries)
        → is_some (cond t (Some e.1) (lookup (λ (k : TextKey × TextKey). bytes_eq p (spelled k.0) && bytes_eq r (spelled k.1)) entries)) ≡ (t || list_any (is_given_to p r) (map given_in entries))
    by_test true same = refl
    by_test false same = same

-- the fault of a weight whose runs are names: one is no number, or the pair has weights
pub weight_fault_is : (ws : List SaidWeight) (p r run : List ℕ) (second : Option (List ℕ)) (t b : Bool) → list_all is_name (p ∷ r ∷ []) ≡ true → (is_none (weight_in run) || is_none (second_in second)) ≡ t
    → list_any (is_given_to p r) ws ≡ b → weight_fault ws p r run second ≡ cond t (Some BadNumber) (cond b (Some RepeatedWeight) None)
weight_fault_is ws p r run second t b names numbers met = rw (names, numbers, met) refl

-- the weights that runs spell are those that the line gives to its pair
pub given_is : (p r run : List ℕ) (second : Option (List ℕ)) (line : ℕ) (weights : Weights) → AreSpelled run second line weights
    → (let pair : SaidPair = record { proposer = p; reviewer = r; line = weights.line } in let given : SaidWeight = record { pair = pair; weight = weights.weight; second = weights.second } in given) ≡ weight_of line p r run second
given_is p r run second line weights are =
    let pair : SaidPair = record { proposer = p; reviewer = r; line = line } in
    ap (λ n. record { pair = record { proposer = p; reviewer = r; line = n }; weight = weights.weight; second = weights.second }) are.on_line
    ∙ ap (λ z. record { pair = pair; weight = unwrap_or z (pos 0); second = weights.second }) (sym are.weight)
    ∙ ap (λ z. record { pair = pair; weight = unwrap_or (weight_in run) (pos 0); second = unwrap_or z (pos 0) }) (sym are.second)
