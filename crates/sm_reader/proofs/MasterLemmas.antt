-- What the lines of master lists and of an order add to a draft.
use Rattle.std.proofs.Common.{◌≡◌, ℕ, suc, ◌+◌, ◌-◌, ◌≤◌, ◌||◌, ◌&&◌, not, Bool, true, false, cond, List, [], ◌∷◌, ◌++◌, length, map, take, drop, get_or, slice_range, Option, Some, None, is_some, unwrap_or, refl, sym, ap, ◌∙◌, subst, arith, All, nat_lt}
use Rattle.std.specs.Borrow.{Bor}
use Rattle.std.specs.List.{list_any, list_all}
use Rattle.std.specs.Map.{lookup}
use Rattle.std.specs.Option.{option_or, option_map, IfSome}
use Rattle.std.specs.Str.{bytes_eq}
use Rattle.std.proofs.lemmas.Bool.Decides.{nat_tests}
use Rattle.std.proofs.Math.Seq.{drop-append_seam}
use Rattle.std.proofs.lemmas.List.{map_push, length-map, length-drop, length-append, drop-append-le, take-append-le, take_all, take-map, drop-map}
use Rattle.std.proofs.lemmas.List.Elements.{All-push}
use Rattle.std.proofs.lemmas.List.Sums.{sum_by_push}
use Rattle.sm_text.specs.Limits.{most_entries}
use Rattle.sm_text.specs.Name.{is_name}
use Rattle.sm_text.specs.Slices.{texts_of}
use Rattle.sm_text.specs.declared.refusal.RefusalKind.TheVariants.{BadName, Redeclared, RepeatedEntry, TooManyEntries}
use Rattle.sm_agents.specs.declared.kinds.Kind.{Kind}
use Rattle.sm_agents.specs.declared.kinds.Side.{Side}
use Rattle.sm_agents.specs.Named.{SaidMaster, SaidOrder, entries_of, entries_of_masters, master_names, entries_named, all_entries}
use Rattle.sm_forms.specs.Forms.{declares, uses, shares, orders}
use Rattle.sm_keys.specs.Keys.{spelled}
use Rattle.sm_keys.specs.Tables.{has_repeated}
use Rattle.sm_keys.specs.Tokens.{AreNamesAtEnd}
use Rattle.sm_keys.specs.declared.text_key.TextKey.{TextKey}
use Rattle.sm_reader.specs.Judging.{fault_of, said_with, with_agent, agent_of}
use Rattle.sm_reader.specs.Draft.{names_on, master_in, masters_in, masters_declared, said_of, HasNames, HasMasters, IsMaster, IsDraft, AddsForm, IsLineFault, RefusesFor, run_fault, master_fault, order_fault, order_of, PutsMaster, KeepsOrder, said_ordered}
use Rattle.sm_reader.specs.declared.draft.Draft.{Draft}
use Rattle.sm_reader.specs.declared.draft.MasterList.{MasterList}
use Rattle.sm_reader.specs.declared.faults.TextFault.{TextFault}
use Rattle.sm_reader.specs.declared.faults.TextFault.TheVariants.{Refused, OutOfMemory}
use Rattle.sm_keys.proofs.NameLemmas.{names_from}
use Rattle.sm_reader.proofs.DraftLemmas.{draft_more}
use Rattle.sm_reader.proofs.JudgeLemmas.{fault_of-uses, fault_of-no_master, fault_of-shares, fault_of-orders}

-- it is found by its key as among those that are said
pub named_among : (all : List (List ℕ)) (name : List ℕ) (entries : List (TextKey × MasterList))
    → entries_named (map (master_in all) entries) name ≡ option_map (names_on all) (lookup (λ (k : TextKey). bytes_eq name (spelled k)) entries)
named_among all name [] = refl
named_among all name (e ∷ entries) = by_test (bytes_eq name (spelled e.0)) (named_among all name entries)
  where
    by_test : (t : Bool) → entries_named (map (master_in all) entries) name ≡ option_map (names_on all) (lookup (λ (k : TextKey). bytes_eq name (spelled k)) entries)
        → cond t (Some (names_on all e.1)) (entries_named (map (master_in all) entries) name)
        ≡ option_map (names_on all) (cond t (Some e.1) (lookup (λ (k : TextKey). bytes_eq name (spelled k)) entries))
    by_test true same = refl
    by_test false same = same

-- its name stands among the keys as among the names that are declared
pub declared_among : (all : List (List ℕ)) (name : List ℕ) (entries : List (TextKey × MasterList))
    → is_some (lookup (λ (k : TextKey). bytes_eq name (spelled k)) entries) ≡ list_any (bytes_eq name) (master_names (map (master_in all) entries))
declared_among all name [] = refl
declared_among all name (e ∷ entries) = by_test (bytes_eq name (spelled e.0)) (declared_among all name entries)
  where
    by_test : (t : Bool) → is_some (lookup (λ (k : TextKey). bytes_eq name (spelled k)) entries) ≡ list_any (bytes_eq name) (master_names (map (master_in all) entries))
        → is_some (cond t (Some e.1) (lookup (λ (k : TextKey). bytes_eq name (spelled k)) entries)) ≡ (t || list_any (bytes_eq name) (master_names (map (master_in all) entries)))
    by_test true same = refl
    by_test false same = same

-- the names on it are there, and names alone stand on it
names_found : (all : List (List ℕ)) (test : TextKey → Bool) (entries : List (TextKey × MasterList)) → All (λ (m : TextKey × MasterList). HasNames all m.1) entries
    → IfSome (lookup test entries) (HasNames all)
names_found all test [] has = tt
names_found all test (e ∷ entries) has = by_test (test e.0) (names_found all test entries (λ i d below. has (suc i) d (omega arith)))
  where
    by_test : (t : Bool) → IfSome (lookup test entries) (HasNames all) → IfSome (cond t (Some e.1) (lookup test entries)) (HasNames all)
    by_test true behind = has 0 e (omega arith)
    by_test false behind = behind

-- so it is for the list that is found
pub found_names : (all : List (List ℕ)) (test : TextKey → Bool) (entries : List (TextKey × MasterList)) (list : MasterList) → lookup test entries ≡ Some list
    → All (λ (m : TextKey × MasterList). HasNames all m.1) entries → HasNames all list
found_names all test entries list at has = subst (λ (o : Option MasterList). IfSome o (HasNames all)) at (names_found all test entries has)

-- The names of one more list stand behind those on all.

module _ (all more : List (List ℕ)) where
  -- a list has the names on it that it had
  same_names : (list : MasterList) → HasNames all list → names_on (all ++ more) list ≡ names_on all list
  same_names list has =
      ap (take (list.stop - list.start)) (drop-append-le list.start all more (omega (arith, has.0, has.1)))
      ∙ take-append-le (list.stop - list.start) (drop list.start all) more (omega (arith, has.0, has.1, length-drop list.start all))

  -- which are there
  pub still_names : (list : MasterList) → HasNames all list → HasNames (all ++ more) list
  still_names list has = (has.0, omega (arith, has.1, length-append all more), ap (list_all is_name) (same_names list has) ∙ has.2)

  -- so that the same is said of all lists
  pub same_masters : (entries : List (TextKey × MasterList)) → All (λ (m : TextKey × MasterList). HasNames all m.1) entries
      → map (master_in (all ++ more)) entries ≡ map (master_in all) entries
  same_masters [] has = refl
  same_masters (e ∷ entries) has =
      ap {A = List (List ℕ)} (λ names. (record { name = spelled e.0; entries = names }) ∷ map (master_in (all ++ more)) entries) (same_names e.1 (has 0 e (omega arith)))
      ∙ ap (λ rest. master_in all e ∷ rest) (same_masters entries (λ i d below. has (suc i) d (omega arith)))

  -- and the further names are those on the further list
  pub further_names : (now : List (List ℕ)) (list : MasterList) → now ≡ all ++ more → list.start ≡ length all → list.stop ≡ length now → names_on now list ≡ more
  further_names now list is starts stops =
      let many : list.stop - list.start ≡ length more = omega (arith, starts, stops, ap length is, length-append all more) in
      ap (λ (k : ℕ). take (list.stop - list.start) (drop k now)) starts ∙ ap (λ (names : List (List ℕ)). take (list.stop - list.start) (drop (length all) names)) is
      ∙ ap (λ (names : List (List ℕ)). take (list.stop - list.start) names) (drop-append_seam all more) ∙ take_all (list.stop - list.start) more (omega (arith, many))

-- the texts between two places
pub texts_between : (slices : List (Bor (List ℕ))) (a b : ℕ) → texts_of (slice_range slices a b) ≡ slice_range (texts_of slices) a b
texts_between slices a b = sym (ap (take (b - a)) (drop-map (λ (x : Bor (List ℕ)). x.now) a slices) ∙ take-map (λ (x : Bor (List ℕ)). x.now) (b - a) (drop a slices))

-- all of some names are the names at their end
pub all_at_end : (entries : List (List ℕ)) → list_all is_name entries ≡ true → AreNamesAtEnd (length entries) entries
all_at_end entries h = subst (λ n. AreNamesAtEnd n entries) (let e : length entries - 0 ≡ length entries = omega arith in e)
    (names_from 0 entries h (λ k before. absurd (omega arith)) (omega arith))

-- An agent that has a master list.

-- is added as one with the names on it
pub uses_added : (kind : Kind) (line : ℕ) (d new : Draft) (side : Side) (name : List ℕ) (capacity : Option (List ℕ)) (master : List ℕ) (entries : List (List ℕ))
    → IsMaster d master entries → AddsForm kind line (declares side name capacity entries) d new → AddsForm kind line (uses side name capacity master) d new
unfolding said_with
uses_added kind line d new side name capacity master entries is adds = record {
  faultless = fault_of-uses (said_of kind d) side name capacity master entries is.found ∙ adds.faultless;
  said = adds.said ∙ ap (λ o. with_agent side (agent_of line name capacity (unwrap_or o [])) (said_of kind d)) (sym is.found);
  draft = adds.draft;
}

-- and is refused as it would be
pub uses_refused : (kind : Kind) (line : ℕ) (d : Draft) (side : Side) (name : List ℕ) (capacity : Option (List ℕ)) (master : List ℕ) (entries : List (List ℕ)) (f : TextFault)
    → IsMaster d master entries → IsLineFault (fault_of (said_of kind d) (declares side name capacity entries)) line f → IsLineFault (fault_of (said_of kind d) (uses side name capacity master)) line f
uses_refused kind line d side name capacity master entries f is h =
    subst (λ o. IsLineFault o line f) (sym (fault_of-uses (said_of kind d) side name capacity master entries is.found)) h

-- or since there is no such master list
pub no_master_refused : (kind : Kind) (line : ℕ) (d : Draft) (side : Side) (name : List ℕ) (capacity : Option (List ℕ)) (master : List ℕ) (f : TextFault)
    → RefusesFor BadName line (entries_named (masters_in d) master ≡ None) f → IsLineFault (fault_of (said_of kind d) (uses side name capacity master)) line f
no_master_refused kind line d side name capacity master (Refused k at) h = (fault_of-no_master (said_of kind d) side name capacity master h.2 ∙ sym (ap Some h.0), h.1)
no_master_refused kind line d side name capacity master OutOfMemory h = tt

-- The line of a master list.

-- a master list without a fault has room
pub fits_within : (declared : List (List ℕ)) (name : List ℕ) (entries : List (List ℕ)) (all : ℕ) → master_fault declared name entries all ≡ None
    → (list_any (bytes_eq name) declared ≡ false) × (all + length entries ≤ most_entries)
fits_within declared name entries all h = by_tests (list_any (bytes_eq name) declared) (has_repeated entries) (nat_lt most_entries (all + length entries)) refl h
  where
    by_tests : (a b d : Bool) → nat_lt most_entries (all + length entries) ≡ d → cond a (Some Redeclared) (cond b (Some RepeatedEntry) (cond d (Some TooManyEntries) None)) ≡ None
        → (a ≡ false) × (all + length entries ≤ most_entries)
    by_tests true b d e k = absurd cc
    by_tests false true d e k = absurd cc
    by_tests false false true e k = absurd cc
    by_tests false false false e k = (refl, grind (arith, nat_tests))

-- runs without a fault are names
pub runs_are_names : (name : List ℕ) (entries : List (List ℕ)) → run_fault name None entries ≡ None → list_all is_name entries ≡ true
runs_are_names name entries h = by_tests (is_name name) (list_all is_name entries) refl h
  where
    by_tests : (a b : Bool) → list_all is_name entries ≡ b → cond (not (a && b)) (Some BadName) None ≡ None → list_all is_name entries ≡ true
    by_tests true true e k = e
    by_tests true false e k = absurd cc
    by_tests false b e k = absurd cc

module _ (kind : Kind) (line : ℕ) (d : Draft) (name : List ℕ) (entries : List (List ℕ)) (draft : IsDraft kind line d) where
  -- its faults are those of its runs
  pub master_runs_refused : (f : TextFault) → IsLineFault (run_fault name None entries) line f → IsLineFault (fault_of (said_of kind d) (shares name entries)) line f
  master_runs_refused (Refused k at) h =
      let said = said_of kind d in
      (fault_of-shares said name entries ∙ ap (λ o. option_or o (master_fault (master_names said.masters) name entries (all_entries said))) h.0, h.1)
  master_runs_refused OutOfMemory h = tt

  module _ (right : run_fault name None entries ≡ None) where
    -- and then those of its name, of the names on it, and of the limit
    later_faults : fault_of (said_of kind d) (shares name entries) ≡ master_fault (masters_declared d) name entries d.entries
    later_faults =
        let said = said_of kind d in
        fault_of-shares said name entries
        ∙ ap (λ o. option_or o (master_fault (master_names said.masters) name entries (all_entries said))) right
        ∙ ap (master_fault (masters_declared d) name entries) (sym draft.counted)

    -- it is refused for these
    pub master_refused : (f : TextFault) → IsLineFault (master_fault (masters_declared d) name entries d.entries) line f → IsLineFault (fault_of (said_of kind d) (shares name entries)) line f
    master_refused f h = subst (λ o. IsLineFault o line f) (sym later_faults) h

    -- else it is added
    pub master_added : (new : Draft) → list_all is_name entries ≡ true → PutsMaster d new name entries → AddsForm kind line (shares name entries) d new
    unfolding said_with
    master_added new named puts =
        let said = said_of kind d in
        let all = puts.changes in
        let before = texts_of d.on_masters.items in
        let now = texts_of new.on_masters.items in
        let m : TextKey × MasterList = (puts.key, puts.list) in
        let starts : puts.list.start ≡ length before = puts.starts ∙ sym (length-map d.on_masters.items (λ (x : Bor (List ℕ)). x.now)) in
        let stops : puts.list.stop ≡ length now = puts.stops ∙ sym (length-map new.on_masters.items (λ (x : Bor (List ℕ)). x.now)) in
        let list : names_on now puts.list ≡ entries = further_names before entries now puts.list puts.names starts stops in
        let said_list : SaidMaster = record { name = name; entries = entries } in
        let pushed : masters_in new ≡ masters_in d ++ said_list ∷ [] =
        ap (map (master_in now)) puts.masters ∙ map_push (master_in now) d.masters.entries m
        ∙ ap (λ ms. ms ++ master_in now m ∷ []) (ap (λ names. map (master_in names) d.masters.entries) puts.names ∙ same_masters before entries d.masters.entries draft.masters)
        ∙ ap {A = List ℕ} (λ x. masters_in d ++ (record { name = x; entries = names_on now puts.list }) ∷ []) puts.spells
        ∙ ap {A = List (List ℕ)} (λ x. masters_in d ++ (record { name = name; entries = x }) ∷ []) list in
        let sum = ap entries_of_masters pushed ∙ sum_by_push (λ (x : SaidMaster). length x.entries) (masters_in d) said_list in
        let has : HasNames now puts.list =
        (omega (arith, starts, stops, ap length puts.names, length-append before entries), omega (arith, stops), ap (list_all is_name) list ∙ named) in
        record {
          faultless = later_faults ∙ puts.faultless;
          said = ap (said_of kind) all ∙ ap {A = List SaidMaster} (λ ms. record said { masters = ms }) pushed;
          draft = draft_more kind line d new draft
              (all ∙ ap (λ (x : Draft). record d { entries = new.entries; weights = x.weights; forced = x.forced; forbidden = x.forbidden; masters = new.masters; on_masters = new.on_masters; order = x.order }) (sym all))
              (omega (arith, puts.entries_more, draft.counted, sum))
              (omega (arith, puts.entries_more, puts.fits))
              (omega (arith, ap (λ (x : Draft). length x.weights.entries + length x.forced.items + length x.forbidden.items) all))
              (subst (All (λ (x : TextKey × MasterList). HasNames now x.1)) (sym puts.masters)
              (All-push (λ (x : TextKey × MasterList). HasNames now x.1) d.masters.entries m
              (λ i e below. subst (λ names. HasNames names (get_or d.masters.entries i e).1) (sym puts.names) (still_names before entries (get_or d.masters.entries i e).1 (draft.masters i e below))) has))
              (omega (arith, puts.entries_more, draft.on_masters_fit, ap length puts.names, length-append before entries, length-map d.on_masters.items (λ (x : Bor (List ℕ)). x.now), length-map new.on_masters.items (λ (x : Bor (List ℕ)). x.now)));
        }

-- The line of an order.

same_some : {X Y : Type 0} (f : X → Y) (o : Option X) → is_some (option_map f o) ≡ is_some o
same_some f None = refl
same_some f (Some x) = refl

-- its faults are those that a draft shows
pub order_faults : (kind : Kind) (d : Draft) (proposers : List (List ℕ)) → fault_of (said_of kind d) (orders proposers) ≡ order_fault (is_some d.order) proposers
order_faults kind d proposers = fault_of-orders (said_of kind d) proposers ∙ ap (λ b. order_fault b proposers) (same_some order_of d.order)

-- it is refused for them
pub order_refused : (kind : Kind) (line : ℕ) (d : Draft) (proposers : List (List ℕ)) (f : TextFault) → IsLineFault (order_fault (is_some d.order) proposers) line f → IsLineFault (fault_of (said_of kind d) (orders proposers)) line f
order_refused kind line d proposers f h = subst (λ o. IsLineFault o line f) (sym (order_faults kind d proposers)) h

-- a draft that keeps an order says it
pub order_said : (kind : Kind) (line : ℕ) (d new : Draft) (tokens : List (List ℕ)) → KeepsOrder line tokens d new → said_of kind new ≡ said_ordered (said_of kind d) line (drop 1 tokens)
order_said kind line d new tokens keeps =
    ap (said_of kind) keeps.changes
    ∙ ap {A = SaidOrder} (λ x. record (said_of kind d) { order = Some x }) (let e : order_of keeps.order ≡ record { names = drop 1 tokens; line = line } = ap (λ x. record { names = drop 1 x; line = keeps.order.line }) keeps.tokens_are
    ∙ ap (λ n. record { names = drop 1 tokens; line = n }) keeps.on_line in e)

-- and is a draft before the next line
pub order_kept : (kind : Kind) (line : ℕ) (d new : Draft) (tokens : List (List ℕ)) → IsDraft kind line d → KeepsOrder line tokens d new → IsDraft kind (line + 1) new
order_kept kind line d new tokens draft keeps =
    let e = keeps.changes in
    draft_more kind line d new draft
    (e ∙ ap (λ (x : Draft). record d { entries = x.entries; weights = x.weights; forced = x.forced; forbidden = x.forbidden; masters = x.masters; on_masters = x.on_masters; order = Some keeps.order }) (sym e)
    ∙ ap (λ (x : Draft). record d { entries = new.entries; weights = new.weights; forced = new.forced; forbidden = new.forbidden; masters = new.masters; on_masters = new.on_masters; order = x.order }) (sym e))
    (ap (λ (x : Draft). x.entries) e ∙ draft.counted
    ∙ ap (λ (x : Draft). entries_of (said_of kind d).proposers + entries_of (said_of kind d).reviewers + entries_of_masters (masters_in x)) (sym e))
    (omega (arith, draft.entries_fit, ap (λ (x : Draft). x.entries) e))
    (omega (arith, ap (λ (x : Draft). length x.weights.entries + length x.forced.items + length x.forbidden.items) e))
    (subst HasMasters (sym e) draft.masters)
    (subst (λ (x : Draft). length x.on_masters.items ≤ x.entries) (sym e) draft.on_masters_fit)
