-- Lines of agents whose lists are read where they stand.
use Rattle.std.proofs.Common.{◌≡◌, ◌≢◌, ℕ, ◌+◌, ◌<◌, eqb, cond, Bool, true, false, List, [], ◌∷◌, length, map, get_or, codes, Option, Some, None, refl, sym, ap, subst, ◌∙◌, arith, Vec}
use Rattle.std.specs.Borrow.{Bor}
use Rattle.std.specs.Prelude.{IfSome}
use Rattle.std.specs.List.{list_any, list_all}
use Rattle.std.specs.Option.{option_or}
use Rattle.std.specs.Str.{bytes_eq}
use Rattle.std.specs.declared.alloc.Global.{Global}
use Rattle.std.proofs.lemmas.Bool.{false≢true}
use Rattle.std.proofs.lemmas.List.{append-nil, length-map}
use Rattle.sm_text.specs.Name.{is_name, is_name_byte, begins_name}
use Rattle.sm_text.specs.Tokens.{tokens, is_mark}
use Rattle.sm_lists.proofs.BoolLemmas.{first_true, second_true}
use Rattle.sm_agents.specs.declared.kinds.Kind.{Kind}
use Rattle.sm_agents.specs.declared.kinds.Kind.TheVariants.{Marriage, Hospitals, Roommates}
use Rattle.sm_agents.specs.declared.kinds.Side.{Side}
use Rattle.sm_agents.specs.declared.kinds.Side.TheVariants.{Proposers, Reviewers}
use Rattle.sm_agents.specs.Named.{Said, entries_of, entries_of_masters}
use Rattle.sm_keys.specs.Tables.{has_repeated, Table, Extends, Declares, IsListed, text_at}
use Rattle.sm_keys.specs.Tokens.{is_bad}
use Rattle.sm_keys.proofs.RunLemmas.{run_no_bad}
use Rattle.sm_forms.specs.Forms.{Form, declares, list_form, reviewer_form, two_sided_form, form_behind, form_under, is_end}
use Rattle.sm_agents.specs.Kinds.{has_two_sides}
use Rattle.sm_reader.specs.Judging.{goes, verdict_on, of_form}
use Rattle.sm_reader.specs.Draft.{listed_table, agent_in, masters_in, said_of, table_on, declared_on, listed_side, ChangesNames, IsDraft, AddsAgent, AreRunsRight, IsLineFault, IsRefusedBy, JudgesTokens, DeclaresOn, ListsOn, limit_fault, name_fault}
use Rattle.sm_reader.specs.Listed.{side_by, DeclaresSide, IsAgentLine, ListsOnLine, AddsNamesOn, ListsLineOn, PutsDeclared, IsPutFault, KeepsSaid, AddsAgentLine, AddsLine, IsAgentFault}
use Rattle.sm_reader.specs.declared.draft.Declared.{Declared}
use Rattle.sm_reader.specs.declared.draft.Draft.{Draft}
use Rattle.sm_reader.specs.declared.judging.Step.{Step}
use Rattle.sm_reader.specs.declared.judging.Step.TheVariants.{Goes, Stops}
use Rattle.sm_reader.specs.declared.faults.TextFault.{TextFault}
use Rattle.sm_reader.specs.declared.faults.TextFault.TheVariants.{Refused, OutOfMemory}
use Rattle.sm_forms.proofs.NameLemmas.{name_begins, names_begin}
use Rattle.sm_reader.proofs.DraftLemmas.{agents_kept, agents_below_more, listed_more}
use Rattle.sm_reader.proofs.JudgeLemmas.{by_none, refused_line}
use Rattle.sm_reader.proofs.AddLemmas.{Grown, said_with_agents, draft_with_agents, agent_added}
use Rattle.sm_reader.proofs.PairLemmas.{adds_agent, agent_refused}
use Rattle.sm_keys.proofs.ListingLemmas.{extends_long}

-- one of three by two tests
pick : (t u : Bool) (side : Side) (p r others : Option Form) (form : Side → Form) → p ≡ Some (form Proposers) → r ≡ Some (form Reviewers) → cond t (Some Proposers) (cond u (Some Reviewers) None) ≡ Some side
    → cond t p (cond u r others) ≡ Some (form side)
pick true u Proposers p r others form e f h = e
pick true u Reviewers p r others form e f h = cc
pick false true Reviewers p r others form e f h = f
pick false true Proposers p r others form e f h = cc
pick false false side p r others form e f h = cc

module _ (name : List ℕ) (entries : List (List ℕ)) (is : is_name name ≡ true) (are : list_all is_name entries ≡ true) where
  abbrev rest : List (List ℕ)
  rest = name ∷ codes ":" ∷ entries

  abbrev declared_by : Side → Form
  declared_by side = declares side name None entries

  -- a name, a colon and names are a list
  listed_form : (side : Side) → list_form side rest ≡ Some (declared_by side)
  unfolding list_form
  listed_form side = rw (name_begins name is, names_begin entries are) refl

  single_form : reviewer_form Marriage rest ≡ Some (declared_by Reviewers)
  unfolding reviewer_form
  single_form = listed_form Reviewers

  many_form : reviewer_form Hospitals rest ≡ Some (declared_by Reviewers)
  unfolding reviewer_form
  many_form = rw (listed_form Reviewers) refl

  -- it stands behind `p` or `r`
  form_one : (kind : Kind) (word : List ℕ) (side : Side) → has_two_sides kind ≡ true → side_by word ≡ Some side → form_behind kind word rest ≡ Some (declared_by side)
  unfolding form_behind two_sided_form
  form_one Marriage word side two by = pick (bytes_eq word (codes "p")) (bytes_eq word (codes "r")) side (list_form Proposers rest) (reviewer_form Marriage rest) _ declared_by (listed_form Proposers) single_form by
  form_one Hospitals word side two by = pick (bytes_eq word (codes "p")) (bytes_eq word (codes "r")) side (list_form Proposers rest) (reviewer_form Hospitals rest) _ declared_by (listed_form Proposers) many_form by
  form_one Roommates word side two by = absurd (false≢true two)

  form_any : (kind : Kind) (format : ℕ) (word : List ℕ) (side : Side) → has_two_sides kind ≡ true → side_by word ≡ Some side → form_under kind format word rest ≡ Some (declared_by side)
  unfolding form_under
  form_any kind format word side two by = by_format (eqb format 2) _ (form_one kind word side two by)
    where
      by_format : (t : Bool) (other : Option Form) → form_behind kind word rest ≡ Some (declared_by side) → cond t (option_or (form_behind kind word rest) other) (form_behind kind word rest) ≡ Some (declared_by side)
      by_format true other e = rw e refl
      by_format false other e = e

-- in an instance of two sides a word stands for a side
pub declares_side : (kind : Kind) (word : List ℕ) (side : Side) → has_two_sides kind ≡ true → side_by word ≡ Some side → DeclaresSide kind word side
declares_side kind word side two by = record { two_sided = two; form = λ format name entries is are. form_any name entries is are kind format word side two by }

-- names aren't bad
names_not_bad : (tokens : List (List ℕ)) → list_all is_name tokens ≡ true → list_any is_bad tokens ≡ false
names_not_bad [] h = refl
names_not_bad (t ∷ ts) h =
    rw (run_no_bad t (name_begins t (first_true (is_name t) (list_all is_name ts) h))) (names_not_bad ts (second_true (is_name t) (list_all is_name ts) h))

-- nor is a colon
colon_not_bad : is_bad (codes ":") ≡ false
unfolding is_bad is_name_byte begins_name is_mark
colon_not_bad = refl

-- the line of an agent isn't that of an end
not_end : (word name : List ℕ) (entries : List (List ℕ)) → is_end (word ∷ name ∷ entries) ≡ false
unfolding is_end
not_end word name entries = refl

module _ (kind : Kind) (format : ℕ) (said : Said) (line : ℕ) (word name : List ℕ) (side : Side) (entries : List (List ℕ)) (is_word : is_name word ≡ true) (named : is_name name ≡ true)
    (are : list_all is_name entries ≡ true) (declaring : DeclaresSide kind word side) where
  -- the verdict on the line of an agent whose list is names
  verdict_listed : verdict_on kind format said line (word ∷ name ∷ codes ":" ∷ entries) ≡ of_form said line (Some (declares side name None entries))
  unfolding verdict_on
  verdict_listed =
      rw (run_no_bad word (name_begins word is_word), run_no_bad name (name_begins name named), colon_not_bad, names_not_bad entries are, not_end word name (codes ":" ∷ entries))
      (ap (of_form said line) (declaring.form format name entries named are))

-- a draft in which names have been added says the same
module _ (kind : Kind) (line : ℕ) (d : Draft) (pn rn : Table) (draft : IsDraft kind line d) (p_more : Extends d.proposer_names.texts pn.texts) (r_more : Extends d.reviewer_names.texts rn.texts)
    (p_same : pn.declared ≡ d.proposer_names.declared) (r_same : rn.declared ≡ d.reviewer_names.declared)
    (p_fresh : (k : ℕ) → get_or pn.stamps k 0 < line) (r_fresh : (k : ℕ) → get_or rn.stamps k 0 < line) where
  abbrev renamed : Draft
  renamed = record d { proposer_names = pn; reviewer_names = rn }

  grown : Grown line d pn rn
  grown = record { p_more = p_more; r_more = r_more; p_fresh = λ k. omega (arith, p_fresh k); r_fresh = λ k. omega (arith, r_fresh k) }

  proposers_same : map (agent_in (listed_table kind pn rn).texts) d.proposers.items ≡ map (agent_in (listed_table kind d.proposer_names d.reviewer_names).texts) d.proposers.items
  proposers_same = agents_kept _ _ d.proposers.items (listed_more kind d pn rn p_more r_more) draft.proposers_in

  reviewers_same : map (agent_in pn.texts) d.reviewers.items ≡ map (agent_in d.proposer_names.texts) d.reviewers.items
  reviewers_same = agents_kept _ _ d.reviewers.items p_more draft.reviewers_in

  later : IsDraft kind (line + 1) renamed
  later =
      let old = (listed_table kind d.proposer_names d.reviewer_names).texts in
      let new = (listed_table kind pn rn).texts in
      draft_with_agents kind line d pn rn draft grown d.proposers d.reviewers d.entries (p_same ∙ draft.proposers_declared) (r_same ∙ draft.reviewers_declared)
      (agents_below_more (length old) (length new) d.proposers.items (extends_long old new (listed_more kind d pn rn p_more r_more)) draft.proposers_in)
      (agents_below_more (length d.proposer_names.texts) (length pn.texts) d.reviewers.items (extends_long d.proposer_names.texts pn.texts p_more) draft.reviewers_in)
      (draft.counted ∙ counts _ _ _ _ (ap entries_of proposers_same) (ap entries_of reviewers_same))
      (omega arith) draft.entries_fit draft.proposers_fit draft.reviewers_fit
    where
      counts : (a b t u : ℕ) → t ≡ a → u ≡ b → a + b + entries_of_masters (masters_in d) ≡ t + u + entries_of_masters (masters_in d)
      counts a b t u e f = omega arith

  kept : KeepsSaid kind line d renamed
  kept = record {
    said = said_with_agents kind line d pn rn draft grown d.proposers d.reviewers d.entries proposers_same reviewers_same;
    draft = record {
      proposers_declared = later.proposers_declared;
      reviewers_declared = later.reviewers_declared;
      proposers_in = later.proposers_in;
      reviewers_in = later.reviewers_in;
      counted = later.counted;
      entries_fit = later.entries_fit;
      proposers_fit = later.proposers_fit;
      reviewers_fit = later.reviewers_fit;
      proposers_fresh = p_fresh;
      reviewers_fresh = r_fresh;
      few = draft.few;
      masters = later.masters;
      on_masters_fit = later.on_masters_fit;
    };
  }

-- names of one side have been added
pub names_kept : (kind : Kind) (line : ℕ) (d new : Draft) (side : Side) → IsDraft kind line d → AddsNamesOn side d new line → KeepsSaid kind line d new
names_kept kind line d new Proposers draft adds =
    subst (KeepsSaid kind line d) (sym adds.changes)
    (kept kind line d new.proposer_names d.reviewer_names draft adds.names.extends (record { more = []; appended = sym (append-nil d.reviewer_names.texts) }) adds.names.declared refl adds.names.fresh draft.reviewers_fresh)
names_kept kind line d new Reviewers draft adds =
    subst (KeepsSaid kind line d) (sym adds.changes)
    (kept kind line d d.proposer_names new.reviewer_names draft (record { more = []; appended = sym (append-nil d.proposer_names.texts) }) adds.names.extends refl adds.names.declared draft.proposers_fresh adds.names.fresh)

-- an agent whose list is listed before it is declared, on the other side
module _ (line : ℕ) (name : Bor (List ℕ)) (entries : List (List ℕ)) (ids : Vec ℕ Global) (d d1 d3 : Draft) where
  abbrev one : Declared
  one = record { name = name; capacity = 1; line = line; entries = ids }

  proposer_listed : (kind : Kind) → listed_side kind Proposers ≡ Reviewers → IsDraft kind line d → ListsOnLine Reviewers d d1 entries line ids.items → PutsDeclared Proposers d1 d3 one
      → AddsAgent kind line Proposers name.now 1 entries d d3
  proposer_listed kind other draft lists put =
      let e1 = lists.changes in
      let d2 = put.mid in
      let e2 = put.declares.changes in
      let mid : Draft = record d { proposer_names = d2.proposer_names } in
      let first : DeclaresOn Proposers d mid name.now = record {
        is_new = subst (λ (x : Draft). list_any (bytes_eq name.now) x.proposer_names.declared ≡ false) e1 put.declares.is_new;
        declares = subst (λ (x : Draft). Declares x.proposer_names d2.proposer_names name.now true) e1 put.declares.declares;
        changes = refl;
      } in
      let same : d1.reviewer_names ≡ d2.reviewer_names = ap (λ (x : Draft). x.reviewer_names) (sym e2) in
      let then : ListsOn Reviewers mid d2 entries line ids.items = record {
        listed = subst (λ (t : Table). IsListed d.reviewer_names t entries line ids.items) same lists.listed.listed;
        changes = e2 ∙ ap (λ (x : Draft). record x { proposer_names = d2.proposer_names }) e1 ∙ ap (λ (t : Table). record d { proposer_names = d2.proposer_names; reviewer_names = t }) same;
      } in
      agent_added line 1 name entries ids d mid d2 d3 kind Proposers draft first (subst (λ side. ListsOn side mid d2 entries line ids.items) (sym other) then) put.puts

  reviewer_listed : (kind : Kind) → listed_side kind Reviewers ≡ Proposers → IsDraft kind line d → ListsOnLine Proposers d d1 entries line ids.items → PutsDeclared Reviewers d1 d3 one
      → AddsAgent kind line Reviewers name.now 1 entries d d3
  reviewer_listed kind other draft lists put =
      let e1 = lists.changes in
      let d2 = put.mid in
      let e2 = put.declares.changes in
      let mid : Draft = record d { reviewer_names = d2.reviewer_names } in
      let first : DeclaresOn Reviewers d mid name.now = record {
        is_new = subst (λ (x : Draft). list_any (bytes_eq name.now) x.reviewer_names.declared ≡ false) e1 put.declares.is_new;
        declares = subst (λ (x : Draft). Declares x.reviewer_names d2.reviewer_names name.now true) e1 put.declares.declares;
        changes = refl;
      } in
      let same : d1.proposer_names ≡ d2.proposer_names = ap (λ (x : Draft). x.proposer_names) (sym e2) in
      let then : ListsOn Proposers mid d2 entries line ids.items = record {
        listed = subst (λ (t : Table). IsListed d.proposer_names t entries line ids.items) same lists.listed.listed;
        changes = e2 ∙ ap (λ (x : Draft). record x { reviewer_names = d2.reviewer_names }) e1 ∙ ap (λ (t : Table). record d { reviewer_names = d2.reviewer_names; proposer_names = t }) same;
      } in
      agent_added line 1 name entries ids d mid d2 d3 kind Reviewers draft first (subst (λ side. ListsOn side mid d2 entries line ids.items) (sym other) then) put.puts

  pub listed_added : (kind : Kind) (side : Side) → has_two_sides kind ≡ true → IsDraft kind line d → ListsOnLine (listed_side kind side) d d1 entries line ids.items → PutsDeclared side d1 d3 one
      → AddsAgent kind line side name.now 1 entries d d3
  listed_added Marriage Proposers two draft lists put = proposer_listed Marriage refl draft lists put
  listed_added Hospitals Proposers two draft lists put = proposer_listed Hospitals refl draft lists put
  listed_added Roommates side two draft lists put = absurd (false≢true two)
  listed_added Marriage Reviewers two draft lists put = reviewer_listed Marriage refl draft lists put
  listed_added Hospitals Reviewers two draft lists put = reviewer_listed Hospitals refl draft lists put

-- the runs of a line whose list is names
runs_right : (name : List ℕ) (entries : List (List ℕ)) → is_name name ≡ true → list_all is_name entries ≡ true → AreRunsRight name None entries 1
runs_right name entries is are = record { faultless = rw (is, are) refl; number = refl }

-- the line of an agent is added
pub line_added : (kind : Kind) (line : ℕ) (d d1 d3 : Draft) (name : Bor (List ℕ)) (entries : List (List ℕ)) (ids : Vec ℕ Global) (side : Side) → has_two_sides kind ≡ true → is_name name.now ≡ true → IsDraft kind line d
    → ListsOnLine (listed_side kind side) d d1 entries line ids.items → PutsDeclared side d1 d3 (record { name = name; capacity = 1; line = line; entries = ids }) → AddsAgentLine kind line side name.now entries d d3
line_added kind line d d1 d3 name entries ids side two is draft lists put = record {
  are_names = lists.listed.are_names;
  adds = adds_agent kind line d side name.now None entries draft 1 d3 (runs_right name.now entries is lists.listed.are_names) (listed_added line name entries ids d d1 d3 kind side two draft lists put);
}

module _ (kind : Kind) (format line : ℕ) (d : Draft) (side : Side) (text name list : List ℕ) (agent : IsAgentLine kind text side name list) where
  -- the verdict on such a line, where all on its list are names
  verdict_line : list_all is_name (tokens list) ≡ true → verdict_on kind format (said_of kind d) line (tokens text) ≡ of_form (said_of kind d) line (Some (declares side name None (tokens list)))
  verdict_line are =
      ap (verdict_on kind format (said_of kind d) line) agent.cut
      ∙ verdict_listed kind format (said_of kind d) line agent.word name side (tokens list) agent.is_word agent.named are agent.declares

  -- it adds its agent
  pub agent_goes : (new : Draft) → AddsAgentLine kind line side name (tokens list) d new → (verdict_on kind format (said_of kind d) line (tokens text) ≡ goes (said_of kind new)) × IsDraft kind (line + 1) new
  agent_goes new added = (
    verdict_line added.are_names ∙ by_none (said_of kind d) line (declares side name None (tokens list)) added.adds.faultless ∙ ap (λ s. goes s) (sym added.adds.said),
    added.adds.draft,
  )

  -- or is refused
  pub agent_refuses : (f : TextFault) → IsAgentFault kind line side name (tokens list) d f → IsRefusedBy (verdict_on kind format (said_of kind d) line (tokens text)) line f
  agent_refuses (Refused fault at) h =
      refused_line (said_of kind d) line (declares side name None (tokens list)) (verdict_on kind format (said_of kind d) line (tokens text)) (verdict_line h.0) (Refused fault at) (h.1, h.2)
  agent_refuses OutOfMemory h = tt

-- a line is judged as one behind a draft that says the same, and by other tokens that have the same verdict
pub judged_same : (kind : Kind) (format line : ℕ) (xs ys : List (List ℕ)) (old mid new : Draft) (step : Step)
    → verdict_on kind format (said_of kind mid) line xs ≡ verdict_on kind format (said_of kind old) line ys → said_of kind mid ≡ said_of kind old
    → JudgesTokens kind format line xs mid new step → JudgesTokens kind format line ys old new step
judged_same kind format line xs ys old mid new Goes same said judged = (sym same ∙ judged.0, judged.1)
judged_same kind format line xs ys old mid new Stops same said judged = (sym same ∙ judged.0, judged.1 ∙ said, judged.2)

-- either of two ways in which a list is read
pub lists_some : (side : Side) (old new : Draft) (entries : List (List ℕ)) (line : ℕ) (all : Bool) (indexes : List ℕ) → all ≡ false → ListsLineOn side old new entries line all indexes → AddsNamesOn side old new line
lists_some side old new entries line true indexes e lists = absurd (false≢true (sym e))
lists_some side old new entries line false indexes e lists = lists

-- the other
pub lists_all : (side : Side) (old new : Draft) (entries : List (List ℕ)) (line : ℕ) (all : Bool) (indexes : List ℕ) → all ≡ true → ListsLineOn side old new entries line all indexes → ListsOnLine side old new entries line indexes
lists_all side old new entries line true indexes e lists = lists
lists_all side old new entries line false indexes e lists = absurd (false≢true e)

-- either of two ways in which a line is added
pub adds_none : (kind : Kind) (line : ℕ) (side : Side) (name : List ℕ) (entries : List (List ℕ)) (old new : Draft) (all : Bool) → all ≡ false → AddsLine kind line side name entries old new all → KeepsSaid kind line old new
adds_none kind line side name entries old new true e adds = absurd (false≢true (sym e))
adds_none kind line side name entries old new false e adds = adds

-- the other
pub adds_all : (kind : Kind) (line : ℕ) (side : Side) (name : List ℕ) (entries : List (List ℕ)) (old new : Draft) (all : Bool) → all ≡ true → AddsLine kind line side name entries old new all
    → AddsAgentLine kind line side name entries old new
adds_all kind line side name entries old new true e adds = adds
adds_all kind line side name entries old new false e adds = absurd (false≢true e)

two_sided : (kind : Kind) → kind ≢ Roommates → has_two_sides kind ≡ true
two_sided Marriage other = refl
two_sided Hospitals other = refl
two_sided Roommates other = absurd (other refl)

-- a word stands for a side, if it does
pub side_found : (kind : Kind) (word : List ℕ) (r : Option Side) → kind ≢ Roommates → r ≡ side_by word → IfSome r (λ side. DeclaresSide kind word side)
side_found kind word None other e = tt
side_found kind word (Some side) other e = declares_side kind word side (two_sided kind other) (sym e)

-- an agent whose name is new and whose list has no name twice is refused against the limits
pub past_limits : (side : Side) (d mid : Draft) (name : List ℕ) (entries : List (List ℕ)) (line : ℕ) (f : TextFault) → DeclaresOn side d mid name → has_repeated entries ≡ false
    → IsLineFault (limit_fault (length (declared_on side mid)) mid.entries (length entries)) line f → IsLineFault (name_fault (table_on side d).declared name entries (length (declared_on side d)) d.entries) line f
past_limits Proposers d mid name entries line f opens differ h =
    let is_new = opens.is_new in
    rw (is_new, differ) (subst (λ (x : Draft). IsLineFault (limit_fault (length x.proposers.items) x.entries (length entries)) line f) opens.changes h)
past_limits Reviewers d mid name entries line f opens differ h =
    let is_new = opens.is_new in
    rw (is_new, differ) (subst (λ (x : Draft). IsLineFault (limit_fault (length x.reviewers.items) x.entries (length entries)) line f) opens.changes h)

-- the line of an agent is refused for the fault of its name or against the limits
pub line_refused : (kind : Kind) (line : ℕ) (d d1 : Draft) (name : Bor (List ℕ)) (entries : List (List ℕ)) (ids : Vec ℕ Global) (side : Side) (f : TextFault) → has_two_sides kind ≡ true → is_name name.now ≡ true
    → IsDraft kind line d → ListsOnLine (listed_side kind side) d d1 entries line ids.items → IsPutFault side d1 (record { name = name; capacity = 1; line = line; entries = ids }) f
    → IsAgentFault kind line side name.now entries d f
line_refused kind line d d1 name entries ids side OutOfMemory two is draft lists h = tt
line_refused kind line d d1 name entries ids side (Refused fault at) two is draft lists h =
    let listed = lists.listed.listed in
    let long : length entries ≡ length ids.items = sym (ap length listed.names) ∙ length-map ids.items (text_at (table_on (listed_side kind side) d1).texts) in
    let same = same_before kind side d d1 two lists.changes in
    let later = agent_refused kind line d side name.now None entries draft 1 (Refused fault at) (runs_right name.now entries is lists.listed.are_names)
    (subst (λ o. IsLineFault o line (Refused fault at)) (same name.now entries) (h entries long listed.differ)) in
    (lists.listed.are_names, later.0, later.1)
  where
    same_before : (k : Kind) (s : Side) (old new : Draft) → has_two_sides k ≡ true → ChangesNames (listed_side k s) old new → (n : List ℕ) (es : List (List ℕ))
        → name_fault (table_on s new).declared n es (length (declared_on s new)) new.entries ≡ name_fault (table_on s old).declared n es (length (declared_on s old)) old.entries
    same_before Marriage Proposers old new two e n es = ap (λ (x : Draft). name_fault x.proposer_names.declared n es (length x.proposers.items) x.entries) e
    same_before Hospitals Proposers old new two e n es = ap (λ (x : Draft). name_fault x.proposer_names.declared n es (length x.proposers.items) x.entries) e
    same_before Marriage Reviewers old new two e n es = ap (λ (x : Draft). name_fault x.reviewer_names.declared n es (length x.reviewers.items) x.entries) e
    same_before Hospitals Reviewers old new two e n es = ap (λ (x : Draft). name_fault x.reviewer_names.declared n es (length x.reviewers.items) x.entries) e
    same_before Roommates s old new two e n es = absurd (false≢true two)
