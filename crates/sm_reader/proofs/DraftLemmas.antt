-- Drafts whose tables grow.
use Rattle.std.proofs.Common.{◌≡◌, ℕ, ◌+◌, ◌≤◌, List, [], ◌∷◌, ◌++◌, length, map, Option, refl, sym, ap, ◌∙◌, subst, arith}
use Rattle.sm_agents.specs.declared.kinds.Kind.{Kind}
use Rattle.sm_agents.specs.declared.kinds.Kind.TheVariants.{Marriage, Hospitals, Roommates}
use Rattle.sm_agents.specs.Named.{SaidAgent, SaidPair, SaidWeight, SaidMaster, SaidOrder, Said, entries_of, entries_of_masters}
use Rattle.sm_keys.specs.Tables.{Table, Extends, AreBelow}
use Rattle.sm_text.specs.Limits.{most_entries}
use Rattle.sm_reader.specs.Draft.{listed_table, agent_in, masters_in, said_of, HasMasters, AreAgentsBelow, IsDraft}
use Rattle.sm_reader.specs.declared.draft.Declared.{Declared}
use Rattle.sm_reader.specs.declared.draft.Draft.{Draft}
use Rattle.sm_keys.proofs.ListingLemmas.{below_more, texts_kept}

-- agents and pairs keep their names
pub agents_kept : (old new : List (List ℕ)) (agents : List Declared) → Extends old new → AreAgentsBelow (length old) agents → map (agent_in new) agents ≡ map (agent_in old) agents
agents_kept old new [] more inside = refl
agents_kept old new (a ∷ agents) more inside =
    let entries = texts_kept old new a.entries.items more inside.0 in
    let behind = agents_kept old new agents more inside.1 in
    let here : agent_in new a ≡ agent_in old a = ap (λ es. record { name = a.name.now; capacity = a.capacity; line = a.line; entries = es }) entries in
    ap (λ x. x ∷ map (agent_in new) agents) here ∙ ap (λ xs. agent_in old a ∷ xs) behind

-- indexes of lists stay within a greater range
pub agents_below_more : (n m : ℕ) (agents : List Declared) → n ≤ m → AreAgentsBelow n agents → AreAgentsBelow m agents
agents_below_more n m [] le inside = tt
agents_below_more n m (a ∷ agents) le inside = (below_more n m a.entries.items le inside.0, agents_below_more n m agents le inside.1)

-- and one more agent's may follow
pub agents_below_push : (n : ℕ) (agents : List Declared) (a : Declared) → AreAgentsBelow n agents → AreBelow n a.entries.items → AreAgentsBelow n (agents ++ a ∷ [])
agents_below_push n [] a inside below = (below, tt)
agents_below_push n (b ∷ agents) a inside below = (inside.0, agents_below_push n agents a inside.1 below)

-- what is said is what its parts say
pub said_same : {p p' r r' : List SaidAgent} {w w' : List SaidWeight} {f f' b b' : List SaidPair} {m m' : List SaidMaster} {o o' : Option SaidOrder}
    → p ≡ p' → r ≡ r' → w ≡ w' → f ≡ f' → b ≡ b' → m ≡ m' → o ≡ o'
    → let left : Said = record { proposers = p; reviewers = r; weights = w; forced = f; forbidden = b; masters = m; order = o } in
    let right : Said = record { proposers = p'; reviewers = r'; weights = w'; forced = f'; forbidden = b'; masters = m'; order = o' } in left ≡ right
said_same e1 e2 e3 e4 e5 e6 e7 = cc

-- the tables of a draft grow
module _ (kind : Kind) (d : Draft) (pn rn : Table) (more_p : Extends d.proposer_names.texts pn.texts) (more_r : Extends d.reviewer_names.texts rn.texts) where
  more_listed : (k : Kind) → Extends (listed_table k d.proposer_names d.reviewer_names).texts (listed_table k pn rn).texts
  more_listed Marriage = more_r
  more_listed Hospitals = more_r
  more_listed Roommates = more_p

  -- the names of whom the proposers list have grown too
  pub listed_more : Extends (listed_table kind d.proposer_names d.reviewer_names).texts (listed_table kind pn rn).texts
  listed_more = more_listed kind

-- a draft that says more of pairs, master lists or an order, where these meet what is asked before the next line
pub draft_more : (kind : Kind) (line : ℕ) (d e : Draft) → IsDraft kind line d
    → e ≡ record d { entries = e.entries; weights = e.weights; forced = e.forced; forbidden = e.forbidden; masters = e.masters; on_masters = e.on_masters; order = e.order }
    → e.entries ≡ entries_of (said_of kind d).proposers + entries_of (said_of kind d).reviewers + entries_of_masters (masters_in e) → e.entries ≤ most_entries
    → length e.weights.entries + length e.forced.items + length e.forbidden.items ≤ length d.weights.entries + length d.forced.items + length d.forbidden.items + 1
    → HasMasters e → length e.on_masters.items ≤ e.entries → IsDraft kind (line + 1) e
draft_more kind line d e draft changes counted fits count masters on_masters_fit =
    let one : Draft = record d { entries = e.entries; weights = e.weights; forced = e.forced; forbidden = e.forbidden; masters = e.masters; on_masters = e.on_masters; order = e.order } in
    let is : IsDraft kind (line + 1) one = record {
      proposers_declared = draft.proposers_declared;
      reviewers_declared = draft.reviewers_declared;
      proposers_in = draft.proposers_in;
      reviewers_in = draft.reviewers_in;
      counted = counted;
      entries_fit = fits;
      proposers_fit = draft.proposers_fit;
      reviewers_fit = draft.reviewers_fit;
      proposers_fresh = λ k. omega (arith, draft.proposers_fresh k);
      reviewers_fresh = λ k. omega (arith, draft.reviewers_fresh k);
      few = omega (arith, draft.few, count);
      masters = masters;
      on_masters_fit = on_masters_fit;
    } in
    subst (IsDraft kind (line + 1)) (sym changes) is

-- a line that says nothing
pub draft_later : (kind : Kind) (line : ℕ) (d : Draft) → IsDraft kind line d → IsDraft kind (line + 1) d
draft_later kind line d draft = draft_more kind line d d draft refl draft.counted draft.entries_fit (omega arith) draft.masters draft.on_masters_fit
