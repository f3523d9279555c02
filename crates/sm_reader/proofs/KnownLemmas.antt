-- Where each name that stands on lists is declared, no agent lists one who isn't.
use Rattle.std.proofs.Common.{◌≡◌, ℕ, ◌<◌, Bool, true, false, List, [], ◌∷◌, length, get_or, map, refl, sym, ◌∙◌}
use Rattle.std.specs.List.{list_any}
use Rattle.std.proofs.lemmas.Bool.{false≢true}
use Rattle.std.proofs.lemmas.List.Folds.{list_any_at}
use Rattle.sm_agents.specs.declared.kinds.Kind.{Kind}
use Rattle.sm_agents.specs.declared.kinds.Kind.TheVariants.{Marriage, Hospitals, Roommates}
use Rattle.sm_keys.specs.Tables.{is_unknown, Table, text_at, AreBelow}
use Rattle.sm_reader.specs.InstanceText.{lines_with_unknown}
use Rattle.sm_reader.specs.Draft.{AreAgentsBelow, listed_table, agent_in, IsDraft}
use Rattle.sm_reader.specs.Numbering.{agents_with_unknown}
use Rattle.sm_reader.specs.declared.draft.Declared.{Declared}
use Rattle.sm_reader.specs.declared.draft.Draft.{Draft}

-- no element passes
none_passes : {X : Type 0} (p : X → Bool) (xs : List X) (i : ℕ) (d : X) → list_any p xs ≡ false → i < length xs → p (get_or xs i d) ≡ false
none_passes {X} p xs i d none inside = by_test (p (get_or xs i d)) refl
  where
    by_test : (b : Bool) → p (get_or xs i d) ≡ b → p (get_or xs i d) ≡ false
    by_test true e = absurd (false≢true (sym none ∙ list_any_at p xs i d inside e))
    by_test false e = e

-- all names of a side are declared
abbrev AreKnown : Table → Type 0
AreKnown t = list_any (is_unknown t.declared) t.texts ≡ false

-- so are those of indexes
list_known : (t : Table) → AreKnown t → (ids : List ℕ) → AreBelow (length t.texts) ids → list_any (is_unknown t.declared) (map (text_at t.texts) ids) ≡ false
list_known t known [] below = refl
list_known t known (i ∷ ids) below = rw (none_passes (is_unknown t.declared) t.texts i [] known below.0) (list_known t known ids below.1)

-- those on the lists of agents
agents_known : (t : Table) → AreKnown t → (agents : List Declared) → AreAgentsBelow (length t.texts) agents → lines_with_unknown t.declared (map (agent_in t.texts) agents) ≡ []
agents_known t known [] below = refl
agents_known t known (a ∷ agents) below = rw (list_known t known a.entries.items below.0) (agents_known t known agents below.1)

-- those whom the proposers list among them
listed_known : (kind : Kind) (p r : Table) → AreKnown p → AreKnown r → AreKnown (listed_table kind p r)
listed_known Marriage p r ps rs = rs
listed_known Hospitals p r ps rs = rs
listed_known Roommates p r ps rs = ps

-- where all names of both sides are declared, no agent of a draft lists one who isn't
pub none_unknown : (kind : Kind) (line : ℕ) (d : Draft) → IsDraft kind line d → AreKnown d.proposer_names → AreKnown d.reviewer_names → agents_with_unknown kind d ≡ []
none_unknown kind line d draft ps rs =
    let p = d.proposer_names in
    let t = listed_table kind d.proposer_names d.reviewer_names in
    rw (agents_known t (listed_known kind d.proposer_names d.reviewer_names ps rs) d.proposers.items draft.proposers_in) (agents_known p ps d.reviewers.items draft.reviewers_in)
