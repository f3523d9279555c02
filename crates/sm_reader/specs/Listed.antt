-- Lines of agents whose lists are read where they stand.
use Rattle.std.specs.Prelude.{if◌then◌else◌, ◌≡◌, ℕ, Bool, true, false, List, ◌∷◌, length, codes, Option, Some, None}
use Rattle.std.specs.List.{list_all}
use Rattle.std.specs.Str.{bytes_eq}
use Rattle.sm_text.specs.Name.{is_name}
use Rattle.sm_text.specs.Tokens.{tokens}
use Rattle.sm_agents.specs.declared.kinds.Kind.{Kind}
use Rattle.sm_agents.specs.declared.kinds.Side.{Side}
use Rattle.sm_agents.specs.declared.kinds.Side.TheVariants.{Proposers, Reviewers}
use Rattle.sm_keys.specs.Tables.{has_repeated}
use Rattle.sm_keys.specs.Lines.{AreListed, AddsNames}
use Rattle.sm_forms.specs.Forms.{declares, form_under}
use Rattle.sm_agents.specs.Kinds.{has_two_sides}
use Rattle.sm_reader.specs.Judging.{fault_of}
use Rattle.sm_reader.specs.Draft.{said_of, table_on, declared_on, ChangesNames, IsDraft, AddsForm, IsLineFault, DeclaresOn, PutsOn, name_fault}
use Rattle.sm_reader.specs.declared.draft.Declared.{Declared}
use Rattle.sm_reader.specs.declared.draft.Draft.{Draft}
use Rattle.sm_reader.specs.declared.faults.TextFault.{TextFault}
use Rattle.sm_reader.specs.declared.faults.TextFault.TheVariants.{Refused, OutOfMemory}

-- the side that a word stands for
abbrev pub side_by : List ℕ → Option Side
side_by word = if bytes_eq word (codes "p") then Some Proposers else (if bytes_eq word (codes "r") then Some Reviewers else None)

-- in an instance of two sides a line declares an agent of a side where it begins with a word, and a name, a colon and names follow
pub record DeclaresSide (kind : Kind) (word : List ℕ) (side : Side) : Type 0 where
  pub two_sided : has_two_sides kind ≡ true
  pub form : (format : ℕ) (name : List ℕ) (entries : List (List ℕ)) → is_name name ≡ true → list_all is_name entries ≡ true
      → form_under kind format word (name ∷ codes ":" ∷ entries) ≡ Some (declares side name None entries)

-- a line is that of an agent of a side, up to its list
pub record IsAgentLine (kind : Kind) (line : List ℕ) (side : Side) (name list : List ℕ) : Type 0 where
  pub word : List ℕ
  pub cut : tokens line ≡ word ∷ name ∷ codes ":" ∷ tokens list
  pub is_word : is_name word ≡ true
  pub named : is_name name ≡ true
  pub declares : DeclaresSide kind word side

-- all entries are names that differ, and are listed on a side, or some names have been added there; nothing else has changed
pub record ListsOnLine (side : Side) (old new : Draft) (entries : List (List ℕ)) (line : ℕ) (indexes : List ℕ) : Type 0 where
  pub listed : AreListed (table_on side old) (table_on side new) entries line indexes
  pub changes : ChangesNames side old new

-- names have been added on a side
pub record AddsNamesOn (side : Side) (old new : Draft) (line : ℕ) : Type 0 where
  pub names : AddsNames (table_on side old) (table_on side new) line
  pub changes : ChangesNames side old new

-- the one or the other
abbrev pub ListsLineOn : Side → Draft → Draft → List (List ℕ) → ℕ → Bool → List ℕ → Type 0
ListsLineOn side old new entries line true indexes = ListsOnLine side old new entries line indexes
ListsLineOn side old new entries line false indexes = AddsNamesOn side old new line

-- an agent is declared for the first time, and stands behind the others of its side
pub record PutsDeclared (side : Side) (old new : Draft) (agent : Declared) : Type 0 where
  pub mid : Draft
  pub declares : DeclaresOn side old mid agent.name.now
  pub puts : PutsOn side mid new agent

-- the fault of an agent's name and against the limits; want of memory says nothing
abbrev pub IsPutFault : Side → Draft → Declared → TextFault → Type 0
IsPutFault side old agent f = (entries : List (List ℕ)) → length entries ≡ length agent.entries.items → has_repeated entries ≡ false
    → IsLineFault (name_fault (table_on side old).declared agent.name.now entries (length (declared_on side old)) old.entries) agent.line f

-- the same is said, and the line is still to be judged
pub record KeepsSaid (kind : Kind) (line : ℕ) (old new : Draft) : Type 0 where
  pub said : said_of kind new ≡ said_of kind old
  pub draft : IsDraft kind line new

-- a faultless line of an agent whose entries are names is added
pub record AddsAgentLine (kind : Kind) (line : ℕ) (side : Side) (name : List ℕ) (entries : List (List ℕ)) (old new : Draft) : Type 0 where
  pub are_names : list_all is_name entries ≡ true
  pub adds : AddsForm kind line (declares side name None entries) old new

-- the one or the other
abbrev pub AddsLine : Kind → ℕ → Side → List ℕ → List (List ℕ) → Draft → Draft → Bool → Type 0
AddsLine kind line side name entries old new true = AddsAgentLine kind line side name entries old new
AddsLine kind line side name entries old new false = KeepsSaid kind line old new

-- a line of an agent whose entries are names is refused for its fault; want of memory says nothing
abbrev pub IsAgentFault : Kind → ℕ → Side → List ℕ → List (List ℕ) → Draft → TextFault → Type 0
IsAgentFault kind line side name entries old (Refused fault at) =
    (list_all is_name entries ≡ true) × (fault_of (said_of kind old) (declares side name None entries) ≡ Some fault) × (at ≡ line)
IsAgentFault kind line side name entries old OutOfMemory = Unit {0}
