-- Verdicts on lines.
use Rattle.std.proofs.Common.{◌≡◌, ℕ, ◌<◌, ◌≤◌, Bool, true, false, not, cond, List, [], ◌∷◌, length, get_or, drop, Option, Some, None, is_some, refl, sym, ap, ◌∙◌, arith}
use Rattle.std.specs.Borrow.{Bor}
use Rattle.std.specs.List.{list_any, list_all}
use Rattle.std.specs.Option.{option_or, option_map_or}
use Rattle.std.proofs.lemmas.Bool.{false≢true}
use Rattle.sm_text.specs.Name.{is_name}
use Rattle.sm_text.specs.declared.refusal.RefusalKind.{RefusalKind}
use Rattle.sm_text.specs.declared.refusal.RefusalKind.TheVariants.{BadByte, BadHeader, BadName, BadNumber}
use Rattle.sm_agents.specs.declared.kinds.Kind.{Kind}
use Rattle.sm_agents.specs.declared.kinds.Side.{Side}
use Rattle.sm_agents.specs.Named.{Said, names_of, master_names, agents_on, all_entries, entries_named}
use Rattle.sm_forms.specs.declared.forms.Condition.{Condition}
use Rattle.sm_forms.specs.Forms.{Form, declares, weighs, binds, uses, shares, orders, form_under, is_end, header_of}
use Rattle.sm_keys.specs.Tokens.{is_bad}
use Rattle.sm_reader.specs.Judging.{Verdict, goes, stops, refuses, passes, heads, faces, heading_of, verdict_on, of_form, fault_of, agent_fault, said_with, is_bad_capacity}
use Rattle.sm_text.specs.Slices.{texts_of}
use Rattle.sm_reader.specs.Draft.{said_of, run_fault, name_fault, master_fault, order_fault, weight_fault, said_ordered, IsLineFault, IsOrdering, AddsBy, IsJudged, IsRefusedBy}
use Rattle.sm_forms.specs.Forms.{form_of, IsOrderOf}
use Rattle.sm_reader.specs.declared.draft.Draft.{Draft}
use Rattle.sm_forms.specs.declared.forms.Form.{Form as Line}
use Rattle.sm_forms.specs.declared.forms.Form.TheVariants.{Agent as AgentLine, Use as UseLine, Master as MasterLine, Order as OrderLine, Weight as WeightLine, Pair as PairLine}
use Rattle.sm_reader.specs.declared.judging.Judged.{Judged}
use Rattle.sm_reader.specs.declared.judging.Judged.TheVariants.{Added, Orders, Ends}
use Rattle.sm_reader.specs.declared.faults.TextFault.{TextFault}
use Rattle.sm_reader.specs.declared.faults.TextFault.TheVariants.{Refused, OutOfMemory}

module _ (kind : Kind) (format : ℕ) (said : Said) (line : ℕ) where
  -- a line without tokens adds nothing
  pub verdict_empty : (xs : List (Bor (List ℕ))) → length xs < 1 → verdict_on kind format said line (texts_of xs) ≡ goes said
  unfolding verdict_on
  verdict_empty [] h = refl
  verdict_empty (x ∷ xs) h = absurd (omega arith)

  -- a bad byte comes first
  pub verdict_bad : (xs : List (Bor (List ℕ))) → 1 ≤ length xs → list_any is_bad (texts_of xs) ≡ true → verdict_on kind format said line (texts_of xs) ≡ refuses BadByte
  unfolding verdict_on
  verdict_bad [] h bad = absurd (omega arith)
  verdict_bad (x ∷ xs) h bad = rw bad refl

  -- `end` ends the instance
  pub verdict_end : (xs : List (Bor (List ℕ))) → 1 ≤ length xs → list_any is_bad (texts_of xs) ≡ false → is_end (texts_of xs) ≡ true → verdict_on kind format said line (texts_of xs) ≡ stops
  unfolding verdict_on
  verdict_end [] h bad end = absurd (omega arith)
  verdict_end (x ∷ xs) h bad end = rw (bad, end) refl

  -- else the form decides
  pub verdict_form : (xs : List (Bor (List ℕ))) (d : Bor (List ℕ)) → 1 ≤ length xs → list_any is_bad (texts_of xs) ≡ false → is_end (texts_of xs) ≡ false
      → verdict_on kind format said line (texts_of xs) ≡ of_form said line (form_under kind format (get_or xs 0 d).now (texts_of (drop 1 xs)))
  unfolding verdict_on
  verdict_form [] d h bad end = absurd (omega arith)
  verdict_form (x ∷ xs) d h bad end = rw (bad, end) refl

-- the verdict on a form, by its fault
pub by_fault : (said : Said) (line : ℕ) (form : Form) (kind : RefusalKind) → fault_of said form ≡ Some kind → of_form said line (Some form) ≡ refuses kind
by_fault said line form kind e = rw e refl

-- a form without a fault adds what it says
pub by_none : (said : Said) (line : ℕ) (form : Form) → fault_of said form ≡ None → of_form said line (Some form) ≡ goes (said_with said line form)
by_none said line form e = rw e refl

-- a line that orders proposers has the form of an order
ordering_is : (form : Line) (names : List (List ℕ)) → IsOrdering form → IsOrderOf names form → form_of form ≡ orders names
ordering_is (OrderLine proposers) names is order = ap orders order
ordering_is (AgentLine side name capacity entries) names is order = absurd (false≢true is)
ordering_is (UseLine side name capacity master) names is order = absurd (false≢true is)
ordering_is (MasterLine name entries) names is order = absurd (false≢true is)
ordering_is (WeightLine proposer reviewer weight second) names is order = absurd (false≢true is)
ordering_is (PairLine condition proposer reviewer) names is order = absurd (false≢true is)

-- an order goes on with its names
goes_ordered : (said : Said) (line : ℕ) (form : Form) (names : List (List ℕ)) → form ≡ orders names → said_with said line form ≡ said_ordered said line names
unfolding said_with
goes_ordered said line form names is = ap (said_with said line) is

-- a line whose form has added what it says, or orders proposers, is judged
pub judged_by : (kind : Kind) (format line : ℕ) (tokens : List (List ℕ)) (old new : Draft) (form : Line) → verdict_on kind format (said_of kind old) line tokens ≡ of_form (said_of kind old) line (Some (form_of form))
    → IsOrderOf (drop 1 tokens) form → (judged : Judged) → AddsBy kind line form old new judged → IsJudged kind format line tokens old new judged
judged_by kind format line tokens old new form same order Added adds =
    (same ∙ by_none (said_of kind old) line (form_of form) adds.faultless ∙ ap (λ s. goes s) (sym adds.said), adds.draft)
judged_by kind format line tokens old new form same order Orders adds = (
  same ∙ by_none (said_of kind old) line (form_of form) adds.0
      ∙ ap (λ s. goes s) (goes_ordered (said_of kind old) line (form_of form) (drop 1 tokens) (ordering_is form (drop 1 tokens) adds.1 order)),
  adds.2,
)
judged_by kind format line tokens old new form same order Ends adds = absurd (false≢true adds)

-- the faults of an agent's line are those of its runs, and then those of names and limits
two_rows : (a b : Bool) (k l : RefusalKind) (rest : Option RefusalKind) → cond a (Some k) (cond b (Some l) rest) ≡ option_or (cond a (Some k) (cond b (Some l) None)) rest
two_rows true b k l rest = refl
two_rows false true k l rest = refl
two_rows false false k l rest = refl

-- the faults of an agent's line, in two parts
pub fault_of-declares : (said : Said) (side : Side) (name : List ℕ) (capacity : Option (List ℕ)) (entries : List (List ℕ))
    → fault_of said (declares side name capacity entries)
    ≡ option_or (run_fault name capacity entries) (name_fault (names_of (agents_on side said)) name entries (length (agents_on side said)) (all_entries said))
unfolding fault_of
fault_of-declares said side name capacity entries = two_rows (not (list_all is_name (name ∷ entries))) (is_bad_capacity capacity) _ _ _

-- the fault of a weight's line
pub fault_of-weighs : (said : Said) (p r w : List ℕ) (second : Option (List ℕ)) → fault_of said (weighs p r w second) ≡ weight_fault said.weights p r w second
unfolding fault_of
fault_of-weighs said p r w second = refl

-- a line that uses a master list has the faults of one in which its names stand
pub fault_of-uses : (said : Said) (side : Side) (name : List ℕ) (capacity : Option (List ℕ)) (master : List ℕ) (entries : List (List ℕ)) → entries_named said.masters master ≡ Some entries
    → fault_of said (uses side name capacity master) ≡ fault_of said (declares side name capacity entries)
unfolding fault_of
fault_of-uses said side name capacity master entries found = ap (λ o. option_map_or (λ (es : List (List ℕ)). agent_fault said side name capacity es) o (Some BadName)) found

-- and is refused where it names none
pub fault_of-no_master : (said : Said) (side : Side) (name : List ℕ) (capacity : Option (List ℕ)) (master : List ℕ) → entries_named said.masters master ≡ None
    → fault_of said (uses side name capacity master) ≡ Some BadName
unfolding fault_of
fault_of-no_master said side name capacity master none = ap (λ o. option_map_or (λ (es : List (List ℕ)). agent_fault said side name capacity es) o (Some BadName)) none

-- the faults of a master list's line, in two parts
pub fault_of-shares : (said : Said) (name : List ℕ) (entries : List (List ℕ))
    → fault_of said (shares name entries) ≡ option_or (run_fault name None entries) (master_fault (master_names said.masters) name entries (all_entries said))
unfolding fault_of
fault_of-shares said name entries = two_rows (not (list_all is_name (name ∷ entries))) false BadName BadNumber _

-- the fault of an order's line
pub fault_of-orders : (said : Said) (proposers : List (List ℕ)) → fault_of said (orders proposers) ≡ order_fault (is_some said.order) proposers
unfolding fault_of
fault_of-orders said proposers = refl

-- the fault of a pair of which something is asked
pub fault_of-binds : (said : Said) (condition : Condition) (p r : List ℕ) (t : Bool) → list_all is_name (p ∷ r ∷ []) ≡ t → fault_of said (binds condition p r) ≡ cond (not t) (Some BadName) None
unfolding fault_of
fault_of-binds said condition p r t e = ap (λ b. cond (not b) (Some BadName) None) e

-- a line whose form has a fault is refused for it
pub refused_line : (said : Said) (line : ℕ) (form : Form) (verdict : Verdict) → verdict ≡ of_form said line (Some form) → (f : TextFault) → IsLineFault (fault_of said form) line f → IsRefusedBy verdict line f
refused_line said line form verdict same (Refused kind at) h = (same ∙ by_fault said line form kind h.0, h.1)
refused_line said line form verdict same OutOfMemory h = tt

-- the heading that stands on a line
pub heading_of-empty : (xs : List (Bor (List ℕ))) → length xs < 1 → heading_of (texts_of xs) ≡ passes
unfolding heading_of
heading_of-empty [] h = refl
heading_of-empty (x ∷ xs) h = absurd (omega arith)

-- a bad byte comes first
pub heading_of-bad : (xs : List (Bor (List ℕ))) → 1 ≤ length xs → list_any is_bad (texts_of xs) ≡ true → heading_of (texts_of xs) ≡ faces BadByte
unfolding heading_of
heading_of-bad [] h bad = absurd (omega arith)
heading_of-bad (x ∷ xs) h bad = rw bad refl

-- else the line has to be the header
pub heading_of-form : (xs : List (Bor (List ℕ))) → 1 ≤ length xs → list_any is_bad (texts_of xs) ≡ false
    → heading_of (texts_of xs) ≡ option_map_or (λ (header : Kind × ℕ). heads header.0 header.1) (header_of (texts_of xs)) (faces BadHeader)
unfolding heading_of
heading_of-form [] h bad = absurd (omega arith)
heading_of-form (x ∷ xs) h bad = rw bad refl
