-- The forms of lines, over their tokens.
use Rattle.std.specs.Prelude.{if◌then◌else◌, ◌≡◌, ℕ, ◌==◌, ◌&&◌, Bool, true, false, List, [], ◌∷◌, Option, Some, None, codes}
use Rattle.std.specs.List.{list_all}
use Rattle.std.specs.Option.{option_or, option_map, option_and_then}
use Rattle.std.specs.Str.{bytes_eq}
use Rattle.sm_text.specs.Tokens.{begins_run}
use Rattle.sm_agents.specs.Sound.{is_single}
use Rattle.sm_agents.specs.declared.kinds.Kind.{Kind}
use Rattle.sm_agents.specs.declared.kinds.Kind.TheVariants.{Marriage, Hospitals, Roommates}
use Rattle.sm_agents.specs.declared.kinds.Side.{Side}
use Rattle.sm_agents.specs.declared.kinds.Side.TheVariants.{Proposers, Reviewers}
use Rattle.sm_forms.specs.declared.forms.Condition.{Condition}
use Rattle.sm_forms.specs.declared.forms.Condition.TheVariants.{Force, Forbid}
use Rattle.sm_forms.specs.declared.forms.Form.{Form as Line}
use Rattle.sm_forms.specs.declared.forms.Form.TheVariants.{Agent as AgentLine, Use as UseLine, Master as MasterLine, Order as OrderLine, Weight as WeightLine, Pair as PairLine}
use Rattle.sm_text.specs.Slices.{texts_of}
use Rattle.sm_agents.specs.Kinds.{has_two_sides, kind_named}

-- A line by its form, with the runs that stand in the positions of names and of numbers: it declares an agent with a list, or
-- one that has a master list; it declares a master list; it says which proposers come first; it weighs a pair; or it asks
-- something of one.
pub data Form : Type 0 where
  declares : Side → (name : List ℕ) → (capacity : Option (List ℕ)) → (entries : List (List ℕ)) → Form
  uses : Side → (name : List ℕ) → (capacity : Option (List ℕ)) → (master : List ℕ) → Form
  shares : (name : List ℕ) → (entries : List (List ℕ)) → Form
  orders : (proposers : List (List ℕ)) → Form
  weighs : (proposer reviewer weight : List ℕ) → (second : Option (List ℕ)) → Form
  binds : Condition → (proposer reviewer : List ℕ) → Form

-- the token is a colon
abbrev pub is_colon : List ℕ → Bool
is_colon token = bytes_eq token (codes ":")

-- the tokens are brackets around what stands between them
abbrev pub are_brackets : List ℕ → List ℕ → Bool
are_brackets opening closing = bytes_eq opening (codes "[") && bytes_eq closing (codes "]")

-- NAME `:` NAME*
unfoldable pub list_form : Side → List (List ℕ) → Option Form
list_form side [] = None
list_form side (name ∷ []) = None
list_form side (name ∷ colon ∷ entries) =
    if begins_run name && is_colon colon && list_all begins_run entries then Some (declares side name None entries) else None

-- NAME `[` NUMBER `]` `:` NAME*
unfoldable pub capacity_form : List (List ℕ) → Option Form
capacity_form (name ∷ opening ∷ number ∷ closing ∷ colon ∷ entries) =
    if begins_run name && bytes_eq opening (codes "[") && begins_run number && bytes_eq closing (codes "]")
    && is_colon colon && list_all begins_run entries
    then Some (declares Reviewers name (Some number) entries) else None
capacity_form _ = None

-- NAME NAME SIGNED
unfoldable pub weight_form : List (List ℕ) → Option Form
weight_form (proposer ∷ reviewer ∷ weight ∷ []) =
    if begins_run proposer && begins_run reviewer && begins_run weight then Some (weighs proposer reviewer weight None) else None
weight_form _ = None

-- NAME NAME
unfoldable pub pair_form : Condition → List (List ℕ) → Option Form
pair_form condition (proposer ∷ reviewer ∷ []) = if begins_run proposer && begins_run reviewer then Some (binds condition proposer reviewer) else None
pair_form condition _ = None

-- a capacity may be written in hospitals alone
unfoldable pub reviewer_form : Kind → List (List ℕ) → Option Form
reviewer_form kind rest = if is_single kind then list_form Reviewers rest else option_or (list_form Reviewers rest) (capacity_form rest)

-- the forms that a marriage and hospitals have beside `p`
unfoldable pub two_sided_form : Kind → List ℕ → List (List ℕ) → Option Form
two_sided_form kind word rest =
    if bytes_eq word (codes "r") then reviewer_form kind rest else
    (if bytes_eq word (codes "weight") then weight_form rest else
    (if bytes_eq word (codes "force") then pair_form Force rest else
    (if bytes_eq word (codes "forbid") then pair_form Forbid rest else None)))

-- the form of a line that begins with a word, in an instance of a kind, by format 1
unfoldable pub form_behind : Kind → List ℕ → List (List ℕ) → Option Form
form_behind Roommates word rest = if bytes_eq word (codes "p") then list_form Proposers rest else None
form_behind kind word rest = if bytes_eq word (codes "p") then list_form Proposers rest else two_sided_form kind word rest

-- What format 2 adds.

-- NAME `:` NAME*, of a master list
unfoldable pub master_form : List (List ℕ) → Option Form
master_form (name ∷ colon ∷ entries) = if begins_run name && is_colon colon && list_all begins_run entries then Some (shares name entries) else None
master_form _ = None

-- NAME `:` `[` NAME `]`
unfoldable pub use_form : Side → List (List ℕ) → Option Form
use_form side (name ∷ colon ∷ opening ∷ master ∷ closing ∷ []) =
    if begins_run name && is_colon colon && are_brackets opening closing && begins_run master then Some (uses side name None master) else None
use_form side _ = None

-- NAME `[` NUMBER `]` `:` `[` NAME `]`
unfoldable pub capacity_use_form : List (List ℕ) → Option Form
capacity_use_form (name ∷ opening ∷ number ∷ closing ∷ colon ∷ before ∷ master ∷ behind ∷ []) =
    if begins_run name && are_brackets opening closing && begins_run number && is_colon colon && are_brackets before behind && begins_run master
    then Some (uses Reviewers name (Some number) master) else None
capacity_use_form _ = None

-- a reviewer that has a master list; a capacity may be written in hospitals alone
unfoldable pub reviewer_use_form : Kind → List (List ℕ) → Option Form
reviewer_use_form kind rest = if is_single kind then use_form Reviewers rest else option_or (use_form Reviewers rest) (capacity_use_form rest)

-- NAME*, of the proposers that come first
unfoldable pub order_form : List (List ℕ) → Option Form
order_form proposers = if list_all begins_run proposers then Some (orders proposers) else None

-- NAME NAME SIGNED SIGNED
unfoldable pub second_form : List (List ℕ) → Option Form
second_form (proposer ∷ reviewer ∷ weight ∷ second ∷ []) =
    if begins_run proposer && begins_run reviewer && begins_run weight && begins_run second
    then Some (weighs proposer reviewer weight (Some second)) else None
second_form _ = None

-- the forms that format 2 adds for a marriage and for hospitals beside `p` and `master`
unfoldable pub two_sided_added_form : Kind → List ℕ → List (List ℕ) → Option Form
two_sided_added_form kind word rest =
    if bytes_eq word (codes "r") then reviewer_use_form kind rest else
    (if bytes_eq word (codes "order") then order_form rest else
    (if bytes_eq word (codes "weight") then second_form rest else None))

-- the forms that format 2 adds, in an instance of a kind
unfoldable pub added_form : Kind → List ℕ → List (List ℕ) → Option Form
added_form kind word rest =
    if bytes_eq word (codes "p") then use_form Proposers rest else
    (if bytes_eq word (codes "master") then master_form rest else
    (if has_two_sides kind then two_sided_added_form kind word rest else None))

-- the form of a line that begins with a word, in an instance of a kind under a header of a format
unfoldable pub form_under : Kind → (format : ℕ) → List ℕ → List (List ℕ) → Option Form
form_under kind format word rest = if format == 2 then option_or (form_behind kind word rest) (added_form kind word rest) else form_behind kind word rest

-- `end`
unfoldable pub is_end : List (List ℕ) → Bool
is_end (word ∷ []) = bytes_eq word (codes "end")
is_end _ = false

-- the format that a word names
abbrev pub format_named : List ℕ → Option ℕ
format_named word = if bytes_eq word (codes "1") then Some 1 else (if bytes_eq word (codes "2") then Some 2 else None)

-- `stable`, `1` or `2`, and a kind: the kind, and the format
unfoldable pub header_of : List (List ℕ) → Option (Kind × ℕ)
header_of (word ∷ format ∷ kind ∷ []) =
    if bytes_eq word (codes "stable") then option_and_then (λ n. option_map (λ k. (k, n)) (kind_named kind)) (format_named format) else None
header_of _ = None

-- a form, as plain data
abbrev pub form_of : Line → Form
form_of (AgentLine side name capacity entries) = declares side name.now (option_map (λ x. x.now) capacity) (texts_of entries.now)
form_of (UseLine side name capacity master) = uses side name.now (option_map (λ x. x.now) capacity) master.now
form_of (MasterLine name entries) = shares name.now (texts_of entries.now)
form_of (OrderLine proposers) = orders (texts_of proposers.now)
form_of (WeightLine proposer reviewer weight second) = weighs proposer.now reviewer.now weight.now (option_map (λ x. x.now) second)
form_of (PairLine condition proposer reviewer) = binds condition proposer.now reviewer.now

-- the names with which a line of a form ends, where they are a list
abbrev pub entries_in : Form → List (List ℕ)
entries_in (declares side name capacity entries) = entries
entries_in (uses side name capacity master) = []
entries_in (shares name entries) = entries
entries_in (orders proposers) = proposers
entries_in (weighs proposer reviewer weight second) = []
entries_in (binds condition proposer reviewer) = []

-- the names that an order has are those of a list
abbrev pub IsOrderOf : List (List ℕ) → Line → Type 0
IsOrderOf names (OrderLine proposers) = texts_of proposers.now ≡ names
IsOrderOf names (AgentLine _ _ _ _) = Unit {0}
IsOrderOf names (UseLine _ _ _ _) = Unit {0}
IsOrderOf names (MasterLine _ _) = Unit {0}
IsOrderOf names (WeightLine _ _ _ _) = Unit {0}
IsOrderOf names (PairLine _ _ _) = Unit {0}
