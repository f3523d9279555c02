-- Lines without a fault leave what is right.
use Rattle.std.proofs.Common.{◌≡◌, ◌≢◌, ℕ, zero, suc, ◌<◌, ◌≤◌, ◌⊎◌, ◌&&◌, Bool, true, false, not, cond, List, [], ◌∷◌, ◌++◌, length, get_or, Option, Some, None, refl, sym, ap, ◌∙◌, subst, inl, inr, arith, All, AllPairs, ◌+◌, ◌||◌, nat_le, nat_lt, is_none, is_some, unwrap_or, eqb, pos}
use Rattle.std.specs.List.{list_any, list_all}
use Rattle.std.specs.Option.{option_or, option_map, option_map_or, option_and_then}
use Rattle.std.specs.Int.RustNames.{unsigned_abs}
use Rattle.std.specs.Str.{bytes_eq}
use Rattle.std.proofs.lemmas.Bool.{false≢true}
use Rattle.std.proofs.lemmas.Bool.Decides.{nat_tests}
use Rattle.std.proofs.lemmas.List.{length_push, map_push}
use Rattle.std.proofs.lemmas.List.Elements.{All-push}
use Rattle.std.proofs.lemmas.List.Folds.{list_any_at}
use Rattle.std.proofs.lemmas.List.Quantifiers.{all_pairs_push}
use Rattle.std.proofs.lemmas.List.Sums.{sum_by_push}
use Rattle.sm_text.specs.Limits.{most_agents, most_capacity, most_entries, most_weight}
use Rattle.sm_text.specs.Name.{is_name}
use Rattle.sm_text.specs.Numbers.{is_number, value_of, number_of, signed_of, negated}
use Rattle.sm_text.specs.declared.refusal.RefusalKind.{RefusalKind}
use Rattle.sm_text.specs.declared.refusal.RefusalKind.TheVariants.{BadByte, BadName, BadNumber, Redeclared, RepeatedEntry, RepeatedWeight, TooManyEntries}
use Rattle.sm_lists.proofs.BoolLemmas.{first_true, second_true}
use Rattle.sm_agents.specs.Sound.{is_single}
use Rattle.sm_agents.specs.declared.kinds.Kind.{Kind}
use Rattle.sm_agents.specs.declared.kinds.Kind.TheVariants.{Marriage, Hospitals, Roommates}
use Rattle.sm_agents.specs.declared.kinds.Side.{Side}
use Rattle.sm_agents.specs.declared.kinds.Side.TheVariants.{Proposers, Reviewers}
use Rattle.sm_agents.specs.Named.{SaidAgent, SaidWeight, SaidMaster, Said, nothing, names_of, master_names, entries_of, entries_of_masters, all_entries, entries_named, names_first, is_given_to}
use Rattle.sm_forms.specs.declared.forms.Condition.{Condition}
use Rattle.sm_forms.specs.declared.forms.Condition.TheVariants.{Force, Forbid}
use Rattle.sm_forms.specs.Forms.{Form, declares, uses, shares, orders, weighs, binds, is_end, list_form, capacity_form, weight_form, pair_form, reviewer_form, two_sided_form, form_behind, master_form, use_form, capacity_use_form, reviewer_use_form, order_form, second_form, two_sided_added_form, added_form, form_under}
use Rattle.sm_keys.specs.Tokens.{is_bad}
use Rattle.sm_reader.specs.Judging.{goes, stops, refuses, verdict_on, of_form, fault_of, said_with, is_bad_capacity, capacity_in, weight_in, second_in, agent_of, weight_of, with_agent}
use Rattle.sm_keys.specs.Tables.{has_repeated}
use Rattle.sm_reader.specs.Draft.{run_fault, name_fault, master_fault, order_fault, weight_fault, limit_fault}
use Rattle.sm_reader.specs.Right.{IsRightAgent, IsRight}
use Rattle.sm_keys.proofs.TextLemmas.{same_text}
use Rattle.sm_reader.proofs.JudgeLemmas.{fault_of-declares, fault_of-uses, fault_of-no_master, fault_of-shares, fault_of-orders, fault_of-weighs}
use Rattle.sm_reader.proofs.AddLemmas.{within_limits}

-- a line that goes says nothing, or has a form without a fault
pub record IsFormed (kind : Kind) (format : ℕ) (said : Said) (line : ℕ) (more : Said) : Type 0 where
  pub word : List ℕ
  pub rest : List (List ℕ)
  pub form : Form
  pub formed : form_under kind format word rest ≡ Some form
  pub faultless : fault_of said form ≡ None
  pub adds : more ≡ said_with said line form

fault_goes : (said : Said) (line : ℕ) (form : Form) (more : Said) (o : Option RefusalKind) → fault_of said form ≡ o
    → option_map_or (λ (fault : RefusalKind). refuses fault) o (goes (said_with said line form)) ≡ goes more → (fault_of said form ≡ None) × (more ≡ said_with said line form)
fault_goes said line form more None e h = (e, cc)
fault_goes said line form more (Some k) e h = absurd cc

-- a line that goes on is of no form, or of one without a fault
pub verdict_goes : (kind : Kind) (format : ℕ) (said : Said) (line : ℕ) (tokens : List (List ℕ)) (more : Said) → verdict_on kind format said line tokens ≡ goes more
    → (more ≡ said) ⊎ IsFormed kind format said line more
unfolding verdict_on
verdict_goes kind format said line [] more e = inl (let h : more ≡ said = cc in h)
verdict_goes kind format said line (word ∷ rest) more e = by_tests (list_any is_bad (word ∷ rest)) (is_end (word ∷ rest)) (form_under kind format word rest) refl e
  where
    by_tests : (a b : Bool) (o : Option Form) → form_under kind format word rest ≡ o → cond a (refuses BadByte) (cond b stops (of_form said line o)) ≡ goes more → (more ≡ said) ⊎ IsFormed kind format said line more
    by_tests true b o f h = absurd cc
    by_tests false true o f h = absurd cc
    by_tests false false None f h = absurd cc
    by_tests false false (Some form) f h =
        let found = fault_goes said line form more (fault_of said form) refl h in
        inr (record { word = word; rest = rest; form = form; formed = f; faultless = found.0; adds = found.1 })

-- a capacity is written for reviewers of hospitals alone
abbrev pub HasSingle : Kind → Form → Type 0
HasSingle kind (declares Proposers name capacity entries) = capacity ≡ None
HasSingle kind (declares Reviewers name capacity entries) = is_single kind ≡ true → capacity ≡ None
HasSingle kind (uses Proposers name capacity master) = capacity ≡ None
HasSingle kind (uses Reviewers name capacity master) = is_single kind ≡ true → capacity ≡ None
HasSingle kind (shares name entries) = Unit {0}
HasSingle kind (orders proposers) = Unit {0}
HasSingle kind (weighs proposer reviewer weight second) = Unit {0}
HasSingle kind (binds condition proposer reviewer) = Unit {0}

none_single : (kind : Kind) (side : Side) (name : List ℕ) (entries : List (List ℕ)) → HasSingle kind (declares side name None entries)
none_single kind Proposers name entries = refl
none_single kind Reviewers name entries = λ h. refl

some_form : (kind : Kind) (t : Bool) (f g : Form) → HasSingle kind f → cond t (Some f) None ≡ Some g → HasSingle kind g
some_form kind true f g h e = subst (HasSingle kind) (let same : f ≡ g = cc in same) h
some_form kind false f g h e = absurd cc

list_single : (kind : Kind) (side : Side) (xs : List (List ℕ)) (form : Form) → list_form side xs ≡ Some form → HasSingle kind form
unfolding list_form
list_single kind side [] form e = absurd cc
list_single kind side (name ∷ []) form e = absurd cc
list_single kind side (name ∷ colon ∷ entries) form e = some_form kind _ _ form (none_single kind side name entries) e

capacity_single : (kind : Kind) (xs : List (List ℕ)) (form : Form) → is_single kind ≡ false → capacity_form xs ≡ Some form → HasSingle kind form
unfolding capacity_form
capacity_single kind [] form s e = absurd cc
capacity_single kind (a ∷ []) form s e = absurd cc
capacity_single kind (a ∷ b ∷ []) form s e = absurd cc
capacity_single kind (a ∷ b ∷ d ∷ []) form s e = absurd cc
capacity_single kind (a ∷ b ∷ d ∷ f ∷ []) form s e = absurd cc
capacity_single kind (a ∷ b ∷ d ∷ f ∷ g ∷ entries) form s e = some_form kind _ _ form (λ h. absurd (false≢true (sym s ∙ h))) e

weight_single : (kind : Kind) (xs : List (List ℕ)) (form : Form) → weight_form xs ≡ Some form → HasSingle kind form
unfolding weight_form
weight_single kind [] form e = absurd cc
weight_single kind (a ∷ []) form e = absurd cc
weight_single kind (a ∷ b ∷ []) form e = absurd cc
weight_single kind (a ∷ b ∷ d ∷ []) form e = some_form kind _ _ form tt e
weight_single kind (a ∷ b ∷ d ∷ f ∷ xs) form e = absurd cc

pair_single : (kind : Kind) (condition : Condition) (xs : List (List ℕ)) (form : Form) → pair_form condition xs ≡ Some form → HasSingle kind form
unfolding pair_form
pair_single kind condition [] form e = absurd cc
pair_single kind condition (a ∷ []) form e = absurd cc
pair_single kind condition (a ∷ b ∷ []) form e = some_form kind _ _ form tt e
pair_single kind condition (a ∷ b ∷ d ∷ xs) form e = absurd cc

either_form : (a b : Option Form) (form : Form) → option_or a b ≡ Some form → (a ≡ Some form) ⊎ (b ≡ Some form)
either_form None b form e = inr e
either_form (Some f) b form e = inl e

reviewer_single : (kind : Kind) (xs : List (List ℕ)) (form : Form) → reviewer_form kind xs ≡ Some form → HasSingle kind form
unfolding reviewer_form
reviewer_single kind xs form e = by_test (is_single kind) refl e
  where
    by_test : (t : Bool) → is_single kind ≡ t → cond t (list_form Reviewers xs) (option_or (list_form Reviewers xs) (capacity_form xs)) ≡ Some form → HasSingle kind form
    by_test true s h = list_single kind Reviewers xs form h
    by_test false s h = elim (either_form (list_form Reviewers xs) (capacity_form xs) form h) [
      | inl found ↦ list_single kind Reviewers xs form found
      | inr found ↦ capacity_single kind xs form s found
    ]

two_sided_single : (kind : Kind) (word : List ℕ) (xs : List (List ℕ)) (form : Form) → two_sided_form kind word xs ≡ Some form → HasSingle kind form
unfolding two_sided_form
two_sided_single kind word xs form e = by_tests _ _ _ _ e
  where
    by_tests : (a b d f : Bool) → cond a (reviewer_form kind xs) (cond b (weight_form xs) (cond d (pair_form Force xs) (cond f (pair_form Forbid xs) None))) ≡ Some form → HasSingle kind form
    by_tests true b d f h = reviewer_single kind xs form h
    by_tests false true d f h = weight_single kind xs form h
    by_tests false false true f h = pair_single kind Force xs form h
    by_tests false false false true h = pair_single kind Forbid xs form h
    by_tests false false false false h = absurd cc

-- a form has a capacity only where the kind allows one
pub form_single : (kind : Kind) (word : List ℕ) (xs : List (List ℕ)) (form : Form) → form_behind kind word xs ≡ Some form → HasSingle kind form
unfolding form_behind
form_single Marriage word xs form e = by_test _ e
  where
    by_test : (t : Bool) → cond t (list_form Proposers xs) (two_sided_form Marriage word xs) ≡ Some form → HasSingle Marriage form
    by_test true h = list_single Marriage Proposers xs form h
    by_test false h = two_sided_single Marriage word xs form h
form_single Hospitals word xs form e = by_test _ e
  where
    by_test : (t : Bool) → cond t (list_form Proposers xs) (two_sided_form Hospitals word xs) ≡ Some form → HasSingle Hospitals form
    by_test true h = list_single Hospitals Proposers xs form h
    by_test false h = two_sided_single Hospitals word xs form h
form_single Roommates word xs form e = by_test _ e
  where
    by_test : (t : Bool) → cond t (list_form Proposers xs) None ≡ Some form → HasSingle Roommates form
    by_test true h = list_single Roommates Proposers xs form h
    by_test false h = absurd cc

-- so it is of the forms that format 2 adds
no_capacity : (kind : Kind) (side : Side) (name master : List ℕ) → HasSingle kind (uses side name None master)
no_capacity kind Proposers name master = refl
no_capacity kind Reviewers name master = λ h. refl

use_single : (kind : Kind) (side : Side) (xs : List (List ℕ)) (form : Form) → use_form side xs ≡ Some form → HasSingle kind form
unfolding use_form
use_single kind side [] form e = absurd cc
use_single kind side (a ∷ []) form e = absurd cc
use_single kind side (a ∷ b ∷ []) form e = absurd cc
use_single kind side (a ∷ b ∷ d ∷ []) form e = absurd cc
use_single kind side (a ∷ b ∷ d ∷ f ∷ []) form e = absurd cc
use_single kind side (name ∷ b ∷ d ∷ master ∷ g ∷ []) form e = some_form kind _ _ form (no_capacity kind side name master) e
use_single kind side (a ∷ b ∷ d ∷ f ∷ g ∷ h ∷ xs) form e = absurd cc

capacity_use_single : (kind : Kind) (xs : List (List ℕ)) (form : Form) → is_single kind ≡ false → capacity_use_form xs ≡ Some form → HasSingle kind form
unfolding capacity_use_form
capacity_use_single kind [] form s e = absurd cc
capacity_use_single kind (a ∷ []) form s e = absurd cc
capacity_use_single kind (a ∷ b ∷ []) form s e = absurd cc
capacity_use_single kind (a ∷ b ∷ d ∷ []) form s e = absurd cc
capacity_use_single kind (a ∷ b ∷ d ∷ f ∷ []) form s e = absurd cc
capacity_use_single kind (a ∷ b ∷ d ∷ f ∷ g ∷ []) form s e = absurd cc
capacity_use_single kind (a ∷ b ∷ d ∷ f ∷ g ∷ h ∷ []) form s e = absurd cc
capacity_use_single kind (a ∷ b ∷ d ∷ f ∷ g ∷ h ∷ i ∷ []) form s e = absurd cc
capacity_use_single kind (a ∷ b ∷ d ∷ f ∷ g ∷ h ∷ i ∷ j ∷ []) form s e = some_form kind _ _ form (λ t. absurd (false≢true (sym s ∙ t))) e
capacity_use_single kind (a ∷ b ∷ d ∷ f ∷ g ∷ h ∷ i ∷ j ∷ k ∷ xs) form s e = absurd cc

reviewer_use_single : (kind : Kind) (xs : List (List ℕ)) (form : Form) → reviewer_use_form kind xs ≡ Some form → HasSingle kind form
unfolding reviewer_use_form
reviewer_use_single kind xs form e = by_test (is_single kind) refl e
  where
    by_test : (t : Bool) → is_single kind ≡ t → cond t (use_form Reviewers xs) (option_or (use_form Reviewers xs) (capacity_use_form xs)) ≡ Some form → HasSingle kind form
    by_test true s h = use_single kind Reviewers xs form h
    by_test false s h = elim (either_form (use_form Reviewers xs) (capacity_use_form xs) form h) [
      | inl found ↦ use_single kind Reviewers xs form found
      | inr found ↦ capacity_use_single kind xs form s found
    ]

master_single : (kind : Kind) (xs : List (List ℕ)) (form : Form) → master_form xs ≡ Some form → HasSingle kind form
unfolding master_form
master_single kind [] form e = absurd cc
master_single kind (a ∷ []) form e = absurd cc
master_single kind (a ∷ b ∷ xs) form e = some_form kind _ _ form tt e

order_single : (kind : Kind) (xs : List (List ℕ)) (form : Form) → order_form xs ≡ Some form → HasSingle kind form
unfolding order_form
order_single kind xs form e = some_form kind _ _ form tt e

second_single : (kind : Kind) (xs : List (List ℕ)) (form : Form) → second_form xs ≡ Some form → HasSingle kind form
unfolding second_form
second_single kind [] form e = absurd cc
second_single kind (a ∷ []) form e = absurd cc
second_single kind (a ∷ b ∷ []) form e = absurd cc
second_single kind (a ∷ b ∷ d ∷ []) form e = absurd cc
second_single kind (a ∷ b ∷ d ∷ f ∷ []) form e = some_form kind _ _ form tt e
second_single kind (a ∷ b ∷ d ∷ f ∷ g ∷ xs) form e = absurd cc

two_sided_added_single : (kind : Kind) (word : List ℕ) (xs : List (List ℕ)) (form : Form) → two_sided_added_form kind word xs ≡ Some form → HasSingle kind form
unfolding two_sided_added_form
two_sided_added_single kind word xs form e = by_tests _ _ _ e
  where
    by_tests : (a b d : Bool) → cond a (reviewer_use_form kind xs) (cond b (order_form xs) (cond d (second_form xs) None)) ≡ Some form → HasSingle kind form
    by_tests true b d h = reviewer_use_single kind xs form h
    by_tests false true d h = order_single kind xs form h
    by_tests false false true h = second_single kind xs form h
    by_tests false false false h = absurd cc

added_single : (kind : Kind) (word : List ℕ) (xs : List (List ℕ)) (form : Form) → added_form kind word xs ≡ Some form → HasSingle kind form
unfolding added_form
added_single kind word xs form e = by_tests _ _ _ e
  where
    by_tests : (a b d : Bool) → cond a (use_form Proposers xs) (cond b (master_form xs) (cond d (two_sided_added_form kind word xs) None)) ≡ Some form → HasSingle kind form
    by_tests true b d h = use_single kind Proposers xs form h
    by_tests false true d h = master_single kind xs form h
    by_tests false false true h = two_sided_added_single kind word xs form h
    by_tests false false false h = absurd cc

-- and of all forms under a header
pub form_under_single : (kind : Kind) (format : ℕ) (word : List ℕ) (xs : List (List ℕ)) (form : Form) → form_under kind format word xs ≡ Some form → HasSingle kind form
unfolding form_under
form_under_single kind format word xs form e = by_test _ e
  where
    by_test : (t : Bool) → cond t (option_or (form_behind kind word xs) (added_form kind word xs)) (form_behind kind word xs) ≡ Some form → HasSingle kind form
    by_test true h = elim (either_form (form_behind kind word xs) (added_form kind word xs) form h) [
      | inl found ↦ form_single kind word xs form found
      | inr found ↦ added_single kind word xs form found
    ]
    by_test false h = form_single kind word xs form h

both_none : {X : Type 0} (a b : Option X) → option_or a b ≡ None → (a ≡ None) × (b ≡ None)
both_none None b h = (refl, h)
both_none (Some x) b h = absurd cc

run_parts : (name : List ℕ) (capacity : Option (List ℕ)) (entries : List (List ℕ)) → run_fault name capacity entries ≡ None → (list_all is_name (name ∷ entries) ≡ true) × (is_bad_capacity capacity ≡ false)
run_parts name capacity entries h = by_tests (list_all is_name (name ∷ entries)) (is_bad_capacity capacity) refl refl h
  where
    by_tests : (a b : Bool) → list_all is_name (name ∷ entries) ≡ a → is_bad_capacity capacity ≡ b → cond (not a) (Some BadName) (cond b (Some BadNumber) None) ≡ None
        → (list_all is_name (name ∷ entries) ≡ true) × (is_bad_capacity capacity ≡ false)
    by_tests true false e f k = (e, f)
    by_tests true true e f k = absurd cc
    by_tests false b e f k = absurd cc

name_parts : (declared : List (List ℕ)) (name : List ℕ) (entries : List (List ℕ)) (agents all : ℕ) → name_fault declared name entries agents all ≡ None
    → (list_any (bytes_eq name) declared ≡ false) × (has_repeated entries ≡ false) × (limit_fault agents all (length entries) ≡ None)
name_parts declared name entries agents all h = by_tests (list_any (bytes_eq name) declared) (has_repeated entries) refl refl h
  where
    by_tests : (a b : Bool) → list_any (bytes_eq name) declared ≡ a → has_repeated entries ≡ b → cond a (Some Redeclared) (cond b (Some RepeatedEntry) (limit_fault agents all (length entries))) ≡ None
        → (list_any (bytes_eq name) declared ≡ false) × (has_repeated entries ≡ false) × (limit_fault agents all (length entries) ≡ None)
    by_tests true b e f k = absurd cc
    by_tests false true e f k = absurd cc
    by_tests false false e f k = (e, f, k)

-- numbers within their limits
number_le : (run : List ℕ) (most v : ℕ) → number_of run most ≡ Some v → v ≤ most
number_le run most v h = by_test (is_number run && nat_le (value_of run) most) refl h
  where
    by_test : (t : Bool) → (is_number run && nat_le (value_of run) most) ≡ t → cond t (Some (value_of run)) None ≡ Some v → v ≤ most
    by_test true e k =
        let le : nat_le (value_of run) most ≡ true = second_true (is_number run) (nat_le (value_of run) most) e in
        let same : value_of run ≡ v = cc in
        grind (arith, nat_tests)
    by_test false e k = absurd cc

some_le : (o : Option ℕ) (most : ℕ) → ((v : ℕ) → o ≡ Some v → v ≤ most) → is_none o ≡ false → unwrap_or o 1 ≤ most
some_le None most le h = absurd (false≢true (sym h))
some_le (Some v) most le h = le v refl

capacity_fits : (capacity : Option (List ℕ)) → is_bad_capacity capacity ≡ false → unwrap_or (option_and_then capacity_in capacity) 1 ≤ most_capacity
capacity_fits None h = omega arith
capacity_fits (Some run) h = some_le (capacity_in run) most_capacity (number_le run most_capacity) h

minus_fits : (o : Option ℕ) (most : ℕ) → ((v : ℕ) → o ≡ Some v → v ≤ most) → is_none (negated o) ≡ false → unsigned_abs (unwrap_or (negated o) (pos 0)) ≤ most
minus_fits None most le h = absurd (false≢true (sym h))
minus_fits (Some zero) most le h = absurd (false≢true (sym h))
minus_fits (Some (suc n)) most le h = le (suc n) refl

plus_fits : (o : Option ℕ) (most : ℕ) → ((v : ℕ) → o ≡ Some v → v ≤ most) → is_none (option_map (λ n. pos n) o) ≡ false → unsigned_abs (unwrap_or (option_map (λ n. pos n) o) (pos 0)) ≤ most
plus_fits None most le h = absurd (false≢true (sym h))
plus_fits (Some v) most le h = le v refl

weight_fits : (run : List ℕ) (most : ℕ) → is_none (signed_of run most) ≡ false → unsigned_abs (unwrap_or (signed_of run most) (pos 0)) ≤ most
weight_fits [] most h = absurd (false≢true (sym h))
weight_fits (b ∷ run) most h = by_test (eqb b 45) h
  where
    by_test : (t : Bool) → is_none (cond t (negated (number_of run most)) (option_map (λ n. pos n) (number_of (b ∷ run) most))) ≡ false
        → unsigned_abs (unwrap_or (cond t (negated (number_of run most)) (option_map (λ n. pos n) (number_of (b ∷ run) most))) (pos 0)) ≤ most
    by_test true k = minus_fits (number_of run most) most (number_le run most) k
    by_test false k = plus_fits (number_of (b ∷ run) most) most (number_le (b ∷ run) most) k

weight_parts : (ws : List SaidWeight) (p r run : List ℕ) (second : Option (List ℕ)) → weight_fault ws p r run second ≡ None
    → (is_none (weight_in run) ≡ false) × (is_none (second_in second) ≡ false) × (list_any (is_given_to p r) ws ≡ false)
weight_parts ws p r run second h = by_tests (list_all is_name (p ∷ r ∷ [])) (is_none (weight_in run)) (is_none (second_in second)) (list_any (is_given_to p r) ws) refl refl refl h
  where
    by_tests : (a b g d : Bool) → is_none (weight_in run) ≡ b → is_none (second_in second) ≡ g → list_any (is_given_to p r) ws ≡ d
        → cond (not a) (Some BadName) (cond (b || g) (Some BadNumber) (cond d (Some RepeatedWeight) None)) ≡ None
        → (is_none (weight_in run) ≡ false) × (is_none (second_in second) ≡ false) × (list_any (is_given_to p r) ws ≡ false)
    by_tests false b g d e i f k = absurd cc
    by_tests true true g d e i f k = absurd cc
    by_tests true false true d e i f k = absurd cc
    by_tests true false false true e i f k = absurd cc
    by_tests true false false false e i f k = (e, i, f)

second_fits : (second : Option (List ℕ)) → is_none (second_in second) ≡ false → unsigned_abs (unwrap_or (second_in second) (pos 0)) ≤ most_weight
second_fits None h = omega arith
second_fits (Some run) h = weight_fits run most_weight h

master_parts : (declared : List (List ℕ)) (name : List ℕ) (entries : List (List ℕ)) (all : ℕ) → master_fault declared name entries all ≡ None → all + length entries ≤ most_entries
master_parts declared name entries all h = by_tests (list_any (bytes_eq name) declared) (has_repeated entries) (nat_lt most_entries (all + length entries)) refl h
  where
    by_tests : (a b d : Bool) → nat_lt most_entries (all + length entries) ≡ d → cond a (Some Redeclared) (cond b (Some RepeatedEntry) (cond d (Some TooManyEntries) None)) ≡ None → all + length entries ≤ most_entries
    by_tests true b d e k = absurd cc
    by_tests false true d e k = absurd cc
    by_tests false false true e k = absurd cc
    by_tests false false false e k = grind (arith, nat_tests)

order_parts : (ordered : Bool) (proposers : List (List ℕ)) → order_fault ordered proposers ≡ None → has_repeated proposers ≡ false
order_parts ordered proposers h = by_tests (list_all is_name proposers) ordered (has_repeated proposers) refl h
  where
    by_tests : (a b d : Bool) → has_repeated proposers ≡ d → cond (not a) (Some BadName) (cond b (Some Redeclared) (cond d (Some RepeatedEntry) None)) ≡ None → has_repeated proposers ≡ false
    by_tests false b d e k = absurd cc
    by_tests true true d e k = absurd cc
    by_tests true false true e k = absurd cc
    by_tests true false false e k = e

-- a test that none passes fails at each place
pub fails_at : {X : Type 0} (p : X → Bool) (xs : List X) (k : ℕ) (d : X) → list_any p xs ≡ false → k < length xs → p (get_or xs k d) ≡ false
fails_at {X} p xs k d none below = by_test (p (get_or xs k d)) refl
  where
    by_test : (t : Bool) → p (get_or xs k d) ≡ t → p (get_or xs k d) ≡ false
    by_test true e = absurd (false≢true (sym none ∙ list_any_at p xs k d below e))
    by_test false e = e

-- one more name that is new
differ_more : (agents : List SaidAgent) (a : SaidAgent) → AllPairs ◌≢◌ (names_of agents) → list_any (bytes_eq a.name) (names_of agents) ≡ false → AllPairs ◌≢◌ (names_of (agents ++ a ∷ []))
differ_more agents a distinct new =
    subst (AllPairs ◌≢◌) (sym (map_push (λ (x : SaidAgent). x.name) agents a)) (all_pairs_push ◌≢◌ (names_of agents) a.name distinct
    (λ (k : ℕ) (d : List ℕ) (below : k < length (names_of agents)) same. false≢true (sym new ∙ list_any_at (bytes_eq a.name) (names_of agents) k d below (same_text a.name (get_or (names_of agents) k d) (sym same)))))

-- an agent's line leaves what is right
agent_right : (kind : Kind) (said : Said) (line : ℕ) (side : Side) (name : List ℕ) (capacity : Option (List ℕ)) (entries : List (List ℕ)) → IsRight kind said → HasSingle kind (declares side name capacity entries)
    → fault_of said (declares side name capacity entries) ≡ None → IsRight kind (with_agent side (agent_of line name capacity entries) said)
agent_right kind said line Proposers name capacity entries right single none =
    let parts = both_none (run_fault name capacity entries) (name_fault (names_of said.proposers) name entries (length said.proposers) (all_entries said)) (sym (fault_of-declares said Proposers name capacity entries) ∙ none) in
    let runs = run_parts name capacity entries parts.0 in
    let names = name_parts (names_of said.proposers) name entries (length said.proposers) (all_entries said) parts.1 in
    let fits = within_limits (length said.proposers) (all_entries said) (length entries) names.2 in
    let a : SaidAgent = record { name = name; capacity = unwrap_or (option_and_then capacity_in capacity) 1; line = line; entries = entries } in
    record {
      proposers = All-push (IsRightAgent true) said.proposers a right.proposers (record {
        name = first_true (is_name name) (list_all is_name entries) runs.0;
        capacity = capacity_fits capacity runs.1;
        one = λ h. ap (λ o. unwrap_or (option_and_then capacity_in o) 1) single;
        differ = names.1;
      });
      reviewers = right.reviewers;
      proposers_differ = differ_more said.proposers a right.proposers_differ names.0;
      reviewers_differ = right.reviewers_differ;
      proposers_fit = omega (arith, fits.0, length_push said.proposers a);
      reviewers_fit = right.reviewers_fit;
      entries_fit = omega (arith, fits.1, sum_by_push (λ (x : SaidAgent). length x.entries) said.proposers a);
      sizes = right.sizes;
      second_sizes = right.second_sizes;
      weights_differ = right.weights_differ;
      order_differs = right.order_differs;
    }
agent_right kind said line Reviewers name capacity entries right single none =
    let parts = both_none (run_fault name capacity entries) (name_fault (names_of said.reviewers) name entries (length said.reviewers) (all_entries said)) (sym (fault_of-declares said Reviewers name capacity entries) ∙ none) in
    let runs = run_parts name capacity entries parts.0 in
    let names = name_parts (names_of said.reviewers) name entries (length said.reviewers) (all_entries said) parts.1 in
    let fits = within_limits (length said.reviewers) (all_entries said) (length entries) names.2 in
    let a : SaidAgent = record { name = name; capacity = unwrap_or (option_and_then capacity_in capacity) 1; line = line; entries = entries } in
    record {
      proposers = right.proposers;
      reviewers = All-push (IsRightAgent (is_single kind)) said.reviewers a right.reviewers (record {
        name = first_true (is_name name) (list_all is_name entries) runs.0;
        capacity = capacity_fits capacity runs.1;
        one = λ h. ap (λ o. unwrap_or (option_and_then capacity_in o) 1) (single h);
        differ = names.1;
      });
      proposers_differ = right.proposers_differ;
      reviewers_differ = differ_more said.reviewers a right.reviewers_differ names.0;
      proposers_fit = right.proposers_fit;
      reviewers_fit = omega (arith, fits.0, length_push said.reviewers a);
      entries_fit = omega (arith, fits.1, sum_by_push (λ (x : SaidAgent). length x.entries) said.reviewers a);
      sizes = right.sizes;
      second_sizes = right.second_sizes;
      weights_differ = right.weights_differ;
      order_differs = right.order_differs;
    }

-- so does the line of a weight
weight_right : (kind : Kind) (said : Said) (line : ℕ) (p r run : List ℕ) (second : Option (List ℕ)) → IsRight kind said → fault_of said (weighs p r run second) ≡ None
    → IsRight kind (said_with said line (weighs p r run second))
unfolding said_with
weight_right kind said line p r run second right none =
    let parts = weight_parts said.weights p r run second (sym (fault_of-weighs said p r run second) ∙ none) in
    let w : SaidWeight = weight_of line p r run second in
    record {
      proposers = right.proposers;
      reviewers = right.reviewers;
      proposers_differ = right.proposers_differ;
      reviewers_differ = right.reviewers_differ;
      proposers_fit = right.proposers_fit;
      reviewers_fit = right.reviewers_fit;
      entries_fit = right.entries_fit;
      sizes = All-push (λ (x : SaidWeight). unsigned_abs x.weight ≤ most_weight) said.weights w right.sizes (weight_fits run most_weight parts.0);
      second_sizes = All-push (λ (x : SaidWeight). unsigned_abs x.second ≤ most_weight) said.weights w right.second_sizes (second_fits second parts.1);
      weights_differ = all_pairs_push (λ (a b : SaidWeight). is_given_to b.pair.proposer b.pair.reviewer a ≡ false) said.weights w right.weights_differ
          (λ (k : ℕ) (d : SaidWeight) (below : k < length said.weights). fails_at (is_given_to p r) said.weights k d parts.2 below);
      order_differs = right.order_differs;
    }

-- that of a master list
master_right : (kind : Kind) (said : Said) (line : ℕ) (name : List ℕ) (entries : List (List ℕ)) → IsRight kind said → fault_of said (shares name entries) ≡ None → IsRight kind (said_with said line (shares name entries))
unfolding said_with
master_right kind said line name entries right none =
    let parts = both_none (run_fault name None entries) (master_fault (master_names said.masters) name entries (all_entries said)) (sym (fault_of-shares said name entries) ∙ none) in
    let fits = master_parts (master_names said.masters) name entries (all_entries said) parts.1 in
    let m : SaidMaster = record { name = name; entries = entries } in
    record {
      proposers = right.proposers;
      reviewers = right.reviewers;
      proposers_differ = right.proposers_differ;
      reviewers_differ = right.reviewers_differ;
      proposers_fit = right.proposers_fit;
      reviewers_fit = right.reviewers_fit;
      entries_fit = omega (arith, fits, sum_by_push (λ (x : SaidMaster). length x.entries) said.masters m);
      sizes = right.sizes;
      second_sizes = right.second_sizes;
      weights_differ = right.weights_differ;
      order_differs = right.order_differs;
    }

-- and that of an order
order_right : (kind : Kind) (said : Said) (line : ℕ) (proposers : List (List ℕ)) → IsRight kind said → fault_of said (orders proposers) ≡ None → IsRight kind (said_with said line (orders proposers))
unfolding said_with
order_right kind said line proposers right none = record {
  proposers = right.proposers;
  reviewers = right.reviewers;
  proposers_differ = right.proposers_differ;
  reviewers_differ = right.reviewers_differ;
  proposers_fit = right.proposers_fit;
  reviewers_fit = right.reviewers_fit;
  entries_fit = right.entries_fit;
  sizes = right.sizes;
  second_sizes = right.second_sizes;
  weights_differ = right.weights_differ;
  order_differs = order_parts (is_some said.order) proposers (sym (fault_of-orders said proposers) ∙ none);
}

-- and the lines of other pairs say nothing of this
pair_right : (kind : Kind) (said more : Said) → IsRight kind said → more.proposers ≡ said.proposers → more.reviewers ≡ said.reviewers → more.weights ≡ said.weights
    → more.masters ≡ said.masters → more.order ≡ said.order → IsRight kind more
pair_right kind said more right e1 e2 e3 e4 e5 = record {
  proposers = subst (All (IsRightAgent true)) (sym e1) right.proposers;
  reviewers = subst (All (IsRightAgent (is_single kind))) (sym e2) right.reviewers;
  proposers_differ = subst (λ xs. AllPairs ◌≢◌ (names_of xs)) (sym e1) right.proposers_differ;
  reviewers_differ = subst (λ xs. AllPairs ◌≢◌ (names_of xs)) (sym e2) right.reviewers_differ;
  proposers_fit = subst (λ (xs : List SaidAgent). length xs ≤ most_agents) (sym e1) right.proposers_fit;
  reviewers_fit = subst (λ (xs : List SaidAgent). length xs ≤ most_agents) (sym e2) right.reviewers_fit;
  entries_fit = omega (arith, right.entries_fit, ap entries_of e1, ap entries_of e2, ap entries_of_masters e4);
  sizes = subst (All (λ (w : SaidWeight). unsigned_abs w.weight ≤ most_weight)) (sym e3) right.sizes;
  second_sizes = subst (All (λ (w : SaidWeight). unsigned_abs w.second ≤ most_weight)) (sym e3) right.second_sizes;
  weights_differ = subst (AllPairs (λ (a b : SaidWeight). is_given_to b.pair.proposer b.pair.reviewer a ≡ false)) (sym e3) right.weights_differ;
  order_differs = ap (λ o. has_repeated (names_first o)) e5 ∙ right.order_differs;
}

-- an agent that has a master list is one with the names on it
use_right : (kind : Kind) (said : Said) (line : ℕ) (side : Side) (name : List ℕ) (capacity : Option (List ℕ)) (master : List ℕ) (found : Option (List (List ℕ))) → entries_named said.masters master ≡ found
    → IsRight kind said → HasSingle kind (uses side name capacity master) → fault_of said (uses side name capacity master) ≡ None → IsRight kind (said_with said line (uses side name capacity master))
unfolding said_with
use_right kind said line side name capacity master None e right single none = absurd (let k = sym (fault_of-no_master said side name capacity master e) ∙ none in cc)
use_right kind said line side name capacity master (Some entries) e right single none =
    subst (λ o. IsRight kind (with_agent side (agent_of line name capacity (unwrap_or o [])) said)) (sym e)
    (agent_right kind said line side name capacity entries right (same_single side capacity single) (sym (fault_of-uses said side name capacity master entries e) ∙ none))
  where
    same_single : (side : Side) (capacity : Option (List ℕ)) → HasSingle kind (uses side name capacity master) → HasSingle kind (declares side name capacity entries)
    same_single Proposers capacity h = h
    same_single Reviewers capacity h = h

form_right : (kind : Kind) (said : Said) (line : ℕ) (form : Form) → IsRight kind said → HasSingle kind form → fault_of said form ≡ None → IsRight kind (said_with said line form)
unfolding said_with
form_right kind said line (declares side name capacity entries) right single none = agent_right kind said line side name capacity entries right single none
form_right kind said line (uses side name capacity master) right single none = use_right kind said line side name capacity master (entries_named said.masters master) refl right single none
form_right kind said line (shares name entries) right single none = master_right kind said line name entries right none
form_right kind said line (orders proposers) right single none = order_right kind said line proposers right none
form_right kind said line (weighs p r run second) right single none = weight_right kind said line p r run second right none
form_right kind said line (binds Force p r) right single none = pair_right kind said (said_with said line (binds Force p r)) right refl refl refl refl refl
form_right kind said line (binds Forbid p r) right single none = pair_right kind said (said_with said line (binds Forbid p r)) right refl refl refl refl refl

-- what is said stays right with a line that goes on
pub goes_right : (kind : Kind) (format : ℕ) (said : Said) (line : ℕ) (tokens : List (List ℕ)) (more : Said) → IsRight kind said → verdict_on kind format said line tokens ≡ goes more → IsRight kind more
goes_right kind format said line tokens more right e = elim (verdict_goes kind format said line tokens more e) [
  | inl same ↦ subst (IsRight kind) (sym same) right
  | inr formed ↦ subst (IsRight kind) (sym formed.adds) (form_right kind said line formed.form right (form_under_single kind format formed.word formed.rest formed.form formed.formed) formed.faultless)
]

-- where nothing is said all is right
pub nothing_right : (kind : Kind) → IsRight kind nothing
nothing_right kind = record {
  proposers = λ (k : ℕ) (d : SaidAgent) (below : k < 0). absurd (omega arith);
  reviewers = λ (k : ℕ) (d : SaidAgent) (below : k < 0). absurd (omega arith);
  proposers_differ = λ (i j : ℕ) (d : List ℕ) (before : i < j) (below : j < 0). absurd (omega arith);
  reviewers_differ = λ (i j : ℕ) (d : List ℕ) (before : i < j) (below : j < 0). absurd (omega arith);
  proposers_fit = omega arith;
  reviewers_fit = omega arith;
  entries_fit = omega arith;
  sizes = λ (k : ℕ) (d : SaidWeight) (below : k < 0). absurd (omega arith);
  second_sizes = λ (k : ℕ) (d : SaidWeight) (below : k < 0). absurd (omega arith);
  weights_differ = λ (i j : ℕ) (d : SaidWeight) (before : i < j) (below : j < 0). absurd (omega arith);
  order_differs = refl;
}
