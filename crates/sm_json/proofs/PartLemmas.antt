-- The texts of an agent, of a pair and of a weight, piece by piece.
use Rattle.std.proofs.Common.{◌≡◌, ℕ, Bool, true, false, List, [], ◌∷◌, ◌++◌, codes, Option, Some, None, option_map, refl, sym, ap, ◌∙◌, append_assoc, ℤ}
use Rattle.std.specs.List.{flat_map}
use Rattle.std.specs.Option.{option_and_then}
use Rattle.std.specs.Fmt.{signed_decimal}
use Rattle.serde_json.specs.Data.{Data}
use Rattle.serde_json.specs.Find.{get}
use Rattle.sm_text.specs.Lines.{LF}
use Rattle.sm_agents.specs.Named.{SaidPair}
use Rattle.sm_report.specs.Fields.{spaced}
use Rattle.sm_instance_lines.specs.Printed.{pair_text}
use Rattle.sm_json.specs.declared.agents.Role.{Role}
use Rattle.sm_json.specs.declared.agents.Role.TheVariants.{Proposer, Reviewer, Hospital}
use Rattle.sm_json.specs.Values.{has_only, items_in, every, name_in, names_in, if_so, weight_in}
use Rattle.sm_json.specs.Parts.{at, agent_members, agent_of, agent_in, places_in, pair_in, both_in, weight_of, pair_weight_in, second_in}
use Rattle.sm_json.specs.JsonText.{json_weight_line, second_text}
use Rattle.sm_json.specs.Adding.{joined, texts}
use Rattle.sm_json.specs.Roles.{members_of, owner_of, has_capacity, word_of, places_text, agent_line, with_end, names_added, name_added, parts_added, weight_parts_added, weight_text_among, agent_added, agents_added, pair_added, pairs_added, weight_added, weights_added, order_added}
use Rattle.sm_json.proofs.AddLemmas.{texts_every}

-- the members of an agent
pub members_same : (role : Role) → members_of (owner_of role) ≡ agent_members (has_capacity role)
members_same Proposer = refl
members_same Reviewer = refl
members_same Hospital = refl

four : (w c s l : List ℕ) → (w ++ (c ++ s)) ++ l ≡ w ++ (c ++ (s ++ l))
four w c s l = append_assoc w (c ++ s) l ∙ ap (λ t. w ++ t) (append_assoc c s l)

six : (w p c s l : List ℕ) → ((w ++ p) ++ (c ++ s)) ++ l ≡ w ++ (p ++ (c ++ (s ++ l)))
six w p c s l = four (w ++ p) c s l ∙ append_assoc w p (c ++ (s ++ l))

agent_last : (role : Role) (name : List ℕ) (c : ℕ) (names : List (List ℕ))
    → with_end (agent_line role (agent_of name c names)) ≡ (word_of role ++ name) ++ (places_text role c ++ (codes ":" ++ (spaced names ++ LF ∷ [])))
agent_last Proposer name c names = four (codes "p " ++ name) (codes ":") (spaced names) (LF ∷ [])
agent_last Reviewer name c names = six (codes "r " ++ name) [] (codes ":") (spaced names) (LF ∷ [])
agent_last Hospital name c names = six (codes "r " ++ name) (places_text Hospital c) (codes ":") (spaced names) (LF ∷ [])

-- an agent, where its parts are there or not
agent_parts : (role : Role) (name : List ℕ) (places : Option ℕ) (names : Option (List (List ℕ)))
    → option_map (λ a. with_end (agent_line role a)) (option_and_then (λ capacity. option_map (agent_of name capacity) names) places)
    ≡ joined (Some (word_of role ++ name)) (joined (option_map (places_text role) places) (joined (Some (codes ":")) (joined (option_map spaced names) (Some (LF ∷ [])))))
agent_parts role name None names = refl
agent_parts role name (Some c) None = refl
agent_parts role name (Some c) (Some names) = ap Some (agent_last role name c names)

pub agent_text : (role : Role) (d l : Data) (name : List ℕ) → has_only (members_of (owner_of role)) d ≡ true → Some name ≡ at (codes "name") name_in d → Some l ≡ get (codes "list") d
    → agent_added role d ≡ parts_added role name d l
agent_text role d l name only named listed =
    let here = ap (λ ms. has_only ms d) (sym (members_same role)) ∙ only in
    rw (here, sym named, sym listed) (agent_parts role name (places_in (has_capacity role) d) (names_in l))

-- what is no such object has no line
pub agent_none_only : (role : Role) (d : Data) → has_only (members_of (owner_of role)) d ≡ false → agent_added role d ≡ None
agent_none_only role d only = let here = ap (λ ms. has_only ms d) (sym (members_same role)) ∙ only in rw here refl

so_none : {A : Type 0} (t : Bool) → if_so {A = A} t None ≡ None
so_none true = refl
so_none false = refl

pub agent_none_name : (role : Role) (d : Data) → None ≡ at (codes "name") name_in d → agent_added role d ≡ None
agent_none_name role d none = rw (sym none, so_none (has_only (agent_members (has_capacity role)) d)) refl

unlisted : (name : Option (List ℕ)) (places : Option ℕ) → option_and_then (λ n. option_and_then (λ c. option_map (agent_of n c) None) places) name ≡ None
unlisted None places = refl
unlisted (Some n) None = refl
unlisted (Some n) (Some c) = refl

pub agent_none_list : (role : Role) (d : Data) → get (codes "list") d ≡ None → agent_added role d ≡ None
agent_none_list role d none =
    rw (none, unlisted (at (codes "name") name_in d) (places_in (has_capacity role) d), so_none (has_only (agent_members (has_capacity role)) d)) refl

-- the texts of the items of an array
module _ (d : Data) (ds : List Data) (h : Some ds ≡ items_in d) where
  pub names_text : names_added d ≡ texts name_added ds
  names_text = ap (λ o. option_map spaced (option_and_then (every name_in) o)) (sym h) ∙ texts_every (λ name. 32 ∷ name) name_in ds

  pub agents_text : (role : Role) → agents_added role d ≡ texts (agent_added role) ds
  agents_text role =
      ap (λ o. option_map (flat_map (λ a. with_end (agent_line role a))) (option_and_then (every (agent_in (has_capacity role))) o)) (sym h)
      ∙ texts_every (λ a. with_end (agent_line role a)) (agent_in (has_capacity role)) ds

  pub pairs_text : (word : List ℕ) → pairs_added word d ≡ texts (pair_added word) ds
  pairs_text word =
      ap (λ o. option_map (flat_map (λ pair. with_end (word ++ pair_text pair))) (option_and_then (every pair_in) o)) (sym h)
      ∙ texts_every (λ pair. with_end (word ++ pair_text pair)) pair_in ds

  pub weights_text : weights_added d ≡ texts weight_added ds
  weights_text =
      ap (λ o. option_map (flat_map (λ w. with_end (json_weight_line w))) (option_and_then (every pair_weight_in) o)) (sym h)
      ∙ texts_every (λ w. with_end (json_weight_line w)) pair_weight_in ds

-- a weight
five : (a p s z t l : List ℕ) → ((((a ++ p) ++ s) ++ z) ++ t) ++ l ≡ (a ++ p) ++ ((s ++ z) ++ (t ++ l))
five a p s z t l =
    append_assoc (((a ++ p) ++ s) ++ z) t l ∙ append_assoc ((a ++ p) ++ s) z (t ++ l) ∙ append_assoc (a ++ p) s (z ++ (t ++ l))
    ∙ ap (λ x. (a ++ p) ++ x) (sym (append_assoc s z (t ++ l)))

weight_parts : (pair : Option SaidPair) (first : Option ℤ) (second : Option (Option ℤ))
    → option_map (λ w. with_end (json_weight_line w)) (option_and_then (λ p. option_and_then (λ z. option_map (weight_of p z) second) first) pair)
    ≡ joined (option_map (λ p. codes "weight " ++ pair_text p) pair)
    (joined (option_map (λ z. 32 ∷ signed_decimal z) first) (joined (option_map second_text second) (Some (LF ∷ []))))
weight_parts None first second = refl
weight_parts (Some p) None second = refl
weight_parts (Some p) (Some z) None = refl
weight_parts (Some p) (Some z) (Some s) = ap Some (five (codes "weight ") (pair_text p) (codes " ") (signed_decimal z) (second_text s) (LF ∷ []))

pub weight_text_of : (p r first : Data) (more : List Data) → weight_text_among (p ∷ r ∷ first ∷ more) ≡ weight_parts_added p r first more
weight_text_of p r first more = weight_parts (both_in p r) (weight_in first) (second_in more)

-- the line of an order
order_parts : (names : Option (List (List ℕ)))
    → option_map (λ ns. with_end (codes "order" ++ spaced ns)) names ≡ joined (Some (codes "order")) (joined (option_map spaced names) (Some (LF ∷ [])))
order_parts None = refl
order_parts (Some ns) = ap Some (append_assoc (codes "order") (spaced ns) (LF ∷ []))

pub order_text_of : (d : Data) → order_added d ≡ joined (Some (codes "order")) (joined (names_added d) (Some (LF ∷ [])))
order_text_of d = order_parts (names_in d)
