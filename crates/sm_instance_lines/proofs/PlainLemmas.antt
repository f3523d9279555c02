-- The lines of a printed instance stand for themselves in a string of JSON.
use Rattle.std.proofs.Common.{◌≡◌, ℕ, ◌<◌, ◌≤◌, ◌||◌, Bool, true, false, not, cond, is_some, Some, None, nat_eq, subst, sym, List, [], ◌∷◌, ◌++◌, length, map, All, get_or, nat_lt, codes, decimal, refl, ap, ◌∙◌, arith, length-append, ℤ, pos}
use Rattle.std.specs.List.{list_any, range_with_len, zip}
use Rattle.std.specs.Cmp.Lexicographic.{pointwise}
use Rattle.std.proofs.lemmas.Slice.Zip.{length-zip, get_or-zip}
use Rattle.std.specs.Fmt.{signed_decimal}
use Rattle.std.specs.Int.RustNames.{unsigned_abs}
use Rattle.std.proofs.lemmas.Bool.{ltb-true, ltb-false}
use Rattle.std.proofs.lemmas.List.{get_or_past, length-map}
use Rattle.std.proofs.lemmas.List.Elements.{All-nil, All-cons, All-append, All-map, All-from_get_or}
use Rattle.sm_text.specs.Limits.{most_capacity, most_weight}
use Rattle.sm_text.specs.Plain.{is_plain, is_plain_byte}
use Rattle.sm_agents.specs.Written.{AgentData, Written, agent_at, no_agent, weighed}
use Rattle.sm_agents.specs.Sound.{IsInstance, AreSoundAgents, items_of, is_single}
use Rattle.sm_agents.specs.Named.{SaidAgent, SaidPair, SaidWeight, Said}
use Rattle.sm_instance.specs.Inputs.{IsInput}
use Rattle.sm_instance.specs.declared.inputs.Input.{Input}
use Rattle.sm_instance.specs.declared.inputs.Input.TheVariants.{Two, Room}
use Rattle.sm_agents.specs.declared.kinds.Kind.{Kind}
use Rattle.sm_agents.specs.declared.kinds.Kind.TheVariants.{Marriage, Hospitals, Roommates}
use Rattle.sm_report.specs.Fields.{spaced}
use Rattle.sm_report.proofs.InverseLemmas.{by_answer}
use Rattle.sm_report.proofs.FreeLines.{name_plain, number_plain, signed_plain, both_plain}
use Rattle.sm_instance_lines.specs.Names.{name_of, said_agent, said_pair, said_weight, said_of}
use Rattle.sm_agents.specs.Nonzero.{is_zero}
use Rattle.sm_instance_lines.specs.Printed.{format_of, second_text, order_lines, header_line, list_text, capacity_text, proposer_line, reviewer_line, pair_text, weight_line, force_line, forbid_line, item_lines, agent_lines, lines_of}
use Rattle.sm_agents.specs.Kinds.{kind_name}

-- a text that stands for itself there
abbrev pub IsPlain : List ℕ → Type 0
IsPlain text = is_plain text ≡ true

-- words and marks do
p_plain : IsPlain (codes "p ")
unfolding is_plain_byte
p_plain = refl

r_plain : IsPlain (codes "r ")
unfolding is_plain_byte
r_plain = refl

pair_words_plain : IsPlain (codes "weight ") × IsPlain (codes "force ") × IsPlain (codes "forbid ")
unfolding is_plain_byte
pair_words_plain = (refl, refl, refl)

marks_plain : IsPlain (codes ":") × IsPlain (codes " [") × IsPlain (codes "]")
unfolding is_plain_byte
marks_plain = (refl, refl, refl)

space_plain : IsPlain (codes " ")
unfolding is_plain_byte
space_plain = refl

end_plain : IsPlain (codes "end")
unfolding is_plain_byte
end_plain = refl

kind_plain : (kind : Kind) → IsPlain (kind_name kind)
unfolding is_plain_byte
kind_plain Marriage = refl
kind_plain Hospitals = refl
kind_plain Roommates = refl

head_plain : IsPlain (codes "stable ") × IsPlain (codes "order")
unfolding is_plain_byte
head_plain = (refl, refl)

one_or_two : (t : Bool) → cond t 2 1 ≤ 2
one_or_two true = omega arith
one_or_two false = omega arith

header_plain : (said : Said) (kind : Kind) → IsPlain (header_line (format_of said) kind)
header_plain said kind =
    let small = one_or_two (is_some said.order || list_any (λ (x : SaidWeight). not (is_zero x.second)) said.weights) in
    both_plain (codes "stable " ++ decimal (format_of said) ++ codes " ") (kind_name kind)
    (both_plain (codes "stable " ++ decimal (format_of said)) (codes " ") (both_plain (codes "stable ") (decimal (format_of said)) head_plain.0 (number_plain (format_of said) (omega (arith, small)))) space_plain)
    (kind_plain kind)

-- so does the name of an agent, also of one that isn't there
pub name_of_plain : (agents : List AgentData) (single : Bool) → AreSoundAgents agents single → (a : ℕ) → IsPlain (name_of agents a)
name_of_plain agents single s a =
    by_answer (nat_lt a (length agents)) (λ is. name_plain (name_of agents a) (s.sound a (ltb-true a (length agents) is)).name)
    (λ is. ap (λ (agent : AgentData). is_plain agent.name) (get_or_past agents a no_agent (ltb-false a (length agents) is)))

-- and lists of names
spaced_plain : (name : ℕ → List ℕ) → ((a : ℕ) → IsPlain (name a)) → (entries : List ℕ) → IsPlain (spaced (map name entries))
spaced_plain name each [] = refl
spaced_plain name each (a ∷ entries) =
    both_plain (codes " " ++ name a) (spaced (map name entries)) (both_plain (codes " ") (name a) space_plain (each a)) (spaced_plain name each entries)

list_plain : (name : ℕ → List ℕ) → ((a : ℕ) → IsPlain (name a)) → (entries : List ℕ) → IsPlain (list_text (map name entries))
list_plain name each entries = both_plain (codes ":") (spaced (map name entries)) marks_plain.0 (spaced_plain name each entries)

capacity_plain : (kind : Kind) (capacity : ℕ) → capacity ≤ most_capacity → IsPlain (capacity_text kind capacity)
capacity_plain Marriage capacity h = refl
capacity_plain Hospitals capacity h =
    both_plain (codes " [" ++ decimal capacity) (codes "]") (both_plain (codes " [") (decimal capacity) marks_plain.1 (number_plain capacity (omega (arith, h)))) marks_plain.2
capacity_plain Roommates capacity h = refl

-- and lines of agents
proposer_plain : (others : List AgentData) → ((a : ℕ) → IsPlain (name_of others a)) → (agent : AgentData) → IsPlain agent.name → IsPlain (proposer_line (said_agent others agent))
proposer_plain others each agent named =
    both_plain (codes "p " ++ agent.name) (list_text (map (name_of others) agent.entries)) (both_plain (codes "p ") agent.name p_plain named) (list_plain (name_of others) each agent.entries)

reviewer_plain : (kind : Kind) (others : List AgentData) → ((a : ℕ) → IsPlain (name_of others a)) → (agent : AgentData) → IsPlain agent.name → agent.capacity ≤ most_capacity
    → IsPlain (reviewer_line kind (said_agent others agent))
reviewer_plain kind others each agent named few =
    both_plain (codes "r " ++ agent.name ++ capacity_text kind agent.capacity) (list_text (map (name_of others) agent.entries))
    (both_plain (codes "r " ++ agent.name) (capacity_text kind agent.capacity) (both_plain (codes "r ") agent.name r_plain named) (capacity_plain kind agent.capacity few))
    (list_plain (name_of others) each agent.entries)

agents_plain : (line : SaidAgent → List ℕ) (others agents : List AgentData) → ((a : ℕ) → a < length agents → IsPlain (line (said_agent others (agent_at agents a))))
    → All IsPlain (map line (map (said_agent others) agents))
agents_plain line others agents each =
    All-map IsPlain line (map (said_agent others) agents)
    (All-map (λ (x : SaidAgent). IsPlain (line x)) (said_agent others) agents (All-from_get_or (λ (x : AgentData). IsPlain (line (said_agent others x))) agents no_agent each))

-- weights are small
weights_small : (w : Written) → IsInstance w → All (λ (x : ℕ × ℕ × ℤ). unsigned_abs x.2 ≤ most_weight) w.weights
weights_small w i = All-from_get_or (λ (x : ℕ × ℕ × ℤ). unsigned_abs x.2 ≤ most_weight) w.weights (0, 0, pos 0) (λ n below. (i.items n (within n below)).size below) where
  within : (n : ℕ) → n < length w.weights → n < length (items_of w.weights w.forced w.forbidden)
  within n below =
      omega (arith, below, length-map w.weights weighed, length-append (map weighed w.weights) w.forced, length-append (map weighed w.weights ++ w.forced) w.forbidden)

-- so are second weights
zip_small : (w : Written) → IsInstance w → All (λ (x : (ℕ × ℕ × ℤ) × ℤ). (unsigned_abs x.0.2 ≤ most_weight) × (unsigned_abs x.1 ≤ most_weight)) (zip w.weights w.seconds)
zip_small w i = All-from_get_or (λ (x : (ℕ × ℕ × ℤ) × ℤ). (unsigned_abs x.0.2 ≤ most_weight) × (unsigned_abs x.1 ≤ most_weight)) (zip w.weights w.seconds) ((0, 0, pos 0), pos 0) (λ n below.
    let first : n < length w.weights = omega (arith, below, length-zip w.weights w.seconds) in
    let second : n < length w.seconds = omega (arith, below, length-zip w.weights w.seconds) in
    subst (λ (x : (ℕ × ℕ × ℤ) × ℤ). (unsigned_abs x.0.2 ≤ most_weight) × (unsigned_abs x.1 ≤ most_weight)) (sym (get_or-zip w.weights w.seconds n ((0, 0, pos 0), pos 0) first second))
    (weights_small w i n (0, 0, pos 0) first, i.seconds_small n (pos 0) second))

second_plain : (second : ℤ) → unsigned_abs second ≤ most_weight → IsPlain (second_text second)
second_plain second small = by_test (is_zero second)
  where
    by_test : (t : Bool) → IsPlain (cond t [] (codes " " ++ signed_decimal second))
    by_test true = refl
    by_test false = both_plain (codes " ") (signed_decimal second) space_plain (signed_plain second (omega (arith, small)))

-- and lines of pairs
module _ (w : Written) (i : IsInstance w) where
  left_plain : (p : ℕ) → IsPlain (name_of w.proposers p)
  left_plain p = name_of_plain w.proposers true i.proposers p

  right_plain : (r : ℕ) → IsPlain (name_of w.reviewers r)
  right_plain r = name_of_plain w.reviewers (is_single w.kind) i.reviewers r

  pair_plain : (pair : ℕ × ℕ) → IsPlain (pair_text (said_pair w.proposers w.reviewers pair))
  pair_plain pair =
      both_plain (name_of w.proposers pair.0 ++ codes " ") (name_of w.reviewers pair.1) (both_plain (name_of w.proposers pair.0) (codes " ") (left_plain pair.0) space_plain) (right_plain pair.1)

  weight_plain : (x : (ℕ × ℕ × ℤ) × ℤ) → unsigned_abs x.0.2 ≤ most_weight → unsigned_abs x.1 ≤ most_weight → IsPlain (weight_line (said_weight w.proposers w.reviewers x))
  weight_plain x small few =
      let pair = pair_text (said_pair w.proposers w.reviewers (x.0.0, x.0.1)) in
      both_plain (codes "weight " ++ pair ++ codes " " ++ signed_decimal x.0.2) (second_text x.1)
      (both_plain (codes "weight " ++ pair ++ codes " ") (signed_decimal x.0.2)
      (both_plain (codes "weight " ++ pair) (codes " ") (both_plain (codes "weight ") pair pair_words_plain.0 (pair_plain (x.0.0, x.0.1))) space_plain)
      (signed_plain x.0.2 (omega (arith, small))))
      (second_plain x.1 few)

  order_plain : (t : Bool) → All IsPlain (order_lines (cond t None (Some (record { names = map (name_of w.proposers) w.order; line = 0 }))))
  order_plain true = All-nil IsPlain
  order_plain false =
      All-cons IsPlain (codes "order" ++ spaced (map (name_of w.proposers) w.order)) [] (both_plain (codes "order") (spaced (map (name_of w.proposers) w.order)) head_plain.1 (spaced_plain (name_of w.proposers) left_plain w.order))
      (All-nil IsPlain)

  bound_plain : (word : List ℕ) (line : SaidPair → List ℕ) → IsPlain word → ((pair : SaidPair) → line pair ≡ word ++ pair_text pair) → (pairs : List (ℕ × ℕ))
      → All IsPlain (map line (map (said_pair w.proposers w.reviewers) pairs))
  bound_plain word line h is pairs =
      All-map IsPlain line (map (said_pair w.proposers w.reviewers) pairs)
      (All-map (λ (x : SaidPair). IsPlain (line x)) (said_pair w.proposers w.reviewers) pairs
      (λ k d below. let pair = said_pair w.proposers w.reviewers (get_or pairs k d) in ap is_plain (is pair) ∙ both_plain word (pair_text pair) h (pair_plain (get_or pairs k d))))

  items_plain : All IsPlain (item_lines (said_of (Two w)))
  items_plain =
      let both = zip w.weights w.seconds in
      let weights : All IsPlain (map weight_line (map (said_weight w.proposers w.reviewers) both)) =
      All-map IsPlain weight_line (map (said_weight w.proposers w.reviewers) both)
      (All-map (λ (x : SaidWeight). IsPlain (weight_line x)) (said_weight w.proposers w.reviewers) both
      (λ k d below. let small = zip_small w i k d below in weight_plain (get_or both k d) small.0 small.1)) in
      All-append IsPlain (map weight_line (map (said_weight w.proposers w.reviewers) both)) _ weights
      (All-append IsPlain (map force_line (map (said_pair w.proposers w.reviewers) w.forced)) _ (bound_plain (codes "force ") force_line pair_words_plain.1 (λ pair. refl) w.forced)
      (All-append IsPlain (map forbid_line (map (said_pair w.proposers w.reviewers) w.forbidden)) _ (bound_plain (codes "forbid ") forbid_line pair_words_plain.2 (λ pair. refl) w.forbidden)
      (All-append IsPlain (order_lines (said_of (Two w)).order) (codes "end" ∷ []) (order_plain (pointwise nat_eq w.order (range_with_len 0 (length w.proposers))))
      (All-cons IsPlain (codes "end") [] end_plain (All-nil IsPlain)))))

  two_plain : All IsPlain (lines_of (Two w))
  two_plain =
      All-cons IsPlain (header_line (format_of (said_of (Two w))) w.kind) (agent_lines w.kind (said_of (Two w))) (header_plain (said_of (Two w)) w.kind)
      (All-append IsPlain (map proposer_line (map (said_agent w.reviewers) w.proposers)) _
      (agents_plain proposer_line w.reviewers w.proposers (λ p below. proposer_plain w.reviewers right_plain (agent_at w.proposers p) (left_plain p)))
      (All-append IsPlain (map (reviewer_line w.kind) (map (said_agent w.proposers) w.reviewers)) _
      (agents_plain (reviewer_line w.kind) w.proposers w.reviewers (λ r below. reviewer_plain w.kind w.proposers left_plain (agent_at w.reviewers r) (right_plain r) (i.reviewers.sound r below).capacity))
      items_plain))

-- and all lines of an instance
pub lines_plain : (input : Input) → IsInput input → All IsPlain (lines_of input)
lines_plain (Two w) i = two_plain w i
lines_plain (Room persons) i =
    let named = name_of_plain persons true i.agents in
    All-cons IsPlain (header_line (format_of (said_of (Room persons))) Roommates) (agent_lines Roommates (said_of (Room persons))) (header_plain (said_of (Room persons)) Roommates)
    (All-append IsPlain (map proposer_line (map (said_agent persons) persons)) (codes "end" ∷ [])
    (agents_plain proposer_line persons persons (λ p below. proposer_plain persons named (agent_at persons p) (named p)))
    (All-cons IsPlain (codes "end") [] end_plain (All-nil IsPlain)))
