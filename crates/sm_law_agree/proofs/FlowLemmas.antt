-- What lines say of a net: nodes by the ends of lines of a flow, lines of a flow one after another, and sets of rotations by the
-- numbers of their members.
use Rattle.std.proofs.Common.{◌≡◌, ◌≢◌, ℕ, zero, suc, ◌+◌, ◌<◌, ◌≤◌, ◌==◌, nat_le, ◌⊎◌, arith, refl, sym, ap, ◌∙◌, Bool, true, false, not, List, [], ◌∷◌, ◌++◌, length, map, subst, inl, inr, ext_get_or, eq-eqb, ne_eqb}
use Rattle.std.specs.Prelude.{◌&&◌, ◌||◌, if◌then◌else◌, ℤ, Contains}
use Rattle.std.specs.List.{All, list_any, range_with_len}
use Rattle.std.proofs.lemmas.Bool.{false≢true, le-leb, le-ltb}
use Rattle.std.proofs.lemmas.List.{get_or_at, get_or_append_left, get_or_default, length-append}
use Rattle.std.proofs.lemmas.List.Elements.{All-append, All-cons}
use Rattle.std.proofs.lemmas.List.Folds.{list_any-append}
use Rattle.std.proofs.lemmas.List.FromFn.{length-map-range_with_len, get_or-map-range_with_len}
use Rattle.std.proofs.lemmas.List.Sums.{sum_by-append, sum_by-cons}
use Rattle.sm_lists.proofs.Counting.{eq_or_ne}
use Rattle.sm_agents.specs.Written.{Written}
use Rattle.sm_agents.specs.declared.kinds.Measure.{Measure}
use Rattle.sm_market.specs.Matching.{Places}
use Rattle.sm_theory.specs.ClosedSets.{is_member}
use Rattle.sm_theory.specs.Net.{Net, sink_of, room_of, is_unbounded, IsUnbounded, HasEdge}
use Rattle.sm_theory.specs.Flows.{IsFlow}
use Rattle.sm_theory.specs.FlowLines.{line_at, amount_on, AreOnNodes, HaveSameEnds, IsNewEdge, IsWithinRoom, IsLineBefore, AreFlowLines}
use Rattle.sm_theory.specs.declared.flow_lines.FlowLine.{FlowLine}
use Rattle.sm_theory.specs.SecondNets.{second_net}
use Rattle.sm_theory.proofs.Flow.Steps.{step_kind}
use Rattle.sm_theory.proofs.Flow.Second.{step_of_edge}
use Rattle.sm_theory.proofs.Net.Tests.{and_parts}
use Rattle.sm_seats.specs.ShownNet.{net_shown}
use Rattle.sm_report.specs.Texts.{SINK}
use Rattle.sm_answer_weight.specs.WeightAnswer.{shown_node, member_numbers}
use Rattle.sm_answer_weight.proofs.MemberLemmas.{members_more}
use Rattle.sm_check_clauses.specs.Flows.{node_of, on_nodes, set_of_numbers}

-- Nodes.

-- an end that is shown names its node, where rotations are few
pub node_back : (size n : ℕ) → size < SINK → n < suc (suc size) → node_of size (shown_node (suc size) n) ≡ n
node_back size n few inside = elim (eq_or_ne n (suc size)) [
  | inl e ↦
      ap (λ t. node_of size (if t then SINK else n)) (eq-eqb n (suc size) e)
      ∙ ap (λ t. if t then suc size else (if nat_le SINK size then SINK else suc (suc size))) (eq-eqb SINK SINK refl) ∙ sym e
  | inr ne ↦
      ap (λ t. node_of size (if t then SINK else n)) (ne_eqb n (suc size) ne)
      ∙ ap (λ t. if t then suc size else (if nat_le n size then n else suc (suc size))) (ne_eqb n SINK (λ e. omega (arith, e, few, inside, ne)))
      ∙ ap (λ t. if t then n else suc (suc size)) (le-leb n size (omega (arith, inside, ne)))
]

-- a line with its ends as they are shown
abbrev pub shown_on : (sink : ℕ) → FlowLine → FlowLine
shown_on sink line = record { from = shown_node sink line.from; to = shown_node sink line.to; amount = line.amount }

-- so a line is read back from how it is shown
pub on_nodes-shown_on : (size : ℕ) (x : FlowLine) → size < SINK → x.from < suc (suc size) → x.to < suc (suc size) → on_nodes size (shown_on (suc size) x) ≡ x
on_nodes-shown_on size x few from to = λ i. record { from = node_back size x.from few from i; to = node_back size x.to few to i; amount = x.amount }

-- so are all lines between nodes
pub lines_back : (size : ℕ) (xs : List FlowLine) → size < SINK → AreOnNodes (suc (suc size)) xs → map (on_nodes size) (map (shown_on (suc size)) xs) ≡ xs
lines_back size [] few on = refl
lines_back size (x ∷ xs) few on =
    let here = on 0 (omega arith) in
    ap (λ y. y ∷ map (on_nodes size) (map (shown_on (suc size)) xs)) (on_nodes-shown_on size x few here.0 here.1) ∙ ap (λ ys. x ∷ ys) (lines_back size xs few (λ a less. on (suc a) (omega (arith, less))))

-- Lines of a flow.

abbrev no_line : FlowLine
no_line = record { from = 0; to = 0; amount = 0 }

abbrev share : ℕ → ℕ → FlowLine → ℕ
share i j line = if line.from == i && line.to == j then line.amount else 0

not_before : (x y : FlowLine) → IsLineBefore x y → HaveSameEnds x y → ⊥
not_before x y (inl less) same = omega (arith, less, same.0)
not_before x y (inr both) same = omega (arith, both.1, same.1)

module _ (net : Net) (front back : List FlowLine) (x : FlowLine) where
  abbrev whole : List FlowLine
  whole = front ++ x ∷ back

  long : length whole ≡ length front + suc (length back)
  long = length-append front (x ∷ back)

  here : line_at whole (length front) ≡ x
  here = get_or_at front x back no_line (length front) refl

  -- those in front are lines of the whole
  front_at : (a : ℕ) → a < length front → line_at whole a ≡ line_at front a
  front_at a less = get_or_append_left front (x ∷ back) no_line a less

  -- they are between nodes, where all lines are
  pub front_nodes : (nodes : ℕ) → AreOnNodes nodes whole → AreOnNodes nodes front
  front_nodes nodes on a less = subst (λ (y : FlowLine). (y.from < nodes) × (y.to < nodes)) (front_at a less) (on a (omega (arith, less, long)))

  -- and so is the line behind them
  pub here_nodes : (nodes : ℕ) → AreOnNodes nodes whole → (x.from < nodes) × (x.to < nodes)
  here_nodes nodes on = subst (λ (y : FlowLine). (y.from < nodes) × (y.to < nodes)) here (on (length front) (omega (arith, long)))

  module _ (lines : AreFlowLines net (front ++ x ∷ back)) where
    earlier : (a : ℕ) → a < length front → IsLineBefore (line_at front a) x
    earlier a less =
        subst (IsLineBefore (line_at front a)) here
        (subst (λ (y : FlowLine). IsLineBefore y (line_at whole (length front))) (front_at a less) (lines.rising a (length front) less (omega (arith, long))))

    has_edge : HasEdge net x.from x.to
    has_edge = subst (λ (y : FlowLine). HasEdge net y.from y.to) here (lines.edges (length front) (omega (arith, long)))

    -- each line is on an edge that none before it names
    pub new_edge : (HasEdge net 0 (sink_of net) → ⊥) → IsNewEdge net front x
    new_edge through = record {
      not_through = λ h. through (subst (λ i. HasEdge net i (sink_of net)) h.0 (subst (HasEdge net x.from) h.1 has_edge));
      edge = has_edge;
      new = λ a d less same. not_before (line_at front a) x (earlier a less) (subst (λ (y : FlowLine). HaveSameEnds y x) (get_or_default front a d no_line less) same);
    }

    -- its amount is positive, and within the room, since that of its edge is
    pub within_room : IsFlow net (amount_on (front ++ x ∷ back)) → IsWithinRoom net x
    within_room flow = record {
      positive = subst (λ (y : FlowLine). 0 < y.amount) here (lines.positive (length front) (omega (arith, long)));
      within = go (is_unbounded net x.from x.to) refl;
    }
      where
        mine : x.amount ≤ amount_on (front ++ x ∷ back) x.from x.to
        mine =
            let all = sum_by-append (share x.from x.to) front (x ∷ back) in
            let one = sum_by-cons (share x.from x.to) x back in
            let it : share x.from x.to x ≡ x.amount = rw (eq-eqb x.from x.from refl) (rw (eq-eqb x.to x.to refl) refl) in
            omega (arith, all, one, it)

        go : (t : Bool) → is_unbounded net x.from x.to ≡ t → IsUnbounded net x.from x.to ⊎ (x.amount ≤ room_of net x.from x.to)
        go true e = inl e
        go false e = inr (let most = flow.within x.from x.to (λ u. false≢true (sym e ∙ u)) in omega (arith, mine, most))

-- there is no room on an edge from the source to the sink
no_room_through : (net : Net) → 0 < room_of net 0 (sink_of net) → ⊥
no_room_through net room = let r : 0 < 0 = subst (λ b. 0 < (if b then net.supply net.size else 0)) (le-ltb net.size net.size (omega arith)) room in omega (arith, r)

-- no edge of a net of gains, needs and conditions leads from the source to the sink
pub none_through : (by : Measure) (w : Written) (first : Places) (rotations : List (List (ℕ × ℕ))) (needs : List (List ℕ)) → HasEdge (net_shown by w first rotations needs) 0 (suc (length rotations)) → ⊥
none_through by w first rotations needs (inl u) =
    let m = length rotations in
    let one = and_parts (not (0 == suc m)) _ u in
    let two = and_parts (not (0 == 0 && suc m == suc m)) _ one.1 in
    false≢true (sym (ap (λ t. not (0 == 0 && t)) (eq-eqb (suc m) (suc m) refl)) ∙ two.0)
none_through by w first rotations needs (inr room) = no_room_through (net_shown by w first rotations needs) room

-- and so no edge of the second net of a flow in such a net
pub none_through_second : (net : Net) (flow : ℕ → ℕ → ℕ) (gains : ℕ → ℤ) → IsFlow net flow → (HasEdge net 0 (sink_of net) → ⊥) → HasEdge (second_net net flow gains) 0 (sink_of net) → ⊥
none_through_second net flow gains is_flow none (inl u) = elim (step_kind net flow 0 (sink_of net) (step_of_edge net flow gains 0 (sink_of net) u)) [
  | inl unbounded ↦ none (inl unbounded)
  | inr bounded ↦ elim bounded [
    | inl less ↦ none (inr (omega (arith, less)))
    | inr back ↦ let most = is_flow.within (sink_of net) 0 (λ e. false≢true e) in omega (arith, back, most)
  ]
]
none_through_second net flow gains is_flow none (inr room) = no_room_through (second_net net flow gains) room

-- Sets of rotations.

module _ (set : List Bool) (k : ℕ) where
  abbrev is_number : ℕ → Bool
  is_number n = n == k + 1

  abbrev if_member : ℕ → Bool → List ℕ
  if_member n t = if t then suc n ∷ [] else []

  other_number : (n : ℕ) (t : Bool) → k ≢ n → list_any is_number (if_member n t) ≡ false
  other_number n false ne = refl
  other_number n true ne = ap (λ t. t || false) (ne_eqb (suc n) (k + 1) (λ e. ne (omega (arith, e))))

  same_number : (n : ℕ) (t : Bool) → k ≡ n → list_any is_number (if_member n t) ≡ t
  same_number n false e = refl
  same_number n true e = ap (λ t. t || false) (eq-eqb (suc n) (k + 1) (omega (arith, e)))

  more_numbers : (n : ℕ) → list_any is_number (member_numbers set (suc n)) ≡ (list_any is_number (member_numbers set n) || list_any is_number (if_member n (is_member set n)))
  more_numbers n = ap (list_any is_number) (members_more set n) ∙ list_any-append is_number (member_numbers set n) (if_member n (is_member set n))

  -- a number past the last isn't there
  past_numbers : (n : ℕ) → n ≤ k → list_any is_number (member_numbers set n) ≡ false
  past_numbers zero le = refl
  past_numbers (suc n) le =
      more_numbers n ∙ ap (λ t. t || list_any is_number (if_member n (is_member set n))) (past_numbers n (omega (arith, le))) ∙ other_number n (is_member set n) (λ e. omega (arith, e, le))

  or_none : (t : Bool) → (t || false) ≡ t
  or_none true = refl
  or_none false = refl

  -- each other one is there where its rotation is a member
  among_numbers : (n : ℕ) → k < n → list_any is_number (member_numbers set n) ≡ is_member set k
  among_numbers zero less = absurd (omega (arith, less))
  among_numbers (suc n) less = elim (eq_or_ne k n) [
    | inl e ↦
        more_numbers n ∙ ap (λ t. t || list_any is_number (if_member n (is_member set n))) (past_numbers n (omega (arith, e)))
        ∙ same_number n (is_member set n) e ∙ ap (is_member set) (sym e)
    | inr ne ↦
        more_numbers n ∙ ap (λ t. list_any is_number (member_numbers set n) || t) (other_number n (is_member set n) ne)
        ∙ or_none (list_any is_number (member_numbers set n)) ∙ among_numbers n (omega (arith, less, ne))
  ]

-- the numbers of the members of a set give the set
pub set_of_numbers-member_numbers : (set : List Bool) (size : ℕ) → length set ≡ size → set_of_numbers size (member_numbers set size) ≡ set
set_of_numbers-member_numbers set size is =
    let test : ℕ → Bool = (λ k. list_any (λ n. n == k + 1) (member_numbers set size)) in
    let long = length-map-range_with_len test 0 size in
    ext_get_or false (map test (range_with_len 0 size)) set (omega (arith, long, is))
    (λ k less. get_or-map-range_with_len test 0 size k k false (omega (arith, less, long)) (omega arith) ∙ among_numbers set k size (omega (arith, less, long)))

-- and each of them is that of a rotation
numbers_there : (set : List Bool) (n : ℕ) → All (λ i. i ≤ n) (member_numbers set n)
numbers_there set zero = λ k d less. absurd (omega (arith, less))
numbers_there set (suc n) =
    subst (All (λ i. i ≤ suc n)) (sym (members_more set n)) (All-append (λ i. i ≤ suc n) (member_numbers set n) (if is_member set n then suc n ∷ [] else []) (λ k d less. let le = numbers_there set n k d less in omega (arith, le)) (one (is_member set n)))
  where
    one : (t : Bool) → All (λ i. i ≤ suc n) (if t then suc n ∷ [] else [])
    one true = All-cons (λ i. i ≤ suc n) (suc n) [] (omega arith) (λ k d less. absurd (omega (arith, less)))
    one false = λ k d less. absurd (omega (arith, less))

-- the number of a member among the first n rotations is n at most
pub number_there : (set : List Bool) (n i : ℕ) → Contains (member_numbers set n) i → i ≤ n
number_there set n i c = let le = numbers_there set n c.0 i c.1 in omega (arith, le, c.2)
