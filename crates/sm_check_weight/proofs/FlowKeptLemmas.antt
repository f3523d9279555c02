-- What is kept of a flow and of its value, with one line more.
use Rattle.std.proofs.Common.{◌≡◌, ℕ, ◌+◌, ◌<◌, inl, inr, List, [], ◌∷◌, ◌++◌, length, map, take, get_or, Option, None, Some, refl, sym, ap, ◌∙◌, subst, arith, length-append}
use Rattle.std.specs.Prelude.{filter_map}
use Rattle.std.specs.List.{slice_get, cons_option}
use Rattle.std.specs.Option.{option_or}
use Rattle.std.proofs.lemmas.Bool.{cases_lt}
use Rattle.std.proofs.lemmas.List.{length-map, map-append, length_push, get_or_append_left, get_or_push, length-take, take-append-le, take_all}
use Rattle.std.proofs.lemmas.List.Elements.{filter_map-append}
use Rattle.sm_theory.specs.Net.{Net}
use Rattle.sm_theory.specs.FlowLines.{AreOnNodes, line_at}
use Rattle.sm_theory.specs.declared.flow_lines.FlowLine.{FlowLine}
use Rattle.sm_report.specs.Lines.{LineData}
use Rattle.sm_check_clauses.specs.Flows.{on_nodes}
use Rattle.sm_check_clauses.proofs.AnswerLemmas.{first_more, said_same, said_one}
use Rattle.sm_check_weight.specs.declared.flow_lines.Flow.{Flow}
use Rattle.sm_check_weight.specs.declared.said.SaidFlow.{SaidFlow}
use Rattle.sm_check_weight.specs.Kept.{IsFlowOf, IsFlowOn, IsNextLine, IsSaidOf}

-- lists of flow lines
push_more : (xs : List FlowLine) (x : FlowLine) (ys : List FlowLine) → xs ++ x ∷ ys ≡ (xs ++ x ∷ []) ++ ys
push_more [] x ys = refl
push_more (y ∷ xs) x ys = ap (λ (fs : List FlowLine). y ∷ fs) (push_more xs x ys)

get_or_at : (xs : List FlowLine) (x : FlowLine) (ys : List FlowLine) (d : FlowLine) (n : ℕ) → length xs ≡ n → get_or (xs ++ x ∷ ys) n d ≡ x
get_or_at xs x ys d n e = ap (λ (fs : List FlowLine). get_or fs n d) (push_more xs x ys) ∙ get_or_append_left (xs ++ x ∷ []) ys d n (omega (arith, e, length_push xs x)) ∙ get_or_push xs x d n e

take_front : (xs ys : List FlowLine) (n : ℕ) → length xs ≡ n → take n (xs ++ ys) ≡ xs
take_front xs ys n e = take-append-le n xs ys (omega (arith, e)) ∙ take_all n xs (omega (arith, e))

on_nodes_more : (n : ℕ) (xs : List FlowLine) (x : FlowLine) → AreOnNodes n xs → (x.from < n) × (x.to < n) → AreOnNodes n (xs ++ x ∷ [])
on_nodes_more n xs x all one a less = elim (cases_lt a (length xs)) [
  | inl below ↦ subst (λ (f : FlowLine). (f.from < n) × (f.to < n)) (sym (get_or_append_left xs (x ∷ []) _ a below)) (all a below)
  | inr past ↦ subst (λ (f : FlowLine). (f.from < n) × (f.to < n)) (sym (get_or_push xs x _ a (omega (arith, past, less, length_push xs x)))) one
]

module _ {size : ℕ} {said : LineData → Option FlowLine} {lines above : List LineData} {flow : Flow} (f : IsFlowOf size said lines above flow) where
  -- those that were judged are there, on the nodes of a net
  pub on_net : (net : Net) → size ≡ net.size → IsFlowOn net flow
  on_net net same = record {
    long =
        let judged : length (take flow.count flow.lines.items) ≡ length (filter_map said above) = ap (λ (fs : List FlowLine). length fs) f.front ∙ length-map (filter_map said above) (on_nodes size) in
        let most = length-take flow.count flow.lines.items in
        omega (arith, judged, most, f.count);
    nodes = subst (λ (n : ℕ). AreOnNodes (n + 2) (take flow.count flow.lines.items)) same (subst (AreOnNodes (size + 2)) (sym f.front) f.nodes);
  }

  module _ (x : LineData) where
    -- a line that is none of the flow
    pub flow_same : said x ≡ None → IsFlowOf size said lines (above ++ x ∷ []) flow
    flow_same none =
        let same : filter_map said (above ++ x ∷ []) ≡ filter_map said above = said_same said above x none in
        record {
          all = f.all;
          repeats = f.repeats;
          count = f.count ∙ sym (ap (λ (fs : List FlowLine). length fs) same);
          front = f.front ∙ sym (ap (map (on_nodes size)) same);
          nodes = subst (λ (fs : List FlowLine). AreOnNodes (size + 2) (map (on_nodes size) fs)) (sym same) f.nodes;
        }

    -- the next one of it
    module _ (next : IsNextLine lines above x) (line : FlowLine) (is : said x ≡ Some line) where
      parts : filter_map said lines ≡ filter_map said above ++ line ∷ filter_map said next.below
      parts =
          ap (λ (xs : List LineData). filter_map said xs) next.is ∙ filter_map-append said above (x ∷ next.below)
          ∙ ap (λ (o : Option FlowLine). filter_map said above ++ cons_option o (filter_map said next.below)) is

      all : flow.lines.items ≡ map (on_nodes size) (filter_map said above) ++ on_nodes size line ∷ map (on_nodes size) (filter_map said next.below)
      all = f.all ∙ ap (map (on_nodes size)) parts ∙ map-append (on_nodes size) (filter_map said above) (line ∷ filter_map said next.below)

      count_is : length (map (on_nodes size) (filter_map said above)) ≡ flow.count
      count_is = length-map (filter_map said above) (on_nodes size) ∙ sym f.count

      shown : map (on_nodes size) (filter_map said (above ++ x ∷ [])) ≡ map (on_nodes size) (filter_map said above) ++ on_nodes size line ∷ []
      shown = ap (map (on_nodes size)) (said_one said above x line is) ∙ map-append (on_nodes size) (filter_map said above) (line ∷ [])

      -- it is there
      pub flow_next : flow.count < length flow.lines.items
      flow_next =
          let long = ap (λ (fs : List FlowLine). length fs) parts ∙ length-append (filter_map said above) (line ∷ filter_map said next.below) in
          let same = ap (λ (fs : List FlowLine). length fs) f.all ∙ length-map (filter_map said lines) (on_nodes size) in
          omega (arith, long, same, f.count)

      -- it is that of this number
      pub flow_at : line_at flow.lines.items flow.count ≡ on_nodes size line
      flow_at = ap (λ (fs : List FlowLine). line_at fs flow.count) all ∙ get_or_at (map (on_nodes size) (filter_map said above)) (on_nodes size line) (map (on_nodes size) (filter_map said next.below)) _ flow.count count_is

      -- it is judged
      pub flow_more : (after : Flow) → after.lines ≡ flow.lines → after.repeats ≡ flow.repeats → after.count ≡ flow.count + 1 → ((on_nodes size line).from < size + 2) × ((on_nodes size line).to < size + 2)
          → IsFlowOf size said lines (above ++ x ∷ []) after
      flow_more after same_lines same_repeats counted there =
          let long : length (filter_map said (above ++ x ∷ [])) ≡ length (filter_map said above) + 1 = (let a = ap (λ (fs : List FlowLine). length fs) (said_one said above x line is) in omega (arith, a, length_push (filter_map said above) line)) in
          let one : after.count ≡ length (filter_map said (above ++ x ∷ [])) = omega (arith, counted, f.count, long) in
          let many : length (map (on_nodes size) (filter_map said (above ++ x ∷ []))) ≡ after.count = length-map (filter_map said (above ++ x ∷ [])) (on_nodes size) ∙ sym one in
          let split : after.lines.items ≡ map (on_nodes size) (filter_map said (above ++ x ∷ [])) ++ map (on_nodes size) (filter_map said next.below) =
          ap (λ v. v.items) same_lines ∙ all ∙ push_more (map (on_nodes size) (filter_map said above)) (on_nodes size line) (map (on_nodes size) (filter_map said next.below))
          ∙ ap (λ (fs : List FlowLine). fs ++ map (on_nodes size) (filter_map said next.below)) (sym shown) in
          record {
            all = ap (λ v. v.items) same_lines ∙ f.all;
            repeats = rw (same_lines, same_repeats) f.repeats;
            count = one;
            front = ap (take after.count) split ∙ take_front (map (on_nodes size) (filter_map said (above ++ x ∷ []))) (map (on_nodes size) (filter_map said next.below)) after.count many;
            nodes = subst (AreOnNodes (size + 2)) (sym shown) (on_nodes_more (size + 2) (map (on_nodes size) (filter_map said above)) (on_nodes size line) f.nodes there);
          }

module _ {size : ℕ} {flow_said : LineData → Option FlowLine} {value_said : LineData → Option ℕ} {lines above : List LineData} {said : SaidFlow} (s : IsSaidOf size flow_said value_said lines above said) (x : LineData) where
  value_before : value_said x ≡ None → said.value ≡ slice_get (filter_map value_said (above ++ x ∷ [])) 0
  value_before none = s.value ∙ sym (ap (λ (xs : List ℕ). slice_get xs 0) (said_same value_said above x none))

  -- a line that says nothing of both
  pub said_before : flow_said x ≡ None → value_said x ≡ None → IsSaidOf size flow_said value_said lines (above ++ x ∷ []) said
  said_before no_flow none = record { flow = flow_same s.flow x no_flow; value = value_before none }

  -- a value, which is kept where it is the first one
  pub value_more : flow_said x ≡ None → (value : ℕ) → value_said x ≡ Some value → (after : SaidFlow) → after.flow ≡ said.flow → after.value ≡ option_or said.value (Some value)
      → IsSaidOf size flow_said value_said lines (above ++ x ∷ []) after
  value_more no_flow value is after same first = record {
    flow = subst (IsFlowOf size flow_said lines (above ++ x ∷ [])) (sym same) (flow_same s.flow x no_flow);
    value =
        first ∙ ap (λ (o : Option ℕ). option_or o (Some value)) s.value
        ∙ sym (ap (λ (xs : List ℕ). slice_get xs 0) (filter_map-append value_said above (x ∷ [])) ∙ first_more value_said (filter_map value_said above) x ∙ ap (option_or (slice_get (filter_map value_said above) 0)) is);
  }

  -- a line of the flow
  pub line_more : value_said x ≡ None → IsNextLine lines above x → (line : FlowLine) → flow_said x ≡ Some line → (after : SaidFlow) → after.value ≡ said.value → after.flow.lines ≡ said.flow.lines → after.flow.repeats ≡ said.flow.repeats
      → after.flow.count ≡ said.flow.count + 1 → ((on_nodes size line).from < size + 2) × ((on_nodes size line).to < size + 2) → IsSaidOf size flow_said value_said lines (above ++ x ∷ []) after
  line_more none next line is after same same_lines same_repeats counted there = record {
    flow = flow_more s.flow x next line is after.flow same_lines same_repeats counted there;
    value = same ∙ value_before none;
  }
