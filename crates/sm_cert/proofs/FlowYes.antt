-- The lines of a flow, each on a new edge and within its room, are within the rooms of the net.
use Rattle.std.proofs.Common.{◌≡◌, ◌≢◌, ℕ, suc, ◌+◌, ◌<◌, ◌≤◌, ◌==◌, ◌&&◌, ◌⊎◌, inl, inr, arith, refl, sym, List, [], ◌∷◌, ◌++◌, length, if◌then◌else◌, subst, length-append, eq-eqb, ne_eqb, ⊎_elim}
use Rattle.std.specs.Prelude.{sum_by}
use Rattle.std.proofs.lemmas.Bool.{cases_lt, cases_eq}
use Rattle.std.proofs.lemmas.List.{get_or_append_left, get_or_push}
use Rattle.std.proofs.lemmas.List.Sums.{sum_by-append, sum_by-cons}
use Rattle.std.proofs.lemmas.List.Elements.{All-get_or}
use Rattle.sm_theory.specs.Net.{Net, sink_of, room_of, IsUnbounded}
use Rattle.sm_theory.specs.FlowLines.{line_at, amount_on, AreOnNodes, AreWithin, HaveSameEnds, IsNewEdge, IsWithinRoom}
use Rattle.sm_theory.specs.declared.flow_lines.FlowLine.{FlowLine}

abbrev share : ℕ → ℕ → FlowLine → ℕ
share i j line = if line.from == i && line.to == j then line.amount else 0

-- nothing on an edge that no line names
none_on : (i j : ℕ) (lines : List FlowLine) → ((a : ℕ) → a < length lines → ¬ (((line_at lines a).from ≡ i) × ((line_at lines a).to ≡ j))) → amount_on lines i j ≡ 0
none_on i j [] none = refl
none_on i j (x ∷ xs) none =
    let e = sum_by-cons (share i j) x xs in
    let deep = none_on i j xs (λ a less same. none (suc a) (omega (arith, less)) same) in
    let here = nothing (cases_eq x.from i) (cases_eq x.to j) in
    omega arith
  where
    nothing : (x.from ≡ i) ⊎ (x.from ≢ i) → (x.to ≡ j) ⊎ (x.to ≢ j) → share i j x ≡ 0
    nothing (inl a) (inl b) = absurd (none 0 (omega arith) (a, b))
    nothing (inl a) (inr b) = rw (eq-eqb x.from i a) (rw (ne_eqb x.to j b) refl)
    nothing (inr a) b = rw (ne_eqb x.from i a) refl

-- lines between nodes of the net, of which each edge has no more than its room
pub record IsSoundFlow (net : Net) (lines : List FlowLine) : Type 0 where
  pub nodes : AreOnNodes (suc (sink_of net)) lines
  pub within : AreWithin net lines

-- no lines are such
pub no_flow : (net : Net) → IsSoundFlow net []
no_flow net = record { nodes = λ a less. absurd (omega arith); within = λ i j bounded. omega arith }

-- with one more, on a new edge and within its room, they are still such
pub one_flow : (net : Net) (lines : List FlowLine) (x : FlowLine) → IsSoundFlow net lines → IsNewEdge net lines x → IsWithinRoom net x → x.from < suc (sink_of net) → x.to < suc (sink_of net) → IsSoundFlow net (lines ++ x ∷ [])
one_flow net lines x k n r from to = record {
  nodes = λ a less.
      let long = length-append lines (x ∷ []) in
      let none : FlowLine = record { from = 0; to = 0; amount = 0 } in
      ⊎_elim
      (λ (below : a < length lines). subst (λ (y : FlowLine). (y.from < suc (sink_of net)) × (y.to < suc (sink_of net))) (sym (get_or_append_left lines (x ∷ []) none a below)) (k.nodes a below))
      (λ (past : length lines ≤ a). subst (λ (y : FlowLine). (y.from < suc (sink_of net)) × (y.to < suc (sink_of net))) (sym (get_or_push lines x none a (omega (arith, past, less, long)))) (from, to))
      (cases_lt a (length lines));
  within = λ i j bounded. here i j bounded (cases_eq x.from i) (cases_eq x.to j);
}
  where
    sum : (i j : ℕ) → amount_on (lines ++ x ∷ []) i j ≡ amount_on lines i j + share i j x
    sum i j =
        let all = sum_by-append (share i j) lines (x ∷ []) in
        let one = sum_by-cons (share i j) x [] in
        let none : sum_by (share i j) [] ≡ 0 = refl in
        omega arith

    old : amount_on lines x.from x.to ≡ 0
    old = none_on x.from x.to lines (λ a less same. All-get_or (λ (other : FlowLine). ¬ HaveSameEnds other x) lines a (record { from = 0; to = 0; amount = 0 }) less n.new same)

    room : ¬ IsUnbounded net x.from x.to → x.amount ≤ room_of net x.from x.to
    room bounded = elim r.within [ inl u ↦ absurd (bounded u) | inr le ↦ le ]

    here : (i j : ℕ) → ¬ IsUnbounded net i j → (x.from ≡ i) ⊎ (x.from ≢ i) → (x.to ≡ j) ⊎ (x.to ≢ j) → amount_on (lines ++ x ∷ []) i j ≤ room_of net i j
    here i j bounded (inl a) (inl b) =
        subst (λ (u : ℕ). amount_on (lines ++ x ∷ []) u j ≤ room_of net u j) a
        (subst (λ (v : ℕ). amount_on (lines ++ x ∷ []) x.from v ≤ room_of net x.from v) b
        (let bounded' : ¬ IsUnbounded net x.from x.to = (λ u. bounded (subst (λ (v : ℕ). IsUnbounded net i v) b (subst (λ (u : ℕ). IsUnbounded net u x.to) a u))) in
        let s = sum x.from x.to in
        let o = old in
        let le = room bounded' in
        let mine : share x.from x.to x ≡ x.amount = rw (eq-eqb x.from x.from refl) (rw (eq-eqb x.to x.to refl) refl) in
        omega arith))
    here i j bounded (inl a) (inr b) =
        let s = sum i j in
        let le = k.within i j bounded in
        let none : share i j x ≡ 0 = rw (eq-eqb x.from i a) (rw (ne_eqb x.to j b) refl) in
        omega arith
    here i j bounded (inr a) b =
        let s = sum i j in
        let le = k.within i j bounded in
        let none : share i j x ≡ 0 = rw (ne_eqb x.from i a) refl in
        omega arith
