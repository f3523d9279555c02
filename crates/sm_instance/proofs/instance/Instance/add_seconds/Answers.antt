use Rattle.std.proofs.Common.{◌≡◌, ◌≢◌, ◌<◌, ◌≤◌, ◌∙◌, ℕ, ℤ, List, Option, sym, ap, subst, length, map, take, drop, ◌++◌, arith, pos, unwrap_or}
use Rattle.std.specs.List.{All}
use Rattle.std.specs.Int.RustNames.{unsigned_abs}
use Rattle.std.proofs.lemmas.List.{length-map}
use Rattle.sm_text.specs.Limits.{most_weight}
use Rattle.sm_lists.specs.Pairs.{pair_at}
use Rattle.sm_lists.proofs.ResultLemmas.{take-append_at_length}
use Rattle.sm_agents.specs.Written.{Written, weighed, seconds_among}
use Rattle.sm_agents.specs.Vectors.{written_with}
use Rattle.sm_agents.specs.Faults.{IsSecondFault, IsSoundSecond}
use Rattle.sm_agents.specs.Checks.{AreGiven, IsGivenFault}
use Rattle.sm_instance.specs.Kept.{IsKept}
use Rattle.sm_agents.proofs.FaultLemmas.{on_err}
use Rattle.sm_agents.proofs.ItemLemmas.{length-weighed, weights_differ}
use Rattle.sm_agents.proofs.SecondLemmas.{given_small, given_seconds, second_sound, second_faulty}
use Rattle.sm_instance.proofs.KeptLemmas.{kept_with_seconds}
use Rattle.sm_instance.proofs.instance.Instance.add_seconds.Goals as goal

pub checked_seconds-requires-clause-differ : goal.checked_seconds-requires-clause-differ
checked_seconds-requires-clause-differ c =
    let i = c.self.inside in
    let weights = i.weights.items in
    let Differ : List (ℕ × ℕ) → Type 0 = λ pairs. (n k : ℕ) → k < n → n < length pairs → pair_at pairs k ≢ pair_at pairs n in
    subst Differ (sym c.self.invariant.weighed_pairs)
    (λ n k before l. weights_differ weights i.forced.items i.forbidden.items c.self.invariant.instance.items n k before (omega (arith, l, length-weighed weights)))

pub returns-in_err-given-clause-fault : goal.returns-in_err-given-clause-fault
returns-in_err-given-clause-fault c =
    let fault = c.in_err-given.field-0.0 in
    let items = c.args.seconds.items in
    let kept = c.self.invariant in
    let P : List (ℕ × ℕ) → Type 0 = λ pairs. IsGivenFault pairs items fault in
    let Q : List (ℕ × ℕ × ℤ) → Type 0 = λ seconds. IsGivenFault c.self.inside.weighed seconds fault in
    let R : Written → Type 0 = λ w. IsSecondFault w items fault in
    let given : P (map weighed c.self.inside.weights.items) = subst P kept.weighed_pairs (subst Q c.deref.ensures.value c.in_err-given.ensures.fault) in
    on_err (IsSecondFault c.args.self.now items) fault c.from_residual.result c.from_residual.ensures.1 (subst R c.self.view_is (second_faulty kept.instance items fault given))

-- the second weights that are set
abbrev anew : goal.After-drop-seconds-2 → List ℤ
anew c = c.set_seconds.new.seconds

-- what was checked of the items
given : (c : goal.After-drop-seconds-2) → AreGiven (map weighed c.self.inside.weights.items) c.args.seconds.items (length c.args.seconds.items) c.in_ok-given.given.items
given c =
    let items = c.args.seconds.items in
    let P : List (ℕ × ℕ) → Type 0 = λ pairs. AreGiven pairs items (length items) c.in_ok-given.given.items in
    let Q : List (ℕ × ℕ × ℤ) → Type 0 = λ seconds. AreGiven c.self.inside.weighed seconds (length seconds) c.in_ok-given.given.items in
    subst P c.self.invariant.weighed_pairs (subst Q c.deref.ensures.value c.in_ok-given.ensures.given)

-- those that are set are those that are given
set_is : (c : goal.After-drop-seconds-2) → anew c ≡ map (λ (o : Option ℤ). unwrap_or o (pos 0)) c.in_ok-given.given.items
set_is c = c.set_seconds.ensures ∙ ap (map (λ (o : Option ℤ). unwrap_or o (pos 0))) c.deref-2.ensures.value

-- there is one beside each weight
long : (c : goal.After-drop-seconds-2) → length (anew c) ≡ length c.self.inside.weights.items
long c = ap length (set_is c) ∙ length-map c.in_ok-given.given.items (λ (o : Option ℤ). unwrap_or o (pos 0)) ∙ (given c).one_each ∙ length-weighed c.self.inside.weights.items

-- they are all that there are
whole : (c : goal.After-drop-seconds-2) → take c.self.inside.seconds.len (anew c ++ drop (length (anew c)) c.self.inside.seconds.items) ≡ anew c
whole c = take-append_at_length c.self.inside.seconds.len (anew c) _ (omega (arith, long c, c.self.invariant.instance.seconds_each, c.self.inside.seconds.ok.0))

pub invariant_of-self : goal.invariant_of-self
invariant_of-self c =
    let i = c.self.inside in
    let P : List ℤ → Type 0 = λ s. IsKept (written_with i.kind i.proposers.items i.reviewers.items i.weights.items i.forced.items i.forbidden.items s i.order.items) i.weighed i.crosses i.names i.spaced in
    let small = subst (All (λ s. unsigned_abs s ≤ most_weight)) (sym (set_is c)) (given_small (given c)) in
    subst P (sym (whole c)) (kept_with_seconds c.self.invariant (anew c) (long c) small)

pub returns-clause-done : goal.returns-clause-done
returns-clause-done c =
    let i = c.self.inside in
    let items = c.args.seconds.items in
    ap (λ s. written_with i.kind i.proposers.items i.reviewers.items i.weights.items i.forced.items i.forbidden.items s i.order.items) (whole c ∙ set_is c ∙ given_seconds i.weights.items items c.in_ok-given.given.items (given c))
    ∙ ap (λ (w : Written). record w { seconds = seconds_among w.weights items }) c.self.view_is

pub returns-clause-sound : goal.returns-clause-sound
returns-clause-sound c =
    let items = c.args.seconds.items in
    λ n l. subst (λ (w : Written). IsSoundSecond w items n) c.self.view_is (second_sound c.self.invariant.instance items n ((given c).sound n l))
