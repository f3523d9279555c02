use Rattle.std.proofs.Common.{◌≡◌, ◌<◌, ℕ, ℤ, List, get_or, pos, w64, sym, subst, length, arith, IfOk}
use Rattle.std.specs.Int.RustNames.{FitsSigned}
use Rattle.std.proofs.lemmas.Int.{to_z-of_z}
use Rattle.serde_json.specs.View.{view}
use Rattle.serde_json.specs.declared.value.Value.{Value}
use Rattle.sm_agents.specs.Sound.{IsPairOf}
use Rattle.sm_agents.specs.Vectors.{agents_of}
use Rattle.sm_agents.specs.Written.{weighed}
use Rattle.sm_instance_lines.specs.Names.{said_weight}
use Rattle.sm_json.specs.Making.{weight_json}
use Rattle.sm_json.proofs.MakeLemmas.{small_fits}
use Rattle.sm_json.proofs.SoundLemmas.{weight_small}
use Rattle.sm_json.proofs.making.weight_at.Goals as goal

pub weight_value-requires-clause-pair : goal.weight_value-requires-clause-pair
weight_value-requires-clause-pair c =
    subst (λ (xs : List (ℕ × ℕ × ℤ)). IsPairOf (length c.args.proposers.now) (length c.args.reviewers.now) (weighed (get_or xs c.args.n (0, 0, pos 0)))) (sym c.weights-weights.ensures)
    (c.requires.pairs c.args.n (0, 0, pos 0) c.requires.there)

pub returns : goal.returns
returns c =
    let said = said_weight (agents_of c.args.proposers.now) (agents_of c.args.reviewers.now) in
    let weights = c.weights-weights.result.now in
    let seconds = c.seconds-seconds.result.now in
    let n = c.args.n in
    let w = c.args.instance.now in
    let sound = c.requires.instance in
    let there : n < length w.seconds = let below = c.requires.there in omega (arith, below, sound.seconds_each) in
    let fits : FitsSigned w64 (get_or weights n (0, 0, pos 0)).2 = subst (λ (xs : List (ℕ × ℕ × ℤ)). FitsSigned w64 (get_or xs n (0, 0, pos 0)).2) (sym c.weights-weights.ensures)
    (small_fits _ (weight_small w sound n (0, 0, pos 0) c.requires.there)) in
    let further : FitsSigned w64 (get_or seconds n (pos 0)) = subst (λ (zs : List ℤ). FitsSigned w64 (get_or zs n (pos 0))) (sym c.seconds-seconds.ensures.seconds) (small_fits _ (sound.seconds_small n (pos 0) there)) in
    let here : IfOk c.weight_value.result (λ (v : Value). view v ≡ weight_json (said (get_or weights n (0, 0, pos 0), get_or seconds n (pos 0)))) = simp to_z-of_z at c.weight_value.ensures in
    subst (λ (zs : List ℤ). IfOk c.weight_value.result (λ (v : Value). view v ≡ weight_json (said (get_or c.args.instance.now.weights n (0, 0, pos 0), get_or zs n (pos 0))))) c.seconds-seconds.ensures.seconds
    (subst (λ (xs : List (ℕ × ℕ × ℤ)). IfOk c.weight_value.result (λ (v : Value). view v ≡ weight_json (said (get_or xs n (0, 0, pos 0), get_or seconds n (pos 0))))) c.weights-weights.ensures here)
