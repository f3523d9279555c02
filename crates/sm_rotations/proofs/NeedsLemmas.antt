-- What the steps of `needs` read and write.
use Rattle.std.proofs.Common.{◌≡◌, ℕ, suc, ◌+◌, ◌<◌, arith, sym, ap, ◌∙◌, List, [], length, get_or}
use Rattle.std.proofs.lemmas.List.{get_or-map, length-map}
use Rattle.sm_market.specs.Lists.{Lists}
use Rattle.sm_market.specs.Matching.{Places}
use Rattle.sm_theory.specs.Rotations.{IsExposed, eliminated}
use Rattle.sm_theory.specs.Chains.{rotation_at, stage, AreEliminable}
use Rattle.sm_theory.specs.Values.{rotations_of}
use Rattle.sm_theory.specs.declared.rotations.Rotation.{Rotation}

-- the pairs of a rotation that is held in a value
pub pairs_read : (rotations : List Rotation) (j : ℕ) (r : Rotation) → j < length rotations → r ≡ get_or rotations j r → r.pairs.items ≡ rotation_at (rotations_of rotations) j
pairs_read rotations j r inside is = ap (λ (r : Rotation). r.pairs.items) is ∙ sym (get_or-map (λ (r : Rotation). r.pairs.items) rotations j r [] inside)

-- there is one list of pairs for each rotation that is held
pub as_many : (rotations : List Rotation) → length (rotations_of rotations) ≡ length rotations
as_many rotations = length-map rotations (λ (r : Rotation). r.pairs.items)

-- a stage and the rotation exposed at it
module _ {l : Lists} {first m : Places} {rotations : List (List (ℕ × ℕ))} (chain : AreEliminable l first rotations) {j : ℕ} (inside : j < length rotations) (is : m ≡ stage l first rotations j) where
  -- rotation j is exposed at its stage
  pub exposed_here : (pairs : List (ℕ × ℕ)) → pairs ≡ rotation_at rotations j → IsExposed l m pairs
  exposed_here pairs e = rw (is, e) (chain.exposed j inside)

  -- and eliminating it leads to the next stage
  pub next_stage : {n : Places} (pairs : List (ℕ × ℕ)) → pairs ≡ rotation_at rotations j → n ≡ eliminated l m pairs → n ≡ stage l first rotations (j + 1)
  next_stage pairs e n_is = let same : j + 1 ≡ suc j = omega arith in rw same (n_is ∙ ap (λ m. eliminated l m pairs) is ∙ ap (eliminated l (stage l first rotations j)) e)
