-- Weights that are read.
use Rattle.std.proofs.Common.{◌≡◌, ℕ, ◌<◌, ap, ◌∙◌, List, Vec, length, slice_index_or, ℤ, pos}
use Rattle.std.specs.declared.alloc.Global.{Global}
use Rattle.std.proofs.lemmas.List.{get_or_default}
use Rattle.sm_theory.specs.Weights.{weight_at}
use Rattle.sm_lists.proofs.RowLemmas.{vector_read}
use Rattle.sm_weight.specs.Sizes.{weights_in, place_weights}

-- the weight of a place, where it is read
pub weight_long : (weights : List (Vec ℤ Global)) (p : ℕ) (v : Vec ℤ Global) → p < length weights → v ≡ slice_index_or weights p v → length v.items ≡ length (place_weights (weights_in weights) p)
weight_long weights p v less is = ap (λ (v : Vec ℤ Global). length v.items) is ∙ ap length (vector_read weights p v less)

-- a weight that is read of the vectors is the weight of its place
pub weight_read : (weights : List (Vec ℤ Global)) (p i : ℕ) (v : Vec ℤ Global) (z : ℤ) → p < length weights → v ≡ slice_index_or weights p v → i < length v.items → z ≡ slice_index_or v.items i z → z ≡ weight_at (weights_in weights) p i
weight_read weights p i v z less is inside read =
    read ∙ get_or_default v.items i z (pos 0) inside
    ∙ ap (λ (xs : List ℤ). slice_index_or xs i (pos 0)) (ap (λ (v : Vec ℤ Global). v.items) is ∙ vector_read weights p v less)
