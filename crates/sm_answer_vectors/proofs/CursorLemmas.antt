-- Vectors behind which others are listed.
use Rattle.std.proofs.Common.{◌≡◌, ℕ, ◌∙◌, List, Option, Some, None, Vec, length, MatchOption, ap, sym}
use Rattle.std.specs.declared.alloc.Global.{Global}
use Rattle.std.proofs.lemmas.Option.{none-some, same_Some}
use Rattle.sm_answer_vectors.specs.VectorAnswer.{IsCursor, cursor_in}

-- a copy of a vector is as long
pub cursor_long : {n m : ℕ} (copy after : Option (Vec ℕ Global)) → cursor_in copy ≡ cursor_in after → n ≡ m → IsCursor n (cursor_in after) → MatchOption copy (Unit {0}) (λ v. length v.items ≡ m)
cursor_long None after e same long = tt
cursor_long (Some u) None e same long = absurd (none-some _ (sym e))
cursor_long (Some u) (Some v) e same long = ap (λ (xs : List ℕ). length xs) (same_Some _ _ e) ∙ long ∙ same
