-- Bytes that are written over behind what a writer holds.
use Rattle.std.proofs.Common.{◌≡◌, ℕ, ◌+◌, ◌≤◌, ◌++◌, List, length, take, sym, ap, ◌∙◌, arith, length-take-le}
use Rattle.std.proofs.Math.Seq.{take-append-add}
use Rattle.std.proofs.lemmas.List.{take-take}

-- where n bytes stand behind the first ones now, the first k of them do
pub written_over : (old now new : List ℕ) (from n k : ℕ) → from ≤ length old → k ≤ n
    → take (from + n) now ≡ take from old ++ new → take (from + k) now ≡ take from old ++ take k new
written_over old now new from n k within few is =
    sym (take-take (from + k) (from + n) now (omega arith)) ∙ ap (take (from + k)) is
    ∙ ap (λ m. take (m + k) (take from old ++ new)) (sym (length-take-le from old within)) ∙ take-append-add (take from old) new k
