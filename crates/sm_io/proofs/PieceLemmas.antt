-- Bytes that are given piece by piece.
use Rattle.std.proofs.Common.{◌≡◌, ℕ, ◌+◌, ◌-◌, ◌≤◌, List, ◌++◌, length, take, drop, sym, length-drop, arith}
use Rattle.std.proofs.lemmas.List.{take-append-drop, drop-drop, length-take-le, take_at, take_rest}

-- what was left is what a call wrote to the front of a buffer, and what is left then
pub given_bytes : (bytes into : List ℕ) (start n : ℕ) → n ≤ length bytes - start
    → drop start bytes ≡ take n (take n (take (length bytes - start) (drop start bytes)) ++ drop n into) ++ drop (start + n) bytes
given_bytes bytes into start n fits =
    let left = drop start bytes in
    let enough : n ≤ length left = omega (arith, length-drop start bytes) in
    rw (take_rest bytes start, take_at (take n left) (drop n into) n (length-take-le n left enough), ← drop-drop n start bytes) (sym (take-append-drop n left))
