-- What is known of a sink's bytes after several calls.
use Rattle.std.proofs.Common.{◌≡◌, ℕ, ◌+◌, ◌≤◌, min, List, [], ◌++◌, length, take, Option, None, Some, sym, ap, ◌∙◌, append-nil, append_assoc, arith}
use Rattle.std.proofs.Math.Seq.{take-append-add, take-length}
use Rattle.std.proofs.lemmas.List.{take-append-le, take_min}
use Rattle.sm_io.specs.Sink.{Grows, IsPart}

-- no call puts nothing
pub Grows-nil : (a : Option (List ℕ)) → Grows a a []
Grows-nil None = tt
Grows-nil (Some held) = sym (append-nil held)

-- the texts of one call after another are joined
pub Grows-trans : (a b c : Option (List ℕ)) (xs ys : List ℕ) → Grows a b xs → Grows b c ys → Grows a c (xs ++ ys)
Grows-trans a b None xs ys p q = tt
Grows-trans a None (Some now) xs ys p q = absurd q
Grows-trans None (Some mid) (Some now) xs ys p q = absurd p
Grows-trans (Some old) (Some mid) (Some now) xs ys p q = q ∙ ap (λ l. l ++ ys) p ∙ append_assoc old xs ys

-- a front is a front of the text with more before it that was put, or with more behind it
pub IsPart-after : (a b c : Option (List ℕ)) (xs ys : List ℕ) → Grows a b xs → IsPart b c ys → IsPart a c (xs ++ ys)
IsPart-after a b c xs ys p q =
    record { count = length xs + q.count; grows = rw take-append-add (Grows-trans a b c xs (take q.count ys) p q.grows) }

-- a front of a text is one of it with more behind it
pub IsPart-more : (a b : Option (List ℕ)) (xs ys : List ℕ) → IsPart a b xs → IsPart a b (xs ++ ys)
IsPart-more a b xs ys p =
    let n = min p.count (length xs) in
    let short : n ≤ length xs = omega arith in
    let e : take n (xs ++ ys) ≡ take p.count xs = take-append-le n xs ys short ∙ take_min p.count xs in
    record { count = n; grows = rw e p.grows }

-- the whole of a text is a front of it, and of it with more behind it
pub IsPart-whole : (a b : Option (List ℕ)) (xs : List ℕ) → Grows a b xs → IsPart a b xs
IsPart-whole a b xs p = record { count = length xs; grows = rw take-length p }

-- so is the whole of it
pub IsPart-front : (a b : Option (List ℕ)) (xs ys : List ℕ) → Grows a b xs → IsPart a b (xs ++ ys)
IsPart-front a b xs ys p = IsPart-more a b xs ys (IsPart-whole a b xs p)
