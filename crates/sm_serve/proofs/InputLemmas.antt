-- Reading piece by piece.
use Rattle.std.proofs.Common.{ℕ, ◌<◌, List, [], ◌++◌, length, Option, None, Some, inl, inr, refl, sym, ap, ◌∙◌, append_assoc, arith}
use Rattle.std.specs.Io.KnownBytes.{Consumes}
use Rattle.sm_io.specs.Source.{Takes}
use Rattle.sm_io.specs.declared.Taken.TheVariants.{End}
use Rattle.sm_serve.specs.Input.{Loses, IsReadWhole}

-- the end comes where nothing is left, since the buffer has room
pub consumes_end : (a b c : Option (List ℕ)) (xs into : List ℕ) → 0 < length into → Consumes a b xs → Takes b c End into
    → Consumes a c xs × IsReadWhole a c
consumes_end None b c xs into room h k = (tt, tt)
consumes_end (Some old) None c xs into room h k = absurd h
consumes_end (Some old) (Some bs) None xs into room h k = absurd k.0
consumes_end (Some old) (Some bs) (Some cs) xs into room h (k, inl none) = (h ∙ ap (λ t. xs ++ t) k, sym k ∙ none)
consumes_end (Some old) (Some bs) (Some cs) xs into room h (k, inr empty) = absurd (omega arith)

-- a source that isn't read loses nothing
pub loses_nothing : (a : Option (List ℕ)) → Loses a a
loses_nothing None = record { given = []; consumed = tt }
loses_nothing (Some old) = record { given = []; consumed = refl }

-- what was given, and then more, is lost
pub loses_more : (a b c : Option (List ℕ)) (xs ys : List ℕ) → Consumes a b xs → Consumes b c ys → Loses a c
loses_more None b c xs ys h k = record { given = xs; consumed = tt }
loses_more (Some old) None c xs ys h k = absurd h
loses_more (Some old) (Some bs) None xs ys h k = absurd k
loses_more (Some old) (Some bs) (Some cs) xs ys h k = record { given = xs ++ ys; consumed = h ∙ ap (λ t. xs ++ t) k ∙ sym (append_assoc xs ys cs) }
