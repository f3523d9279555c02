-- How far a loop that writes a piece has come.
use Rattle.std.proofs.Common.{◌≡◌, ℕ, List, ◌++◌, length, take, drop, Option, sym, ap, ◌∙◌, append_assoc}
use Rattle.std.proofs.Math.Seq.{take-append_seam}
use Rattle.std.proofs.lemmas.List.{take-append-drop}
use Rattle.std.proofs.KnownBytes.{Appends-trans, Appends-kept, Keeps-refl}
use Rattle.std.specs.Io.KnownBytes.{Appends, Keeps}
use Rattle.sm_io.specs.Edge.{AppendsPart}

-- a front of the piece is out, and the rest is still to be written
pub record IsOut (before after : Option (List ℕ)) (piece rest : List ℕ) : Type 0 where
  pub out : List ℕ
  pub whole : piece ≡ out ++ rest
  pub appends : Appends before after out

-- one more write, of n bytes
pub IsOut-more : {before mid : Option (List ℕ)} {piece rest : List ℕ} (after : Option (List ℕ)) (n : ℕ) → IsOut before mid piece rest
    → Appends mid after (take n rest) → IsOut before after piece (drop n rest)
IsOut-more {before} {mid} {piece} {rest} after n o w = record {
  out = o.out ++ take n rest;
  whole = o.whole ∙ ap (λ l. o.out ++ l) (sym (take-append-drop n rest)) ∙ sym (append_assoc o.out (take n rest) (drop n rest));
  appends = Appends-trans before mid after o.out (take n rest) o.appends w;
}

-- where the loop stops early, a front of the piece is out
pub IsOut-part : {before mid : Option (List ℕ)} {piece rest : List ℕ} (after : Option (List ℕ)) → IsOut before mid piece rest → Keeps mid after
    → AppendsPart before after piece
IsOut-part {before} {mid} {piece} {rest} after o k =
    let e : take (length o.out) piece ≡ o.out = ap (λ l. take (length o.out) l) o.whole ∙ take-append_seam o.out rest in
    record { count = length o.out; appends = rw e (Appends-kept before mid after o.out o.appends k) }

-- the same after a last write
pub IsOut-last : {before mid : Option (List ℕ)} {piece rest : List ℕ} (after : Option (List ℕ)) (n : ℕ) → IsOut before mid piece rest
    → Appends mid after (take n rest) → AppendsPart before after piece
IsOut-last after n o w = IsOut-part after (IsOut-more after n o w) (Keeps-refl after)
