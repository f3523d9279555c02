-- Pieces of a line that are put one behind the other.
use Rattle.std.proofs.Common.{◌≡◌, ℕ, List, [], ◌++◌, Result, Ok, Err, IsErr, refl, sym, ap, ◌∙◌, append-nil, append_assoc}
use Rattle.sm_text.specs.Writer.{WriterData, PutsPiece}
use Rattle.sm_report.specs.Putting.{PutsText}
use Rattle.sm_report.proofs.PutLemmas.{puts_then, puts_front, puts_same, puts_broken}

-- a single piece is a text
pub one_piece : {E : Type 0} {a b : WriterData} {xs : List ℕ} (r : Result (Unit {0}) E) → PutsPiece {E = E} a b xs r → PutsText {E = E} a b xs r
one_piece (Ok done) put = record { ok = put.ok; err = tt; fits = put.fits; room = put.room }
one_piece {E} {a} {b} {xs} (Err e) put = record {
  ok = tt;
  err = record { front = []; rest = xs; held = put.err ∙ sym (append-nil a.bytes); whole = refl };
  fits = put.fits;
  room = put.room;
}

-- where the first piece of a text isn't put whole, neither is the text
pub first_stops : {E : Type 0} {a b : WriterData} {xs text : List ℕ} (rest : List ℕ) (e : E) (r : Result (Unit {0}) E) → IsErr r → xs ++ rest ≡ text
    → PutsText {E = E} a b xs (Err e) → PutsText {E = E} a b text r
first_stops rest e r is same first = puts_broken e r is (puts_same same (puts_front rest e first))

-- and so where a later one isn't
pub later_stops : {E : Type 0} {a b c : WriterData} {xs ys text : List ℕ} (rest : List ℕ) (e : E) (r : Result (Unit {0}) E) → IsErr r → (xs ++ ys) ++ rest ≡ text
    → PutsText {E = E} a b xs (Ok tt) → PutsText {E = E} b c ys (Err e) → PutsText {E = E} a c text r
later_stops rest e r is same before here = first_stops rest e r is same (puts_then (Err e) before here)

-- four pieces, of which the last three belong together
pub three_behind : (xs ys zs ts : List ℕ) → xs ++ (ys ++ zs ++ ts) ≡ xs ++ ys ++ zs ++ ts
three_behind xs ys zs ts = ap (λ t. xs ++ t) (append_assoc ys zs ts) ∙ sym (append_assoc xs ys (zs ++ ts)) ∙ sym (append_assoc (xs ++ ys) zs ts)
